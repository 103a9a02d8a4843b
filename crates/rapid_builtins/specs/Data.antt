-- The values of the predefined data (RAPID Instructions, Functions and Data types, speeddata; RAPID Overview, error
-- recovery).
use Rattle.std.specs.Prelude.{ℕ, ◌*◌, pos, [], ◌∷◌, Option, None, Some}
use Rattle.rapid_model.specs.declared.predefined.Predefined.{Predefined}
use Rattle.rapid_model.specs.declared.predefined.Predefined.TheVariants as names
use Rattle.rapid_model.specs.declared.sort.Sort.{Sort}
use Rattle.rapid_model.specs.declared.sort.Sort.TheVariants as sorts
use Rattle.rapid_model.specs.declared.value.Value.{Value}
use Rattle.rapid_model.specs.declared.value.Value.TheVariants as values
use Rattle.rapid_model.specs.declared.errors.TheConstants.{ERR_ALRDYCNT, ERR_DIVZERO, ERR_INOMAX, ERR_STRTOOLNG, ERR_UNKINO}

abbrev pub num : ℕ → Option (Sort × Value)
num n = Some (sorts.Num, values.Num (pos (n * 1_000)))

-- a speed of the tool; the other three components are the same for all predefined speeds
abbrev pub speed : ℕ → Option (Sort × Value)
speed n = Some (sorts.SpeedData, values.Speed (pos (n * 1_000) ∷ pos 500_000 ∷ pos 5_000_000 ∷ pos 1_000_000 ∷ []))

-- the type and the value of a predefined datum; none if the name has no value known before the run
abbrev pub predefined_datum : Predefined → Option (Sort × Value)
predefined_datum names.V5 = speed 5
predefined_datum names.V10 = speed 10
predefined_datum names.V20 = speed 20
predefined_datum names.V30 = speed 30
predefined_datum names.V40 = speed 40
predefined_datum names.V50 = speed 50
predefined_datum names.V60 = speed 60
predefined_datum names.V80 = speed 80
predefined_datum names.V100 = speed 100
predefined_datum names.V150 = speed 150
predefined_datum names.V200 = speed 200
predefined_datum names.V300 = speed 300
predefined_datum names.V400 = speed 400
predefined_datum names.V500 = speed 500
predefined_datum names.V600 = speed 600
predefined_datum names.V800 = speed 800
predefined_datum names.V1000 = speed 1_000
predefined_datum names.V1500 = speed 1_500
predefined_datum names.V2000 = speed 2_000
predefined_datum names.V2500 = speed 2_500
predefined_datum names.V3000 = speed 3_000
predefined_datum names.V4000 = speed 4_000
predefined_datum names.V5000 = speed 5_000
predefined_datum names.V6000 = speed 6_000
predefined_datum names.V7000 = speed 7_000
predefined_datum names.VMax = speed 5_000
predefined_datum names.Low = num 0
predefined_datum names.High = num 1
predefined_datum names.ErrDivZero = num ERR_DIVZERO
predefined_datum names.ErrStrTooLng = num ERR_STRTOOLNG
predefined_datum names.ErrAlrdyCnt = num ERR_ALRDYCNT
predefined_datum names.ErrUnkIno = num ERR_UNKINO
predefined_datum names.ErrINoMax = num ERR_INOMAX
predefined_datum _ = None
