-- One more declaration of a known persistent, and a value of the script for one.
use Rattle.std.proofs.Common.{◌≡◌, ℕ, ◌+◌, ◌<◌, ◌≤◌, Bool, true, false, not, ◌&&◌, nat_le, List, [], ◌∷◌, ◌++◌, length, map, set, get_or, Some, option_map, slice_get, Ok, Err, refl, ap, sym, ◌∙◌, if◌then◌else◌, arith}
use Rattle.std.proofs.lemmas.Bool.{le-leb}
use Rattle.std.proofs.lemmas.List.{length-map, map-set}
use Rattle.std.proofs.lemmas.Option.{slice_get-map, slice_get_read}
use Rattle.rapid_model.specs.declared.pers_value.PersValue.{PersValue}
use Rattle.rapid_model.specs.declared.script_rule.ScriptRule.TheVariants.{Kind, Range, Twice}
use Rattle.name_tables.specs.Names.{NameList, Finds}
use Rattle.named_data.specs.Wants.{same_sort}
use Rattle.typed_trees.specs.Plain.{TypedPers}
use Rattle.rapid_model.specs.Sorts.{width}
use Rattle.cell_assembly.specs.declared.pers_info.PersInfo.{PersInfo}
use Rattle.rule_checks.specs.Checks.{◌>>◌, must}
use Rattle.cell_assembly.specs.Cells
use Rattle.cell_assembly.specs.Cells.{CellBreak, Making, Clash}
use Rattle.cell_assembly.specs.Views.{view_info}
use Rattle.cell_assembly.proofs.Kept.{number_kept}

-- what a view shows of a list's element
info_there : (pers : List PersInfo) (k : ℕ) (info : PersInfo) → k < length pers → info ≡ get_or pers k info → slice_get (map view_info pers) k ≡ Some (view_info info)
info_there pers k info within is = slice_get-map view_info pers k ∙ ap (option_map view_info) (slice_get_read pers (length pers) k info refl within is)

pub within_seen : (pers : List PersInfo) (ps : List Cells.PersInfo) (k : ℕ) → map view_info pers ≡ ps → k < length ps → k < length pers
within_seen pers ps k seen within = omega (arith, ap length seen, length-map pers view_info)

pub joined_there : (pers : List PersInfo) (ps : List Cells.PersInfo) (numbers : List ℕ) (task k : ℕ) (row : TypedPers) (old new : PersInfo) → map view_info pers ≡ ps → k < length pers → old ≡ get_or pers k old
    → same_sort old.sort row.sort && Cells.same_len old.len row.len ≡ true → view_info new ≡ Cells.with_declared (view_info old) row
    → Cells.join (record { pers = ps; numbers = numbers }) task row k (slice_get ps k) ≡ Ok (record { pers = map view_info (set pers k new); numbers = numbers ++ k ∷ [] })
joined_there pers ps numbers task k row old new seen within is alike declared =
    let n : Cells.Numbered = record { pers = map view_info pers; numbers = numbers } in
    ap (λ qs. Cells.join (record { pers = qs; numbers = numbers }) task row k (slice_get qs k)) (sym seen)
    ∙ ap (Cells.join n task row k) (info_there pers k old within is)
    ∙ ap (λ t. let made : Making Cells.Numbered = if t then Ok (Cells.joined n k (Cells.with_declared (view_info old) row)) else Err (Clash task row.«module» row.at) in made) alike
    ∙ ap (λ p. let made : Making Cells.Numbered = Ok (Cells.joined n k p) in made) (sym declared)
    ∙ ap (λ ps. let made : Making Cells.Numbered = Ok (record { pers = ps; numbers = numbers ++ k ∷ [] }) in made) (sym (map-set view_info pers k new))

pub clash_there : (pers : List PersInfo) (ps : List Cells.PersInfo) (numbers : List ℕ) (task k : ℕ) (row : TypedPers) (old : PersInfo) → map view_info pers ≡ ps → k < length pers → old ≡ get_or pers k old
    → same_sort old.sort row.sort && Cells.same_len old.len row.len ≡ false → Cells.join (record { pers = ps; numbers = numbers }) task row k (slice_get ps k) ≡ Err (Clash task row.«module» row.at)
clash_there pers ps numbers task k row old seen within is differ =
    let n : Cells.Numbered = record { pers = ps; numbers = numbers } in
    ap (λ qs. Cells.join n task row k (slice_get qs k)) (sym seen)
    ∙ ap (Cells.join n task row k) (info_there pers k old within is)
    ∙ ap (λ t. let made : Making Cells.Numbered = if t then Ok (Cells.joined n k (Cells.with_declared (view_info old) row)) else Err (Clash task row.«module» row.at) in made) differ

-- the table of the persistents' names stays correct
pub table_joined : (table : NameList ℕ) (pers : List PersInfo) (k : ℕ) (row : TypedPers) (old new : PersInfo) → k < length pers → old ≡ get_or pers k old → view_info new ≡ Cells.with_declared (view_info old) row
    → Finds table (λ name. Cells.global_number name (map view_info pers)) → Finds table (λ name. Cells.global_number name (map view_info (set pers k new)))
table_joined table pers k row old new within is declared found name =
    found name
    ∙ sym (number_kept name (map view_info pers) k (view_info old) (view_info new) (info_there pers k old within is) (ap (λ (p : Cells.PersInfo). p.name) declared) (ap (λ (p : Cells.PersInfo). p.owner) declared))
    ∙ ap (Cells.global_number name) (sym (map-set view_info pers k new))

must_holds : {A : Type 0} (holds : Bool) (b : CellBreak) (next : Making A) → holds ≡ true → (must holds b >> next) ≡ next
must_holds true b next e = refl
must_holds false b next e = cc

pub given_there : (infos : List PersInfo) (number k : ℕ) (row : PersValue) (old new : PersInfo) → k < length infos → old ≡ get_or infos k old
    → Cells.is_script_value old.sort row.value && Cells.fits_index old.len row.index ≡ true → Cells.element row.index + 1 ≤ width old.len
    → Cells.is_given (slice_get old.given.items (Cells.element row.index)) ≡ false → view_info new ≡ Cells.with_given (view_info old) (Cells.element row.index) row.value
    → Cells.give_to (map view_info infos) number row k (slice_get (map view_info infos) k) ≡ Ok (map view_info (set infos k new))
given_there infos number k row old new within is suits in_range not_given given =
    let ps = map view_info infos in
    let index = Cells.element row.index in
    ap (Cells.give_to ps number row k) (info_there infos k old within is)
    ∙ must_holds (Cells.is_script_value old.sort row.value && Cells.fits_index old.len row.index) (Cells.at_value number Kind) _ suits
    ∙ must_holds (nat_le (index + 1) (width old.len)) (Cells.at_value number Range) _ (le-leb (index + 1) (width old.len) in_range)
    ∙ must_holds (not (Cells.is_given (slice_get old.given.items index))) (Cells.at_value number Twice) _ (ap not not_given)
    ∙ ap (λ p. let made : Making (List Cells.PersInfo) = Ok (set ps k p) in made) (sym given)
    ∙ ap (λ qs. let made : Making (List Cells.PersInfo) = Ok qs in made) (sym (map-set view_info infos k new))
