-- Only the last byte of a line ends it.
use Rattle.std.proofs.Common.{◌≡◌, ℕ, suc, ◌^◌, ◌<◌, ◌≤◌, Bool, true, false, cond, List, [], ◌∷◌, ◌++◌, take, drop, Option, Some, None, ℤ, refl, arith, decimal}
use Rattle.std.proofs.lemmas.Bool.{and_from, and_parts}
use Rattle.std.proofs.lemmas.Bool.Decides.{nat_tests}
use Rattle.std.specs.List.{AllByRecursion, flat_map, position_or_len}
use Rattle.std.specs.Prelude.{IsTrue, not, ◌||◌, ◌==◌}
use Rattle.rapid_num.specs.Absent.{is_absent}
use Rattle.rapid_num.specs.Characters.{is_printable}
use Rattle.rapid_num.specs.NumText.{shortest_text}
use Rattle.rapid_num.specs.Range.{IsNum}
use Rattle.rapid_num.specs.declared.joints.Joints.{Joints}
use Rattle.rapid_num.specs.declared.shape.Bound.{Bound}
use Rattle.rapid_num.specs.declared.shape.Shape.{Shape}
use Rattle.rapid_num.proofs.DecimalDigits.{decimal_text}
use Rattle.rapid_model.specs.declared.answer.Answer.{Answer}
use Rattle.rapid_model.specs.declared.answer.Answer.TheVariants as answers
use Rattle.rapid_model.specs.declared.fate.Fate.{Fate}
use Rattle.rapid_model.specs.declared.fate.Fate.TheVariants as fates
use Rattle.rapid_model.specs.declared.fate.Fault.{Fault}
use Rattle.rapid_model.specs.declared.fate.Fault.TheVariants as faults
use Rattle.rapid_model.specs.declared.part_name.PartName.{PartName}
use Rattle.rapid_model.specs.declared.part_name.PartName.TheVariants as parts
use Rattle.rapid_model.specs.declared.path.Path.{Path}
use Rattle.rapid_model.specs.declared.request.Request.{Request}
use Rattle.rapid_model.specs.declared.request.Request.TheVariants as requests
use Rattle.rapid_model.specs.declared.tail.Tail.{Tail}
use Rattle.rapid_model.specs.declared.tail.Tail.TheVariants as tails
use Rattle.rapid_model.specs.declared.value.Value.{Value}
use Rattle.rapid_model.specs.declared.value.Value.TheVariants as values
use Rattle.rapid_model.specs.declared.watched.Watched.{Watched}
use Rattle.rapid_model.specs.declared.watched.Watched.TheVariants as watched
use Rattle.rapid_model.specs.declared.zone_name.ZoneName.{ZoneName}
use Rattle.rapid_model.specs.declared.zone_name.ZoneName.TheVariants as zones
use Rattle.value_text.specs.ValueText.{nums_text, part_text, quoted_byte, quoted_text, truth_text, value_text}
use Rattle.history_text.specs.EventWords.{answer_words, axes_words, bit_words, bound_words, element_words, given_axes, kind_words, nums_words, path_words, request_words, said_words, set_words, shape_words, side_words, single_words, two_words, watched_words, zone_name_words, zone_words}
use Rattle.history_text.specs.InRange.{AreNums, IsAnswer, IsBound, IsFate, IsFault, IsRequest, IsShape, IsTail, IsText, IsValue, IsWatched, IsZoneName}
use Rattle.history_text.specs.Lines.{fate_words, fault_words}
use Rattle.history_text.specs.NextLine.{is_inner}
use Rattle.history_text.specs.Reading.{ends_num}
use Rattle.history_text.proofs.NameBytes.{IsName, IsNameByte}
use Rattle.history_text.proofs.NumbersAgain.{shortest_goes_on}
use Rattle.history_text.proofs.NumsAgain.{first_range, first_six, last_six}

pub inner_both : (xs ys : List ℕ) → is_inner xs ≡ true → is_inner ys ≡ true → is_inner (xs ++ ys) ≡ true
inner_both [] ys h k = k
inner_both (x ∷ xs) ys h k =
    let both = and_parts (not (x == 10)) (is_inner xs) h in
    and_from (not (x == 10)) (is_inner (xs ++ ys)) both.0 (inner_both xs ys both.1 k)

-- bytes of any class that lacks the one that ends a line
pub inner_all : (P : ℕ → Type 0) → ((b : ℕ) → P b → 11 ≤ b) → (bytes : List ℕ) → AllByRecursion P bytes → is_inner bytes ≡ true
inner_all P low [] h = refl
inner_all P low (b ∷ bs) h = and_from (not (b == 10)) (is_inner bs) (inner_from b (low b h.0)) (inner_all P low bs h.1)
  where
    inner_from : (b : ℕ) → 11 ≤ b → not (b == 10) ≡ true
    inner_from b low = grind (arith, nat_tests)

inner_each : {A : Type 0} (P : A → Type 0) (words : A → List ℕ) → ((x : A) → P x → is_inner (words x) ≡ true) → (xs : List A) → AllByRecursion P xs → is_inner (flat_map words xs) ≡ true
inner_each P words inner [] h = refl
inner_each P words inner (x ∷ xs) h = inner_both (words x) (flat_map words xs) (inner x h.0) (inner_each P words inner xs h.1)

inner_cond : (b : Bool) (xs ys : List ℕ) → is_inner xs ≡ true → is_inner ys ≡ true → is_inner (cond b xs ys) ≡ true
inner_cond true xs ys h k = h
inner_cond false xs ys h k = k

-- numbers

inner_decimal : (n : ℕ) → n < 2 ^ 32 → is_inner (decimal n) ≡ true
inner_decimal n small = inner_all (λ b. (48 ≤ b) × (b ≤ 57)) (λ b d. omega (arith, d.0)) (decimal n) (decimal_text n (omega arith)).digits

num_byte : (b : ℕ) → ends_num b ≡ false → 11 ≤ b
num_byte b h = grind (arith, nat_tests)

inner_num : (z : ℤ) → IsNum z → is_inner (shortest_text z) ≡ true
inner_num z num = inner_all (λ b. ends_num b ≡ false) num_byte (shortest_text z) (shortest_goes_on z num)

inner_nums : (zs : List ℤ) → AllByRecursion IsNum zs → is_inner (nums_words zs) ≡ true
inner_nums [] nums = refl
inner_nums (z ∷ zs) nums = inner_both (shortest_text z) _ (inner_num z nums.0) (inner_each IsNum (λ y. 32 ∷ shortest_text y) inner_num zs nums.1)

inner_brackets : (zs : List ℤ) → AllByRecursion IsNum zs → is_inner (nums_text zs) ≡ true
inner_brackets [] nums = refl
inner_brackets (z ∷ zs) nums =
    inner_both (shortest_text z) _ (inner_num z nums.0) (inner_both (flat_map (λ y. 44 ∷ shortest_text y) zs) (93 ∷ []) (inner_each IsNum (λ y. 44 ∷ shortest_text y) inner_num zs nums.1) refl)

-- values

inner_truth : (b : Bool) → is_inner (truth_text b) ≡ true
inner_truth true = refl
inner_truth false = refl

inner_byte : (b : ℕ) → is_printable b ≡ true → is_inner (quoted_byte b) ≡ true
inner_byte b h =
    let one : not (b == 10) ≡ true = grind (arith, nat_tests) in
    inner_cond (b == 34 || b == 92) (b ∷ b ∷ []) (b ∷ []) (rw one refl) (rw one refl)

inner_quoted : (text : List ℕ) → IsText text → is_inner (quoted_text text) ≡ true
inner_quoted text fits = inner_both (flat_map quoted_byte text) (34 ∷ []) (inner_each (λ b. IsTrue (is_printable b)) quoted_byte inner_byte text fits.printable) refl

inner_value : (value : Value) → IsValue value → is_inner (value_text value) ≡ true
inner_value (values.Num n) fits = inner_num n fits
inner_value (values.Bool b) fits = inner_truth b
inner_value (values.Text text) fits = inner_quoted text fits
inner_value (values.Rob axes) fits = inner_brackets axes fits.range
inner_value (values.Ext axes) fits = inner_brackets axes fits.range
inner_value (values.Target joints) fits =
    let robax = nums_text (take 6 joints.axis) in
    let extax = nums_text (drop 6 joints.axis) in
    inner_both robax (44 ∷ extax ++ 93 ∷ []) (inner_brackets (take 6 joints.axis) (first_six joints.axis fits).range) (inner_both extax (93 ∷ []) (inner_brackets (drop 6 joints.axis) (last_six joints.axis fits).range) refl)
inner_value (values.Speed nums) fits = inner_brackets nums fits.range

inner_place : (place : Joints) → AreNums 12 place.axis → is_inner (axes_words place) ≡ true
inner_place place fits = inner_nums (given_axes place) (first_range (position_or_len is_absent place.axis) place.axis fits.range)

-- paths

inner_part : (part : PartName) → is_inner (part_text part) ≡ true
inner_part (parts.Axis (suc (suc (suc (suc (suc (suc (suc (suc (suc (suc (suc (suc n))))))))))))) = refl
inner_part (parts.SpeedPart (suc (suc (suc (suc n))))) = refl
inner_part _ = refl

inner_element : (index : ℕ) → index < 2 ^ 16 → is_inner (element_words index) ≡ true
inner_element index small = inner_cond (index == 0) [] _ refl (inner_both (decimal index) (125 ∷ []) (inner_decimal index (omega arith)) refl)

inner_path : (pers : ℕ) (path : Path) → pers < 2 ^ 32 → path.index < 2 ^ 16 → is_inner (path_words pers path) ≡ true
inner_path pers path small short = inner_both (decimal pers) (element_words path.index ++ part_text path.part) (inner_decimal pers small) (inner_both (element_words path.index) (part_text path.part) (inner_element path.index short) (inner_part path.part))

-- signals and interrupts

inner_bit : (b : Bool) → is_inner (bit_words b) ≡ true
inner_bit true = refl
inner_bit false = refl

inner_set : (signal : ℕ) (value : Bool) → signal < 2 ^ 32 → is_inner (set_words signal value) ≡ true
inner_set signal value small = inner_both (decimal signal) (32 ∷ bit_words value) (inner_decimal signal small) (inner_bit value)

inner_watched : (on : Watched) → IsWatched on → is_inner (watched_words on) ≡ true
inner_watched (watched.Signal signal value) fits = inner_set signal value fits
inner_watched (watched.Pers pers) fits = inner_decimal pers fits

inner_single : (b : Bool) → is_inner (single_words b) ≡ true
inner_single true = refl
inner_single false = refl

inner_two : (first second : ℕ) → first < 2 ^ 32 → second < 2 ^ 32 → is_inner (two_words first second) ≡ true
inner_two first second small short = inner_both (decimal first) (32 ∷ decimal second) (inner_decimal first small) (inner_decimal second short)

-- zones

inner_bound : (bound : Option Bound) → IsBound bound → is_inner (32 ∷ bound_words bound) ≡ true
inner_bound None fits = refl
inner_bound (Some bound) fits = inner_both (shortest_text bound.low) (58 ∷ shortest_text bound.high) (inner_num bound.low fits.0) (inner_num bound.high fits.1)

inner_side : (b : Bool) → is_inner (side_words b) ≡ true
inner_side true = refl
inner_side false = refl

inner_kind : (b : Bool) → is_inner (kind_words b) ≡ true
inner_kind true = refl
inner_kind false = refl

inner_shape : (shape : Shape) → IsShape shape → is_inner (shape_words shape) ≡ true
inner_shape shape fits = inner_both (side_words shape.inside) _ (inner_side shape.inside) (inner_each IsBound (λ b. 32 ∷ bound_words b) inner_bound shape.bounds fits.bounds)

inner_zone : (old : ℕ) (kind : Bool) (shape : Shape) → old < 2 ^ 8 → IsShape shape → is_inner (zone_words old kind shape) ≡ true
inner_zone old kind shape small fits =
    inner_both (decimal old) (32 ∷ kind_words kind ++ 32 ∷ shape_words shape) (inner_decimal old (omega arith)) (inner_both (kind_words kind) (32 ∷ shape_words shape) (inner_kind kind) (inner_shape shape fits))

-- texts and fates

inner_said : (tail : Tail) → IsTail tail → is_inner (said_words tail) ≡ true
inner_said tails.None fits = refl
inner_said (tails.Num n) fits = inner_num n fits
inner_said (tails.Bool b) fits = inner_truth b

inner_fault : (fault : Fault) → IsFault fault → is_inner (fault_words fault) ≡ true
inner_fault (faults.Unhandled number) fits = inner_decimal number (omega arith)
inner_fault _ fits = refl

pub inner_fate : (fate : Fate) → IsFate fate → is_inner (fate_words fate) ≡ true
inner_fate (fates.Fault fault) fits = inner_fault fault fits
inner_fate _ fits = refl

-- requests and answers

pub inner_request : (request : Request) → IsRequest request → is_inner (request_words request) ≡ true
inner_request (requests.ReadP pers path) fits = inner_path pers path fits.0 fits.1.element
inner_request (requests.WriteP pers path value) fits = inner_both (path_words pers path) (32 ∷ value_text value) (inner_path pers path fits.0 fits.1.element) (inner_value value fits.2)
inner_request (requests.TestSet pers path) fits = inner_path pers path fits.0 fits.1.element
inner_request (requests.ReadS signal) fits = inner_decimal signal fits
inner_request (requests.WriteS signal value) fits = inner_set signal value fits
inner_request (requests.Setpoint to) fits = inner_place to fits
inner_request (requests.Connect old trap) fits = inner_two old trap (omega (arith, fits.0)) fits.1
inner_request (requests.Order number on single) fits =
    inner_both (decimal number) (32 ∷ watched_words on ++ single_words single) (inner_decimal number (omega (arith, fits.0))) (inner_both (watched_words on) (single_words single) (inner_watched on fits.1) (inner_single single))
inner_request (requests.Sleep number) fits = inner_decimal number (omega arith)
inner_request (requests.Watch number) fits = inner_decimal number (omega arith)
inner_request (requests.Delete number) fits = inner_decimal number (omega arith)
inner_request (requests.ZoneSet old temporary shape) fits = inner_zone old temporary shape fits.0 fits.1
inner_request (requests.ZoneTie old temporary shape signal value) fits = inner_both (zone_words old temporary shape) (32 ∷ set_words signal value) (inner_zone old temporary shape fits.0 fits.1) (inner_set signal value fits.2)
inner_request (requests.ZoneOn zone) fits = inner_decimal zone (omega arith)
inner_request (requests.ZoneOff zone) fits = inner_decimal zone (omega arith)
inner_request (requests.ZoneFree zone) fits = inner_decimal zone (omega arith)
inner_request (requests.Arrive meeting tasks) fits = inner_two meeting tasks fits.0 (omega (arith, fits.1))
inner_request (requests.Hold seen) fits = inner_decimal seen fits
inner_request (requests.Input index) fits = inner_decimal index fits
inner_request (requests.Say text tail) fits = inner_both (quoted_text text) (said_words tail) (inner_quoted text fits.0) (inner_said tail fits.1)
inner_request (requests.End fate) fits = inner_fate fate fits
inner_request _ fits = refl

inner_zone_name : (zone : ZoneName) → IsZoneName zone → is_inner (zone_name_words zone) ≡ true
inner_zone_name (zones.Own number) fits = inner_decimal number (omega arith)
inner_zone_name (zones.Cell number) fits = inner_decimal number (omega arith)

pub inner_answer : (answer : Answer) → IsAnswer answer → is_inner (answer_words answer) ≡ true
inner_answer (answers.Go seen) fits = inner_decimal seen fits
inner_answer (answers.Trap number trap) fits = inner_two number trap (omega (arith, fits.0)) fits.1
inner_answer (answers.Val value) fits = inner_value value fits
inner_answer (answers.Yes met) fits = inner_truth met
inner_answer (answers.Bit bit) fits = inner_bit bit
inner_answer (answers.At place) fits = inner_place place fits
inner_answer (answers.Stopped zone) fits = inner_zone_name zone fits
inner_answer (answers.Number number) fits = inner_decimal number (omega arith)
inner_answer _ fits = refl

-- names

name_byte : (b : ℕ) → IsNameByte b → 11 ≤ b
name_byte b h = grind (arith, nat_tests)

pub inner_name : (name : List ℕ) → IsName name → is_inner name ≡ true
inner_name name is = inner_all IsNameByte name_byte name is.bytes
