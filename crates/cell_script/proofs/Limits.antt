-- Each row that is read is within its limits.
use Rattle.std.proofs.Common.{◌≡◌, ℕ, zero, suc, ◌-◌, ◌≤◌, Bool, true, false, ◌&&◌, ◌||◌, nat_le, nat_lt, ℤ, List, [], ◌∷◌, ◌++◌, length, length-append, ap, subst, map, take, drop, codes, Option, Some, None, Ok, ◌==◌, refl, arith}
use Rattle.std.specs.Prelude.{pos, negsuc}
use Rattle.std.specs.List.{list_all}
use Rattle.std.proofs.Math.Seq.{take-append_seam, drop-append_seam}
use Rattle.std.proofs.lemmas.Bool.{and_parts, and_from, leb-true}
use Rattle.toml.specs.Data.{Data, as_str, as_integer, as_bool}
use Rattle.rapid_num.specs.Absent.{is_absent}
use Rattle.rapid_num.specs.Reach.{are_in_reach, absent_axes, is_position}
use Rattle.rapid_model.specs.Limits.{is_within, holds_where_there, is_start, is_signal}
use Rattle.rapid_model.specs.Names.{is_short_name}
use Rattle.rapid_model.specs.ScriptData.{is_file_name, is_task, is_given_value, is_pers_value, takes_axes}
use Rattle.rapid_model.specs.declared.pers_value.PersValue.{PersValue}
use Rattle.rapid_model.specs.declared.script_rule.ScriptRule.TheVariants.{Kind, Range}
use Rattle.rapid_model.specs.declared.script_task.ScriptTask.{ScriptTask}
use Rattle.rapid_model.specs.declared.signal_row.SignalRow.{SignalRow}
use Rattle.rapid_model.specs.declared.value.Value.TheVariants as values
use Rattle.rule_checks.specs.Checks.{◌>>=◌, found_or}
use Rattle.cell_script.specs.declared.arm.Arm.{Arm}
use Rattle.cell_script.specs.Break.{at_key}
use Rattle.cell_script.specs.Keys.{Keys, at, value_of, needed, optional, text_at, whole_at, bit_at, word_at, name_at, list_at, table_at}
use Rattle.cell_script.specs.Rows.{signal_name_at, signal_of, task_name_at, files_at, is_arm, start_at, arm_of, arm_at, armed, task_of, signed_literal, number_value_at, truth_value_at, text_value_at, given_value, pers_of}
use Rattle.rule_checks.proofs.Keeps.{Keeps, Keeps-then, Keeps-any, Keeps-must}
use Rattle.cell_script.proofs.Keeps.{Keeps-optional, Keeps-only}
use Rattle.cell_script.proofs.KeepsNames.{IsName, IsNew, name_keeps, signal_name_keeps, task_name_keeps}
use Rattle.cell_script.proofs.KeepsRows.{IsAt}

pub whole_keeps : (key : List ℕ) (low high : ℕ) (d : Data) → Keeps (λ n. is_within low high n ≡ true) (whole_at key low high d)
whole_keeps key low high d = by_integer (as_integer d) refl
  where
    by_integer : (o : Option ℤ) → as_integer d ≡ o → Keeps (λ n. is_within low high n ≡ true) (whole_at key low high d)
    by_integer None e = rw e tt
    by_integer (Some (pos n)) e = rw e (Keeps-must (λ n. is_within low high n ≡ true) (is_within low high n) (at_key key Range) (Ok n) (λ w. w))
    by_integer (Some (negsuc n)) e = rw e tt

-- ---- signals

pub signal_keeps : (before : List SignalRow) (d : Data) → Keeps (λ row. (is_signal row ≡ true) × IsNew (map (λ row. row.name) before) row.name) (signal_of before d)
unfolding signal_of
signal_keeps before d =
    let Q : SignalRow → Type 0 = λ row. (is_signal row ≡ true) × IsNew (map (λ row. row.name) before) row.name in
    let P : List ℕ → Type 0 = λ name. IsName name × IsNew (map (λ row. row.name) before) name in
    Keeps-any Q (table_at (codes "signal") (length before) d) _ (λ keys.
    Keeps-then P Q (needed keys (codes "name") >>= signal_name_at (at keys (codes "name")) (map (λ row. row.name) before)) _
    (Keeps-any P (needed keys (codes "name")) _ (λ n. signal_name_keeps (at keys (codes "name")) (map (λ row. row.name) before) n)) (λ name is.
    Keeps-any Q (needed keys (codes "kind") >>= word_at (at keys (codes "kind")) (codes "di") (codes "do")) _ (λ output.
    Keeps-any Q (optional false (bit_at (at keys (codes "start"))) (value_of keys (codes "start"))) _ (λ start.
    Keeps-only Q keys (codes "name" ∷ codes "kind" ∷ codes "start" ∷ []) (Ok (record { name = name; output = output; start = start })) is))))

-- ---- tasks

files_keep : (key : List ℕ) (d : Data) → Keeps (λ files. (is_within 1 16 (length files) && list_all is_file_name files) ≡ true) (files_at key d)
files_keep key d =
    let Q : List (List ℕ) → Type 0 = λ files. (is_within 1 16 (length files) && list_all is_file_name files) ≡ true in
    Keeps-any Q (list_at key as_str d) _ (λ files. Keeps-must Q (is_within 1 16 (length files) && list_all is_file_name files) (at_key key Range) (Ok files) (λ e. e))

-- twelve axes: those of the arm, and the absent ones
length-absent : (n : ℕ) → length (absent_axes n) ≡ n
length-absent zero = refl
length-absent (suc n) = ap suc (length-absent n)

all_absent : (n : ℕ) → list_all is_absent (absent_axes n) ≡ true
all_absent zero = refl
all_absent (suc n) = all_absent n

position : (angles : List ℤ) → are_in_reach 0 angles ≡ true → length angles ≤ 12 → is_position (length angles) (start_at angles) ≡ true
position angles reach few =
    let left : ℕ = 12 - length angles in
    let axis : List ℤ = angles ++ absent_axes left in
    let front : take (length angles) axis ≡ angles = take-append_seam angles (absent_axes left) in
    let back : drop (length angles) axis ≡ absent_axes left = drop-append_seam angles (absent_axes left) in
    let long : length axis ≡ 12 = omega (arith, few, length-append angles (absent_axes left), length-absent left) in
    and_from (length axis == 12 && are_in_reach 0 (take (length angles) axis)) (list_all is_absent (drop (length angles) axis))
    (and_from (length axis == 12) (are_in_reach 0 (take (length angles) axis)) (rw long refl) (rw front reach)) (rw back (all_absent left))

-- an arm has axes that its version takes, and starts from a position
record Arms (version : ℕ) (arm : Arm) : Type 0 where
  pub few : takes_axes version arm.axes ≡ true
  pub start : is_start arm.axes (Some arm.start) ≡ true

arm_keeps : (version : ℕ) (key : List ℕ) (d : Data) → Keeps (Arms version) (arm_at version key d)
arm_keeps version key d =
    Keeps-any (Arms version) (list_at key as_integer d) _ (λ angles.
    Keeps-must (Arms version) (is_arm version angles) (at_key key Range) (Ok (arm_of angles)) (λ e.
    let parts = and_parts (is_within 6 12 (length angles) && takes_axes version (length angles)) (are_in_reach 0 angles) e in
    let counts = and_parts (is_within 6 12 (length angles)) (takes_axes version (length angles)) parts.0 in
    let few : length angles ≤ 12 = leb-true (length angles) 12 (and_parts (nat_le 6 (length angles)) (nat_le (length angles) 12) counts.0).1 in
    record {
      few = counts.1;
      start = and_from (is_within 6 12 (length angles)) (is_position (length angles) (start_at angles)) counts.0 (position angles parts.1 few);
    }))

-- a task's arm, if it has one
abbrev Armed : ℕ → Option Arm → Type 0
Armed version None = Unit {0}
Armed version (Some arm) = Arms version arm

armed_keeps : (version : ℕ) (key : List ℕ) (o : Option Data) → Keeps (Armed version) (optional None (λ a. arm_at version key a >>= (λ arm. Ok (Some arm))) o)
armed_keeps version key o =
    Keeps-optional (Armed version) None (λ a. arm_at version key a >>= (λ arm. Ok (Some arm))) o tt
    (λ d. Keeps-then (Arms version) (Armed version) (arm_at version key d) (λ arm. Ok (Some arm)) (arm_keeps version key d) (λ arm is. is))

abbrev named_well : List ℕ → List (List ℕ) → Bool
named_well name modules = is_short_name name && is_within 1 16 (length modules) && list_all is_file_name modules

armed_is : (version : ℕ) (name : List ℕ) (modules : List (List ℕ)) (arm : Option Arm) → named_well name modules ≡ true → Armed version arm → is_task version (armed name modules arm) ≡ true
armed_is version name modules None named is =
    and_from (named_well name modules && takes_axes version 0) true (and_from (named_well name modules) (takes_axes version 0) named (either (nat_lt 1 version))) refl
  where
    either : (b : Bool) → (b || nat_le 0 6) ≡ true
    either true = refl
    either false = refl
armed_is version name modules (Some arm) named is =
    and_from (named_well name modules && takes_axes version arm.axes) (is_start arm.axes (Some arm.start))
    (and_from (named_well name modules) (takes_axes version arm.axes) named is.few) is.start

armed_name : (name : List ℕ) (modules : List (List ℕ)) (arm : Option Arm) → name ≡ (armed name modules arm).name
armed_name name modules None = refl
armed_name name modules (Some arm) = refl

pub task_keeps : (version : ℕ) (before : List ScriptTask) (d : Data) → Keeps (λ task. (is_task version task ≡ true) × IsNew (map (λ task. task.name) before) task.name) (task_of version before d)
unfolding task_of
task_keeps version before d =
    let names : List (List ℕ) = map (λ task. task.name) before in
    let Q : ScriptTask → Type 0 = λ task. (is_task version task ≡ true) × IsNew names task.name in
    let P : List ℕ → Type 0 = λ name. IsName name × IsNew names name in
    let F : List (List ℕ) → Type 0 = λ files. (is_within 1 16 (length files) && list_all is_file_name files) ≡ true in
    Keeps-any Q (table_at (codes "task") (length before) d) _ (λ keys.
    Keeps-then P Q (needed keys (codes "name") >>= task_name_at (at keys (codes "name")) names) _
    (Keeps-any P (needed keys (codes "name")) _ (λ n. task_name_keeps (at keys (codes "name")) names n)) (λ name is.
    Keeps-then F Q (needed keys (codes "modules") >>= files_at (at keys (codes "modules"))) _
    (Keeps-any F (needed keys (codes "modules")) _ (λ m. files_keep (at keys (codes "modules")) m)) (λ modules files.
    Keeps-then (Armed version) Q (optional None (λ a. arm_at version (at keys (codes "arm")) a >>= (λ arm. Ok (Some arm))) (value_of keys (codes "arm"))) _
    (armed_keeps version (at keys (codes "arm")) (value_of keys (codes "arm"))) (λ arm of.
    let parts = and_parts (is_within 1 16 (length modules)) (list_all is_file_name modules) files in
    Keeps-only Q keys (codes "name" ∷ codes "modules" ∷ codes "arm" ∷ []) (Ok (armed name modules arm)) (
      armed_is version name modules arm
          (and_from (is_short_name name && is_within 1 16 (length modules)) (list_all is_file_name modules) (and_from (is_short_name name) (is_within 1 16 (length modules)) is.0 parts.0) parts.1) of,
      subst (IsNew names) (armed_name name modules arm) is.1,
    )))))

-- ---- first values

number_value_keeps : (key : List ℕ) (d : Data) → Keeps (IsAt is_given_value) (number_value_at key d)
number_value_keeps key d = Keeps-any (IsAt is_given_value) (text_at key d) _ (λ text. Keeps-any (IsAt is_given_value) (found_or (signed_literal text) (at_key key Range)) _ (λ n. refl))

truth_value_keeps : (key : List ℕ) (d : Data) → Keeps (IsAt is_given_value) (truth_value_at key d)
truth_value_keeps key d = Keeps-any (IsAt is_given_value) (found_or (as_bool d) (at_key key Kind)) _ (λ b. refl)

text_value_keeps : (key : List ℕ) (d : Data) → Keeps (IsAt is_given_value) (text_value_at key d)
text_value_keeps key d = Keeps-any (IsAt is_given_value) (text_at key d) _ (λ text. Keeps-must (IsAt is_given_value) _ (at_key key Range) (Ok (values.Text text)) (λ e. refl))

given_keeps : (keys : Keys) (num bool text : Option Data) → Keeps (IsAt is_given_value) (given_value keys num bool text)
given_keeps keys (Some d) None None = number_value_keeps (at keys (codes "num")) d
given_keeps keys None (Some d) None = truth_value_keeps (at keys (codes "bool")) d
given_keeps keys None None (Some d) = text_value_keeps (at keys (codes "text")) d
given_keeps keys None None None = tt
given_keeps keys (Some d) (Some e) None = tt
given_keeps keys (Some d) None (Some f) = tt
given_keeps keys None (Some e) (Some f) = tt
given_keeps keys (Some d) (Some e) (Some f) = tt

-- an optional whole number
pub optional_whole_keeps : (key : List ℕ) (low high : ℕ) (o : Option Data) → Keeps (λ n. holds_where_there (is_within low high) n ≡ true) (optional None (λ d. whole_at key low high d >>= (λ n. Ok (Some n))) o)
optional_whole_keeps key low high o =
    let Q : Option ℕ → Type 0 = λ n. holds_where_there (is_within low high) n ≡ true in
    let P : ℕ → Type 0 = λ n. is_within low high n ≡ true in
    Keeps-optional Q None (λ d. whole_at key low high d >>= (λ n. Ok (Some n))) o refl (λ d. Keeps-then P Q (whole_at key low high d) (λ n. Ok (Some n)) (whole_keeps key low high d) (λ n is. is))

pub pers_keeps : (before : List PersValue) (d : Data) → Keeps (IsAt is_pers_value) (pers_of before d)
unfolding pers_of
pers_keeps before d =
    let Q : PersValue → Type 0 = IsAt is_pers_value in
    let I : Option ℕ → Type 0 = λ n. holds_where_there (is_within 1 1_000) n ≡ true in
    Keeps-any Q (table_at (codes "pers") (length before) d) _ (λ keys.
    Keeps-then IsName Q (needed keys (codes "name") >>= name_at (at keys (codes "name"))) _
    (Keeps-any IsName (needed keys (codes "name")) _ (λ n. name_keeps (at keys (codes "name")) n)) (λ name form.
    Keeps-then I Q (optional None (λ i. whole_at (at keys (codes "index")) 1 1_000 i >>= (λ index. Ok (Some index))) (value_of keys (codes "index"))) _
    (optional_whole_keeps (at keys (codes "index")) 1 1_000 (value_of keys (codes "index"))) (λ index within.
    Keeps-then (IsAt is_given_value) Q (given_value keys (value_of keys (codes "num")) (value_of keys (codes "bool")) (value_of keys (codes "text"))) _
    (given_keeps keys (value_of keys (codes "num")) (value_of keys (codes "bool")) (value_of keys (codes "text"))) (λ value given.
    Keeps-only Q keys (codes "name" ∷ codes "index" ∷ codes "num" ∷ codes "bool" ∷ codes "text" ∷ []) (Ok (record { name = name; index = index; value = value }))
    (and_from (is_short_name name && holds_where_there (is_within 1 1_000) index) (is_given_value value) (and_from (is_short_name name) (holds_where_there (is_within 1 1_000) index) form within) given)))))
