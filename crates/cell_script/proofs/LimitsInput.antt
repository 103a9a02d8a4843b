-- Each step of the input script that is read is within its limits.
use Rattle.std.proofs.Common.{◌≡◌, ℕ, Bool, true, ◌&&◌, nat_le, nat_lt, List, [], ◌∷◌, length, map, codes, Option, Some, None, Ok, Err, refl}
use Rattle.std.proofs.lemmas.Bool.{and_parts, and_from}
use Rattle.toml.specs.Data.{Data}
use Rattle.rapid_model.specs.Limits.{is_within, holds_where_there, is_input_signal, is_input}
use Rattle.rapid_model.specs.declared.input_row.InputRow.{InputRow}
use Rattle.rapid_model.specs.declared.script_rule.ScriptRule.TheVariants.{NoSuch}
use Rattle.rapid_model.specs.declared.script_task.ScriptTask.{ScriptTask}
use Rattle.rapid_model.specs.declared.signal_row.SignalRow.{SignalRow}
use Rattle.rule_checks.specs.Checks.{◌>>=◌}
use Rattle.cell_script.specs.Break.{Read, at_key}
use Rattle.cell_script.specs.Keys.{at, value_of, needed, optional, whole_at, bit_at, number_at, table_at, both_at, pair_at}
use Rattle.cell_script.specs.Rows.{input_signal_at, input_of}
use Rattle.rule_checks.proofs.Keeps.{Keeps, Keeps-then, Keeps-any, Keeps-must}
use Rattle.cell_script.proofs.Keeps.{Keeps-only}
use Rattle.cell_script.proofs.KeepsNames.{IsOf, number_keeps}
use Rattle.cell_script.proofs.KeepsRows.{IsAt}
use Rattle.cell_script.proofs.Limits.{whole_keeps, optional_whole_keeps}

signal_is_input : (key : List ℕ) (signals : List SignalRow) (d : Data) → Keeps (λ n. is_input_signal signals n ≡ true) (input_signal_at key signals d)
signal_is_input key signals d =
    let Q : ℕ → Type 0 = λ n. is_input_signal signals n ≡ true in
    Keeps-any Q (number_at key (map (λ row. row.name) signals) d) _ (λ n. Keeps-must Q (is_input_signal signals n) (at_key key NoSuch) (Ok n) (λ e. e))

-- a pair of values that both satisfy their conditions
pair_keeps : {A B : Type 0} (test : A × B → Bool) (P : A → Type 0) (Q : B → Type 0) (first second : List ℕ) (read_first : Data → Read A) (read_second : Data → Read B) (o p : Option Data)
    → ((d : Data) → Keeps P (read_first d)) → ((e : Data) → Keeps Q (read_second e)) → ((x : A) (y : B) → P x → Q y → test (x, y) ≡ true)
    → Keeps (λ pair. holds_where_there test pair ≡ true) (both_at first second read_first read_second o p)
pair_keeps test P Q first second read_first read_second None None one two both = refl
pair_keeps test P Q first second read_first read_second None (Some e) one two both = tt
pair_keeps {A} {B} test P Q first second read_first read_second (Some d) None one two both =
    let R : Option (A × B) → Type 0 = λ pair. holds_where_there test pair ≡ true in
    Keeps-any R (read_first d) _ (λ x. tt)
pair_keeps {A} {B} test P Q first second read_first read_second (Some d) (Some e) one two both =
    let R : Option (A × B) → Type 0 = λ pair. holds_where_there test pair ≡ true in
    Keeps-then P R (read_first d) _ (one d) (λ x is. Keeps-then Q R (read_second e) _ (two e) (λ y at. both x y is at))

abbrev Any : {A : Type 0} → A → Type 0
Any x = Unit {0}

any_keeps : {A : Type 0} (read : Read A) → Keeps Any read
any_keeps (Ok x) = tt
any_keeps (Err b) = tt

pub input_keeps : (signals : List SignalRow) (tasks : List ScriptTask) (before : List InputRow) (d : Data) → Keeps (IsAt (is_input signals (length tasks))) (input_of signals tasks before d)
unfolding input_of
input_keeps signals tasks before d =
    let Q : InputRow → Type 0 = IsAt (is_input signals (length tasks)) in
    let I : ℕ → Type 0 = λ n. is_input_signal signals n ≡ true in
    let when_test : ℕ × Bool → Bool = λ w. nat_lt w.0 (length signals) in
    let given_test : ℕ × ℕ → Bool = λ g. nat_lt g.0 (length tasks) && nat_le g.1 1_000_000 in
    let W : Option (ℕ × Bool) → Type 0 = λ w. holds_where_there when_test w ≡ true in
    let G : Option (ℕ × ℕ) → Type 0 = λ g. holds_where_there given_test g ≡ true in
    let A : Option ℕ → Type 0 = λ n. holds_where_there (is_within 0 1_000_000) n ≡ true in
    Keeps-any Q (table_at (codes "input") (length before) d) _ (λ keys.
    Keeps-then I Q (needed keys (codes "signal") >>= input_signal_at (at keys (codes "signal")) signals) _
    (Keeps-any I (needed keys (codes "signal")) _ (λ n. signal_is_input (at keys (codes "signal")) signals n)) (λ signal is.
    Keeps-any Q (needed keys (codes "value") >>= bit_at (at keys (codes "value"))) _ (λ value.
    Keeps-then W Q (pair_at keys (codes "when") (codes "is") (number_at (at keys (codes "when")) (map (λ row. row.name) signals)) (bit_at (at keys (codes "is")))) _
    (pair_keeps when_test (IsOf signals) Any (at keys (codes "when")) (at keys (codes "is")) _ _ (value_of keys (codes "when")) (value_of keys (codes "is"))
    (λ d. number_keeps (at keys (codes "when")) (λ row. row.name) signals d) (λ e. any_keeps (bit_at (at keys (codes "is")) e)) (λ x y of _. of)) (λ when waits.
    Keeps-then G Q (pair_at keys (codes "task") (codes "setpoints") (number_at (at keys (codes "task")) (map (λ task. task.name) tasks)) (whole_at (at keys (codes "setpoints")) 0 1_000_000)) _
    (pair_keeps given_test (IsOf tasks) (λ n. is_within 0 1_000_000 n ≡ true) (at keys (codes "task")) (at keys (codes "setpoints")) _ _ (value_of keys (codes "task")) (value_of keys (codes "setpoints"))
    (λ d. number_keeps (at keys (codes "task")) (λ task. task.name) tasks d) (λ e. whole_keeps (at keys (codes "setpoints")) 0 1_000_000 e)
    (λ x y of within. and_from (nat_lt x (length tasks)) (nat_le y 1_000_000) of (and_parts (nat_le 0 y) (nat_le y 1_000_000) within).1)) (λ given told.
    Keeps-then A Q (optional None (λ a. whole_at (at keys (codes "after")) 0 1_000_000 a >>= (λ after. Ok (Some after))) (value_of keys (codes "after"))) _
    (optional_whole_keeps (at keys (codes "after")) 0 1_000_000 (value_of keys (codes "after"))) (λ after waits_for.
    Keeps-only Q keys (codes "signal" ∷ codes "value" ∷ codes "when" ∷ codes "is" ∷ codes "task" ∷ codes "setpoints" ∷ codes "after" ∷ []) (Ok (record { signal = signal; value = value; when = when; given = given; after = after }))
    (and_from ((is_input_signal signals signal && holds_where_there when_test when) && holds_where_there given_test given) (holds_where_there (is_within 0 1_000_000) after)
    (and_from (is_input_signal signals signal && holds_where_there when_test when) (holds_where_there given_test given) (and_from (is_input_signal signals signal) (holds_where_there when_test when) is waits) told) waits_for)))))))
