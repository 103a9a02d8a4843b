-- Names that are read are well formed and distinct; numbers that are read are numbers of rows.
use Rattle.std.proofs.Common.{◌≡◌, ℕ, Bool, true, false, not, ◌&&◌, ◌||◌, nat_lt, List, [], ◌∷◌, ◌++◌, length, map, Some, None, Ok, if◌then◌else◌, refl, sym, ◌∙◌}
use Rattle.std.specs.List.{position, position_or_len}
use Rattle.std.specs.Char.{to_ascii_lowercase}
use Rattle.std.specs.Str.{str_eq_ignore_ascii_case}
use Rattle.std.proofs.lemmas.Bool.{and_parts, not-true}
use Rattle.std.proofs.lemmas.Bool.Decides.{same_from_decides}
use Rattle.std.proofs.lemmas.List.{length-map}
use Rattle.std.proofs.lemmas.Slice.Eq.{bytes_eq-Decides}
use Rattle.toml.specs.Data.{Data}
use Rattle.rapid_lexer.specs.Words.{is_reserved}
use Rattle.rapid_builtins.specs.Names.{is_predefined}
use Rattle.rapid_model.specs.Names.{is_short_name, is_among, differ}
use Rattle.rapid_model.specs.declared.script_rule.ScriptRule.TheVariants.{Name, Twice, NoSuch}
use Rattle.rule_checks.specs.Checks.{◌>>◌, must, found_or}
use Rattle.cell_script.specs.Break.{at_key}
use Rattle.cell_script.specs.Keys.{text_at, name_at, number_at}
use Rattle.cell_script.specs.Rows.{signal_name_at, task_name_at}
use Rattle.rule_checks.proofs.Keeps.{Keeps, Keeps-then, Keeps-any, Keeps-must, Keeps-found}

abbrev pub IsName : List ℕ → Type 0
IsName name = is_short_name name ≡ true

abbrev pub IsNew : List (List ℕ) → List ℕ → Type 0
IsNew others name = is_among name others ≡ false

pub name_keeps : (key : List ℕ) (d : Data) → Keeps IsName (name_at key d)
name_keeps key d =
    Keeps-any IsName (text_at key d) (λ text. must (is_short_name text && not (is_reserved text)) (at_key key Name) >> Ok text) (λ text.
    Keeps-must IsName (is_short_name text && not (is_reserved text)) (at_key key Name) (Ok text) (λ e. (and_parts (is_short_name text) (not (is_reserved text)) e).0))

pub signal_name_keeps : (key : List ℕ) (others : List (List ℕ)) (d : Data) → Keeps (λ name. IsName name × IsNew others name) (signal_name_at key others d)
signal_name_keeps key others d =
    let Q : List ℕ → Type 0 = λ name. IsName name × IsNew others name in
    Keeps-then IsName Q (name_at key d) (λ name. must (not (is_predefined name)) (at_key key Name) >> (must (not (is_among name others)) (at_key key Twice) >> Ok name)) (name_keeps key d) (λ name form.
    Keeps-must Q (not (is_predefined name)) (at_key key Name) (must (not (is_among name others)) (at_key key Twice) >> Ok name) (λ _.
    Keeps-must Q (not (is_among name others)) (at_key key Twice) (Ok name) (λ e. (form, not-true (is_among name others) e))))

pub task_name_keeps : (key : List ℕ) (others : List (List ℕ)) (d : Data) → Keeps (λ name. IsName name × IsNew others name) (task_name_at key others d)
task_name_keeps key others d =
    let Q : List ℕ → Type 0 = λ name. IsName name × IsNew others name in
    Keeps-then IsName Q (name_at key d) (λ name. must (not (is_among name others)) (at_key key Twice) >> Ok name) (name_keeps key d) (λ name form.
    Keeps-must Q (not (is_among name others)) (at_key key Twice) (Ok name) (λ e. (form, not-true (is_among name others) e)))

found_below : {A : Type 0} (test : A → Bool) (xs : List A) (n : ℕ) → position test xs ≡ Some n → nat_lt n (length xs) ≡ true
found_below test xs n e = by_test (position_or_len test xs) (nat_lt (position_or_len test xs) (length xs)) refl e
  where
    by_test : (m : ℕ) (below : Bool) → nat_lt m (length xs) ≡ below → (if below then Some m else None) ≡ Some n → nat_lt n (length xs) ≡ true
    by_test m true is e = let same : m ≡ n = cc in rw (← same) is
    by_test m false is e = absurd cc

-- a number below that many rows
abbrev pub IsOf : {A : Type 0} → List A → ℕ → Type 0
IsOf rows n = nat_lt n (length rows) ≡ true

pub number_keeps : {A : Type 0} (key : List ℕ) (name : A → List ℕ) (rows : List A) (d : Data) → Keeps (IsOf rows) (number_at key (map name rows) d)
number_keeps key name rows d =
    Keeps-any (IsOf rows) (text_at key d) (λ text. found_or (position (str_eq_ignore_ascii_case text) (map name rows)) (at_key key NoSuch)) (λ text.
    Keeps-found (IsOf rows) (position (str_eq_ignore_ascii_case text) (map name rows)) (at_key key NoSuch) (λ n e.
    rw length-map at (found_below (str_eq_ignore_ascii_case text) (map name rows) n e)))

-- equality of two names does not depend on their order
same_names : (a b : List ℕ) → str_eq_ignore_ascii_case a b ≡ str_eq_ignore_ascii_case b a
same_names a b =
    let one = bytes_eq-Decides (map to_ascii_lowercase a) (map to_ascii_lowercase b) in
    let two = bytes_eq-Decides (map to_ascii_lowercase b) (map to_ascii_lowercase a) in
    same_from_decides _ _ one ((λ e. sym (two.0 e)), (λ e. two.1 (sym e)))

not_or : (a b : Bool) → (a || b) ≡ false → (a ≡ false) × (b ≡ false)
not_or true b e = absurd cc
not_or false b e = (refl, e)

and_not : (a b : Bool) → a ≡ false → b ≡ true → (not a && b) ≡ true
and_not a b e h = rw e h

both_not : (a b : Bool) → a ≡ false → b ≡ false → (a || b) ≡ false
both_not a b e h = rw e h

-- one more name at the end
among_more : (name : List ℕ) (names : List (List ℕ)) (last : List ℕ) → is_among name names ≡ false → str_eq_ignore_ascii_case name last ≡ false → is_among name (names ++ (last ∷ [])) ≡ false
among_more name [] last none other = both_not (str_eq_ignore_ascii_case name last) false other refl
among_more name (n ∷ names) last none other =
    let parts = not_or (str_eq_ignore_ascii_case name n) (is_among name names) none in
    both_not (str_eq_ignore_ascii_case name n) (is_among name (names ++ (last ∷ []))) parts.0 (among_more name names last parts.1 other)

pub differ_more : (names : List (List ℕ)) (last : List ℕ) → differ names ≡ true → IsNew names last → differ (names ++ (last ∷ [])) ≡ true
differ_more [] last all new = refl
differ_more (n ∷ names) last all new =
    let parts = and_parts (not (is_among n names)) (differ names) all in
    let news = not_or (str_eq_ignore_ascii_case last n) (is_among last names) new in
    and_not (is_among n (names ++ (last ∷ []))) (differ (names ++ (last ∷ []))) (among_more n names last (not-true (is_among n names) parts.0) (same_names n last ∙ news.0)) (differ_more names last parts.1 news.1)
