-- Names of rows, and the form of a name.
use Rattle.std.proofs.Common.{◌≡◌, ℕ, ◌+◌, Bool, not, ◌&&◌, ◌||◌, List, [], ◌∷◌, map, Option, Ok, if◌then◌else◌, refl, sym, ap, ◌∙◌}
use Rattle.std.specs.List.{list_any, position, prefix_len}
use Rattle.std.proofs.lemmas.List.{length-map}
use Rattle.std.specs.Str.{str_eq_ignore_ascii_case}
use Rattle.toml.specs.Data.{Data}
use Rattle.rapid_lexer.specs.Words.{is_reserved}
use Rattle.rapid_model.specs.Names.{is_short_name, is_among}
use Rattle.rapid_model.specs.declared.script_rule.ScriptRule.TheVariants.{Name, NoSuch, Twice}
use Rattle.rule_checks.specs.Checks.{◌>>◌, must, found_or}
use Rattle.cell_script.specs.Break.{at_key}
use Rattle.cell_script.specs.Keys.{text_at, name_at, number_at}
use Rattle.cell_script.specs.Rows.{signal_name_at, task_name_at}
use Rattle.rapid_builtins.specs.Names.{is_predefined}

pub list_any-map : {A B : Type 0} (test : B → Bool) (f : A → B) (xs : List A) → list_any test (map f xs) ≡ list_any (λ x. test (f x)) xs
list_any-map test f [] = refl
list_any-map test f (x ∷ xs) = ap (λ more. test (f x) || more) (list_any-map test f xs)

-- a name, by its form and by the words of checks
pub name_of_form : (key : List ℕ) (d : Data) (text bytes : List ℕ) (form word : Bool) → text_at key d ≡ Ok text → bytes ≡ text → form ≡ is_short_name bytes → word ≡ is_reserved bytes
    → name_at key d ≡ (must (form && not word) (at_key key Name) >> Ok bytes)
name_of_form key d text bytes form word read same is_form is_word = rw (read, is_form, is_word, same) refl

prefix_len-map : {A B : Type 0} (test : B → Bool) (f : A → B) (xs : List A) → prefix_len test (map f xs) ≡ prefix_len (λ x. test (f x)) xs
prefix_len-map test f [] = refl
prefix_len-map test f (x ∷ xs) = ap (λ n. if test (f x) then 1 + n else 0) (prefix_len-map test f xs)

pub position-map : {A B : Type 0} (test : B → Bool) (f : A → B) (xs : List A) → position test (map f xs) ≡ position (λ x. test (f x)) xs
position-map test f xs = rw (prefix_len-map (λ y. not (test y)) f xs, length-map xs f) refl

-- the number of the row that a text names
pub number_of_row : {A : Type 0} (key : List ℕ) (name : A → List ℕ) (rows : List A) (d : Data) (text bytes : List ℕ) (found : Option ℕ) → text_at key d ≡ Ok text → bytes ≡ text
    → found ≡ position (λ row. str_eq_ignore_ascii_case bytes (name row)) rows → number_at key (map name rows) d ≡ found_or found (at_key key NoSuch)
number_of_row key name rows d text bytes found read same is =
    let at : position (str_eq_ignore_ascii_case text) (map name rows) ≡ found = position-map (str_eq_ignore_ascii_case text) name rows ∙ sym (rw same at is) in
    rw (read, at) refl

-- a name, and whether another row has it
pub new_name : {A : Type 0} (key : List ℕ) (name : A → List ℕ) (rows : List A) (text bytes : List ℕ) (twice : Bool) → bytes ≡ text
    → twice ≡ list_any (λ row. str_eq_ignore_ascii_case bytes (name row)) rows → is_among text (map name rows) ≡ twice
new_name key name rows text bytes twice same is = list_any-map (str_eq_ignore_ascii_case text) name rows ∙ sym (rw same at is)

-- the name of a signal, by what is required of it
pub signal_name_by : (key : List ℕ) (names : List (List ℕ)) (d : Data) (name : List ℕ) (known twice : Bool) → name_at key d ≡ Ok name → known ≡ is_predefined name → twice ≡ is_among name names
    → signal_name_at key names d ≡ (must (not known) (at_key key Name) >> (must (not twice) (at_key key Twice) >> Ok name))
signal_name_by key names d name known twice read is_known is_twice = rw (read, is_known, is_twice) refl

pub task_name_by : (key : List ℕ) (names : List (List ℕ)) (d : Data) (name : List ℕ) (twice : Bool) → name_at key d ≡ Ok name → twice ≡ is_among name names
    → task_name_at key names d ≡ (must (not twice) (at_key key Twice) >> Ok name)
task_name_by key names d name twice read is_twice = rw (read, is_twice) refl
