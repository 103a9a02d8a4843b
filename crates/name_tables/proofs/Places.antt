-- A table of names after one more is entered.
use Rattle.std.proofs.Common.{◌≡◌, ℕ, suc, Bool, true, false, List, [], ◌∷◌, ◌++◌, length, Option, Some, None, is_some, option_map, if◌then◌else◌, bytes_eq, refl, ap, sym, ◌∙◌, true≢false}
use Rattle.std.specs.Option.{option_or}
use Rattle.std.specs.Str.{str_to_ascii_lowercase, str_eq_ignore_ascii_case}
use Rattle.std.proofs.lemmas.Slice.Eq.{bytes_eq-Decides}
use Rattle.name_tables.specs.Names.{NameList, found_by, found_in, entered, Finds, Enters}

by_last : {V : Type 0} (key : List ℕ) (names : NameList V) (entry : List ℕ × V) → found_by key (names ++ entry ∷ []) ≡ option_or (found_by key names) (if bytes_eq key entry.0 then Some entry.1 else None)
by_last key [] entry = refl
by_last key (e ∷ names) entry = by (bytes_eq key e.0) (by_last key names entry)
  where
    by : (t : Bool) → found_by key (names ++ entry ∷ []) ≡ option_or (found_by key names) (if bytes_eq key entry.0 then Some entry.1 else None)
        → (if t then Some e.1 else found_by key (names ++ entry ∷ [])) ≡ option_or (if t then Some e.1 else found_by key names) (if bytes_eq key entry.0 then Some entry.1 else None)
    by true more = refl
    by false more = more

-- a name that is already in the table
there : {V : Type 0} (key other : List ℕ) (value : V) (names : NameList V) → is_some (found_by key names) ≡ true → found_by other names ≡ option_or (found_by other names) (if bytes_eq other key then Some value else None)
there key other value names has = by (found_by other names) (bytes_eq other key) refl refl
  where
    by : (o : Option _) (t : Bool) → found_by other names ≡ o → bytes_eq other key ≡ t → o ≡ option_or o (if t then Some value else None)
    by (Some v) t found same = refl
    by None false none differs = refl
    by None true none same = absurd (true≢false (sym has ∙ ap (λ k. is_some (found_by k names)) (sym ((bytes_eq-Decides other key).0 same)) ∙ ap is_some none))

pub enters : {V : Type 0} (name : List ℕ) (value : V) (names : NameList V) → Enters names (entered name value names) (λ other. str_eq_ignore_ascii_case other name) value
enters name value names other = by (is_some (found_in name names)) refl
  where
    by : (t : Bool) → is_some (found_in name names) ≡ t
        → found_in other (if t then names else names ++ ((str_to_ascii_lowercase name, value) ∷ [])) ≡ option_or (found_in other names) (if str_eq_ignore_ascii_case other name then Some value else None)
    by true has = there (str_to_ascii_lowercase name) (str_to_ascii_lowercase other) value names has
    by false lacks = by_last (str_to_ascii_lowercase other) names (str_to_ascii_lowercase name, value)

next_or : (o : Option ℕ) (t : Bool) (n : ℕ) → option_map suc (option_or o (if t then Some n else None)) ≡ option_or (option_map suc o) (if t then Some (suc n) else None)
next_or (Some k) t n = refl
next_or None true n = refl
next_or None false n = refl

-- a recursion for the first index of a name, on a list with one more element
pub index_last : {X : Type 0} (find : List X → Option ℕ) (p : X → Bool) → find [] ≡ None
    → ((x : X) (xs : List X) → find (x ∷ xs) ≡ (if p x then Some 0 else option_map suc (find xs))) → (xs : List X) (x : X) → find (xs ++ x ∷ []) ≡ option_or (find xs) (if p x then Some (length xs) else None)
index_last find p none more [] x =
    more x [] ∙ ap (λ o. if p x then Some 0 else option_map suc o) none ∙ sym (ap (λ o. option_or o (if p x then Some 0 else None)) none)
index_last find p none more (y ∷ xs) x =
    more y (xs ++ x ∷ []) ∙ by (p y) (index_last find p none more xs x) ∙ sym (ap (λ o. option_or o (if p x then Some (suc (length xs)) else None)) (more y xs))
  where
    by : (t : Bool) → find (xs ++ x ∷ []) ≡ option_or (find xs) (if p x then Some (length xs) else None)
        → (if t then Some 0 else option_map suc (find (xs ++ x ∷ []))) ≡ option_or (if t then Some 0 else option_map suc (find xs)) (if p x then Some (suc (length xs)) else None)
    by true last = refl
    by false last = ap (option_map suc) last ∙ next_or (find xs) (p x) (length xs)

-- a table of the first index of each element of a list, with one more element
pub index_entered : {X : Type 0} (table new : NameList ℕ) (find : List ℕ → List X → Option ℕ) (p : List ℕ → X → Bool) (xs : List X) (x : X) (number : ℕ)
    → ((name : List ℕ) → find name (xs ++ x ∷ []) ≡ option_or (find name xs) (if p name x then Some (length xs) else None))
    → Finds table (λ name. find name xs) → Enters table new (λ name. p name x) number → number ≡ length xs → Finds new (λ name. find name (xs ++ x ∷ []))
index_entered table new find p xs x number last is more at name =
    more name ∙ ap (λ o. option_or o (if p name x then Some number else None)) (is name)
    ∙ ap (λ k. option_or (find name xs) (if p name x then Some k else None)) at ∙ sym (last name)
