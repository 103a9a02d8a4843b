-- The entries of a table as a list of names.
use Rattle.std.proofs.Common.{◌≡◌, ℕ, ◌<◌, ◌≤◌, Bool, true, false, List, [], ◌∷◌, ◌++◌, length, map, Option, Some, None, is_some, unwrap_or, refl, sym, ap, subst, ◌∙◌, if◌then◌else◌, bytes_eq, nat_eq, true≢false, arith}
use Rattle.std.specs.Map.{lookup}
use Rattle.std.specs.Str.{str_to_ascii_lowercase}
use Rattle.std.specs.Cmp.Lexicographic.{pointwise}
use Rattle.std.proofs.lemmas.List.{length-map}
use Rattle.std.proofs.lemmas.Option.{none-some, same_Some}
use Rattle.std.proofs.lemmas.Slice.Eq.{bytes_eq-Decides}
use Rattle.arrayvec.specs.ArrayVec.{ArrayVec}
use Rattle.indexmap.specs.IndexMap.{insert_entry}
use Rattle.name_tables.specs.Names.{NameList, AreShort, entry_of, found_by, found_in, entered}

abbrev pub is_key : ArrayVec ℕ → ArrayVec ℕ → Bool
is_key key k = pointwise nat_eq key.items k.items

key_found : {V : Type 0} (key : ArrayVec ℕ) (es : List (ArrayVec ℕ × V)) → lookup (is_key key) es ≡ found_by key.items (map entry_of es)
key_found key [] = refl
key_found key (e ∷ es) = ap (λ rest. if bytes_eq key.items e.0.items then Some e.1 else rest) (key_found key es)

-- no entry has a key of more than 32 bytes
not_by : {V : Type 0} (key : List ℕ) (names : NameList V) → AreShort names → 32 < length key → found_by key names ≡ None
not_by key [] short long = refl
not_by key (e ∷ es) short long = by (bytes_eq key e.0) refl (not_by key es short.1 long)
  where
    by : (b : Bool) → bytes_eq key e.0 ≡ b → found_by key es ≡ None → (if b then Some e.1 else found_by key es) ≡ None
    by true is rest = let same : key ≡ e.0 = (bytes_eq-Decides key e.0).0 is in absurd (omega (arith, ap length same))
    by false is rest = rest

pub too_long : {V : Type 0} (name : List ℕ) (inside names : NameList V) → inside ≡ names → AreShort inside → 32 < length name → found_in name names ≡ None
too_long name inside names is short long =
    let long_key : 32 < length (str_to_ascii_lowercase name) = rw length-map long in
    subst (λ ns. found_in name ns ≡ None) is (not_by (str_to_ascii_lowercase name) inside short long_key)

pub found : {V : Type 0} (name : List ℕ) (key : ArrayVec ℕ) (es : List (ArrayVec ℕ × V)) (names : NameList V) → map entry_of es ≡ names → key.items ≡ str_to_ascii_lowercase name → lookup (is_key key) es ≡ found_in name names
found name key es names is folded = key_found key es ∙ ap (λ k. found_by k (map entry_of es)) folded ∙ ap (found_in name) is

-- an empty table has no names
pub nowhere : {V : Type 0} (name : List ℕ) (es : List (ArrayVec ℕ × V)) (names : NameList V) → map entry_of es ≡ names → length es ≡ 0 → None ≡ found_in name names
nowhere name [] names is none = ap (found_in name) is
nowhere name (e ∷ es) names is none = absurd (omega (arith, none))

inserted_last : {V : Type 0} (key : ArrayVec ℕ) (value : V) (es : List (ArrayVec ℕ × V)) → false ≡ is_some (lookup (is_key key) es) → map entry_of (insert_entry is_key es key value) ≡ map entry_of es ++ (key.items, value) ∷ []
inserted_last key value [] none = refl
inserted_last key value (e ∷ es) none = by (is_key key e.0) refl (inserted_last key value es)
  where
    by : (b : Bool) → is_key key e.0 ≡ b → (false ≡ is_some (lookup (is_key key) es) → map entry_of (insert_entry is_key es key value) ≡ map entry_of es ++ (key.items, value) ∷ [])
        → map entry_of (if b then (e.0, value) ∷ es else e ∷ insert_entry is_key es key value) ≡ entry_of e ∷ (map entry_of es ++ (key.items, value) ∷ [])
    by true is rest = absurd (true≢false (sym (none ∙ ap (λ b. is_some (if b then Some e.1 else lookup (is_key key) es)) is)))
    by false is rest = ap (λ more. entry_of e ∷ more) (rest (none ∙ ap (λ b. is_some (if b then Some e.1 else lookup (is_key key) es)) is))

-- inserting the value that a key has changes nothing
inserted_same : {V : Type 0} (key : ArrayVec ℕ) (value : V) (es : List (ArrayVec ℕ × V)) → lookup (is_key key) es ≡ Some value → insert_entry is_key es key value ≡ es
inserted_same key value [] has = absurd (none-some value has)
inserted_same key value (e ∷ es) has = by (is_key key e.0) refl (inserted_same key value es)
  where
    by : (b : Bool) → is_key key e.0 ≡ b → (lookup (is_key key) es ≡ Some value → insert_entry is_key es key value ≡ es) → (if b then (e.0, value) ∷ es else e ∷ insert_entry is_key es key value) ≡ e ∷ es
    by true is rest = ap (λ v. (e.0, v) ∷ es) (sym (same_Some e.1 value (sym (ap (λ b. if b then Some e.1 else lookup (is_key key) es) is) ∙ has)))
    by false is rest = ap (λ more. e ∷ more) (rest (sym (ap (λ b. if b then Some e.1 else lookup (is_key key) es) is) ∙ has))

-- a value is inserted for a key, unless the key has one
first_wins : {V : Type 0} (key : ArrayVec ℕ) (value : V) (es : List (ArrayVec ℕ × V)) → map entry_of (insert_entry is_key es key (unwrap_or (lookup (is_key key) es) value)) ≡ (if is_some (lookup (is_key key) es) then map entry_of es else map entry_of es ++ (key.items, value) ∷ [])
first_wins key value es = by (lookup (is_key key) es) refl
  where
    by : (o : Option _) → lookup (is_key key) es ≡ o → map entry_of (insert_entry is_key es key (unwrap_or o value)) ≡ (if is_some o then map entry_of es else map entry_of es ++ (key.items, value) ∷ [])
    by (Some v) has = ap (map entry_of) (inserted_same key v es has)
    by None lacks = inserted_last key value es (sym (ap is_some lacks))

pub inserted : {V : Type 0} (name : List ℕ) (value : V) (key : ArrayVec ℕ) (es new : List (ArrayVec ℕ × V)) (names : NameList V) → map entry_of es ≡ names → key.items ≡ str_to_ascii_lowercase name → new ≡ insert_entry is_key es key (unwrap_or (lookup (is_key key) es) value)
    → map entry_of new ≡ entered name value names
inserted name value key es new names is folded last =
    ap (map entry_of) last ∙ first_wins key value es ∙ ap (λ o. if is_some o then map entry_of es else map entry_of es ++ (key.items, value) ∷ []) (found name key es names is folded)
    ∙ ap (λ ns. if is_some (found_in name names) then ns else ns ++ (key.items, value) ∷ []) is
    ∙ ap (λ k. if is_some (found_in name names) then names else names ++ (k, value) ∷ []) folded

short_last : {V : Type 0} (names : NameList V) (key : List ℕ) (value : V) → AreShort names → length key ≤ 32 → AreShort (names ++ (key, value) ∷ [])
short_last [] key value short fits = (fits, tt)
short_last (e ∷ es) key value short fits = (short.0, short_last es key value short.1 fits)

short_if : {V : Type 0} (a b : NameList V) (t : Bool) → AreShort a → AreShort b → AreShort (if t then a else b)
short_if a b true ha hb = ha
short_if a b false ha hb = hb

pub stays_short : {V : Type 0} (name : List ℕ) (value : V) (key : ArrayVec ℕ) (es new : List (ArrayVec ℕ × V)) → AreShort (map entry_of es) → key.items ≡ str_to_ascii_lowercase name → length name ≤ 32
    → new ≡ insert_entry is_key es key (unwrap_or (lookup (is_key key) es) value) → AreShort (map entry_of new)
stays_short name value key es new short folded fits last =
    let fits_key : length key.items ≤ 32 = rw (folded, length-map) fits in
    subst AreShort (sym (ap (map entry_of) last ∙ first_wins key value es)) (short_if _ _ (is_some (lookup (is_key key) es)) short (short_last (map entry_of es) key.items value short fits_key))
