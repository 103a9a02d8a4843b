-- The values that keys may have. Each is read at a key, which names the rule if it is broken.
use Rattle.std.specs.Prelude.{ℕ, Bool, not, ◌&&◌, ◌||◌, ℤ, pos, negsuc, List, [], ◌∷◌, ◌++◌, length, position, Option, Some, None, Ok, Err, ◌==◌, if◌then◌else◌, bytes_eq}
use Rattle.std.specs.List.{list_any}
use Rattle.std.specs.Str.{str_eq_ignore_ascii_case}
use Rattle.toml.specs.Data.{Data, Items, no_items, item, Members, no_members, member, get_member, as_str, as_integer, as_array, as_table}
use Rattle.rapid_lexer.specs.Words.{is_reserved}
use Rattle.rapid_model.specs.Names.{is_short_name}
use Rattle.rapid_model.specs.Limits.{is_within}
use Rattle.rapid_model.specs.declared.script_rule.ScriptRule.TheVariants.{NoKey, Kind, UnknownKey, Range, Name, NoSuch, Pair}
use Rattle.rule_checks.specs.Checks.{◌>>=◌, ◌>>◌, must, found_or}
use Rattle.cell_script.specs.Break.{Read, key_in, element_key, at_key}

-- a table of the script, and where it is
pub record Keys : Type 0 where
  pub path : List ℕ
  pub members : Members

-- a key of the table
abbrev pub at : Keys → List ℕ → List ℕ
at keys key = key_in keys.path key

abbrev pub value_of : Keys → List ℕ → Option Data
value_of keys key = get_member key keys.members

-- the value of a required key
abbrev pub needed : Keys → List ℕ → Read Data
needed keys key = found_or (value_of keys key) (at_key (at keys key) NoKey)

-- the result for an optional key, and its default
abbrev pub optional : {A : Type 0} → A → (Data → Read A) → Option Data → Read A
optional absent read None = Ok absent
optional absent read (Some d) = read d

abbrev pub keys_of : Members → List (List ℕ)
keys_of no_members = []
keys_of (member key d rest) = key ∷ keys_of rest

-- the first unknown key; TOML tables keep their keys in byte order
abbrev pub first_unknown : List (List ℕ) → List (List ℕ) → Option (List ℕ)
first_unknown known [] = None
first_unknown known (key ∷ keys) = if list_any (bytes_eq key) known then first_unknown known keys else Some key

-- no key is unknown
abbrev pub none_unknown : {A : Type 0} → Keys → Option (List ℕ) → Read A → Read A
none_unknown keys None next = next
none_unknown keys (Some key) next = Err (at_key (at keys key) UnknownKey)

-- there are no other keys
abbrev pub only_keys : {A : Type 0} → Keys → List (List ℕ) → Read A → Read A
only_keys keys known next = none_unknown keys (first_unknown known (keys_of keys.members)) next

abbrev pub items_list : Items → List Data
items_list no_items = []
items_list (item d ds) = d ∷ items_list ds

abbrev pub text_at : List ℕ → Data → Read (List ℕ)
text_at key d = found_or (as_str d) (at_key key Kind)

-- a whole number in this range
abbrev pub whole_at : List ℕ → ℕ → ℕ → Data → Read ℕ
whole_at key low high d = found_or (as_integer d) (at_key key Kind) >>= in_range
  where
    in_range : ℤ → Read ℕ
    in_range (pos n) = must (is_within low high n) (at_key key Range) >> Ok n
    in_range (negsuc n) = Err (at_key key Range)

-- 0 or 1
abbrev pub bit_at : List ℕ → Data → Read Bool
bit_at key d = whole_at key 0 1 d >>= (λ n. Ok (n == 1))

-- one of two words; the second one means true
abbrev pub word_at : List ℕ → List ℕ → List ℕ → Data → Read Bool
word_at key first second d =
    text_at key d >>= (λ text. must (bytes_eq text first || bytes_eq text second) (at_key key Range) >> Ok (bytes_eq text second))

-- a name: well formed (RAPID Kernel, identifiers) and not a reserved word
abbrev pub name_at : List ℕ → Data → Read (List ℕ)
name_at key d = text_at key d >>= (λ text. must (is_short_name text && not (is_reserved text)) (at_key key Name) >> Ok text)

-- the number of the name that a text refers to, case-insensitively
abbrev pub number_at : List ℕ → List (List ℕ) → Data → Read ℕ
number_at key names d = text_at key d >>= (λ text. found_or (position (str_eq_ignore_ascii_case text) names) (at_key key NoSuch))

abbrev pub front_of : {A : Type 0} → Option A → Option (List A) → Option (List A)
front_of (Some x) (Some xs) = Some (x ∷ xs)
front_of _ _ = None

-- all of them, or none
abbrev pub each_as : {A : Type 0} → (Data → Option A) → List Data → Option (List A)
each_as view [] = Some []
each_as view (d ∷ ds) = front_of (view d) (each_as view ds)

-- an array of plain values, all of the same kind
abbrev pub list_at : {A : Type 0} → List ℕ → (Data → Option A) → Data → Read (List A)
list_at key view d = found_or (as_array d) (at_key key Kind) >>= (λ items. found_or (each_as view (items_list items)) (at_key key Kind))

-- an array of that many tables
abbrev pub rows_at : List ℕ → ℕ → ℕ → Data → Read (List Data)
rows_at key low high d =
    found_or (as_array d) (at_key key Kind) >>= (λ items. must (is_within low high (length (items_list items))) (at_key key Range) >> Ok (items_list items))

-- the table of the element at this index
abbrev pub table_at : List ℕ → ℕ → Data → Read Keys
table_at key index d =
    found_or (as_table d) (at_key (element_key key index) Kind) >>= (λ members. Ok (record { path = element_key key index; members = members }))

-- the rows of an array one after another, each depending on those before
abbrev pub each_row : {A : Type 0} → (List A → Data → Read A) → List A → List Data → Read (List A)
each_row read before [] = Ok before
each_row read before (d ∷ ds) = read before d >>= (λ row. each_row read (before ++ (row ∷ [])) ds)

-- both values, or neither; a missing one breaks the rule at its key
abbrev pub both_at : {A B : Type 0} → List ℕ → List ℕ → (Data → Read A) → (Data → Read B) → Option Data → Option Data → Read (Option (A × B))
both_at first second read_first read_second None None = Ok None
both_at first second read_first read_second None (Some e) = Err (at_key first Pair)
both_at first second read_first read_second (Some d) None = read_first d >>= (λ x. Err (at_key second Pair))
both_at first second read_first read_second (Some d) (Some e) = read_first d >>= (λ x. read_second e >>= (λ y. Ok (Some (x, y))))

-- two keys that go together
abbrev pub pair_at : {A B : Type 0} → Keys → List ℕ → List ℕ → (Data → Read A) → (Data → Read B) → Read (Option (A × B))
pair_at keys first second read_first read_second =
    both_at (at keys first) (at keys second) read_first read_second (value_of keys first) (value_of keys second)
