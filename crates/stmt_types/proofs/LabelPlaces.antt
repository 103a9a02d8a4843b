-- What the index of the first label with a name implies.
use Rattle.std.proofs.Common.{◌≡◌, ℕ, suc, ◌<◌, ◌==◌, Bool, true, false, ◌||◌, List, [], ◌∷◌, ◌++◌, length, Option, Some, None, is_some, option_map, map, slice_get, get_or, if◌then◌else◌, Bor, append_assoc, refl, ap, sym, ◌∙◌, arith}
use Rattle.std.proofs.lemmas.List.{append-nil, length-map}
use Rattle.std.proofs.lemmas.Option.{none-some, slice_get-map, slice_get_read}
use Rattle.name_tables.specs.Names.{NameList, Finds, entered, found_in}
use Rattle.name_tables.proofs.Places.{enters, index_last, index_entered}
use Rattle.raw_trees.specs.declared.raw_name.RawName.{RawName}
use Rattle.raw_trees.specs.Plain.{PlainName}
use Rattle.raw_trees.specs.Views.{view_name}
use Rattle.stmt_types.specs.Labels.{names_label, label_number, label_index, labels_around, is_first, is_visible}

abbrev or_length : Option ℕ → ℕ → ℕ
or_length None count = count
or_length (Some index) count = index

one_more : (index : Option ℕ) (count : ℕ) → suc (or_length index count) ≡ or_length (option_map suc index) (suc count)
one_more None count = refl
one_more (Some index) count = refl

number_by : (text : List ℕ) (labels : List PlainName) → label_number text labels ≡ or_length (label_index text labels) (length labels)
number_by text [] = refl
number_by text (label ∷ labels) = by (names_label text label) (number_by text labels)
  where
    by : (t : Bool) → label_number text labels ≡ or_length (label_index text labels) (length labels)
        → (if t then 0 else suc (label_number text labels)) ≡ or_length (if t then Some 0 else option_map suc (label_index text labels)) (suc (length labels))
    by true more = refl
    by false more = ap suc more ∙ one_more (label_index text labels) (length labels)

pub number_found : (text : List ℕ) (labels : List PlainName) (number : ℕ) → label_index text labels ≡ Some number → label_number text labels ≡ number
number_found text labels number is = number_by text labels ∙ ap (λ o. or_length o (length labels)) is

pub number_past : (text : List ℕ) (labels : List PlainName) → label_index text labels ≡ None → label_number text labels ≡ length labels
number_past text labels is = number_by text labels ∙ ap (λ o. or_length o (length labels)) is

abbrev is_at : ℕ → Option PlainName → Bool
is_at at None = false
is_at at (Some label) = label.at == at

abbrev is_at_index : ℕ → List PlainName → Option ℕ → Bool
is_at_index at labels None = false
is_at_index at labels (Some index) = is_at at (slice_get labels index)

behind : (at : ℕ) (label : PlainName) (labels : List PlainName) (index : Option ℕ) → is_at_index at labels index ≡ is_at_index at (label ∷ labels) (option_map suc index)
behind at label labels None = refl
behind at label labels (Some index) = refl

first_by : (name : PlainName) (labels : List PlainName) → is_first name labels ≡ is_at_index name.at labels (label_index name.text labels)
first_by name [] = refl
first_by name (label ∷ labels) = by (names_label name.text label) (first_by name labels)
  where
    by : (t : Bool) → is_first name labels ≡ is_at_index name.at labels (label_index name.text labels)
        → (if t then label.at == name.at else is_first name labels) ≡ is_at_index name.at (label ∷ labels) (if t then Some 0 else option_map suc (label_index name.text labels))
    by true more = refl
    by false more = more ∙ behind name.at label labels (label_index name.text labels)

pub index_within : (text : List ℕ) (labels : List PlainName) (index : ℕ) → label_index text labels ≡ Some index → index < length labels
index_within text [] index = λ is. absurd (none-some index is)
index_within text (label ∷ labels) index = by (names_label text label) (label_index text labels) refl (λ n rest. index_within text labels n rest)
  where
    by : (t : Bool) (o : Option ℕ) → label_index text labels ≡ o → ((n : ℕ) → label_index text labels ≡ Some n → n < length labels) → (if t then Some 0 else option_map suc o) ≡ Some index → index < length (label ∷ labels)
    by true o rest more is = let at : 0 ≡ index = ap (λ o. or_length o 0) is in omega (arith, at)
    by false None rest more is = absurd (none-some index is)
    by false (Some n) rest more is = let at : suc n ≡ index = ap (λ o. or_length o 0) is in omega (arith, at, more n rest)

-- the label at that index
pub first_found : (name : PlainName) (items : List RawName) (index : ℕ) (item : RawName) → label_index name.text (map view_name items) ≡ Some index → item ≡ get_or items index item → is_first name (map view_name items) ≡ (item.at == name.at)
first_found name items index item is read =
    let within : index < length items = omega (arith, length-map items view_name, index_within name.text (map view_name items) index is) in
    let there : slice_get (map view_name items) index ≡ Some (view_name item) = slice_get-map view_name items index ∙ ap (option_map view_name) (slice_get_read items (length items) index item refl within read) in
    first_by name (map view_name items) ∙ ap (is_at_index name.at (map view_name items)) is ∙ ap (is_at name.at) there

pub first_past : (name : PlainName) (labels : List PlainName) → label_index name.text labels ≡ None → is_first name labels ≡ false
first_past name labels is = first_by name labels ∙ ap (is_at_index name.at labels) is

pub visible_by : (text : List ℕ) (labels : List PlainName) → is_visible text labels ≡ is_some (label_index text labels)
visible_by text [] = refl
visible_by text (label ∷ labels) = by (names_label text label) (visible_by text labels)
  where
    seen : (o : Option ℕ) → is_some o ≡ is_some (option_map suc o)
    seen None = refl
    seen (Some index) = refl

    by : (t : Bool) → is_visible text labels ≡ is_some (label_index text labels) → (t || is_visible text labels) ≡ is_some (if t then Some 0 else option_map suc (label_index text labels))
    by true more = refl
    by false more = more ∙ seen (label_index text labels)

-- one more label, and the table that it is entered in
pub label_entered : (table new : NameList ℕ) (labels : List PlainName) (label : PlainName) (number : ℕ) → Finds table (λ text. label_index text labels) → new ≡ entered label.text number table → number ≡ length labels
    → Finds new (λ text. label_index text (labels ++ label ∷ []))
label_entered table new labels label number is last =
    index_entered table new label_index names_label labels label number (λ text. index_last (label_index text) (names_label text) refl (λ x xs. refl) labels label) is
    (λ text. ap (found_in text) last ∙ enters label.text number table text)

-- the labels of lists, with one more list
pub levels_last : (levels : List (Bor (List PlainName))) (level : Bor (List PlainName)) → labels_around (levels ++ level ∷ []) ≡ labels_around levels ++ level.now
levels_last [] level = append-nil level.now
levels_last (first ∷ levels) level = ap (λ ls. first.now ++ ls) (levels_last levels level) ∙ sym (append_assoc first.now (labels_around levels) level.now)
