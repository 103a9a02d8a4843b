-- A number has one persistent, and trees have one numbering.
use Rattle.std.proofs.Common.{◌≡◌, ℕ, List, length, Some, is_some, slice_get, ap, sym, subst, ◌∙◌, arith, inl, inr}
use Rattle.std.proofs.lemmas.Bool.{cases_lt, cases_order}
use Rattle.std.proofs.lemmas.Option.{slice_get_past}
use Rattle.rapid_model.specs.Sorts.{width}
use Rattle.rapid_model.specs.declared.pers_cell.PersCell.{PersCell}
use Rattle.rapid_model.specs.declared.pers_value.PersValue.{PersValue}
use Rattle.rapid_model.specs.declared.sort.Sort.{Sort}
use Rattle.rapid_model.specs.declared.value.Value.{Value}
use Rattle.rapid_model.proofs.Lists.{there_is}
use Rattle.rapid_values.specs.Values.{start_value}
use Rattle.cell_rules.specs.Declared.{Declared, AreOne, AreAlikeBefore}
use Rattle.cell_rules.specs.First.{owner_of, IsDeclared, IsUndeclared, IsGiven, IsFirstValue, ByScript, ByDeclaration, ByType, IsPersistent}
use Rattle.cell_rules.specs.Given.{AreForOne, IsFor, IsRight}
use Rattle.cell_rules.specs.Numbering.{AreNumbered, HasNumber}
use Rattle.cell_rules.proofs.Alike.{alike_there, for_both, one_named, same_index}
use Rattle.cell_rules.proofs.Lists.{same_there, same_list}
use Rattle.cell_rules.proofs.Numbers.{same_first}

module _ (ds : List Declared) (ks : List ℕ) (count : ℕ) (numbered : AreNumbered AreOne ds ks count) (alike : AreAlikeBefore (length ds) ds) (given : List PersValue) (right : (number : ℕ) (value : PersValue) → slice_get given number ≡ Some value → IsRight ds given number value) where
  -- a value that the script gives has an index exactly if the declaration is an array
  index_there : (k number index : ℕ) (row : PersValue) (d : Declared) → slice_get given number ≡ Some row → HasNumber ds ks k index d → IsFor row d → is_some row.index ≡ is_some d.row.len
  index_there k number index row d there has is_for =
      let is = right number row there in
      let found = is.finds in
      let one = alike_there ds alike found.index index found.d d found.there has.there (for_both row found.d d found.is_for is_for) in
      is.suits.index ∙ ap is_some (ap (λ row. row.len) found.is_row ∙ one.len)

  -- values given to the same element are for the same one
  for_one : (k element : ℕ) (v w : Value) → (t : IsGiven given ds ks k element v) → (u : IsGiven given ds ks k element w) → AreForOne t.row u.row
  for_one k element v w t u =
      let same = alike_there ds alike t.index u.index t.d u.d t.has_number.there u.has_number.there in
      let named = one_named ds ks count numbered k t.index u.index t.d u.d t.has_number u.has_number in
      let lens = same (record { global = t.is_for.global; other_global = u.is_for.global; named = named }) in
      record {
        named = t.is_for.named ∙ named ∙ sym u.is_for.named;
        index = same_index t.row.index u.row.index element t.at_element u.at_element
            (index_there k t.number t.index t.row t.d t.there t.has_number t.is_for ∙ ap is_some lens.len ∙ sym (index_there k u.number u.index u.row u.d u.there u.has_number u.is_for));
      }

  same_given : (k element : ℕ) (v w : Value) → IsGiven given ds ks k element v → IsGiven given ds ks k element w → v ≡ w
  same_given k element v w t u =
      elim (cases_order t.number u.number) [
        | inl equal ↦
            let same : t.row ≡ u.row = same_there (slice_get given t.number) t.row u.row t.there (ap (slice_get given) equal ∙ u.there) in
            t.gives ∙ ap (λ (x : PersValue). x.value) same ∙ sym u.gives
        | inr differ ↦ elim differ [
          | inl before ↦ absurd ((right u.number u.row u.there).once t.number t.row before t.there (for_one k element v w t u))
          | inr behind ↦ absurd ((right t.number t.row t.there).once u.number u.row behind u.there (for_one k element w v u t))
        ]
      ]

  same_declared : (k : ℕ) (vs ws : List Value) → IsDeclared ds ks k vs → IsDeclared ds ks k ws → vs ≡ ws
  same_declared k vs ws a b =
      elim (cases_order a.index b.index) [
        | inl equal ↦
            let same : a.d ≡ b.d = same_there (slice_get ds a.index) a.d b.d a.has_number.there (ap (slice_get ds) equal ∙ b.has_number.there) in
            same_there a.d.row.first vs ws a.gives (ap (λ (x : Declared). x.row.first) same ∙ b.gives)
        | inr differ ↦ elim differ [
          | inl before ↦ let none = sym a.gives ∙ b.none_before a.index a.d before a.has_number in absurd (cc none)
          | inr behind ↦ let none = sym b.gives ∙ a.none_before b.index b.d behind b.has_number in absurd (cc none)
        ]
      ]

  not_both : (k : ℕ) (vs : List Value) → IsDeclared ds ks k vs → IsUndeclared ds ks k → ⊥
  not_both k vs a none = let e = sym a.gives ∙ none a.index a.d a.has_number in absurd (cc e)

  -- an element has only one first value
  same_value : (k : ℕ) (sort : Sort) (element : ℕ) (v w : Value) → IsFirstValue given ds ks k sort element v → IsFirstValue given ds ks k sort element w → v ≡ w
  same_value k sort element v w (ByScript t) (ByScript u) = same_given k element v w t u
  same_value k sort element v w (ByScript t) (ByDeclaration not_given first declared at) = absurd (not_given v t)
  same_value k sort element v w (ByScript t) (ByType not_given none starts) = absurd (not_given v t)
  same_value k sort element v w (ByDeclaration not_given first declared at) (ByScript u) = absurd (not_given w u)
  same_value k sort element v w (ByDeclaration not_given first declared at) (ByDeclaration also other also_declared there) =
      same_there (slice_get first element) v w at (ap (λ vs. slice_get vs element) (same_declared k first other declared also_declared) ∙ there)
  same_value k sort element v w (ByDeclaration not_given first declared at) (ByType also none starts) = absurd (not_both k first declared none)
  same_value k sort element v w (ByType not_given none starts) (ByScript u) = absurd (not_given w u)
  same_value k sort element v w (ByType not_given none starts) (ByDeclaration also first declared at) = absurd (not_both k first declared none)
  same_value k sort element v w (ByType not_given none starts) (ByType also none_too starts_too) = same_there (start_value sort) v w starts starts_too

  module _ (k : ℕ) (p q : PersCell) (is : IsPersistent given ds ks k p) (other : IsPersistent given ds ks k q) where
    same_declaration : is.d ≡ other.d
    same_declaration = same_first AreOne ds ks k is.d other.d is.is_first other.is_first

    same_sorts : p.sort ≡ q.sort
    same_sorts = is.sort is.is_first.index is.d is.is_first.has_number ∙ sym (other.sort is.is_first.index is.d is.is_first.has_number)

    same_lens : p.len ≡ q.len
    same_lens = is.len is.is_first.index is.d is.is_first.has_number ∙ sym (other.len is.is_first.index is.d is.is_first.has_number)

    as_many : length p.first ≡ length q.first
    as_many = is.as_many ∙ ap width same_lens ∙ sym other.as_many

    same_element : (element : ℕ) → slice_get p.first element ≡ slice_get q.first element
    same_element element =
        elim (cases_lt element (length p.first)) [
          | inl within ↦
              let (v, at) = there_is p.first element within in
              let (w, there) = there_is q.first element (omega (arith, within, as_many)) in
              let also = subst (λ sort. IsFirstValue given ds ks k sort element w) (sym same_sorts) (other.first element w there) in
              at ∙ ap Some (same_value k p.sort element v w (is.first element v at) also) ∙ sym there
          | inr past ↦ slice_get_past p.first element past ∙ sym (slice_get_past q.first element (omega (arith, past, as_many)))
        ]

    -- a number has only one persistent
    pub same_persistent : p ≡ q
    same_persistent =
        let name : p.name ≡ q.name = is.name ∙ ap (λ (x : Declared). x.row.name) same_declaration ∙ sym other.name in
        let owner : p.owner ≡ q.owner = is.owner ∙ ap owner_of same_declaration ∙ sym other.owner in
        let first : p.first ≡ q.first = same_list p.first q.first same_element in
        λ i. record { name = name i; owner = owner i; sort = same_sorts i; len = same_lens i; first = first i }
