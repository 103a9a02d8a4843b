-- Which declarations are the same persistent, and in what they agree.
use Rattle.std.proofs.Common.{◌≡◌, ℕ, List, length, Option, Some, None, is_some, slice_get, refl, ap, sym, subst, ◌∙◌, arith, inl, inr}
use Rattle.std.specs.Str.{str_to_ascii_lowercase}
use Rattle.std.proofs.lemmas.Bool.{cases_order}
use Rattle.std.proofs.lemmas.Option.{slice_get_within}
use Rattle.rapid_model.specs.declared.pers_value.PersValue.{PersValue}
use Rattle.rapid_model.specs.Names.{IsOneName}
use Rattle.rapid_model.proofs.Lists.{there_is}
use Rattle.typed_trees.specs.Plain.{TypedPers}
use Rattle.cell_rules.specs.Declared.{Declared, AreOne, AreAlike, AreAlikeBefore}
use Rattle.cell_rules.specs.First.{IsIndexOf}
use Rattle.cell_rules.specs.Given.{IsFor, Finds, Suits, IsInside}
use Rattle.cell_rules.specs.Numbering.{AreNumbered, HasNumber}
use Rattle.cell_rules.proofs.Lists.{same_there}

pub one_symmetric : (d e : Declared) → AreOne d e → AreOne e d
one_symmetric d e one = record { global = one.other_global; other_global = one.global; named = sym one.named }

pub one_transitive : (d e f : Declared) → AreOne d e → AreOne e f → AreOne d f
one_transitive d e f one other = record { global = one.global; other_global = other.other_global; named = one.named ∙ other.named }

pub for_both : (value : PersValue) (d e : Declared) → IsFor value d → IsFor value e → AreOne d e
for_both value d e is other = record { global = is.global; other_global = other.global; named = sym is.named ∙ other.named }

alike_symmetric : (row other : TypedPers) → AreAlike row other → AreAlike other row
alike_symmetric row other alike = record { sort = sym alike.sort; len = sym alike.len }

module _ (ds : List Declared) (alike : AreAlikeBefore (length ds) ds) where
  -- declarations of the same persistent agree, wherever they are
  pub alike_there : (i j : ℕ) (d e : Declared) → slice_get ds i ≡ Some d → slice_get ds j ≡ Some e → AreOne d e → AreAlike d.row e.row
  alike_there i j d e is_d is_e one =
      elim (cases_order i j) [
        | inl equal ↦ let same : d ≡ e = same_there (slice_get ds i) d e is_d (ap (slice_get ds) equal ∙ is_e) in record { sort = ap (λ (x : Declared). x.row.sort) same; len = ap (λ (x : Declared). x.row.len) same }
        | inr differ ↦ elim differ [
          | inl before ↦ alike i j d e before (slice_get_within ds j e is_e) is_d is_e one
          | inr behind ↦ alike_symmetric e.row d.row (alike j i e d behind (slice_get_within ds i d is_d) is_e is_d (one_symmetric d e one))
        ]
      ]

  -- whichever declaration of a persistent a value finds, they agree
  pub found_alike : (value : PersValue) (row other : TypedPers) → Finds ds value row → Finds ds value other → AreAlike row other
  found_alike value row other found also =
      let alike_rows = alike_there found.index also.index found.d also.d found.there also.there (for_both value found.d also.d found.is_for also.is_for) in
      record { sort = ap (λ (r : TypedPers). r.sort) found.is_row ∙ alike_rows.sort ∙ sym (ap (λ (r : TypedPers). r.sort) also.is_row); len = ap (λ (r : TypedPers). r.len) found.is_row ∙ alike_rows.len ∙ sym (ap (λ (r : TypedPers). r.len) also.is_row) }

pub suits_alike : (value : PersValue) (row other : TypedPers) → AreAlike row other → Suits value row → Suits value other
suits_alike value row other alike suits = record { sort = suits.sort ∙ ap Some alike.sort; index = suits.index ∙ ap is_some alike.len }

pub inside_alike : (value : PersValue) (row other : TypedPers) → AreAlike row other → IsInside value.index row.len → IsInside value.index other.len
inside_alike value row other alike is = subst (IsInside value.index) alike.len is

-- two indexes of the same element, if both are given or neither is
pub same_index : (a b : Option ℕ) (element : ℕ) → IsIndexOf a element → IsIndexOf b element → is_some a ≡ is_some b → a ≡ b
same_index None None element is other both = refl
same_index (Some a) None element is other both = absurd (cc both)
same_index None (Some b) element is other both = absurd (cc both)
same_index (Some a) (Some b) element is other both = ap Some (is ∙ sym other)

module _ (ds : List Declared) (ks : List ℕ) (count : ℕ) (is : AreNumbered AreOne ds ks count) where
  -- declarations with the same number have the same name
  pub one_named : (k i j : ℕ) (d e : Declared) → HasNumber ds ks k i d → HasNumber ds ks k j e → IsOneName d.row.name e.row.name
  one_named k i j d e has other =
      elim (cases_order i j) [
        | inl equal ↦ let same : d ≡ e = same_there (slice_get ds i) d e has.there (ap (slice_get ds) equal ∙ other.there) in ap (λ (x : Declared). str_to_ascii_lowercase x.row.name) same
        | inr differ ↦ elim differ [
          | inl before ↦ ((is.one i j d e k k before has.there other.there has.numbered other.numbered).0 refl).named
          | inr behind ↦ sym ((is.one j i e d k k behind other.there has.there other.numbered has.numbered).0 refl).named
        ]
      ]

  -- the declaration of a persistent that has a number has that number too
  pub one_number : (k i j : ℕ) (d e : Declared) → HasNumber ds ks k i d → slice_get ds j ≡ Some e → AreOne d e → HasNumber ds ks k j e
  one_number k i j d e has there one =
      let (l, at) = there_is ks j (omega (arith, is.as_many, slice_get_within ds j e there)) in
      let equal : k ≡ l =
      elim (cases_order i j) [
        | inl equal ↦ same_there (slice_get ks i) k l has.numbered (ap (slice_get ks) equal ∙ at)
        | inr differ ↦ elim differ [
          | inl before ↦ (is.one i j d e k l before has.there there has.numbered at).1 one
          | inr behind ↦ sym ((is.one j i e d l k behind there has.there at has.numbered).1 (one_symmetric d e one))
        ]
      ] in
      record { there = there; numbered = at ∙ ap Some (sym equal) }
