-- Persistents as made of the declarations so far: their numbers, and what is known about each.
use Rattle.std.proofs.Common.{◌≡◌, ℕ, Bool, true, false, ◌&&◌, List, length, replicate, Option, Some, None, is_none, slice_get, if◌then◌else◌, refl, ap, sym, ◌∙◌, inl, inr}
use Rattle.std.specs.Str.{str_eq_ignore_ascii_case, str_to_ascii_lowercase}
use Rattle.std.proofs.lemmas.Bool.{and_parts, cases_order}
use Rattle.std.proofs.lemmas.Slice.Eq.{bytes_eq-Decides}
use Rattle.rapid_model.specs.Sorts.{width}
use Rattle.rapid_model.specs.declared.value.Value.{Value}
use Rattle.rapid_model.specs.Names.{IsOneName}
use Rattle.cell_assembly.specs.Cells.{PersInfo, is_global}
use Rattle.cell_rules.specs.Declared.{Declared, AreOne}
use Rattle.cell_rules.specs.First.{IsDeclared, IsUndeclared, owner_of}
use Rattle.cell_rules.specs.Numbering.{AreNumbered, HasNumber, IsFirst}
use Rattle.cell_rules.proofs.Alike.{one_named}
use Rattle.cell_rules.proofs.Lists.{same_there}

-- names are the same, as RAPID compares them
pub one_name : (name other : List ℕ) → str_eq_ignore_ascii_case name other ≡ true → IsOneName name other
one_name name other is = (bytes_eq-Decides (str_to_ascii_lowercase name) (str_to_ascii_lowercase other)).0 is

pub named_alike : (name other : List ℕ) → IsOneName name other → str_eq_ignore_ascii_case name other ≡ true
named_alike name other one = (bytes_eq-Decides (str_to_ascii_lowercase name) (str_to_ascii_lowercase other)).1 one

-- what declarations say about first values
abbrev pub AreDeclared : List Declared → List ℕ → ℕ → Option (List Value) → Type 0
AreDeclared ds ks k None = IsUndeclared ds ks k
AreDeclared ds ks k (Some first) = IsDeclared ds ks k first

-- a persistent made of the declarations with its number
pub record IsInfo (ds : List Declared) (ks : List ℕ) (k : ℕ) (p : PersInfo) : Type 0 where
  pub d : Declared
  pub is_first : IsFirst ds ks k d
  pub name : p.name ≡ d.row.name
  pub owner : p.owner ≡ owner_of d
  pub sort : (index : ℕ) (e : Declared) → HasNumber ds ks k index e → p.sort ≡ e.row.sort
  pub len : (index : ℕ) (e : Declared) → HasNumber ds ks k index e → p.len ≡ e.row.len
  pub declared : AreDeclared ds ks k p.declared

-- all are made so, and the script has said nothing about them yet
pub record AreInfos (ds : List Declared) (ks : List ℕ) (ps : List PersInfo) : Type 0 where
  pub numbered : AreNumbered AreOne ds ks (length ps)
  pub infos : (k : ℕ) (p : PersInfo) → slice_get ps k ≡ Some p → IsInfo ds ks k p
  pub not_given : (k : ℕ) (p : PersInfo) → slice_get ps k ≡ Some p → p.given ≡ replicate (width p.len) None

-- a global persistent with a name
pub global_is : (name : List ℕ) (p : PersInfo) → is_global name p ≡ true → (p.owner ≡ None) × IsOneName name p.name
global_is name p is = let (free, named) = and_parts (is_none p.owner) (str_eq_ignore_ascii_case name p.name) is in (no_owner p.owner free, one_name name p.name named)
  where
    no_owner : (o : Option ℕ) → is_none o ≡ true → o ≡ None
    no_owner None e = refl
    no_owner (Some task) e = absurd (cc e)

is_global_from : (name : List ℕ) (p : PersInfo) → p.owner ≡ None → IsOneName name p.name → is_global name p ≡ true
is_global_from name p free named = ap (λ o. is_none o && str_eq_ignore_ascii_case name p.name) free ∙ named_alike name p.name named

pub owner_global : (d : Declared) → owner_of d ≡ None → d.row.own ≡ false
owner_global d none = of_own d.row.own refl none
  where
    of_own : (own : Bool) → d.row.own ≡ own → ◌≡◌ {A = Option ℕ} (if own then Some d.task else None) None → d.row.own ≡ false
    of_own true e none = absurd (cc none)
    of_own false e none = e

global_owner : (d : Declared) → d.row.own ≡ false → owner_of d ≡ None
global_owner d own = ap (λ o. let owner : Option ℕ = if o then Some d.task else None in owner) own

module _ (ds : List Declared) (ks : List ℕ) (count : ℕ) (numbered : AreNumbered AreOne ds ks count) where
  -- the persistent of a global declaration is global and has its name
  pub info_global : (k index : ℕ) (p : PersInfo) (e : Declared) → IsInfo ds ks k p → HasNumber ds ks k index e → e.row.own ≡ false → (name : List ℕ) → IsOneName name e.row.name → is_global name p ≡ true
  info_global k index p e is has own name named =
      let first = is.is_first in
      let d_named = one_named ds ks count numbered k first.index index is.d e first.has_number has in
      is_global_from name p (is.owner ∙ global_owner is.d (global_too first.index is.d first.has_number)) (named ∙ sym d_named ∙ ap str_to_ascii_lowercase (sym is.name))
    where
      global_too : (other : ℕ) (d : Declared) → HasNumber ds ks k other d → d.row.own ≡ false
      global_too other d also =
          elim (cases_order other index) [
            | inl equal ↦ ap (λ (x : Declared). x.row.own) (same_there (slice_get ds other) d e also.there (ap (slice_get ds) equal ∙ has.there)) ∙ own
            | inr differ ↦ elim differ [
              | inl before ↦ ((numbered.one other index d e k k before also.there has.there also.numbered has.numbered).0 refl).global
              | inr behind ↦ ((numbered.one index other e d k k behind has.there also.there has.numbered also.numbered).0 refl).other_global
            ]
          ]

  -- and a global persistent with a name has global declarations with that name
  pub info_one : (k : ℕ) (p : PersInfo) (name : List ℕ) → (is : IsInfo ds ks k p) → is_global name p ≡ true → (is.d.row.own ≡ false) × IsOneName name is.d.row.name
  info_one k p name is global =
      let (free, named) = global_is name p global in
      (owner_global is.d (sym is.owner ∙ free), named ∙ ap str_to_ascii_lowercase is.name)
