-- The first values of a persistent, from what its declarations and the script say.
use Rattle.std.proofs.Common.{◌≡◌, ◌⊎◌, ℕ, zero, suc, ◌+◌, true, ◌&&◌, ◌==◌, List, [], ◌∷◌, ◌++◌, length, map, Option, Some, None, slice_get, refl, ap, sym, subst, ◌∙◌, inl, inr}
use Rattle.std.specs.List.{list_all}
use Rattle.std.proofs.lemmas.Bool.{and_parts, eqb-true}
use Rattle.std.proofs.lemmas.List.{length-replicate}
use Rattle.rapid_model.specs.Limits.{is_within, holds_where_there}
use Rattle.rapid_model.specs.Sorts.{has_values, is_value_of, width}
use Rattle.rapid_model.specs.declared.pers_value.PersValue.{PersValue}
use Rattle.rapid_model.specs.declared.sort.Sort.{Sort}
use Rattle.rapid_model.specs.declared.sort.Sort.TheVariants as sorts
use Rattle.rapid_model.specs.declared.value.Value.{Value}
use Rattle.rapid_values.specs.Values.{start_value}
use Rattle.typed_trees.specs.Plain.{TypedPers, TypedTree}
use Rattle.typed_trees.specs.Sound.{fits, is_sound, has_sound_pers}
use Rattle.cell_assembly.specs.Cells.{PersInfo}
use Rattle.cell_assembly.specs.Made.{declared_values, over, pers_cell, start_of}
use Rattle.cell_assembly.proofs.SoundInfo.{over_as_many}
use Rattle.cell_rules.specs.Declared.{Declared, declared_from, of_task}
use Rattle.cell_rules.specs.First.{IsFirstValue, IsPersistent, IsGiven, IsNotGiven, ByScript, ByDeclaration, ByType}
use Rattle.cell_rules.proofs.Infos.{AreDeclared, IsInfo}
use Rattle.cell_rules.proofs.Lists.{all_alike}

-- an element is what the script gives, or else what it has otherwise
over_there : (given : List (Option Value)) (vs : List Value) (element : ℕ) (v : Value) → slice_get (over given vs) element ≡ Some v
    → (slice_get given element ≡ Some (Some v)) ⊎ ((slice_get given element ≡ Some None) × (slice_get vs element ≡ Some v))
over_there [] [] element v at = absurd (cc at)
over_there [] (w ∷ vs) element v at = absurd (cc at)
over_there (None ∷ given) [] element v at = absurd (cc at)
over_there (Some t ∷ given) [] element v at = absurd (cc at)
over_there (Some t ∷ given) (w ∷ vs) zero v at = let e : t ≡ v = cc at in inl (ap (λ x. Some (Some x)) e)
over_there (None ∷ given) (w ∷ vs) zero v at = inr (refl, at)
over_there (Some t ∷ given) (w ∷ vs) (suc element) v at = over_there given vs element v at
over_there (None ∷ given) (w ∷ vs) (suc element) v at = over_there given vs element v at

-- the initial value of an element of a type with values
starts : (sort : Sort) → has_values sort ≡ true → start_value sort ≡ Some (start_of sort)
starts sorts.Num e = refl
starts sorts.Bool e = refl
starts sorts.Text e = refl
starts sorts.Tasks e = refl
starts sorts.RobJoint e = refl
starts sorts.ExtJoint e = refl
starts sorts.JointTarget e = refl
starts sorts.SpeedData e = refl
starts _ e = absurd (cc e)

-- declarations of sound trees are sound
sound_in : (task : ℕ) (rows : List TypedPers) (rest : List Declared) → list_all is_sound rows ≡ true → ((i : ℕ) (d : Declared) → slice_get rest i ≡ Some d → is_sound d.row ≡ true)
    → (i : ℕ) (d : Declared) → slice_get (map (of_task task) rows ++ rest) i ≡ Some d → is_sound d.row ≡ true
sound_in task [] rest all more i d at = more i d at
sound_in task (row ∷ rows) rest all more zero d at = let e : of_task task row ≡ d = cc at in subst (λ (x : Declared). is_sound x.row ≡ true) e (and_parts (is_sound row) (list_all is_sound rows) all).0
sound_in task (row ∷ rows) rest all more (suc i) d at = sound_in task rows rest (and_parts (is_sound row) (list_all is_sound rows) all).1 more i d at

pub sound_there : (task : ℕ) (trees : List TypedTree) → list_all has_sound_pers trees ≡ true → (i : ℕ) (d : Declared) → slice_get (declared_from task trees) i ≡ Some d → is_sound d.row ≡ true
sound_there task [] all i d at = absurd (cc at)
sound_there task (tree ∷ trees) all i d at =
    let (here, more) = and_parts (has_sound_pers tree) (list_all has_sound_pers trees) all in
    sound_in task tree.pers (declared_from (task + 1) trees) here (sound_there (task + 1) trees more) i d at

-- a sound declaration's type has values, and it gives as many as its elements
sound_values : (row : TypedPers) → is_sound row ≡ true → has_values row.sort ≡ true
sound_values row sound =
    let (front, _) = and_parts (has_values row.sort && holds_where_there (is_within 1 1_000) row.len) (holds_where_there (fits row) row.first) sound in
    (and_parts (has_values row.sort) (holds_where_there (is_within 1 1_000) row.len) front).0

sound_length : (row : TypedPers) (first : List Value) → is_sound row ≡ true → row.first ≡ Some first → length first ≡ width row.len
sound_length row first sound gives =
    let (_, fitting) = and_parts (has_values row.sort && holds_where_there (is_within 1 1_000) row.len) (holds_where_there (fits row) row.first) sound in
    let fit : fits row first ≡ true = ap (holds_where_there (fits row)) (sym gives) ∙ fitting in
    eqb-true (length first) (width row.len) (and_parts (length first == width row.len) (list_all (is_value_of row.sort) first) fit).0

module _ (given : List PersValue) (ds : List Declared) (ks : List ℕ) (k : ℕ) (p : PersInfo) (is : IsInfo ds ks k p) (sound : (i : ℕ) (d : Declared) → slice_get ds i ≡ Some d → is_sound d.row ≡ true) (each : length p.given ≡ width p.len)
    (is_given : (index : ℕ) (v : Value) → slice_get p.given index ≡ Some (Some v) → IsGiven given ds ks k index v) (not_given : (index : ℕ) → slice_get p.given index ≡ Some None → IsNotGiven given ds ks k index) where
  declared_as_many : (declared : Option (List Value)) → AreDeclared ds ks k declared → length (declared_values (record p { declared = declared })) ≡ width p.len
  declared_as_many None none = length-replicate (width p.len) (start_of p.sort)
  declared_as_many (Some first) gives =
      sound_length gives.d.row first (sound gives.index gives.d gives.has_number.there) gives.gives ∙ ap width (sym (is.len gives.index gives.d gives.has_number))

  below : (declared : Option (List Value)) → AreDeclared ds ks k declared → (element : ℕ) (v : Value) → IsNotGiven given ds ks k element → slice_get (declared_values (record p { declared = declared })) element ≡ Some v
      → IsFirstValue given ds ks k p.sort element v
  below None none element v quiet at =
      let d = is.d in
      let first = is.is_first in
      let valued = ap has_values (is.sort first.index d first.has_number) ∙ sound_values d.row (sound first.index d first.has_number.there) in
      ByType quiet none (starts p.sort valued ∙ ap Some (all_alike (width p.len) (start_of p.sort) element v at))
  below (Some first) gives element v quiet at = ByDeclaration quiet first gives at

  -- the persistent in the cell
  pub persistent_right : IsPersistent given ds ks k (pers_cell p)
  persistent_right =
      let vs = declared_values p in
      let long = declared_as_many p.declared is.declared in
      record {
        d = is.d;
        is_first = is.is_first;
        name = is.name;
        owner = is.owner;
        sort = is.sort;
        len = is.len;
        as_many = over_as_many p.given vs (each ∙ sym long) ∙ long;
        first = λ element v at. elim (over_there p.given vs element v at) [
          | inl here ↦ ByScript (is_given element v here)
          | inr elsewhere ↦ below p.declared is.declared element v (not_given element elsewhere.0) elsewhere.1
        ];
      }
