-- The kinds of a routine's rows, place by place: parameters, data, FORs.
use Rattle.std.proofs.Common.{◌≡◌, ℕ, ◌+◌, ◌<◌, true, false, ◌++◌, length, map, replicate, Some, None, slice_get, refl, ap, ◌∙◌, arith}
use Rattle.std.specs.Option.{option_map}
use Rattle.std.proofs.lemmas.List.{length-map}
use Rattle.std.proofs.lemmas.Option.{slice_get_within, slice_get-map}
use Rattle.rapid_model.specs.declared.mode.Mode.{Mode}
use Rattle.rapid_model.specs.declared.mode.Mode.TheVariants as modes
use Rattle.rapid_model.specs.declared.sort.Sort.{Sort}
use Rattle.rapid_model.proofs.Lists.{at_left}
use Rattle.typed_trees.specs.Plain.{TypedLocal, TypedParam, TypedRoutine}
use Rattle.name_laws.specs.Meant.{is_by_value}
use Rattle.tree_typing.specs.Kinds.{Counts, Owns, Refers, kind_by, kind_of, kinds_of, local_kind}
use Rattle.tree_typing.proofs.Rows.{at_repeated, at_right}

module _ (t : TypedRoutine) where
  pub param_kind : (k : ℕ) (p : TypedParam) → slice_get t.params k ≡ Some p → slice_get (kinds_of t) k ≡ Some (kind_of p)
  param_kind k p is =
      let within = slice_get_within t.params k p is in
      let long = length-map t.params kind_of in
      at_left (map kind_of t.params) (map local_kind t.locals ++ replicate t.loops Counts) k (omega (arith, within, long))
      ∙ slice_get-map kind_of t.params k ∙ ap (option_map kind_of) is

  -- after the parameters
  behind : (k n : ℕ) → n ≡ length t.params + k → slice_get (kinds_of t) n ≡ slice_get (map local_kind t.locals ++ replicate t.loops Counts) k
  behind k n e =
      let long = length-map t.params kind_of in
      let same : n ≡ length (map kind_of t.params) + k = omega (arith, e, long) in
      ap (slice_get (kinds_of t)) same ∙ at_right (map kind_of t.params) (map local_kind t.locals ++ replicate t.loops Counts) k

  pub own_kind : (k n : ℕ) (row : TypedLocal) → n ≡ length t.params + k → slice_get t.locals k ≡ Some row → slice_get (kinds_of t) n ≡ Some (local_kind row)
  own_kind k n row e is =
      let within = slice_get_within t.locals k row is in
      let long = length-map t.locals local_kind in
      behind k n e
      ∙ at_left (map local_kind t.locals) (replicate t.loops Counts) k (omega (arith, within, long))
      ∙ slice_get-map local_kind t.locals k ∙ ap (option_map local_kind) is

  pub loop_kind : (k n : ℕ) → n ≡ (length t.params + length t.locals) + k → k < t.loops → slice_get (kinds_of t) n ≡ Some Counts
  loop_kind k n e few =
      let long = length-map t.locals local_kind in
      let place : n ≡ length t.params + (length (map local_kind t.locals) + k) = omega (arith, e, long) in
      behind (length (map local_kind t.locals) + k) n place
      ∙ at_right (map local_kind t.locals) (replicate t.loops Counts) k
      ∙ at_repeated t.loops k Counts few

pub value_kind : (mode : Mode) (sort : Sort) → is_by_value mode ≡ true → kind_by mode sort ≡ Owns sort None
value_kind modes.Value sort e = refl
value_kind _ sort e = absurd cc

pub reference_kind : (mode : Mode) (sort : Sort) → is_by_value mode ≡ false → kind_by mode sort ≡ Refers sort
reference_kind modes.Value sort e = absurd cc
reference_kind _ sort e = refl
