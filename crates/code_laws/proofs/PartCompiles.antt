-- The code that an orderly tree compiles to has the tree's routines, also with more appended.
use Rattle.std.proofs.Common.{◌≡◌, sym, ◌∙◌, ℕ, ◌+◌, List, [], ◌∷◌, ◌++◌, length, Some, slice_get, arith}
use Rattle.std.proofs.Math.Nat.{le-max_left}
use Rattle.std.proofs.lemmas.Option.{slice_get_within}
use Rattle.rapid_model.proofs.Lists.{at_left}
use Rattle.typed_trees.specs.Plain.{TypedRoutine, TypedTree}
use Rattle.stack_code.specs.Compiled.{compiled, deepest_in, placed_in, routine_code}
use Rattle.stack_code.specs.Placed.{Placed, placed_at, StandsAt}
use Rattle.task_code.proofs.Rows.{placed_there}
use Rattle.tree_typing.proofs.Rows.{at_right}
use Rattle.code_laws.specs.Orderly.{IsOrderly}
use Rattle.code_laws.proofs.CodeOf.{Found, IsCodeOf}
use Rattle.code_laws.proofs.Compiles.{compiled_is, target_of}
use Rattle.code_laws.proofs.Spots.{each_stands}
use Rattle.code_laws.specs.Routines.{HasRoutine, HasRoutines, extended}

has_found : (tree : TypedTree) (number : ℕ) (routine : TypedRoutine) → Found tree (target_of tree) number routine → HasRoutine tree (compiled tree) number routine
has_found tree number routine found = record {
  entry = found.entry;
  first = found.first;
  row = found.row;
  behind = found.behind;
  stands = found.code;
  others = found.others;
  firsts = found.firsts;
  handler = found.handler;
  room = found.room;
}

pub compiled_has : (tree : TypedTree) → IsOrderly tree → HasRoutines tree (compiled tree)
compiled_has tree orderly =
    let is : IsCodeOf tree (target_of tree) = compiled_is tree orderly in
    record {
      routines = λ number routine there. has_found tree number routine (is.found number routine there);
      missing = is.missing;
      main = is.main;
      tasks = is.tasks;
      fits = is.fits;
    }

-- what was in it is still in it
still_there : (tree : TypedTree) (more : List Placed) (room pc : ℕ) (p : Placed) → placed_at (compiled tree) pc ≡ Some p → placed_at (extended tree more room) pc ≡ Some p
still_there tree more room pc p there =
    let laid : slice_get (placed_in tree) pc ≡ Some p = sym (placed_there (placed_in tree) pc) ∙ there in
    placed_there (placed_in tree ++ more) pc ∙ (at_left (placed_in tree) more pc (slice_get_within (placed_in tree) pc p laid) ∙ laid)

still_stands : (tree : TypedTree) (more : List Placed) (room pc : ℕ) (ps : List Placed) → StandsAt (compiled tree) pc ps → StandsAt (extended tree more room) pc ps
still_stands tree more room pc [] stands = tt
still_stands tree more room pc (p ∷ ps) stands = (still_there tree more room pc p stands.0, still_stands tree more room (pc + 1) ps stands.1)

has_still : (tree : TypedTree) (more : List Placed) (room number : ℕ) (routine : TypedRoutine) → HasRoutine tree (compiled tree) number routine
    → HasRoutine tree (extended tree more room) number routine
has_still tree more room number routine has = record {
  entry = has.entry;
  first = has.first;
  row = has.row;
  behind = has.behind;
  stands = still_stands tree more room has.entry (routine_code tree has.entry routine has.behind) has.stands;
  others = has.others;
  firsts = has.firsts;
  handler = has.handler;
  room = omega (arith, has.room, le-max_left (deepest_in tree tree.routines) room);
}

pub extended_has : (tree : TypedTree) (more : List Placed) (room : ℕ) → IsOrderly tree → HasRoutines tree (extended tree more room)
extended_has tree more room orderly =
    let has : HasRoutines tree (compiled tree) = compiled_has tree orderly in
    record {
      routines = λ number routine there. has_still tree more room number routine (has.routines number routine there);
      missing = has.missing;
      main = has.main;
      tasks = has.tasks;
      fits = has.fits;
    }

pub behind_stands : (tree : TypedTree) (more : List Placed) (room : ℕ) → StandsAt (extended tree more room) (length (placed_in tree)) more
behind_stands tree more room =
    each_stands (extended tree more room) (length (placed_in tree)) more (λ k. placed_there (placed_in tree ++ more) (length (placed_in tree) + k) ∙ at_right (placed_in tree) more k)
