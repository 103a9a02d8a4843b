-- What names mean in two small modules.
use Rattle.std.proofs.Common.{◌≡◌, ℕ, true, false, [], ◌∷◌, Option, Some, None, List, codes, refl}
use Rattle.raw_trees.specs.Plain.{PlainDatum, PlainModule, PlainName, PlainRoutine, Datum, Routine, Number, For, NoStmts}
use Rattle.raw_trees.specs.declared.raw_datum.DatumKind.TheVariants as kinds
use Rattle.rapid_model.specs.declared.mode.Mode.TheVariants as modes
use Rattle.rapid_model.specs.declared.routine_kind.RoutineKind.TheVariants as routines
use Rattle.data_scopes.specs.declared.meant.Meant.{Meant}
use Rattle.data_scopes.specs.declared.meant.Meant.TheVariants as meants
use Rattle.data_scopes.specs.Numbers.{tables_of}
use Rattle.data_scopes.specs.Scopes.{meaning}

abbrev word : List ℕ → PlainName
word text = record { text = text; at = 0 }

abbrev num : List ℕ → PlainDatum
num text = record { kind = kinds.Var; sort = word (codes "num"); name = word text; len = None; first = None; at = 0 }

-- PROC main(num B), with VAR num i and FOR i
abbrev main : PlainRoutine
main = record {
  local = false;
  kind = routines.Proc;
  result = None;
  name = word (codes "main");
  params = record { mode = modes.Value; sort = word (codes "num"); name = word (codes "B"); at = 0 } ∷ [];
  locals = num (codes "i") ∷ [];
  list = For 0 (word (codes "i")) (Number 0 (codes "1")) (Number 0 (codes "2")) None NoStmts ∷ [];
  handler = None;
  at = 0;
}

-- LOCAL VAR num a, VAR num A, VAR num b and the routine
abbrev one : PlainModule
one = record { name = word (codes "one"); attributes = []; items = Datum true false (num (codes "a")) 0 ∷ Datum false false (num (codes "A")) 0 ∷ Datum false false (num (codes "b")) 0 ∷ Routine main ∷ []; at = 0 }

abbrev two : PlainModule
two = record { name = word (codes "two"); attributes = []; items = []; at = 0 }

abbrev meant : ℕ → Option ℕ → Option ℕ → List ℕ → Option Meant
meant number routine within text =
    meaning (tables_of (one ∷ two ∷ []) []) (record { «module» = number; routine = routine; within = within; at = 0 }) text

-- a LOCAL item in its module, and the other one of its name elsewhere
local_inside : meant 0 None None (codes "A") ≡ Some (meants.Slot 0)
local_inside = refl

global_elsewhere : meant 1 None None (codes "a") ≡ Some (meants.Slot 1)
global_elsewhere = refl

-- a parameter hides the item of its name, only in its routine
parameter_inside : meant 0 (Some 0) None (codes "b") ≡ Some (meants.Local 0)
parameter_inside = refl

item_outside : meant 0 None None (codes "b") ≡ Some (meants.Slot 2)
item_outside = refl

-- the variable of a FOR in its list, and after it, the datum that it hides
for_inside : meant 0 (Some 0) (Some 0) (codes "I") ≡ Some (meants.For 0)
for_inside = refl

datum_outside : meant 0 (Some 0) None (codes "i") ≡ Some (meants.Local 1)
datum_outside = refl
