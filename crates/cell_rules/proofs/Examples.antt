-- Two tasks that share an array and a meeting: the first declares the array without values, the second with values and
-- in capitals, and the script gives the second element another value. Each task has its own persistent, with the same
-- name.
use Rattle.std.proofs.Common.{◌≡◌, ℕ, refl, ap, true, false, pos, List, [], ◌∷◌, Option, Some, None, Ok, Err, codes, arith}
use Rattle.rapid_model.specs.CellData.{CellData}
use Rattle.rapid_model.specs.ScriptData.{ScriptData}
use Rattle.rapid_model.specs.declared.pers_cell.PersCell.{PersCell}
use Rattle.rapid_model.specs.declared.pers_value.PersValue.{PersValue}
use Rattle.rapid_model.specs.declared.script_rule.ScriptRule.TheVariants.{Kind, NoSuch, Range, Twice}
use Rattle.rapid_model.specs.declared.sort.Sort.TheVariants as sorts
use Rattle.rapid_model.specs.declared.value.Value.{Value}
use Rattle.rapid_model.specs.declared.value.Value.TheVariants as values
use Rattle.typed_trees.specs.Plain.{TypedPers, TypedTree}
use Rattle.cell_script.specs.Break.{element_key}
use Rattle.cell_assembly.specs.Cells.{Clash, InScript, Making}
use Rattle.cell_assembly.specs.Made.{MadeCell}
use Rattle.cell_rules.specs.Cell.{IsCellOf}
use Rattle.cell_rules.specs.Refused.{IsRefused}
use Rattle.cell_rules.proofs.Right.{made_right, refused_right}

abbrev num : ℕ → Value
num thousandths = values.Num (pos thousandths)

-- PERS num parts{..};
abbrev parts : List ℕ → ℕ → ℕ → Option (List Value) → TypedPers
parts name at len first = record { name = name; «module» = 0; at = at; own = false; sort = sorts.Num; len = Some len; first = first }

-- TASK PERS bool seen;
abbrev seen : ℕ → TypedPers
seen at = record { name = codes "seen"; «module» = 0; at = at; own = true; sort = sorts.Bool; len = None; first = None }

abbrev tree : List TypedPers → List (List ℕ) → List ℕ → List ℕ → TypedTree
tree pers meetings pers_of meeting_of = record { modules = 1; tasks = codes "A" ∷ codes "B" ∷ []; slots = []; pers = pers; meetings = meetings; routines = []; main = 0; pers_of = pers_of; meeting_of = meeting_of; axes = 0 }

abbrev first_task : List ℕ → List ℕ → TypedTree
first_task pers_of meeting_of = tree (parts (codes "parts") 12 2 None ∷ seen 30 ∷ []) (codes "go" ∷ []) pers_of meeting_of

-- its array has that many elements, and these values
abbrev second_task : ℕ → Option (List Value) → List ℕ → List ℕ → TypedTree
second_task len first pers_of meeting_of = tree (seen 12 ∷ parts (codes "PARTS") 40 len first ∷ []) (codes "stop" ∷ codes "Go" ∷ []) pers_of meeting_of

abbrev two : Option (List Value)
two = Some (num 1_000 ∷ num 2_000 ∷ [])

-- a value for an element
abbrev gives : List ℕ → Option ℕ → Value → PersValue
gives name index value = record { name = name; index = index; value = value }

abbrev script : List PersValue → ScriptData
script given = record { version = 1; steps = 100; signals = []; tasks = []; pers = given; zones = []; inputs = [] }

abbrev cell : Value → CellData
cell second = record {
  steps = 100;
  tasks = [];
  signals = [];
  pers = record { name = codes "parts"; owner = None; sort = sorts.Num; len = Some 2; first = num 1_000 ∷ second ∷ [] }
      ∷ record { name = codes "seen"; owner = Some 0; sort = sorts.Bool; len = None; first = values.Bool false ∷ [] }
      ∷ record { name = codes "seen"; owner = Some 1; sort = sorts.Bool; len = None; first = values.Bool false ∷ [] } ∷ [];
  meetings = codes "go" ∷ codes "stop" ∷ [];
  zones = [];
  inputs = [];
}

abbrev tasks : List TypedTree
tasks = first_task [] [] ∷ second_task 2 two [] [] ∷ []

abbrev numbered : List TypedTree
numbered = first_task (0 ∷ 1 ∷ []) (0 ∷ []) ∷ second_task 2 two (2 ∷ 0 ∷ []) (1 ∷ 0 ∷ []) ∷ []

abbrev given : List PersValue
given = gives (codes "Parts") (Some 2) (num 7_000) ∷ []

-- the second element has the script's value, the first that of the one declaration with values
pub example_right : IsCellOf (script given) tasks (cell (num 7_000)) numbered
example_right = (made_right (script given) tasks refl refl (cell (num 7_000)) numbered).0 refl

-- the num of the second element of the first persistent
second_of : Making MadeCell → ℕ
second_of (Ok made) = of_pers made.cell.pers
  where
    of_first : List Value → ℕ
    of_first (first ∷ values.Num (pos n) ∷ more) = n
    of_first _ = 0

    of_pers : List PersCell → ℕ
    of_pers [] = 0
    of_pers (p ∷ ps) = of_first p.first
second_of (Err broken) = 0

-- and not the declaration's
pub not_declared : IsCellOf (script given) tasks (cell (num 2_000)) numbered → ⊥
unfolding second_of
not_declared is = let e : 7_000 ≡ 2_000 = ap second_of ((made_right (script given) tasks refl refl (cell (num 2_000)) numbered).1 is) in omega (arith, e)

-- an array of another length clashes, at the later declaration, even though the script is wrong too
pub example_clash : IsRefused (script (gives (codes "seen") None (values.Bool true) ∷ [])) (first_task [] [] ∷ second_task 3 None [] [] ∷ []) (Clash 1 0 40)
example_clash = (refused_right (script (gives (codes "seen") None (values.Bool true) ∷ [])) (first_task [] [] ∷ second_task 3 None [] [] ∷ []) refl refl (Clash 1 0 40)).0 refl

-- values of the script that break a rule: for no global persistent, of another type, for no element, and a second one
-- for the same element
pub example_no_such : IsRefused (script (gives (codes "seen") None (values.Bool true) ∷ [])) tasks (InScript (element_key (codes "pers") 0) NoSuch)
example_no_such = (refused_right (script (gives (codes "seen") None (values.Bool true) ∷ [])) tasks refl refl (InScript (element_key (codes "pers") 0) NoSuch)).0 refl

pub example_kind : IsRefused (script (gives (codes "parts") (Some 3) (values.Bool true) ∷ [])) tasks (InScript (element_key (codes "pers") 0) Kind)
example_kind = (refused_right (script (gives (codes "parts") (Some 3) (values.Bool true) ∷ [])) tasks refl refl (InScript (element_key (codes "pers") 0) Kind)).0 refl

pub example_range : IsRefused (script (gives (codes "parts") (Some 3) (num 0) ∷ [])) tasks (InScript (element_key (codes "pers") 0) Range)
example_range = (refused_right (script (gives (codes "parts") (Some 3) (num 0) ∷ [])) tasks refl refl (InScript (element_key (codes "pers") 0) Range)).0 refl

pub example_twice : IsRefused (script (gives (codes "parts") (Some 2) (num 0) ∷ gives (codes "PARTS") (Some 2) (num 0) ∷ [])) tasks (InScript (element_key (codes "pers") 1) Twice)
example_twice = (refused_right (script (gives (codes "parts") (Some 2) (num 0) ∷ gives (codes "PARTS") (Some 2) (num 0) ∷ [])) tasks refl refl (InScript (element_key (codes "pers") 1) Twice)).0 refl
