-- What is kept beside code that a task can run: where the first values of routines lie among the runs of them, and the
-- owners of operations.
use Rattle.std.specs.Prelude.{◌≡◌, ℕ, ◌<◌, List, length, map, slice_get, Some}
use Rattle.stack_code.specs.CodeData.{CodeData}
use Rattle.stack_code.specs.Firsts.{in_full}
use Rattle.stack_code.specs.declared.first_run.FirstRun.{FirstRun}
use Rattle.stack_code.specs.declared.owner.Owner.{Owner}
use Rattle.task_code.specs.Owners.{IsNumberAt}
use Rattle.machine_stacks.specs.Starts.{index_of}
use Rattle.machine_stacks.specs.declared.run_start.RunStart.{RunStart}

-- for each of so many operations the number of its owner
abbrev pub NamesOwners : List Owner → ℕ → List ℕ → Type 0
NamesOwners owners count numbers = (pc : ℕ) → pc < count → (number : ℕ) × (slice_get numbers pc ≡ Some number) × IsNumberAt owners pc number

-- the runs are those of the code, each routine's values begin at its start, and each operation has the number of its
-- owner
pub record IsLoaded (code : CodeData) (runs : List FirstRun) (starts : List RunStart) (owners : List ℕ) : Type 0 where
  pub values : in_full runs ≡ code.firsts
  pub indexes : map (index_of runs) starts ≡ map (λ row. row.first) code.routines
  pub named : NamesOwners code.owners (length code.ops) owners
