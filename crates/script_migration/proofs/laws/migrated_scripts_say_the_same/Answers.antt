use Rattle.std.proofs.Common.{refl}
use Rattle.script_migration.proofs.Same.{same_script}
use Rattle.script_migration.proofs.laws.migrated_scripts_say_the_same.Goals as goal

pub returns-clause-script : goal.returns-clause-script
returns-clause-script c = λ members script is. same_script members script is

pub returns-clause-cell : goal.returns-clause-cell
returns-clause-cell c = λ script trees. refl
