-- The options of each instruction.
use Rattle.std.proofs.Common.{◌≡◌, true, map, length, refl}
use Rattle.rapid_model.specs.Names.{differ}
use Rattle.rapid_model.specs.declared.instruction.Instruction.{Instruction}
use Rattle.rapid_model.specs.declared.instruction.Instruction.TheVariants as instructions
use Rattle.rapid_builtins.specs.declared.option_choice.Choice.TheVariants as choices
use Rattle.rapid_builtins.specs.Calls.{options, choice}

pub names_differ : (i : Instruction) → differ (map (λ o. o.name) (options i)) ≡ true
names_differ instructions.MoveAbsJ = refl
names_differ instructions.TPWrite = refl
names_differ instructions.ISignalDI = refl
names_differ instructions.ISignalDO = refl
names_differ instructions.IPers = refl
names_differ instructions.WZLimJointDef = refl
names_differ instructions.WZHomeJointDef = refl
names_differ instructions.WZLimSup = refl
names_differ instructions.WZDOSet = refl
names_differ _ = refl

pub two_where_excluded : (i : Instruction) → ¬ (choice i ≡ choices.Any) → ¬ (choice i ≡ choices.InsideAndOne) → length (options i) ≡ 2
two_where_excluded instructions.TPWrite any inside = refl
two_where_excluded instructions.WZLimJointDef any inside = refl
two_where_excluded instructions.WZHomeJointDef any inside = refl
two_where_excluded instructions.WZLimSup any inside = refl
two_where_excluded instructions.WZDOSet any inside = absurd (inside refl)
two_where_excluded _ any inside = absurd (any refl)

pub three_with_inside : (i : Instruction) → choice i ≡ choices.InsideAndOne → length (options i) ≡ 3
three_with_inside instructions.WZDOSet is = refl
three_with_inside _ is = absurd cc
