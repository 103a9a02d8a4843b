-- When an instruction has the arguments and options that it needs.
use Rattle.std.specs.Prelude.{◌≡◌, ◌⊎◌, ◌≤◌, not, ◌||◌, IsTrue, ℕ, List, [], ◌∷◌, length, Option, Some, None, ⊤}
use Rattle.rapid_model.specs.declared.instruction.Instruction.{Instruction}
use Rattle.rapid_builtins.specs.Calls as builtins
use Rattle.rapid_builtins.specs.Calls.{OptionRow, choice, instruction_needs, needs_arm}
use Rattle.rapid_builtins.specs.declared.need.Need.{Need}
use Rattle.rapid_builtins.specs.declared.option_choice.Choice.{Choice}
use Rattle.rapid_builtins.specs.declared.option_choice.Choice.TheVariants as choices
use Rattle.typed_trees.specs.Plain.{TypedArg, TypedArgs, TypedArgument, Optional, NoArgument, Argument}
use Rattle.rapid_meaning.specs.Instructions.{needed, options}
use Rattle.tree_typing.specs.Expressions.{IsArg}
use Rattle.tree_typing.specs.Kinds.{Kind}
use Rattle.tree_typing.specs.Setting.{Setting, has_arm}

-- the arguments without the options, in order
abbrev pub AreNeeded : Setting → List Kind → List TypedArg → List Need → Type 0
AreNeeded c kinds [] [] = ⊤
AreNeeded c kinds (arg ∷ more) (need ∷ others) = IsArg c kinds arg need × AreNeeded c kinds more others
AreNeeded c kinds _ _ = ⊥

-- the argument of an option, if it takes one
abbrev pub IsOptionArg : Setting → List Kind → TypedArgument → Option Need → Type 0
IsOptionArg c kinds NoArgument None = ⊤
IsOptionArg c kinds (Argument arg) (Some need) = IsArg c kinds arg need
IsOptionArg c kinds _ _ = ⊥

-- one of the options that the instruction allows
abbrev pub IsOption : Setting → List Kind → List ℕ → TypedArgument → List OptionRow → Type 0
IsOption c kinds name value [] = ⊥
IsOption c kinds name value (row ∷ rows) = ((name ≡ row.name) × IsOptionArg c kinds value row.value) ⊎ IsOption c kinds name value rows

abbrev pub AreOptions : Setting → List Kind → List TypedArg → List OptionRow → Type 0
AreOptions c kinds [] rows = ⊤
AreOptions c kinds (Optional name value ∷ more) rows = IsOption c kinds name value rows × AreOptions c kinds more rows
AreOptions c kinds _ rows = ⊥

-- no more options than the instruction allows
abbrev pub AreChosen : Choice → List TypedArg → Type 0
AreChosen choices.Any given = ⊤
AreChosen choices.OneAtMost given = length given ≤ 1
AreChosen choices.JustOne given = length given ≡ 1
AreChosen choices.InsideAndOne given = length given ≡ 2

-- an instruction has what it needs, and an arm if it needs one
pub record IsInstruction (c : Setting) (kinds : List Kind) (instruction : Instruction) (args : TypedArgs) : Type 0 where
  pub arm : IsTrue (not (needs_arm instruction) || has_arm c)
  pub are_needed : AreNeeded c kinds (needed args) (instruction_needs instruction)
  pub are_options : AreOptions c kinds (options args) (builtins.options instruction)
  pub chosen : AreChosen (choice instruction) (options args)
