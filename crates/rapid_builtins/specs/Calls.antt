-- The arguments and options of the predefined functions and instructions.
use Rattle.std.specs.Prelude.{ℕ, Bool, true, false, List, [], ◌∷◌, codes, Option, None, Some, if◌then◌else◌}
use Rattle.std.specs.Str.{str_eq_ignore_ascii_case}
use Rattle.rapid_model.specs.declared.function.Function.{Function}
use Rattle.rapid_model.specs.declared.function.Function.TheVariants as functions
use Rattle.rapid_model.specs.declared.instruction.Instruction.{Instruction}
use Rattle.rapid_model.specs.declared.instruction.Instruction.TheVariants as instructions
use Rattle.rapid_model.specs.declared.sort.Sort.{Sort}
use Rattle.rapid_model.specs.declared.sort.Sort.TheVariants as sorts
use Rattle.rapid_builtins.specs.declared.need.Need.{Need}
use Rattle.rapid_builtins.specs.declared.need.Need.TheVariants as needs
use Rattle.rapid_builtins.specs.declared.option_choice.Choice.{Choice}
use Rattle.rapid_builtins.specs.declared.option_choice.Choice.TheVariants as choices
use Rattle.rapid_builtins.specs.declared.instruction_option.InstructionOption.{InstructionOption}

-- the arguments of a function
abbrev pub function_needs : Function → List Need
function_needs functions.Abs = needs.Value sorts.Num ∷ []
function_needs functions.Trunc = needs.Value sorts.Num ∷ []
function_needs functions.StrLen = needs.Value sorts.Text ∷ []
function_needs functions.NumToStr = needs.Value sorts.Num ∷ needs.Value sorts.Num ∷ []
function_needs functions.Dim = needs.Array ∷ needs.One ∷ []
function_needs functions.CJointT = []
function_needs functions.TestDI = needs.Signal false ∷ []
function_needs functions.DOutput = needs.Signal true ∷ []
function_needs functions.TestAndSet = needs.VarOrPers sorts.Bool ∷ []

-- the type of a function's result
abbrev pub function_result : Function → Sort
function_result functions.Abs = sorts.Num
function_result functions.Trunc = sorts.Num
function_result functions.StrLen = sorts.Num
function_result functions.NumToStr = sorts.Text
function_result functions.Dim = sorts.Num
function_result functions.CJointT = sorts.JointTarget
function_result functions.TestDI = sorts.Bool
function_result functions.DOutput = sorts.Num
function_result functions.TestAndSet = sorts.Bool

-- the arguments of an instruction, without its options
abbrev pub instruction_needs : Instruction → List Need
instruction_needs instructions.MoveAbsJ = needs.Value sorts.JointTarget ∷ needs.Value sorts.SpeedData ∷ needs.Fine ∷ needs.Tool ∷ []
instruction_needs instructions.Set = needs.Signal true ∷ []
instruction_needs instructions.Reset = needs.Signal true ∷ []
instruction_needs instructions.SetDO = needs.Signal true ∷ needs.Value sorts.Num ∷ []
instruction_needs instructions.WaitDI = needs.Signal false ∷ needs.Value sorts.Num ∷ []
instruction_needs instructions.WaitDO = needs.Signal true ∷ needs.Value sorts.Num ∷ []
instruction_needs instructions.WaitUntil = needs.Value sorts.Bool ∷ []
instruction_needs instructions.WaitTime = needs.Value sorts.Num ∷ []
instruction_needs instructions.WaitTestAndSet = needs.Pers sorts.Bool ∷ []
instruction_needs instructions.WaitSyncTask = needs.Meeting ∷ needs.TaskList ∷ []
instruction_needs instructions.TPWrite = needs.Value sorts.Text ∷ []
instruction_needs instructions.TPErase = []
instruction_needs instructions.ISignalDI = needs.Signal false ∷ needs.Value sorts.Num ∷ needs.Place sorts.IntNum ∷ []
instruction_needs instructions.ISignalDO = needs.Signal true ∷ needs.Value sorts.Num ∷ needs.Place sorts.IntNum ∷ []
instruction_needs instructions.IPers = needs.PersName ∷ needs.Place sorts.IntNum ∷ []
instruction_needs instructions.ISleep = needs.Place sorts.IntNum ∷ []
instruction_needs instructions.IWatch = needs.Place sorts.IntNum ∷ []
instruction_needs instructions.IDelete = needs.Place sorts.IntNum ∷ []
instruction_needs instructions.IDisable = []
instruction_needs instructions.IEnable = []
instruction_needs instructions.WZLimJointDef = needs.Var sorts.ShapeData ∷ needs.Value sorts.JointTarget ∷ needs.Value sorts.JointTarget ∷ []
instruction_needs instructions.WZHomeJointDef = needs.Var sorts.ShapeData ∷ needs.Value sorts.JointTarget ∷ needs.Value sorts.JointTarget ∷ []
instruction_needs instructions.WZLimSup = needs.WorldZone ∷ needs.Place sorts.ShapeData ∷ []
instruction_needs instructions.WZDOSet = needs.WorldZone ∷ needs.Place sorts.ShapeData ∷ needs.Signal true ∷ needs.Value sorts.Num ∷ []
instruction_needs instructions.WZDisable = needs.Var sorts.WzTemporary ∷ []
instruction_needs instructions.WZEnable = needs.Var sorts.WzTemporary ∷ []
instruction_needs instructions.WZFree = needs.Var sorts.WzTemporary ∷ []
instruction_needs instructions.Incr = needs.Written sorts.Num ∷ []
instruction_needs instructions.Decr = needs.Written sorts.Num ∷ []
instruction_needs instructions.Clear = needs.Written sorts.Num ∷ []
instruction_needs instructions.Add = needs.Written sorts.Num ∷ needs.Value sorts.Num ∷ []

-- an option of an instruction: its name, and what its value must be, if it has one
pub record OptionRow : Type 0 where
  pub name : List ℕ
  pub value : Option Need

-- the code's row
abbrev pub row_of : InstructionOption → OptionRow
row_of option = record { name = option.name.now; value = option.value }

abbrev pub plain : List ℕ → OptionRow
plain name = record { name = name; value = None }

abbrev pub valued : List ℕ → Need → OptionRow
valued name need = record { name = name; value = Some need }

-- the options of an instruction
abbrev pub options : Instruction → List OptionRow
options instructions.MoveAbsJ = plain (codes "NoEOffs") ∷ valued (codes "WObj") needs.WorkObject ∷ []
options instructions.TPWrite = valued (codes "Num") (needs.Value sorts.Num) ∷ valued (codes "Bool") (needs.Value sorts.Bool) ∷ []
options instructions.ISignalDI = plain (codes "Single") ∷ []
options instructions.ISignalDO = plain (codes "Single") ∷ []
options instructions.IPers = plain (codes "Single") ∷ []
options instructions.WZLimJointDef = plain (codes "Inside") ∷ plain (codes "Outside") ∷ []
options instructions.WZHomeJointDef = plain (codes "Inside") ∷ plain (codes "Outside") ∷ []
options instructions.WZLimSup = plain (codes "Temp") ∷ plain (codes "Stat") ∷ []
options instructions.WZDOSet = plain (codes "Temp") ∷ plain (codes "Stat") ∷ plain (codes "Inside") ∷ []
options _ = []

-- the first of the rows whose name is this one, case-insensitively
abbrev pub option_named : List ℕ → List OptionRow → Option OptionRow
option_named name [] = None
option_named name (row ∷ rows) = if str_eq_ignore_ascii_case row.name name then Some row else option_named name rows

-- how many of an instruction's options one call may have
abbrev pub choice : Instruction → Choice
choice instructions.TPWrite = choices.OneAtMost
choice instructions.WZLimJointDef = choices.JustOne
choice instructions.WZHomeJointDef = choices.JustOne
choice instructions.WZLimSup = choices.JustOne
choice instructions.WZDOSet = choices.InsideAndOne
choice _ = choices.Any

-- an instruction that is allowed only in a task with an arm
abbrev pub needs_arm : Instruction → Bool
needs_arm instructions.MoveAbsJ = true
needs_arm instructions.WZLimJointDef = true
needs_arm instructions.WZHomeJointDef = true
needs_arm instructions.WZLimSup = true
needs_arm instructions.WZDOSet = true
needs_arm instructions.WZDisable = true
needs_arm instructions.WZEnable = true
needs_arm instructions.WZFree = true
needs_arm _ = false

-- a function that is allowed only in a task with an arm
abbrev pub function_needs_arm : Function → Bool
function_needs_arm functions.CJointT = true
function_needs_arm _ = false
