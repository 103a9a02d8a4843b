-- The predefined names of this profile, and what each stands for (RAPID Instructions, Functions and Data types; RAPID
-- Overview, error recovery). Names are case-insensitive.
use Rattle.std.specs.Prelude.{ℕ, Bool, ◌||◌, List, [], ◌∷◌, ◌++◌, map, codes, Option, None, Some, is_some, if◌then◌else◌}
use Rattle.std.specs.Str.{str_eq_ignore_ascii_case}
use Rattle.rapid_model.specs.declared.instruction.Instruction.{Instruction}
use Rattle.rapid_model.specs.declared.instruction.Instruction.TheVariants as instructions
use Rattle.rapid_model.specs.declared.function.Function.{Function}
use Rattle.rapid_model.specs.declared.function.Function.TheVariants as functions
use Rattle.rapid_model.specs.declared.predefined.Predefined.{Predefined}
use Rattle.rapid_model.specs.declared.predefined.Predefined.TheVariants as predefineds

-- the instructions
abbrev pub instruction_rows : List (List ℕ × Instruction)
instruction_rows =
    (codes "MoveAbsJ", instructions.MoveAbsJ) ∷ (codes "Set", instructions.Set) ∷ (codes "Reset", instructions.Reset)
    ∷ (codes "SetDO", instructions.SetDO) ∷ (codes "WaitDI", instructions.WaitDI) ∷ (codes "WaitDO", instructions.WaitDO)
    ∷ (codes "WaitUntil", instructions.WaitUntil) ∷ (codes "WaitTime", instructions.WaitTime)
    ∷ (codes "WaitTestAndSet", instructions.WaitTestAndSet) ∷ (codes "WaitSyncTask", instructions.WaitSyncTask)
    ∷ (codes "TPWrite", instructions.TPWrite) ∷ (codes "TPErase", instructions.TPErase) ∷ (codes "ISignalDI", instructions.ISignalDI)
    ∷ (codes "ISignalDO", instructions.ISignalDO) ∷ (codes "IPers", instructions.IPers) ∷ (codes "ISleep", instructions.ISleep)
    ∷ (codes "IWatch", instructions.IWatch) ∷ (codes "IDelete", instructions.IDelete) ∷ (codes "IDisable", instructions.IDisable)
    ∷ (codes "IEnable", instructions.IEnable) ∷ (codes "WZLimJointDef", instructions.WZLimJointDef)
    ∷ (codes "WZHomeJointDef", instructions.WZHomeJointDef) ∷ (codes "WZLimSup", instructions.WZLimSup)
    ∷ (codes "WZDOSet", instructions.WZDOSet) ∷ (codes "WZDisable", instructions.WZDisable) ∷ (codes "WZEnable", instructions.WZEnable) ∷ (codes "WZFree", instructions.WZFree)
    ∷ (codes "Incr", instructions.Incr) ∷ (codes "Decr", instructions.Decr) ∷ (codes "Clear", instructions.Clear)
    ∷ (codes "Add", instructions.Add) ∷ []

-- the functions
abbrev pub function_rows : List (List ℕ × Function)
function_rows =
    (codes "Abs", functions.Abs) ∷ (codes "Trunc", functions.Trunc) ∷ (codes "StrLen", functions.StrLen)
    ∷ (codes "NumToStr", functions.NumToStr) ∷ (codes "Dim", functions.Dim) ∷ (codes "CJointT", functions.CJointT)
    ∷ (codes "TestDI", functions.TestDI) ∷ (codes "DOutput", functions.DOutput) ∷ (codes "TestAndSet", functions.TestAndSet) ∷ []

-- the types
abbrev pub type_rows : List (List ℕ × Predefined)
type_rows =
    (codes "num", predefineds.Num) ∷ (codes "errnum", predefineds.ErrNum) ∷ (codes "dionum", predefineds.DioNum)
    ∷ (codes "bool", predefineds.Bool) ∷ (codes "string", predefineds.String) ∷ (codes "robjoint", predefineds.RobJoint)
    ∷ (codes "extjoint", predefineds.ExtJoint) ∷ (codes "jointtarget", predefineds.JointTarget)
    ∷ (codes "speeddata", predefineds.SpeedData) ∷ (codes "tasks", predefineds.Tasks) ∷ (codes "intnum", predefineds.IntNum)
    ∷ (codes "syncident", predefineds.SyncIdent) ∷ (codes "shapedata", predefineds.ShapeData)
    ∷ (codes "wztemporary", predefineds.WzTemporary) ∷ (codes "wzstationary", predefineds.WzStationary)
    ∷ (codes "signaldi", predefineds.SignalDi) ∷ (codes "signaldo", predefineds.SignalDo) ∷ []

-- the data: speeds, the zone, tool and work object of a joint move, signal values, error numbers
abbrev pub data_rows : List (List ℕ × Predefined)
data_rows =
    (codes "v5", predefineds.V5) ∷ (codes "v10", predefineds.V10) ∷ (codes "v20", predefineds.V20) ∷ (codes "v30", predefineds.V30)
    ∷ (codes "v40", predefineds.V40) ∷ (codes "v50", predefineds.V50) ∷ (codes "v60", predefineds.V60) ∷ (codes "v80", predefineds.V80)
    ∷ (codes "v100", predefineds.V100) ∷ (codes "v150", predefineds.V150) ∷ (codes "v200", predefineds.V200)
    ∷ (codes "v300", predefineds.V300) ∷ (codes "v400", predefineds.V400) ∷ (codes "v500", predefineds.V500)
    ∷ (codes "v600", predefineds.V600) ∷ (codes "v800", predefineds.V800) ∷ (codes "v1000", predefineds.V1000)
    ∷ (codes "v1500", predefineds.V1500) ∷ (codes "v2000", predefineds.V2000) ∷ (codes "v2500", predefineds.V2500)
    ∷ (codes "v3000", predefineds.V3000) ∷ (codes "v4000", predefineds.V4000) ∷ (codes "v5000", predefineds.V5000)
    ∷ (codes "v6000", predefineds.V6000) ∷ (codes "v7000", predefineds.V7000) ∷ (codes "vmax", predefineds.VMax)
    ∷ (codes "fine", predefineds.Fine) ∷ (codes "tool0", predefineds.Tool0) ∷ (codes "wobj0", predefineds.Wobj0)
    ∷ (codes "low", predefineds.Low) ∷ (codes "high", predefineds.High) ∷ (codes "ERR_DIVZERO", predefineds.ErrDivZero)
    ∷ (codes "ERR_STRTOOLNG", predefineds.ErrStrTooLng) ∷ (codes "ERR_ALRDYCNT", predefineds.ErrAlrdyCnt)
    ∷ (codes "ERR_UNKINO", predefineds.ErrUnkIno) ∷ (codes "ERR_INOMAX", predefineds.ErrINoMax) ∷ (codes "ERRNO", predefineds.ErrNo) ∷ []

-- what a name means in a table
abbrev pub meant_by : {A : Type 0} → List ℕ → List (List ℕ × A) → Option A
meant_by name [] = None
meant_by name (row ∷ rows) = if str_eq_ignore_ascii_case row.0 name then Some row.1 else meant_by name rows

abbrev pub instruction_of : List ℕ → Option Instruction
instruction_of name = meant_by name instruction_rows

abbrev pub function_of : List ℕ → Option Function
function_of name = meant_by name function_rows

-- a type or a datum
abbrev pub predefined_of : List ℕ → Option Predefined
predefined_of name = meant_by name (type_rows ++ data_rows)

abbrev pub is_predefined : List ℕ → Bool
is_predefined name = is_some (instruction_of name) || is_some (function_of name) || is_some (predefined_of name)

abbrev pub names_of : {A : Type 0} → List (List ℕ × A) → List (List ℕ)
names_of rows = map (λ row. row.0) rows

-- all names of all tables
abbrev pub all_names : List (List ℕ)
all_names = names_of instruction_rows ++ names_of function_rows ++ names_of type_rows ++ names_of data_rows
