-- MoveAbsJ among the instructions.
use Rattle.std.specs.Prelude.{⊤}
use Rattle.rapid_model.specs.declared.instruction.Instruction.{Instruction}
use Rattle.rapid_model.specs.declared.instruction.Instruction.TheVariants as instructions

-- any instruction but MoveAbsJ
abbrev pub IsOther : Instruction → Type 0
IsOther instructions.MoveAbsJ = ⊥
IsOther instruction = ⊤
