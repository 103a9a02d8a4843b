-- The layout of each instruction after its Look, as a list of steps (RAPID Instructions). Arguments without the options
-- are numbered from 0.
use Rattle.std.specs.Prelude.{true, false, List, [], ◌∷◌}
use Rattle.rapid_model.specs.declared.instruction.Instruction.{Instruction}
use Rattle.rapid_model.specs.declared.instruction.Instruction.TheVariants as instructions
use Rattle.rapid_model.specs.declared.operator.Operator.TheVariants.{Equal, Add, Sub}
use Rattle.stack_code.specs.declared.irq_op.IrqOp.TheVariants.{Sleep, Watch, Delete, Disable, Enable}
use Rattle.stack_code.specs.declared.step.Step.{Step}
use Rattle.stack_code.specs.declared.step.Step.TheVariants.{Value, Place, Count, Drop, Dup, Over, Load, Store, Bit, Still, Travel, TestSet, Binary, Irq, Zone, Wait, GetSignal, PutSignal, OrderSignal, OrderPers, TaskSet, Arrive, Shape, ZoneSet, ZoneTie, Tail, Say}
use Rattle.stack_code.specs.declared.zone_op.ZoneOp.TheVariants.{On, Off, Free}

abbrev pub recipe : Instruction → List Step
recipe instructions.MoveAbsJ = Still ∷ Value 0 ∷ Value 1 ∷ Travel ∷ []
-- signals
recipe instructions.Set = Count 1 ∷ PutSignal 0 ∷ []
recipe instructions.Reset = Count 0 ∷ PutSignal 0 ∷ []
recipe instructions.SetDO = Value 1 ∷ PutSignal 0 ∷ []
-- waits
recipe instructions.WaitDI = Value 1 ∷ Bit ∷ GetSignal 0 ∷ Binary Equal ∷ Wait ∷ []
recipe instructions.WaitDO = Value 1 ∷ Bit ∷ GetSignal 0 ∷ Binary Equal ∷ Wait ∷ []
recipe instructions.WaitUntil = Value 0 ∷ Wait ∷ []
recipe instructions.WaitTime = Value 0 ∷ Drop ∷ []
recipe instructions.WaitTestAndSet = Place 0 ∷ TestSet ∷ Wait ∷ []
recipe instructions.WaitSyncTask = Place 1 ∷ TaskSet 1 ∷ Arrive 0 ∷ Wait ∷ []
-- texts for the operator
recipe instructions.TPWrite = Value 0 ∷ Tail ∷ Say ∷ []
recipe instructions.TPErase = []
-- interrupts
recipe instructions.ISignalDI = Value 1 ∷ Bit ∷ Place 2 ∷ Load ∷ OrderSignal 0 ∷ []
recipe instructions.ISignalDO = Value 1 ∷ Bit ∷ Place 2 ∷ Load ∷ OrderSignal 0 ∷ []
recipe instructions.IPers = Place 1 ∷ Load ∷ OrderPers 0 ∷ []
recipe instructions.ISleep = Place 0 ∷ Load ∷ Irq Sleep ∷ []
recipe instructions.IWatch = Place 0 ∷ Load ∷ Irq Watch ∷ []
recipe instructions.IDelete = Place 0 ∷ Load ∷ Irq Delete ∷ []
recipe instructions.IDisable = Irq Disable ∷ []
recipe instructions.IEnable = Irq Enable ∷ []
-- world zones
recipe instructions.WZLimJointDef = Place 0 ∷ Value 1 ∷ Value 2 ∷ Shape false ∷ []
recipe instructions.WZHomeJointDef = Place 0 ∷ Value 1 ∷ Value 2 ∷ Shape true ∷ []
recipe instructions.WZLimSup = Place 0 ∷ Dup ∷ Load ∷ Place 1 ∷ Load ∷ ZoneSet ∷ []
recipe instructions.WZDOSet = Place 0 ∷ Dup ∷ Load ∷ Place 1 ∷ Load ∷ Value 3 ∷ ZoneTie 2 ∷ []
recipe instructions.WZDisable = Place 0 ∷ Dup ∷ Load ∷ Zone Off ∷ []
recipe instructions.WZEnable = Place 0 ∷ Dup ∷ Load ∷ Zone On ∷ []
recipe instructions.WZFree = Place 0 ∷ Dup ∷ Load ∷ Zone Free ∷ []
-- counters
recipe instructions.Incr = Place 0 ∷ Dup ∷ Load ∷ Count 1 ∷ Binary Add ∷ Store ∷ []
recipe instructions.Decr = Place 0 ∷ Dup ∷ Load ∷ Count 1 ∷ Binary Sub ∷ Store ∷ []
recipe instructions.Clear = Place 0 ∷ Count 0 ∷ Store ∷ []
recipe instructions.Add = Place 0 ∷ Value 1 ∷ Over ∷ Load ∷ Binary Add ∷ Store ∷ []
