-- The invariant of the type of code.
use Rattle.std.specs.Prelude.{◌≡◌, ◌<◌, ◌^◌, IsTrue, length}
use Rattle.rapid_model.specs.Limits.{is_axes}
use Rattle.task_code.specs.Armless.{is_armless}
use Rattle.task_code.specs.Owners.{Tiles}
use Rattle.stack_code.specs.CodeData.{CodeData}
use Rattle.task_code.specs.Live.{IsLive}

-- The code is live; its owners tile the operations in order; a u32 counts the operations and the modules' data; the
-- task's arm has 6 to 12 axes, or 0 without an arm; and without an arm no operation needs one.
pub record IsCode (code : CodeData) : Type 0 where
  pub live : IsLive code
  pub tiled : Tiles 0 (length code.ops) code.owners
  pub few_ops : length code.ops < 2 ^ 32
  pub few_slots : length code.slots < 2 ^ 32
  pub axes : IsTrue (is_axes code.axes)
  pub armless : code.axes ≡ 0 → IsTrue (is_armless code.ops)
