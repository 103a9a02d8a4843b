-- Why an action is refused once all is accepted.
use Rattle.std.specs.Prelude.{ℕ}
use Rattle.outside.specs.Count.{Rose}
use Rattle.cell_loading.specs.declared.refused.Refused.{Refused}
use Rattle.cell_loading.specs.declared.refused.Refused.TheVariants.{Words, Script, Module, Read, Write, Memory, TooLong, History}

-- why an action is refused: not for the words, nor for a read; and a write failed only if a fault was counted
abbrev pub IsDoneFault : ℕ → ℕ → Refused → Type 0
IsDoneFault old new (Words place) = ⊥
IsDoneFault old new (Script key rule) = Unit {0}
IsDoneFault old new (Module file place rule) = Unit {0}
IsDoneFault old new (Read file) = ⊥
IsDoneFault old new Write = Rose old new
IsDoneFault old new Memory = Unit {0}
IsDoneFault old new (TooLong file) = Unit {0}
IsDoneFault old new (History line) = Unit {0}
