-- How contracts see a sink over a writer.
use Rattle.std.specs.Prelude.{ℕ}

-- the writer and the number of faults
pub record StreamSinkState (W : Type 0) : Type 0 where
  pub writer : W
  pub faults : ℕ
