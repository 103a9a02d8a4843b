-- The outcome of a function that writes lines or fails.
use Rattle.std.specs.Prelude.{◌≡◌, ◌≤◌, ℕ, List, [], ◌∷◌, length, Result, Ok, Err, ⊤, ◌++◌, codes}
use Rattle.std.specs.List.{concat}
use Rattle.outside.specs.Count.{Rose}
use Rattle.outside.specs.declared.failed.Failed.{Failed}
use Rattle.sink_lines.specs.declared.line.TheConstants.{REFUSAL_BYTES}
use Rattle.sink_lines.specs.Sends.{SendsLines, SendsSome}
use Rattle.sink_lines.specs.Printed.{Sunk, Gained, GainedPart, GainedCalls}

-- it wrote these lines
pub record WritesAll (lines : List (List ℕ)) (sink : Sunk) : Type 0 where
  pub bytes : Gained (concat lines) sink.old.bytes sink.new.bytes
  pub calls : GainedCalls (SendsLines lines) sink.old.calls sink.new.calls
  pub faults : sink.old.faults ≤ sink.new.faults

-- it failed with a fault counted, and some of these lines are missing
pub record WritesPart (lines : List (List ℕ)) (sink : Sunk) : Type 0 where
  pub bytes : GainedPart (concat lines) sink.old.bytes sink.new.bytes
  pub calls : GainedCalls (SendsSome lines) sink.old.calls sink.new.calls
  pub rose : Rose sink.old.faults sink.new.faults
  pub faults : sink.old.faults ≤ sink.new.faults

abbrev pub Writes : List (List ℕ) → Result ⊤ Failed → Sunk → Type 0
Writes lines (Ok _) sink = WritesAll lines sink
Writes lines (Err _) sink = WritesPart lines sink

-- the pieces in which a line is written: a line that fits the buffer is one piece
pub record AreCut (line : List ℕ) (pieces : List (List ℕ)) : Type 0 where
  pub whole : line ≡ concat pieces
  pub one : length line ≤ REFUSAL_BYTES → pieces ≡ line ∷ []

-- the same of a line in pieces
abbrev pub WritesLine : List ℕ → Result ⊤ Failed → Sunk → Type 0
WritesLine line result sink = (pieces : List (List ℕ)) × AreCut line pieces × Writes pieces result sink

-- the sink got the line, or part of it if a write failed
abbrev pub TakesLine : List ℕ → Sunk → Type 0
TakesLine line sink = (result : Result ⊤ Failed) × WritesLine line result sink

-- a line of these pieces
abbrev pub in_line : List ℕ → List ℕ → List ℕ → List ℕ → List ℕ
in_line head name between rule = head ++ (name ++ (between ++ (rule ++ codes "\n")))
