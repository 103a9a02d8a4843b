-- Worked examples.
use Rattle.std.proofs.Common.{◌≡◌, ℕ, List, [], ◌∷◌, reverse, take, drop, None, Some, refl}
use Rattle.typed_trees.specs.declared.datum.Datum.{Datum}
use Rattle.typed_trees.specs.declared.datum.Datum.TheVariants as datums
use Rattle.rapid_meaning.specs.Data.{put_in_frame, frame_at, with_frame}
use Rattle.stack_code.specs.declared.first_run.FirstRun.{FirstRun}
use Rattle.machine_stacks.specs.FrameStack.{frames_in, index_in}
use Rattle.machine_stacks.specs.OperandStack.{stacked}
use Rattle.machine_stacks.specs.Starts.{frame_from, index_of, values_from}
use Rattle.machine_stacks.specs.Words.{data_in}
use Rattle.machine_stacks.specs.declared.mark.Mark.{Mark}
use Rattle.machine_stacks.specs.declared.run_start.RunStart.{RunStart}
use Rattle.machine_stacks.specs.declared.word.Word.TheVariants as words

abbrev m : ℕ → Datum
m number = datums.Mark number

-- four data: the first is an operand of the outermost routine, the next routine has none, and the last three are of the
-- innermost

abbrev four : List Datum
four = m 1 ∷ m 2 ∷ m 3 ∷ m 4 ∷ []

innermost_operands : reverse (drop 1 four) ≡ m 4 ∷ m 3 ∷ m 2 ∷ []
innermost_operands = refl

outer_operands : stacked (take 1 four) (1 ∷ 0 ∷ []) ≡ [] ∷ (m 1 ∷ []) ∷ []
outer_operands = refl

-- the same data as values of two frames

abbrev marks : List Mark
marks = record { base = 3; seen = 7 } ∷ record { base = 0; seen = 5 } ∷ []

two_frames : frames_in four marks ≡ record { values = m 4 ∷ []; seen = 7 } ∷ record { values = m 1 ∷ m 2 ∷ m 3 ∷ []; seen = 5 } ∷ []
two_frames = refl

in_the_outer : index_in 4 marks 0 2 ≡ Some 2
unfolding index_in
in_the_outer = refl

past_the_outer : index_in 4 marks 0 3 ≡ None
unfolding index_in
past_the_outer = refl

in_the_inner : index_in 4 marks 1 0 ≡ Some 3
unfolding index_in
in_the_inner = refl

written_in_the_outer : put_in_frame (frames_in four marks) 0 1 (m 9) (frame_at (frames_in four marks) 0)
    ≡ record { values = m 4 ∷ []; seen = 7 } ∷ record { values = m 1 ∷ m 9 ∷ m 3 ∷ []; seen = 5 } ∷ []
unfolding frame_at with_frame
written_in_the_outer = refl

-- two runs of first values, and a frame that begins inside the second

abbrev firsts : List FirstRun
firsts = record { datum = m 1; count = 2 } ∷ record { datum = m 2; count = 3 } ∷ []

abbrev start : RunStart
start = record { run = 1; skip = 1 }

fourth : index_of firsts start ≡ 3
fourth = refl

begun : frame_from firsts start (m 8 ∷ []) 2 ≡ record { values = m 8 ∷ m 2 ∷ m 2 ∷ []; seen = 0 }
begun = refl

only_so_many : values_from firsts start 7 ≡ m 2 ∷ m 2 ∷ []
only_so_many = refl

-- four data in words, two of them apart: at the same index, and past the end of what lies apart

in_a_row : data_in (words.Mark 1 ∷ words.Apart ∷ words.Mark 3 ∷ words.Apart ∷ []) (m 7 ∷ m 8 ∷ []) ≡ m 1 ∷ m 8 ∷ m 3 ∷ m 0 ∷ []
in_a_row = refl
