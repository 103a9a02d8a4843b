-- Complete listings of two small tasks, and the setpoints of a third.
use Rattle.std.proofs.Common.{◌≡◌, refl, ℕ, false, pos, neg_ℤ, List, [], ◌∷◌, None, Some}
use Rattle.std.specs.Prelude.{codes, drop, map}
use Rattle.rapid_model.specs.declared.request.Request.TheVariants as requests
use Rattle.rapid_model.specs.declared.value.Value.TheVariants as values
use Rattle.rapid_model.specs.declared.operator.Operator.TheVariants as operators
use Rattle.typed_trees.specs.declared.datum.Datum.TheVariants.{Plain}
use Rattle.rapid_meaning.specs.Runs.{asks, misfit, next_of}
use Rattle.rapid_meaning.proofs.Asked.{go}
use Rattle.rapid_meaning.proofs.SmallTasks.{adding, moving, trying}
use Rattle.rapid_meaning.proofs.Trees.{number}
use Rattle.stack_code.proofs.CodeAsked.{code_stands, compiled_stands}
use Rattle.stack_code.specs.Compiled.{compiled}
use Rattle.stack_code.specs.declared.op.Op.{Op}
use Rattle.stack_code.specs.declared.op.Op.TheVariants.{Push, Errno, Slot, Local, Ref, Load, Store, Binary, Jump, JumpFalse, Look, Call, Back, Raise, Again, Retry, Next, Turn, Step, Aim, Point, Say}
use Rattle.stack_code.specs.declared.owner.Owner.{Owner}
use Rattle.stack_code.specs.declared.routine_row.RoutineRow.{RoutineRow}
use Rattle.stack_code.specs.declared.tail_kind.TailKind.TheVariants as tails

abbrev push : ℕ → Op
push n = Push (Plain (number n))

abbrev push_down : Op
push_down = Push (Plain (values.Num (neg_ℤ (pos 1_000))))

abbrev push_text : List ℕ → Op
push_text text = Push (Plain (values.Text text))

-- all statements of these tasks stand at byte 0
abbrev owner : ℕ → ℕ → ℕ → ℕ → Owner
owner first past retry next = record { first = first; past = past; retry = retry; next = next; at = record { «module» = 0; byte = 0 } }

abbrev row : ℕ → ℕ → ℕ → ℕ → RoutineRow
row entry args values first = record { entry = entry; args = args; values = values; trap = false; result = false; first = first }

-- FOR i FROM 3 TO 1 DO p x, i; ENDFOR TPWrite "x="\Num:=x; and PROC p(INOUT num a, num b) a := a + b; b := 9; ENDPROC
adding_ops : (compiled adding).ops ≡
    -- 0: the FOR up to the Look of a turn
    Look ∷ Local 0 ∷ push 3 ∷ Local 1 ∷ push 1 ∷ Store ∷ Store
    ∷ Local 2 ∷ Local 0 ∷ Load ∷ Local 1 ∷ Load ∷ Binary operators.Greater ∷ JumpFalse 16 ∷ push_down ∷ Jump 17 ∷ push 1 ∷ Store
    ∷ Turn 0 26 ∷ Look
    -- 20: the call
    ∷ Look ∷ Slot 0 ∷ Local 0 ∷ Load ∷ Call 1
    -- 25
    ∷ Step 0 18
    -- 26: TPWrite, and the end
    ∷ Look ∷ push_text (codes "x=") ∷ Slot 0 ∷ Load ∷ Say tails.Num ∷ Back
    -- 32
    ∷ Look ∷ Ref 0 ∷ Ref 0 ∷ Load ∷ Local 1 ∷ Load ∷ Binary operators.Add ∷ Store
    -- 40
    ∷ Look ∷ Local 1 ∷ push 9 ∷ Store ∷ Back ∷ []
unfolding compiled_stands
adding_ops = refl

adding_owners : (compiled adding).owners ≡
    owner 0 20 0 26 ∷ owner 20 25 20 25 ∷ owner 25 26 0 26 ∷ owner 26 31 26 31 ∷ owner 31 32 31 32
    ∷ owner 32 40 32 40 ∷ owner 40 44 40 44 ∷ owner 44 45 44 45 ∷ []
unfolding compiled_stands
adding_owners = refl

adding_rows : (compiled adding).routines ≡ row 0 0 3 0 ∷ row 32 2 2 3 ∷ []
unfolding compiled_stands
adding_rows = refl

adding_depth : (compiled adding).deepest ≡ 4
unfolding compiled_stands
adding_depth = refl

-- with room for one operand fewer it misfits
too_little_room : map next_of (code_stands (record (compiled adding) { deepest = 3 }) [] (go ∷ [])) ≡ asks requests.Look ∷ misfit ∷ []
unfolding compiled_stands
too_little_room = refl

-- PROC main() p; TPWrite "n="\Num:=n; ERROR IF ERRNO = 5 RETRY; TRYNEXT; ENDPROC
-- PROC p() n := n + 1; IF n < 3 RAISE 5; ENDPROC
trying_ops : (compiled trying).ops ≡
    -- 0: the call
    Look ∷ Call 1
    -- 2: TPWrite, and the end
    ∷ Look ∷ push_text (codes "n=") ∷ Slot 0 ∷ Load ∷ Say tails.Num ∷ Back
    -- 8: the ERROR part, whose second statement stands at 15
    ∷ Look ∷ Errno ∷ push 5 ∷ Binary operators.Equal ∷ JumpFalse 15 ∷ Look ∷ Retry
    ∷ Look ∷ Next ∷ Again
    -- 18
    ∷ Look ∷ Slot 0 ∷ Slot 0 ∷ Load ∷ push 1 ∷ Binary operators.Add ∷ Store
    -- 25: the IF, and the RAISE at 31
    ∷ Look ∷ Slot 0 ∷ Load ∷ push 3 ∷ Binary operators.Less ∷ JumpFalse 34 ∷ Look ∷ push 5 ∷ Raise ∷ Back ∷ []
unfolding compiled_stands
trying_ops = refl

trying_owners : (compiled trying).owners ≡
    owner 0 2 0 2 ∷ owner 2 7 2 7 ∷ owner 7 8 7 8
    ∷ owner 8 13 8 15 ∷ owner 13 15 13 15 ∷ owner 15 17 15 17 ∷ owner 17 18 17 18
    ∷ owner 18 25 18 25 ∷ owner 25 31 25 34 ∷ owner 31 34 31 34 ∷ owner 34 35 34 35 ∷ []
unfolding compiled_stands
trying_owners = refl

trying_handlers : (compiled trying).handlers ≡ Some 8 ∷ None ∷ []
unfolding compiled_stands
trying_handlers = refl

-- MoveAbsJ, whose target and speed are on the stack after place 17: each setpoint but the last leads to a Look, and back
moving_ops : drop 18 (compiled moving).ops ≡ Aim ∷ Point 22 ∷ Look ∷ Jump 19 ∷ Back ∷ []
unfolding compiled_stands
moving_ops = refl

moving_owners : (compiled moving).owners ≡ owner 0 22 0 22 ∷ owner 22 23 22 23 ∷ []
unfolding compiled_stands
moving_owners = refl
