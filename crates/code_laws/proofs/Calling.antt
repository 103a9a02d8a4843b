-- The call of a routine. Its arguments are the topmost operands.
use Rattle.std.proofs.Common.{◌≡◌, refl, sym, ap, ◌∙◌, ℕ, ◌+◌, ◌-◌, ◌≤◌, ◌<◌, ◌⊎◌, inl, inr, nat_le, nat_lt, Bool, true, false, List, [], ◌∷◌, length, take, drop, reverse, Option, None, Some, slice_get, if◌then◌else◌, arith}
use Rattle.std.proofs.Math.Nat.{min-eq_left, min-eq_right}
use Rattle.std.proofs.lemmas.Bool.{cases_lt, lt-leb, and_right}
use Rattle.std.proofs.lemmas.List.{length-append}
use Rattle.rapid_model.specs.declared.fate.Fault.TheVariants.{DepthLimit}
use Rattle.rapid_model.specs.declared.value.Value.{Value}
use Rattle.typed_trees.specs.Plain.{TypedRoutine}
use Rattle.typed_trees.specs.declared.datum.Datum.{Datum}
use Rattle.rapid_meaning.specs.Data.{Frame, values_in}
use Rattle.rapid_meaning.specs.Doings.{Gives, Raises, Reads, Writes, Act, ◌>>=◌, after, calls, done, fault, or_misfit}
use Rattle.rapid_meaning.specs.Flows.{Flow, Call}
use Rattle.rapid_meaning.specs.Frames.{has_room}
use Rattle.stack_code.specs.CodeData.{CodeData}
use Rattle.stack_code.specs.Compiled.{counted, routine_row}
use Rattle.stack_code.specs.Confs.{Running, Saved, Called, begun, conf}
use Rattle.stack_code.specs.Entering.{enter, entered, frame_in}
use Rattle.stack_code.specs.Operands.{on_many}
use Rattle.stack_code.specs.Placed.{Own}
use Rattle.stack_code.specs.Raising.{back_to, raised_to, with_result}
use Rattle.stack_code.specs.Steps as steps
use Rattle.stack_code.specs.declared.op.Op.TheVariants as ops
use Rattle.stack_code.specs.declared.routine_row.RoutineRow.{RoutineRow}
use Rattle.code_laws.specs.Calls.{Takes}
use Rattle.code_laws.proofs.CodeOf.{Found, IsCodeOf}
use Rattle.code_laws.proofs.Operands.{many_at, pushed, pushed_length, some_at, some_length}
use Rattle.code_laws.proofs.Ops.{OpAt}
use Rattle.code_laws.proofs.Sim.{Sim, SimPart, sim_does, sim_from, sim_gives, sim_raises}
use Rattle.code_laws.proofs.Spots.{Spot, failing, here, sim_op, standing}

-- more data than all frames may have

outside : (values frames : ℕ) → 20_000 < values → nat_le (frames + values) 20_000 ≡ false
outside values frames many = lt-leb (frames + values) 20_000 (omega arith)

pub no_room : (frames : List Frame) (frame : Frame) → 20_000 < length frame.values → has_room frames frame ≡ false
no_room frames frame many = and_right (nat_lt (length frames) 32) (nat_le (values_in frames + length frame.values) 20_000) (outside (length frame.values) (values_in frames) many)

pub refused : (b : Bool) (m : Act) → b ≡ false → (if b then m else fault DepthLimit) ≡ fault DepthLimit
refused true m e = cc
refused false m e = refl

too_deep : (code : CodeData) (routine : ℕ) (row : RoutineRow) (args : List Datum) (saved : List Saved) → 20_000 < length args
    → entered code routine row args saved ≡ Reads (λ d. fault DepthLimit)
unfolding after
too_deep code routine row args saved many = λ i. Reads (λ d.
    after (refused (has_room d.frames (frame_in code row args)) (Writes (record d { frames = frame_in code row args ∷ d.frames }) done)
    (no_room d.frames (frame_in code row args) (omega (arith, length-append args (take (row.values - row.args) (drop row.first code.firsts))))) i)
    (λ _. Gives (conf row.entry [] (begun routine) saved)) Raises)

-- what a call pops, and what it enters

few_popped : (code : CodeData) (called pc : ℕ) (own : Own) (xs stack : List Datum) (frame : Running) (saved : List Saved) (row : RoutineRow) → row.args ≡ length xs
    → on_many row.args (pushed xs stack) (λ args rest. entered code called row args (Called pc own rest frame ∷ saved)) ≡ entered code called row xs (Called pc own stack frame ∷ saved)
few_popped code called pc own xs stack frame saved row takes =
    ap (λ (n : ℕ). on_many n (pushed xs stack) (λ args rest. entered code called row args (Called pc own rest frame ∷ saved))) takes
    ∙ many_at xs stack (λ args rest. entered code called row args (Called pc own rest frame ∷ saved))

many_popped : (code : CodeData) (called pc : ℕ) (own : Own) (xs stack : List Datum) (frame : Running) (saved : List Saved) (row : RoutineRow)
    → 20_000 < row.args → row.args ≤ length xs
    → on_many row.args (pushed xs stack) (λ args rest. entered code called row args (Called pc own rest frame ∷ saved)) ≡ entered code called row xs (Called pc own stack frame ∷ saved)
many_popped code called pc own xs stack frame saved row many enough =
    let all : row.args ≤ length (pushed xs stack) = omega (arith, pushed_length xs stack) in
    some_at row.args (pushed xs stack) (λ args rest. entered code called row args (Called pc own rest frame ∷ saved)) all
    ∙ (too_deep code called row (reverse (take row.args (pushed xs stack))) (Called pc own (drop row.args (pushed xs stack)) frame ∷ saved) (omega (arith, some_length row.args (pushed xs stack) all))
    ∙ sym (too_deep code called row xs (Called pc own stack frame ∷ saved) (omega arith)))

-- more than the count can say are too many for any frame
popped : (code : CodeData) (called pc : ℕ) (own : Own) (xs stack : List Datum) (frame : Running) (saved : List Saved) (row : RoutineRow)
    → (65_535 < length xs) ⊎ (length xs ≤ 65_535) → row.args ≡ counted (length xs)
    → on_many row.args (pushed xs stack) (λ args rest. entered code called row args (Called pc own rest frame ∷ saved)) ≡ entered code called row xs (Called pc own stack frame ∷ saved)
popped code called pc own xs stack frame saved row (inl many) takes =
    let cut : row.args ≡ 65_535 = takes ∙ min-eq_right (omega arith) in
    many_popped code called pc own xs stack frame saved row (omega arith) (omega arith)
popped code called pc own xs stack frame saved row (inr few) takes = few_popped code called pc own xs stack frame saved row (takes ∙ min-eq_left few)

-- by the routine with this number, if there is one
called_in : (s : Spot) (called pc : ℕ) (xs stack : List Datum) (routine : Option TypedRoutine) → IsCodeOf s.tree s.target → slice_get s.tree.routines called ≡ routine → Takes s.tree called (length xs)
    → steps.calls (here s pc (pushed xs stack)) called ≡ enter s.target.code called xs (Called pc s.own stack s.frame ∷ s.saved)
unfolding after
called_in s called pc xs stack None code e takes =
    ap (λ (row : Option RoutineRow). or_misfit row >>= λ r. on_many r.args (pushed xs stack) (λ args rest. entered s.target.code called r args (Called pc s.own rest s.frame ∷ s.saved))) (code.missing called e)
    ∙ sym (ap (λ (row : Option RoutineRow). or_misfit row >>= λ r. entered s.target.code called r xs (Called pc s.own stack s.frame ∷ s.saved)) (code.missing called e))
called_in s called pc xs stack (Some routine) code e takes =
    let found : Found s.tree s.target called routine = code.found called routine e in
    let row : RoutineRow = routine_row found.entry found.first routine in
    ap (λ (x : Option RoutineRow). or_misfit x >>= λ r. on_many r.args (pushed xs stack) (λ args rest. entered s.target.code called r args (Called pc s.own rest s.frame ∷ s.saved))) found.row
    ∙ (popped s.target.code called pc s.own xs stack s.frame s.saved row (cases_lt 65_535 (length xs)) (sym (ap counted (takes routine e)))
    ∙ sym (ap (λ (x : Option RoutineRow). or_misfit x >>= λ r. entered s.target.code called r xs (Called pc s.own stack s.frame ∷ s.saved)) found.row))

-- the operation does the part that the source does; when the routine is left, execution continues after it with its
-- result
pub call_at : (s : Spot) (called pc : ℕ) (xs stack : List Datum) (value : Flow → Option Value) → IsCodeOf s.tree s.target → OpAt s pc (ops.Call called)
    → length (pushed xs stack) ≤ s.target.code.deepest → Takes s.tree called (length xs)
    → ((saved : List Saved) → SimPart s.target s.run (enter s.target.code called xs saved) (Call called xs) (λ flow. back_to saved (value flow)) (raised_to s.target.code saved))
    → Sim s.target s.run (standing s pc (pushed xs stack)) (calls called xs) (λ flow. standing s (pc + 1) (with_result (value flow) stack)) (failing s)
unfolding raised_to
call_at s called pc xs stack value code there room takes part =
    sim_op s pc (pushed xs stack) (ops.Call called) there room
    (sim_from (called_in s called pc xs stack (slice_get s.tree.routines called) code refl takes)
    (sim_does (λ flow. back_to (Called pc s.own stack s.frame ∷ s.saved) (value flow)) (raised_to s.target.code (Called pc s.own stack s.frame ∷ s.saved))
    (part (Called pc s.own stack s.frame ∷ s.saved)) (λ flow. sim_gives flow) (λ n. sim_raises n)))
