-- A call of a routine: its frame is made, and its list is done.
use Rattle.std.proofs.Common.{◌≡◌, refl, sym, ap, ◌∙◌, subst, ℕ, ◌+◌, ◌-◌, ◌≤◌, ◌<◌, ◌⊎◌, inl, inr, Bool, true, false, List, [], ◌∷◌, ◌++◌, length, take, drop, min, Option, None, Some, if◌then◌else◌, slice_get, arith}
use Rattle.std.specs.Option.{option_map}
use Rattle.std.proofs.Math.Nat.{min-eq_left, min-eq_right}
use Rattle.std.proofs.Math.Seq.{take-append_seam}
use Rattle.std.proofs.lemmas.Bool.{cases_lt}
use Rattle.std.proofs.lemmas.List.{length-append, length-take}
use Rattle.rapid_model.specs.declared.routine_kind.RoutineKind.{RoutineKind}
use Rattle.rapid_model.specs.declared.routine_kind.RoutineKind.TheVariants as kinds
use Rattle.rapid_model.specs.declared.fate.Fate.TheVariants as fates
use Rattle.rapid_model.specs.declared.fate.Fault.TheVariants.{DepthLimit, NoReturn}
use Rattle.rapid_model.specs.declared.value.Value.{Value}
use Rattle.typed_trees.specs.Plain.{TypedRoutine, TypedStmts, TypedTree}
use Rattle.typed_trees.specs.declared.datum.Datum.{Datum}
use Rattle.rapid_meaning.specs.Answering.{Run}
use Rattle.rapid_meaning.specs.Calls.{body, called, errors_of, result, within}
use Rattle.rapid_meaning.specs.Data.{Frame}
use Rattle.rapid_meaning.specs.Doings.{Doing, Gives, Raises, Reads, Writes, ◌>>◌, ◌>>=◌, after, done, fault, or_misfit}
use Rattle.rapid_meaning.specs.Flows.{Flow, Normal, Jumps, Returns, Retries, Skips, value_of}
use Rattle.rapid_meaning.specs.Frames.{enters, first_values, frame_of, has_room, leaves}
use Rattle.stack_code.specs.CodeData.{CodeData}
use Rattle.stack_code.specs.Compiled.{counted, end_op, own_end, part_code, part_need, part_start, routine_labels, routine_row}
use Rattle.stack_code.specs.Confs.{Saved, begun, conf}
use Rattle.stack_code.specs.Entering.{enter, entered, frame_in}
use Rattle.stack_code.specs.ExprLayouts.{put}
use Rattle.stack_code.specs.Placed.{placed_at, StandsAt}
use Rattle.stack_code.specs.Raising.{back_to, raised_to}
use Rattle.stack_code.specs.Sizes.{stmts_size}
use Rattle.stack_code.specs.declared.routine_row.RoutineRow.{RoutineRow}
use Rattle.stack_code.specs.declared.op.Op.TheVariants as ops
use Rattle.code_laws.specs.Calls.{StmtsCalls, Takes}
use Rattle.code_laws.specs.Orderly.{PartCalls}
use Rattle.code_laws.proofs.Bodies.{Body, lands, leaving}
use Rattle.code_laws.proofs.Calling.{no_room, refused}
use Rattle.code_laws.proofs.Claims.{Claims, ListAt, Stands}
use Rattle.code_laws.proofs.CodeOf.{Found, IsCodeOf}
use Rattle.code_laws.proofs.LabelPlaces.{PartLabels, labels_of}
use Rattle.code_laws.proofs.Lists.{rest_sim}
use Rattle.code_laws.proofs.PastStmts.{past_stmts}
use Rattle.code_laws.proofs.Same.{IsCalm, sim_calm}
use Rattle.code_laws.proofs.Sim.{Sim, Target, sim_after, sim_ends, sim_from, sim_gives, sim_misfit, sim_raises, sim_reads, sim_to}
use Rattle.code_laws.proofs.Spots.{Spot, sim_op}

-- data of a routine

-- if the count of values is exact, code makes the data that the source makes
same_values : (args firsts others kept : List Datum) (first count many : ℕ) → drop first kept ≡ firsts ++ others → many - count ≡ length firsts → args ++ take (many - count) (drop first kept) ≡ args ++ firsts
same_values args firsts others kept first count many there size =
    ap (λ (xs : List Datum). args ++ xs) (ap (λ (xs : List Datum). take (many - count) xs) there ∙ (ap (λ (n : ℕ). take n (firsts ++ others)) size ∙ take-append_seam firsts others))

-- room for a frame or not

pub enters_calm : (frame : Frame) → IsCalm (enters frame)
enters_calm frame d = either (has_room d.frames frame)
  where
    either : (b : Bool) → IsCalm (if b then Writes (record d { frames = frame ∷ d.frames }) done else fault DepthLimit)
    either true = tt
    either false = tt

-- a frame with more values than all frames may have is refused
too_big : {A : Type 0} (frame : Frame) (more : Doing A) → 20_000 < length frame.values → (enters frame >> more) ≡ Reads (λ d. fault DepthLimit)
unfolding after
too_big frame more many = λ i. Reads (λ d. after (refused (has_room d.frames frame) (Writes (record d { frames = frame ∷ d.frames }) done) (no_room d.frames frame many) i) (λ _. more) Raises)

-- what the code of a routine makes of its arguments

-- the count of values is exact
small_frame : (tree : TypedTree) (t : Target) (number : ℕ) (routine : TypedRoutine) (found : Found tree t number routine) (args : List Datum)
    → length routine.params + length (first_values routine) ≤ 65_535 → frame_in t.code (routine_row found.entry found.first routine) args ≡ frame_of routine args
small_frame tree t number routine found args few =
    let some : counted (length routine.params) ≡ length routine.params = min-eq_left (omega arith) in
    let all : counted (length routine.params + length (first_values routine)) ≡ length routine.params + length (first_values routine) = min-eq_left few in
    let size : counted (length routine.params + length (first_values routine)) - counted (length routine.params) ≡ length (first_values routine) = omega (arith, some, all) in
    ap (λ (values : List Datum). let f : Frame = record { values = values; seen = 0 } in f)
    (same_values args (first_values routine) found.others t.code.firsts found.first (counted (length routine.params)) (counted (length routine.params + length (first_values routine))) found.firsts size)

-- more than the count can say are too many for any frame, and so is the count
big_values : (args firsts others kept : List Datum) (first count many : ℕ) → drop first kept ≡ firsts ++ others → count ≡ min (length args) 65_535 → many ≡ 65_535 → 65_535 < length args + length firsts
    → 20_000 < length (args ++ take (many - count) (drop first kept))
big_values args firsts others kept first count many there counts all big = by_args (cases_lt 20_000 (length args))
  where
    whole : length (args ++ take (many - count) (drop first kept)) ≡ length args + min (many - count) (length firsts + length others)
    whole =
        length-append args (take (many - count) (drop first kept))
        ∙ ap (λ (n : ℕ). length args + n) (length-take (many - count) (drop first kept) ∙ ap (λ (n : ℕ). min (many - count) n) (ap length there ∙ length-append firsts others))

    by_args : (20_000 < length args) ⊎ (length args ≤ 20_000) → 20_000 < length (args ++ take (many - count) (drop first kept))
    by_args (inl much) = omega (arith, whole)
    by_args (inr few) =
        let same : count ≡ length args = counts ∙ min-eq_left (omega arith) in
        let part : min (many - count) (length firsts + length others) ≡ many - count = min-eq_left (omega (arith, same, all)) in
        omega (arith, whole, part, same, all)

big_frame : (tree : TypedTree) (t : Target) (number : ℕ) (routine : TypedRoutine) (found : Found tree t number routine) (args : List Datum) → length args ≡ length routine.params
    → 65_535 < length routine.params + length (first_values routine) → 20_000 < length (frame_in t.code (routine_row found.entry found.first routine) args).values
big_frame tree t number routine found args takes big =
    big_values args (first_values routine) found.others t.code.firsts found.first (counted (length routine.params)) (counted (length routine.params + length (first_values routine))) found.firsts
    (ap (λ (n : ℕ). min n 65_535) (sym takes)) (min-eq_right (omega arith)) (omega (arith, takes))

-- the list of a routine and its end

-- what the caller does after a routine that ended so
pub record Wants (kind : RoutineKind) (value : Flow → Option Value) : Type 0 where
  pub end : value Normal ≡ None
  pub gives : kind ≡ kinds.Func → (v : Value) → value (Returns (Some v)) ≡ Some v

abbrev pub body_of : Target → TypedTree → ℕ → TypedRoutine → ℕ → List Saved → Body
body_of t tree number routine entry saved = record { labels = routine_labels tree routine entry; stands = within routine; frame = begun number; saved = saved }

-- the place of its end
abbrev end_spot : Target → TypedTree → Run → TypedRoutine → Body → ℕ → Spot
end_spot t tree run routine b end = record { target = t; run = run; tree = tree; routine = routine; own = own_end routine end; frame = b.frame; saved = b.saved }

back_to_caller : (t : Target) (run : Run) (saved : List Saved) (value : Flow → Option Value) (x : Option Value) (f : Flow) → value f ≡ x
    → Sim t run (leaves >> back_to saved x) (leaves >> Gives f) (λ g. back_to saved (value g)) (raised_to t.code saved)
back_to_caller t run saved value x f e = sim_calm leaves Raises Raises (λ d. tt) (λ _. sim_from (ap (λ (y : Option Value). back_to saved y) (sym e)) (sim_gives f))

ended_routine : (t : Target) (tree : TypedTree) (run : Run) (routine : TypedRoutine) (b : Body) (end : ℕ) (value : Flow → Option Value) (kind : RoutineKind) → Wants kind value
    → placed_at t.code end ≡ Some (record { own = own_end routine end; op = end_op kind })
    → (flow : Flow) → Sim t run (lands b end flow) (result kind flow) (λ f. back_to b.saved (value f)) (raised_to t.code b.saved)
ended_routine t tree run routine b end value kinds.Func wants there Normal = sim_op (end_spot t tree run routine b end) end [] ops.NoBack there (omega arith) (sim_ends (fates.Fault NoReturn))
ended_routine t tree run routine b end value kinds.Func wants there (Jumps label) = sim_misfit
ended_routine t tree run routine b end value kinds.Func wants there (Returns None) = sim_misfit
ended_routine t tree run routine b end value kinds.Func wants there (Returns (Some v)) = back_to_caller t run b.saved value (Some v) (Returns (Some v)) (wants.gives refl v)
ended_routine t tree run routine b end value kinds.Func wants there Retries = sim_misfit
ended_routine t tree run routine b end value kinds.Func wants there Skips = sim_misfit
ended_routine t tree run routine b end value kind wants there Normal = sim_op (end_spot t tree run routine b end) end [] ops.Back there (omega arith) (back_to_caller t run b.saved value None Normal wants.end)
ended_routine t tree run routine b end value kind wants there (Jumps label) = sim_misfit
ended_routine t tree run routine b end value kind wants there (Returns None) = back_to_caller t run b.saved value None Normal wants.end
ended_routine t tree run routine b end value kind wants there (Returns (Some v)) = sim_misfit
ended_routine t tree run routine b end value kind wants there Retries = sim_misfit
ended_routine t tree run routine b end value kind wants there Skips = sim_misfit

-- where errors of its statements go
part_calls : (tree : TypedTree) (list : TypedStmts) (part : Option TypedStmts) → part ≡ Some list → PartCalls tree part → StmtsCalls tree list
part_calls tree list part e calls = subst (λ (x : Option TypedStmts). PartCalls tree x) e calls

stands_in : (tree : TypedTree) (t : Target) (number : ℕ) (routine : TypedRoutine) (found : Found tree t number routine) (saved : List Saved) (part : Option TypedStmts) → routine.handler ≡ part
    → Stands t tree (body_of t tree number routine found.entry saved) (errors_of part)
stands_in tree t number routine found saved None e = found.handler ∙ ap (λ (p : Option TypedStmts). option_map (λ list. part_start tree routine found.entry) p) e
stands_in tree t number routine found saved (Some list) e = (
  part_start tree routine found.entry,
  found.handler ∙ ap (λ (p : Option TypedStmts). option_map (λ list. part_start tree routine found.entry) p) e,
  refl,
  record {
    behind = found.behind;
    code = subst (λ (p : Option TypedStmts). StandsAt t.code (part_start tree routine found.entry) (part_code tree routine (routine_labels tree routine found.entry) (part_start tree routine found.entry) p found.behind)) e behind_list;
    calls = part_calls tree list routine.handler e found.orderly.part;
    labels = subst (λ (p : Option TypedStmts). PartLabels tree routine (routine_labels tree routine found.entry) (part_start tree routine found.entry) p) e (labels_of tree routine found.entry found.orderly).1;
    room = let room = found.room in let need = ap (λ (p : Option TypedStmts). part_need tree routine p) e in omega (arith, room, need);
  },
)
  where
    behind_list : StandsAt t.code (part_start tree routine found.entry) (part_code tree routine (routine_labels tree routine found.entry) (part_start tree routine found.entry) routine.handler found.behind)
    behind_list =
        (past_stmts t.code tree routine (routine_labels tree routine found.entry) found.entry routine.list
        (put (own_end routine (found.entry + stmts_size tree routine routine.list)) (end_op routine.kind) (part_code tree routine (routine_labels tree routine found.entry) (part_start tree routine found.entry) routine.handler found.behind))
        found.code).1

-- the list of a routine, and its end
body_sim : (t : Target) (tree : TypedTree) (run : Run) → IsCodeOf tree t → Claims t tree run → (number : ℕ) (routine : TypedRoutine) (found : Found tree t number routine) (saved : List Saved) (value : Flow → Option Value)
    → Wants routine.kind value → Sim t run (Gives (conf found.entry [] (begun number) saved)) (after (body tree routine) (result routine.kind) (λ error. leaves >> Raises error)) (λ f. back_to saved (value f)) (raised_to t.code saved)
body_sim t tree run code claims number routine found saved value wants =
    let b : Body = body_of t tree number routine found.entry saved in
    let end : ℕ = found.entry + stmts_size tree routine routine.list in
    sim_after (lands (body_of t tree number routine found.entry saved) (found.entry + stmts_size tree routine routine.list)) (leaving t (body_of t tree number routine found.entry saved))
    (rest_sim t tree run code claims (body_of t tree number routine found.entry saved) found.entry found.entry (found.entry + stmts_size tree routine routine.list) routine.list routine.list
    (stands_in tree t number routine found saved routine.handler refl) whole whole)
    (ended_routine t tree run routine (body_of t tree number routine found.entry saved) (found.entry + stmts_size tree routine routine.list) value routine.kind wants
    (past_stmts t.code tree routine (routine_labels tree routine found.entry) found.entry routine.list _ found.code).0)
    (λ error. sim_calm leaves Raises Raises (λ d. tt) (λ _. sim_raises error))
  where
    whole : ListAt t tree (body_of t tree number routine found.entry saved) found.entry (found.entry + stmts_size tree routine routine.list) routine.list
    whole = record {
      behind = put (own_end routine (found.entry + stmts_size tree routine routine.list)) (end_op routine.kind) (part_code tree routine (routine_labels tree routine found.entry) (part_start tree routine found.entry) routine.handler found.behind);
      code = found.code;
      calls = found.orderly.list;
      labels = (labels_of tree routine found.entry found.orderly).0;
      room = let room = found.room in omega (arith, room);
      past = refl;
    }

-- a routine that exists: its list if there is room, else a fault on both sides
entered_sim : (t : Target) (tree : TypedTree) (run : Run) → IsCodeOf tree t → Claims t tree run → (number : ℕ) (routine : TypedRoutine) (found : Found tree t number routine) (args : List Datum) (saved : List Saved)
    (value : Flow → Option Value) → Wants routine.kind value → length args ≡ length routine.params
    → (65_535 < length routine.params + length (first_values routine)) ⊎ (length routine.params + length (first_values routine) ≤ 65_535)
    → Sim t run (entered t.code number (routine_row found.entry found.first routine) args saved) (called tree args (Some routine)) (λ f. back_to saved (value f)) (raised_to t.code saved)
entered_sim t tree run code claims number routine found args saved value wants takes (inl big) =
    sim_from (too_big (frame_in t.code (routine_row found.entry found.first routine) args) (Gives (conf found.entry [] (begun number) saved)) (big_frame tree t number routine found args takes big))
    (sim_to (too_big (frame_of routine args) (after (body tree routine) (result routine.kind) (λ error. leaves >> Raises error)) (omega (arith, takes, length-append args (first_values routine))))
    (sim_reads (λ d. sim_ends (fates.Fault DepthLimit))))
entered_sim t tree run code claims number routine found args saved value wants takes (inr few) =
    sim_from (ap (λ (frame : Frame). enters frame >> Gives (conf found.entry [] (begun number) saved)) (small_frame tree t number routine found args few))
    (sim_calm (enters (frame_of routine args)) Raises Raises (enters_calm (frame_of routine args)) (λ _. body_sim t tree run code claims number routine found saved value wants))

enters_row : (code : CodeData) (number : ℕ) (args : List Datum) (saved : List Saved) (row : RoutineRow) → slice_get code.routines number ≡ Some row → enter code number args saved ≡ entered code number row args saved
unfolding after
enters_row code number args saved row there = ap (λ (o : Option RoutineRow). or_misfit o >>= λ r. entered code number r args saved) there

-- a routine by its number, if there is one
pub routine_called : (t : Target) (tree : TypedTree) (run : Run) → IsCodeOf tree t → Claims t tree run → (number : ℕ) (args : List Datum) (saved : List Saved) (value : Flow → Option Value)
    → Takes tree number (length args) → ((routine : TypedRoutine) → slice_get tree.routines number ≡ Some routine → Wants routine.kind value)
    → Sim t run (enter t.code number args saved) (called tree args (slice_get tree.routines number)) (λ flow. back_to saved (value flow)) (raised_to t.code saved)
routine_called t tree run code claims number args saved value takes wants = by_row (slice_get tree.routines number) refl
  where
    by_row : (o : Option TypedRoutine) → slice_get tree.routines number ≡ o
        → Sim t run (enter t.code number args saved) (called tree args o) (λ flow. back_to saved (value flow)) (raised_to t.code saved)
    by_row None e = sim_misfit
    by_row (Some routine) e =
        let found = code.found number routine e in
        sim_from (enters_row t.code number args saved (routine_row found.entry found.first routine) found.row) (entered_sim t tree run code claims number routine found args saved value (wants routine e) (takes routine e) (cases_lt 65_535 (length routine.params + length (first_values routine))))

pub called_sim : (t : Target) (tree : TypedTree) (run : Run) → IsCodeOf tree t → Claims t tree run → (routine : ℕ) (args : List Datum) (saved : List Saved) → Takes tree routine (length args)
    → Sim t run (enter t.code routine args saved) (called tree args (slice_get tree.routines routine)) (λ flow. back_to saved (value_of flow)) (raised_to t.code saved)
called_sim t tree run code claims routine args saved takes = routine_called t tree run code claims routine args saved value_of takes (λ r e. record { end = refl; gives = λ kind v. refl })
