-- First values that are kept in runs.
use Rattle.std.proofs.Common.{◌≡◌, ℕ, zero, suc, ◌+◌, ◌-◌, ◌<◌, ◌≤◌, min, List, [], ◌∷◌, ◌++◌, length, take, drop, replicate, get_or, refl, sym, ap, ◌∙◌, inl, inr, arith}
use Rattle.std.proofs.lemmas.Bool.{cases_lt}
use Rattle.std.proofs.lemmas.Grind.{flat_map-append}
use Rattle.std.proofs.lemmas.List.{take-append-drop, take-append-le, drop-append-le, drop_more, take_more, length-append, length-replicate, take-replicate, drop-replicate, append-nil}
use Rattle.std.proofs.lemmas.List.Concat.{flat_map-cons}
use Rattle.std.proofs.Math.Seq.{drop-append-add, take-append-add}
use Rattle.typed_trees.specs.declared.datum.Datum.{Datum}
use Rattle.stack_code.specs.CodeData.{CodeData}
use Rattle.stack_code.specs.Entering.{frame_in}
use Rattle.stack_code.specs.Firsts.{in_full}
use Rattle.stack_code.specs.declared.first_run.FirstRun.{FirstRun}
use Rattle.stack_code.specs.declared.routine_row.RoutineRow.{RoutineRow}
use Rattle.machine_stacks.specs.Starts.{frame_from, index_of, values_from}
use Rattle.machine_stacks.specs.declared.run_start.RunStart.{RunStart}

-- the values of one run
abbrev alike : FirstRun → List Datum
alike run = replicate run.count run.datum

pub in_full-cons : (run : FirstRun) (runs : List FirstRun) → in_full (run ∷ runs) ≡ replicate run.count run.datum ++ in_full runs
in_full-cons run runs = flat_map-cons alike run runs

-- values from a start on are those from its run on
pub values_from-run : (firsts : List FirstRun) (start : RunStart) (count : ℕ) → values_from firsts start count ≡ take count (drop start.skip (in_full (drop start.run firsts)))
values_from-run firsts start count =
    let before : List Datum = in_full (take start.run firsts) in
    let from : List Datum = in_full (drop start.run firsts) in
    let whole : in_full firsts ≡ before ++ from = ap in_full (sym (take-append-drop start.run firsts)) ∙ flat_map-append alike (take start.run firsts) (drop start.run firsts) in
    ap (take count) (ap (drop (length before + start.skip)) whole ∙ drop-append-add before from start.skip)

skipped : (skip count : ℕ) (datum : Datum) (more : List Datum) → drop skip (replicate count datum ++ more) ≡ replicate (count - min skip count) datum ++ drop (skip - min skip count) more
skipped skip count datum more =
    let len : length (replicate count datum) ≡ count = length-replicate count datum in
    elim (cases_lt skip count) [
      | inl below ↦
          let m : min skip count ≡ skip = omega arith in
          let none : skip - skip ≡ 0 = omega arith in
          rw (m, none) (drop-append-le skip (replicate count datum) more (omega arith) ∙ ap (λ xs. xs ++ more) (drop-replicate skip count datum))
      | inr past ↦
          let m : min skip count ≡ count = omega arith in
          let none : count - count ≡ 0 = omega arith in
          let e : skip ≡ length (replicate count datum) + (skip - count) = omega arith in
          rw (m, none) (ap (λ n. drop n (replicate count datum ++ more)) e ∙ drop-append-add (replicate count datum) more (skip - count))
    ]

taken : (left count : ℕ) (datum : Datum) (more : List Datum) → take left (replicate count datum ++ more) ≡ replicate (min left count) datum ++ take (left - min left count) more
taken left count datum more =
    let len : length (replicate count datum) ≡ count = length-replicate count datum in
    elim (cases_lt left count) [
      | inl below ↦
          let m : min left count ≡ left = omega arith in
          let none : left - left ≡ 0 = omega arith in
          rw (m, none) (take-append-le left (replicate count datum) more (omega arith) ∙ (take-replicate left count datum (omega arith)) ∙ sym (append-nil (replicate left datum)))
      | inr past ↦
          let m : min left count ≡ count = omega arith in
          let e : left ≡ length (replicate count datum) + (left - count) = omega arith in
          rw m (ap (λ n. take n (replicate count datum ++ more)) e ∙ take-append-add (replicate count datum) more (left - count))
    ]

-- one run of the first values of a frame
pub one_run : (left skip passed count : ℕ) (firsts : List FirstRun) (run : ℕ) (first : FirstRun)
    → run < length firsts → first ≡ get_or firsts run first → passed ≡ min skip first.count → count ≡ min left (first.count - passed)
    → take left (drop skip (in_full (drop run firsts))) ≡ replicate count first.datum ++ take (left - count) (drop (skip - passed) (in_full (drop (run + 1) firsts)))
one_run left skip passed count firsts run first h is p t =
    let more : List Datum = in_full (drop (run + 1) firsts) in
    let begins : drop run firsts ≡ first ∷ drop (run + 1) firsts = drop_more firsts run first h ∙ ap (λ r. r ∷ drop (run + 1) firsts) (sym is) in
    let whole : in_full (drop run firsts) ≡ replicate first.count first.datum ++ more = ap in_full begins ∙ in_full-cons first (drop (run + 1) firsts) in
    let n : count ≡ min left (first.count - min skip first.count) = t ∙ ap (λ x. min left (first.count - x)) p in
    rw (p, n)
    (ap (λ xs. take left (drop skip xs)) whole
    ∙ ap (take left) (skipped skip first.count first.datum more)
    ∙ taken left (first.count - min skip first.count) first.datum (drop (skip - min skip first.count) more))

-- there is room for a run if there is room for all that is left
pub room_for : (now before own more : List Datum) (count : ℕ) (datum : Datum) → now ++ (replicate count datum ++ more) ≡ before ++ own → length now + count ≤ length before + length own
room_for now before own more count datum e =
    let whole : length (now ++ (replicate count datum ++ more)) ≡ length (before ++ own) = ap length e in
    let left : length (now ++ (replicate count datum ++ more)) ≡ length now + length (replicate count datum ++ more) = length-append now (replicate count datum ++ more) in
    let run : length (replicate count datum ++ more) ≡ length (replicate count datum) + length more = length-append (replicate count datum) more in
    let right : length (before ++ own) ≡ length before + length own = length-append before own in
    let n : length (replicate count datum) ≡ count = length-replicate count datum in
    omega arith

pub same_default : (runs : List FirstRun) (i : ℕ) (d e : FirstRun) → i < length runs → get_or runs i d ≡ get_or runs i e
same_default [] i d e h = absurd (omega arith)
same_default (run ∷ runs) zero d e h = refl
same_default (run ∷ runs) (suc i) d e h = same_default runs i d e (omega arith)

-- a start in the next run
pub next_run : (firsts : List FirstRun) (run skip : ℕ) (d : FirstRun) → run < length firsts → (get_or firsts run d).count ≤ skip
    → index_of firsts (record { run = run + 1; skip = skip - (get_or firsts run d).count }) ≡ index_of firsts (record { run = run; skip = skip })
next_run firsts run skip d h k =
    let first : FirstRun = get_or firsts run d in
    let before : List Datum = in_full (take run firsts) in
    let whole : in_full (take (run + 1) firsts) ≡ before ++ in_full (first ∷ []) = ap in_full (take_more firsts run d h) ∙ flat_map-append alike (take run firsts) (first ∷ []) in
    let one : in_full (first ∷ []) ≡ replicate first.count first.datum ++ [] = in_full-cons first [] in
    let len : length (in_full (take (run + 1) firsts)) ≡ length before + first.count =
    ap length whole ∙ length-append before (in_full (first ∷ [])) ∙ ap (λ n. length before + n) (ap length (one ∙ append-nil (replicate first.count first.datum)) ∙ length-replicate first.count first.datum) in
    let enough : first.count ≤ skip = k in
    omega arith

-- the frame of a call, as the meaning of code makes it
pub frame_from-row : (code : CodeData) (row : RoutineRow) (args : List Datum) (firsts : List FirstRun) (start : RunStart)
    → code.firsts ≡ in_full firsts → index_of firsts start ≡ row.first → frame_from firsts start args (row.values - row.args) ≡ frame_in code row args
frame_from-row code row args firsts start all at = rw (all, at) refl
