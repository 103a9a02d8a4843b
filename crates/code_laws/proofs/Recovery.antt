-- Errors of a statement's own work go into the ERROR part of its routine, or leave the routine.
use Rattle.std.proofs.Common.{◌≡◌, refl, sym, ap, ap₂, subst, ℕ, ◌+◌, [], Option, Some, arith}
use Rattle.typed_trees.specs.Plain.{TypedStmt, TypedTree}
use Rattle.rapid_meaning.specs.Answering.{Run}
use Rattle.rapid_meaning.specs.Doings.{Doing, Does, Gives, Raises, change, goes_to}
use Rattle.rapid_meaning.specs.Errors.{failed, failed_in, header, parted}
use Rattle.rapid_meaning.specs.Flows.{Flow, Normal, Jumps, Returns, Retries, Skips, Errors, Unguarded, Guarded, InPart, Attempt, Rest}
use Rattle.stack_code.specs.Compiled.{own_end}
use Rattle.stack_code.specs.Confs.{Conf, Failed, Running, behind_part, conf, in_part}
use Rattle.stack_code.specs.ExprLayouts.{put}
use Rattle.stack_code.specs.Placed.{Own, placed_at}
use Rattle.stack_code.specs.Raising.{part_or, part_unless, raised, raised_out}
use Rattle.stack_code.specs.Sizes.{stmt_size, stmts_size}
use Rattle.stack_code.specs.StmtLayouts.{own_of}
use Rattle.stack_code.specs.declared.op.Op.TheVariants as ops
use Rattle.code_laws.proofs.Bodies.{Body, begins, lands, leaving}
use Rattle.code_laws.proofs.Claims.{Claims, ListAt, Stands, StmtAt}
use Rattle.code_laws.proofs.Looks.{again_sim}
use Rattle.code_laws.proofs.PastStmts.{past_stmts}
use Rattle.code_laws.proofs.Same.{sim_calm}
use Rattle.code_laws.proofs.Sim.{Sim, Target, sim_after, sim_does, sim_from, sim_gives, sim_misfit, sim_raises}
use Rattle.code_laws.proofs.Spots.{sim_op}

-- in its ERROR part
abbrev pub part_body : Body → Own → ℕ → Body
part_body b own error = record b { stands = record b.stands { errors = InPart error }; frame = in_part b.frame own error }

-- the ERROR part reaches its end: the error leaves the routine
fell_through : (t : Target) (tree : TypedTree) (run : Run) (b : Body) (own : Own) (end error : ℕ) (next : Flow → Doing Conf)
    → placed_at t.code end ≡ Some (record { own = own_end b.stands.routine end; op = ops.Again })
    → Sim t run (begins (part_body b own error) end) (Raises error) next (leaving t b)
fell_through t tree run b own end error next there =
    sim_op (record { target = t; run = run; tree = tree; routine = b.stands.routine; own = own_end b.stands.routine end; frame = in_part b.frame own error; saved = b.saved })
    end [] ops.Again there (omega arith) (sim_raises error)

failed_by : (t : Target) (tree : TypedTree) (run : Run) → Claims t tree run → (b : Body) (pc : ℕ) (s : TypedStmt) (errors : Errors) → Stands t tree b errors → Stands t tree b b.stands.errors
    → StmtAt t tree b pc s → (error : ℕ)
    → Sim t run (raised t.code (own_of tree b.stands.routine pc s) b.frame b.saved error) (failed_in errors b.stands s error) (lands b (pc + stmt_size tree b.stands.routine s)) (leaving t b)
failed_by t tree run claims b pc s Unguarded none stands at error =
    let own : Own = own_of tree b.stands.routine pc s in
    subst (λ (h : Option ℕ). Sim t run (part_or h own b.frame b.saved error (raised_out t.code b.saved error)) (Raises error) (lands b (pc + stmt_size tree b.stands.routine s)) (leaving t b)) (sym none) (sim_raises error)
failed_by t tree run claims b pc s (InPart entered) part stands at error =
    let own : Own = own_of tree b.stands.routine pc s in
    subst (λ (h : Option ℕ). Sim t run (part_or h own b.frame b.saved error (raised_out t.code b.saved error)) (Raises error) (lands b (pc + stmt_size tree b.stands.routine s)) (leaving t b)) (sym part.1)
    (subst (λ (f : Option Failed). Sim t run (part_unless f part.0 own b.frame b.saved error (raised_out t.code b.saved error)) (Raises error) (lands b (pc + stmt_size tree b.stands.routine s)) (leaving t b)) (sym part.3) (sim_raises error))
failed_by t tree run claims b pc s (Guarded list) part stands at error =
    let own : Own = own_of tree b.stands.routine pc s in
    subst (λ (h : Option ℕ). Sim t run (part_or h own b.frame b.saved error (raised_out t.code b.saved error)) (failed_in (Guarded list) b.stands s error) (lands b (pc + stmt_size tree b.stands.routine s)) (leaving t b)) (sym part.1)
    (subst (λ (f : Option Failed). Sim t run (part_unless f part.0 own b.frame b.saved error (raised_out t.code b.saved error)) (failed_in (Guarded list) b.stands s error) (lands b (pc + stmt_size tree b.stands.routine s)) (leaving t b)) (sym part.2)
    (sim_calm (change (λ d. record d { errno = error })) Raises Raises (λ d. tt) (λ _. in_it own)))
  where
    end : ℕ
    end = part.0 + stmts_size tree b.stands.routine list

    behind_it : Own → Flow → Doing Conf
    behind_it own = lands (part_body b own error) end

    list_at : (own : Own) → ListAt t tree (part_body b own error) part.0 end list
    list_at own = record {
      behind = put (own_end b.stands.routine end) ops.Again part.3.behind;
      code = part.3.code;
      calls = part.3.calls;
      labels = part.3.labels;
      room = part.3.room;
      past = refl;
    }

    itself : behind_part b.frame ≡ b.frame
    itself = ap (λ (f : Option Failed). let x : Running = record { routine = b.frame.routine; failed = f } in x) (sym part.2)

    again : (own : Own) → own ≡ own_of tree b.stands.routine pc s → Sim t run (behind_it own Retries) (goes_to (Attempt b.stands s)) (lands b (pc + stmt_size tree b.stands.routine s)) (leaving t b)
    again own e =
        sim_from (ap₂ (λ (frame : Running) (x : Own). Gives (conf x.retry [] frame b.saved)) itself e)
        (again_sim (begins b pc) (Attempt b.stands s) (lands b (pc + stmt_size tree b.stands.routine s)) (leaving t b) (claims.attempts b pc s stands at))

    past : (own : Own) → own ≡ own_of tree b.stands.routine pc s → Sim t run (behind_it own Skips) (Gives Normal) (lands b (pc + stmt_size tree b.stands.routine s)) (leaving t b)
    past own e =
        sim_from (ap₂ (λ (frame : Running) (x : Own). Gives (conf x.next [] frame b.saved)) itself e) (sim_gives Normal)

    ends : (own : Own) → own ≡ own_of tree b.stands.routine pc s → (flow : Flow) → Sim t run (behind_it own flow) (parted b.stands s error flow) (lands b (pc + stmt_size tree b.stands.routine s)) (leaving t b)
    ends own e Normal = fell_through t tree run b own end error (lands b (pc + stmt_size tree b.stands.routine s)) (past_stmts t.code tree b.stands.routine b.labels part.0 list (put (own_end b.stands.routine end) ops.Again part.3.behind) part.3.code).0
    ends own e (Jumps label) = sim_misfit
    ends own e (Returns v) = sim_gives (Returns v)
    ends own e Retries = again own e
    ends own e Skips = past own e

    in_it : (own : Own) → Sim t run (Gives (conf part.0 [] (in_part b.frame (own_of tree b.stands.routine pc s) error) b.saved))
        (Does (Rest (record b.stands { errors = InPart error }) list list) (parted b.stands s error) Raises) (lands b (pc + stmt_size tree b.stands.routine s)) (leaving t b)
    in_it _ =
        let own : Own = own_of tree b.stands.routine pc s in
        sim_does (behind_it own) (leaving t b) (claims.rests (part_body b own error) part.0 part.0 end list list (part.0, part.1, own, refl) (list_at own) (list_at own)) (ends own refl) (λ n. sim_raises n)

pub failed_sim : (t : Target) (tree : TypedTree) (run : Run) → Claims t tree run → (b : Body) (pc : ℕ) (s : TypedStmt) → Stands t tree b b.stands.errors → StmtAt t tree b pc s → (error : ℕ)
    → Sim t run (raised t.code (own_of tree b.stands.routine pc s) b.frame b.saved error) (failed b.stands s error) (lands b (pc + stmt_size tree b.stands.routine s)) (leaving t b)
failed_sim t tree run claims b pc s stands at error = failed_by t tree run claims b pc s b.stands.errors stands stands at error

-- errors of the statement's own work are its own
pub header_sim : {A : Type 0} (t : Target) (tree : TypedTree) (run : Run) → Claims t tree run → (b : Body) (pc : ℕ) (s : TypedStmt) → Stands t tree b b.stands.errors → StmtAt t tree b pc s
    → (x : Doing Conf) (own : Doing A) (f : A → Doing Flow) (between : A → Doing Conf)
    → Sim t run x own between (raised t.code (own_of tree b.stands.routine pc s) b.frame b.saved)
    → ((v : A) → Sim t run (between v) (f v) (lands b (pc + stmt_size tree b.stands.routine s)) (leaving t b))
    → Sim t run x (header b.stands s own f) (lands b (pc + stmt_size tree b.stands.routine s)) (leaving t b)
header_sim t tree run claims b pc s stands at x own f between first second =
    sim_after between (raised t.code (own_of tree b.stands.routine pc s) b.frame b.saved) first second (λ n. failed_sim t tree run claims b pc s stands at n)
