-- The code of an instruction, from its Look, does what the instruction does.
use Rattle.std.proofs.Common.{◌≡◌, refl, ap, ◌∙◌, ℕ, ◌+◌, ◌≤◌, Bool, true, false, List, [], ◌∷◌, Some, arith}
use Rattle.rapid_model.specs.declared.instruction.Instruction.{Instruction}
use Rattle.rapid_model.specs.declared.instruction.Instruction.TheVariants as instructions
use Rattle.typed_trees.specs.Plain as trees
use Rattle.typed_trees.specs.Plain.{TypedArg, TypedArgs, TypedStmt, TypedTree, Given, Itself}
use Rattle.rapid_model.specs.declared.request.Request.TheVariants.{Hold, Rise}
use Rattle.rapid_meaning.specs.Answering.{Run}
use Rattle.rapid_meaning.specs.Data.{seen_in}
use Rattle.rapid_meaning.specs.Doings.{Raises, after, tells}
use Rattle.rapid_meaning.specs.Flows.{Normal, Attempt}
use Rattle.rapid_meaning.specs.Errors.{header}
use Rattle.rapid_meaning.specs.Instructions.{aimed, instructed, needed, options}
use Rattle.rapid_meaning.specs.Statements.{done_or_held, follows, points}
use Rattle.stack_code.specs.Needs.{pieces_need}
use Rattle.stack_code.specs.Pieces.{OfExpr, Travels, pieces_of_steps}
use Rattle.stack_code.specs.Placed.{Own, Placed, StandsAt}
use Rattle.stack_code.specs.Recipes.{recipe}
use Rattle.stack_code.specs.Sizes.{expr_size, pieces_size, stmt_size}
use Rattle.stack_code.specs.StmtLayouts.{own_of, pieces_code}
use Rattle.code_laws.proofs.BehindLook.{lands_at}
use Rattle.code_laws.proofs.Bodies.{Body, begins, begins_in, lands, leaving, spot_of}
use Rattle.code_laws.proofs.Claims.{Claims, LegsAt, Stands, StmtAt}
use Rattle.code_laws.proofs.CodeOf.{IsCodeOf}
use Rattle.code_laws.proofs.InstructionSteps.{settles}
use Rattle.code_laws.proofs.Instructed.{AreCalls, instructed_goes, needed_calls, options_calls}
use Rattle.code_laws.proofs.Instructions.{aim_goes, aims}
use Rattle.code_laws.proofs.Legs.{points_sim}
use Rattle.code_laws.proofs.Looks.{again_sim, ok_calm}
use Rattle.code_laws.proofs.Past.{past_expr}
use Rattle.code_laws.proofs.Recovery.{header_sim}
use Rattle.code_laws.proofs.Same.{sim_calm}
use Rattle.code_laws.proofs.Sim.{Sim, Target, sim_from, sim_gives, sim_misfit, sim_reads}
use Rattle.code_laws.proofs.Spots.{Spot}

-- what follows an instruction that is done, or a wait that is not ready
settled_ends : (t : Target) (tree : TypedTree) (run : Run) → Claims t tree run → (b : Body) (pc end past : ℕ) (s : TypedStmt) → end ≡ past → past ≡ pc + stmt_size tree b.stands.routine s
    → Stands t tree b b.stands.errors → StmtAt t tree b pc s
    → (is_done : Bool) → Sim t run (settles (spot_of t tree run b (own_of tree b.stands.routine pc s)) end is_done) (done_or_held (Attempt b.stands s) is_done) (lands b (pc + stmt_size tree b.stands.routine s)) (leaving t b)
settled_ends t tree run claims b pc end past s here there stands at true = sim_from (ap (λ (x : ℕ). begins b x) (here ∙ there)) (sim_gives Normal)
settled_ends t tree run claims b pc end past s here there stands at false =
    sim_reads (λ d. sim_calm (tells (Hold (seen_in d.frames))) Raises Raises ok_calm (λ _. sim_calm (tells Rise) Raises Raises ok_calm
    (λ _. again_sim (begins b pc) (Attempt b.stands s) (lands b (pc + stmt_size tree b.stands.routine s)) (leaving t b) (claims.attempts b pc s stands at))))

-- any other instruction
others_sim : (t : Target) (tree : TypedTree) (run : Run) → IsCodeOf tree t → Claims t tree run → (b : Body) (pc at : ℕ) (instruction : Instruction) (args : TypedArgs)
    → Stands t tree b b.stands.errors → StmtAt t tree b pc (trees.Instruct at instruction args)
    → Sim t run (begins b (pc + 1))
    (header b.stands (trees.Instruct at instruction args) (instructed tree b.stands.routine instruction (needed args) (options args)) (done_or_held (Attempt b.stands (trees.Instruct at instruction args))))
    (lands b (pc + stmt_size tree b.stands.routine (trees.Instruct at instruction args))) (leaving t b)
others_sim t tree run code claims b pc at instruction args stands place =
    header_sim t tree run claims b pc (trees.Instruct at instruction args) stands place (begins b (pc + 1)) (instructed tree b.stands.routine instruction (needed args) (options args))
    (done_or_held (Attempt b.stands (trees.Instruct at instruction args)))
    (settles (spot_of t tree run b (own_of tree b.stands.routine pc (trees.Instruct at instruction args))) (pc + 1 + pieces_size (pieces_of_steps tree b.stands.routine (needed args) (options args) (recipe instruction))))
    (instructed_goes (spot_of t tree run b (own_of tree b.stands.routine pc (trees.Instruct at instruction args))) code claims b.labels (pc + 1) instruction (needed args) (options args) place.behind
    (needed_calls tree args place.calls.0) (options_calls tree args place.calls.0) place.calls.1 place.code.1 place.room)
    (settled_ends t tree run claims b pc _ _ (trees.Instruct at instruction args) refl (omega arith) stands place)

-- MoveAbsJ, by its arguments
moves_sim : (t : Target) (tree : TypedTree) (run : Run) → IsCodeOf tree t → Claims t tree run → (b : Body) (pc : ℕ) (s : TypedStmt) (given others : List TypedArg) (ps : List Placed)
    → Stands t tree b b.stands.errors → StmtAt t tree b pc s → AreCalls tree given
    → StandsAt t.code (pc + 1) (pieces_code tree b.stands.routine b.labels (own_of tree b.stands.routine pc s) (pc + 1) (pieces_of_steps tree b.stands.routine given others (recipe instructions.MoveAbsJ)) ps)
    → pieces_need 0 (pieces_of_steps tree b.stands.routine given others (recipe instructions.MoveAbsJ)) ≤ t.code.deepest
    → pc + 1 + pieces_size (pieces_of_steps tree b.stands.routine given others (recipe instructions.MoveAbsJ)) ≡ pc + stmt_size tree b.stands.routine s
    → Sim t run (begins b (pc + 1)) (header b.stands s (aimed tree b.stands.routine given) (points b.stands s)) (lands b (pc + stmt_size tree b.stands.routine s)) (leaving t b)
unfolding pieces_code pieces_size after
moves_sim t tree run code claims b pc s (Given to ∷ Given speed ∷ Itself zone ∷ Itself tool ∷ []) others ps stands place calls there room past =
    let own : Own = own_of tree b.stands.routine pc s in
    let spot : Spot = spot_of t tree run b own in
    let x : ℕ = pc + 1 + 1 + expr_size to + expr_size speed in
    let behind : StandsAt t.code (pc + 1 + 1 + expr_size to) (pieces_code tree b.stands.routine b.labels own (pc + 1 + 1 + expr_size to) (OfExpr speed ∷ Travels ∷ []) ps) =
    past_expr t.code tree b.stands.routine own (pc + 1 + 1) to (pieces_code tree b.stands.routine b.labels own (pc + 1 + 1 + expr_size to) (OfExpr speed ∷ Travels ∷ []) ps) there.1 in
    let last : StandsAt t.code x (pieces_code tree b.stands.routine b.labels own x (Travels ∷ []) ps) =
    past_expr t.code tree b.stands.routine own (pc + 1 + 1 + expr_size to) speed (pieces_code tree b.stands.routine b.labels own x (Travels ∷ []) ps) behind in
    let at : LegsAt t b (x + 1) own s = record { point = last.1.0; look = last.1.1.0; jump = last.1.1.1.0; place = refl } in
    let ends : x + 1 + 1 + 1 + 1 ≡ pc + stmt_size tree b.stands.routine s = omega (arith, past) in
    header_sim t tree run claims b pc s stands place (begins b (pc + 1)) (aims spot to speed) (points b.stands s) (λ way. begins_in b (x + 1) (Some way))
    (aim_goes spot code claims b.labels (pc + 1) to speed ps calls.0 calls.1.0 there room)
    (λ way. lands_at b (begins_in b (x + 1) (Some way)) (points b.stands s way) (x + 1 + 1 + 1 + 1) (pc + stmt_size tree b.stands.routine s) ends
    (points_sim t tree run claims b (x + 1) own s way at))
moves_sim t tree run code claims b pc s given others ps stands place calls there room past = sim_misfit

pub instruct_sim : (t : Target) (tree : TypedTree) (run : Run) → IsCodeOf tree t → Claims t tree run → (b : Body) (pc at : ℕ) (instruction : Instruction) (args : TypedArgs)
    → Stands t tree b b.stands.errors → StmtAt t tree b pc (trees.Instruct at instruction args)
    → Sim t run (begins b (pc + 1)) (follows tree b.stands (trees.Instruct at instruction args) (trees.Instruct at instruction args))
    (lands b (pc + stmt_size tree b.stands.routine (trees.Instruct at instruction args))) (leaving t b)
instruct_sim t tree run code claims b pc at instructions.MoveAbsJ args stands place =
    moves_sim t tree run code claims b pc (trees.Instruct at instructions.MoveAbsJ args) (needed args) (options args) place.behind stands place (needed_calls tree args place.calls.0) place.code.1 place.room (omega arith)
instruct_sim t tree run code claims b pc at instruction args stands place = others_sim t tree run code claims b pc at instruction args stands place
