-- Lists of statements, and jumps to labels.
use Rattle.std.proofs.Common.{◌≡◌, refl, sym, ap, ◌∙◌, subst, ℕ, ◌+◌, ◌==◌, Bool, true, false, Option, None, Some, if◌then◌else◌, arith}
use Rattle.std.proofs.lemmas.Bool.{eqb-true}
use Rattle.typed_trees.specs.Plain.{TypedStmt, TypedStmts, TypedTree, NoStmts, MoreStmts, Label}
use Rattle.rapid_meaning.specs.Answering.{Run}
use Rattle.rapid_meaning.specs.Flows.{Flow, Normal, Jumps, Returns, Retries, Skips, Rest}
use Rattle.rapid_meaning.specs.Lists.{behind, ended, items, jumped, rest}
use Rattle.rapid_meaning.specs.Statements.{and_then}
use Rattle.stack_code.specs.Sizes.{stmt_size}
use Rattle.stack_code.specs.StmtLayouts.{label_at, own_of, stmts_code}
use Rattle.code_laws.proofs.Bodies.{Body, begins, lands, leaving}
use Rattle.code_laws.proofs.Claims.{Claims, ListAt, Stands, StmtAt}
use Rattle.code_laws.proofs.CodeOf.{IsCodeOf}
use Rattle.code_laws.proofs.Looks.{again_sim}
use Rattle.code_laws.proofs.PastStmts.{past_stmt}
use Rattle.code_laws.proofs.Sim.{Sim, Target, sim_from, sim_gives, sim_then}
use Rattle.code_laws.proofs.Statements.{stmt_sim}

-- the first statement of a list, and those after it
pub first_of : (t : Target) (tree : TypedTree) (b : Body) (pc end : ℕ) (s : TypedStmt) (more : TypedStmts) → ListAt t tree b pc end (MoreStmts s more) → StmtAt t tree b pc s
first_of t tree b pc end s more at = record {
  behind = stmts_code tree b.stands.routine b.labels (pc + stmt_size tree b.stands.routine s) more at.behind;
  code = at.code;
  calls = at.calls.0;
  labels = at.labels.0;
  room = let room = at.room in omega (arith, room);
}

pub others_of : (t : Target) (tree : TypedTree) (b : Body) (pc end : ℕ) (s : TypedStmt) (more : TypedStmts) → ListAt t tree b pc end (MoreStmts s more)
    → ListAt t tree b (pc + stmt_size tree b.stands.routine s) end more
others_of t tree b pc end s more at = record {
  behind = at.behind;
  code = past_stmt t.code tree b.stands.routine b.labels (own_of tree b.stands.routine pc s) pc s (stmts_code tree b.stands.routine b.labels (pc + stmt_size tree b.stands.routine s) more at.behind) at.code;
  calls = at.calls.1;
  labels = at.labels.1;
  room = let room = at.room in omega (arith, room);
  past = let past = at.past in omega (arith, past);
}

-- the statements after a label are at its place
found_label : (t : Target) (tree : TypedTree) (b : Body) (pc end at number label : ℕ) (more others : TypedStmts) (same : Bool) → (number == label) ≡ same
    → ListAt t tree b pc end (MoreStmts (Label at number) more) → (ListAt t tree b (pc + 0) end more → behind label more ≡ Some others → ListAt t tree b (label_at b.labels label) end others)
    → (if same then Some more else behind label more) ≡ Some others → ListAt t tree b (label_at b.labels label) end others
found_label t tree b pc end at number label more others true same list go_on e =
    let here : label_at b.labels label ≡ pc + 0 = ap (λ (n : ℕ). label_at b.labels n) (sym (eqb-true number label same)) ∙ (list.labels.0 ∙ omega arith) in
    let these : more ≡ others = cc in
    subst (λ (x : ℕ). ListAt t tree b x end others) (sym here) (subst (λ (x : TypedStmts). ListAt t tree b (pc + 0) end x) these (others_of t tree b pc end (Label at number) more list))
found_label t tree b pc end at number label more others false same list go_on e = go_on (others_of t tree b pc end (Label at number) more list) e

labelled : (t : Target) (tree : TypedTree) (b : Body) (pc end label : ℕ) (list others : TypedStmts) → ListAt t tree b pc end list → behind label list ≡ Some others
    → ListAt t tree b (label_at b.labels label) end others
labelled t tree b pc end label NoStmts others list e = cc
labelled t tree b pc end label (MoreStmts (Label at number) more) others list e =
    found_label t tree b pc end at number label more others (number == label) refl list (labelled t tree b (pc + 0) end label more others) e
labelled t tree b pc end label (MoreStmts s more) others list e =
    labelled t tree b (pc + stmt_size tree b.stands.routine s) end label more others (others_of t tree b pc end s more list) e

-- what follows a list that ended so
list_ends : (t : Target) (tree : TypedTree) (run : Run) → Claims t tree run → (b : Body) (pc end : ℕ) (whole : TypedStmts) → Stands t tree b b.stands.errors → ListAt t tree b pc end whole
    → (flow : Flow) → Sim t run (lands b end flow) (ended b.stands whole flow) (lands b end) (leaving t b)
list_ends t tree run claims b pc end whole stands at Normal = sim_gives Normal
list_ends t tree run claims b pc end whole stands at (Jumps label) = found (behind label whole) refl
  where
    found : (o : Option TypedStmts) → behind label whole ≡ o → Sim t run (begins b (label_at b.labels label)) (jumped b.stands whole label o) (lands b end) (leaving t b)
    found None e = sim_gives (Jumps label)
    found (Some others) e =
        again_sim (begins b (label_at b.labels label)) (Rest b.stands whole others) (lands b end) (leaving t b)
        (claims.rests b pc (label_at b.labels label) end whole others stands at (labelled t tree b pc end label whole others at e))
list_ends t tree run claims b pc end whole stands at (Returns v) = sim_gives (Returns v)
list_ends t tree run claims b pc end whole stands at Retries = sim_gives Retries
list_ends t tree run claims b pc end whole stands at Skips = sim_gives Skips

-- a statement that ends normally goes on to the next; any other leads out of the list
next_items : (t : Target) (tree : TypedTree) (run : Run) (b : Body) (pc end : ℕ) (more : TypedStmts) → Sim t run (begins b pc) (items tree b.stands more) (lands b end) (leaving t b)
    → (flow : Flow) → Sim t run (lands b pc flow) (and_then (items tree b.stands more) flow) (lands b end) (leaving t b)
next_items t tree run b pc end more sim Normal = sim
next_items t tree run b pc end more sim (Jumps label) = sim_gives (Jumps label)
next_items t tree run b pc end more sim (Returns v) = sim_gives (Returns v)
next_items t tree run b pc end more sim Retries = sim_gives Retries
next_items t tree run b pc end more sim Skips = sim_gives Skips

-- the statements in order
items_sim : (t : Target) (tree : TypedTree) (run : Run) → IsCodeOf tree t → Claims t tree run → (b : Body) (pc end : ℕ) (more : TypedStmts) → Stands t tree b b.stands.errors
    → ListAt t tree b pc end more → Sim t run (begins b pc) (items tree b.stands more) (lands b end) (leaving t b)
items_sim t tree run code claims b pc end NoStmts stands at =
    let past = at.past in
    let here : pc ≡ end = omega (arith, past) in
    sim_from (ap (λ (x : ℕ). begins b x) here) (sim_gives Normal)
items_sim t tree run code claims b pc end (MoreStmts s more) stands at =
    sim_then (lands b (pc + stmt_size tree b.stands.routine s)) (stmt_sim t tree run code claims b pc s stands (first_of t tree b pc end s more at))
    (next_items t tree run b (pc + stmt_size tree b.stands.routine s) end more
    (items_sim t tree run code claims b (pc + stmt_size tree b.stands.routine s) end more stands (others_of t tree b pc end s more at)))

pub rest_sim : (t : Target) (tree : TypedTree) (run : Run) → IsCodeOf tree t → Claims t tree run → (b : Body) (pc more_pc end : ℕ) (whole more : TypedStmts)
    → Stands t tree b b.stands.errors → ListAt t tree b pc end whole → ListAt t tree b more_pc end more
    → Sim t run (begins b more_pc) (rest tree b.stands whole more) (lands b end) (leaving t b)
rest_sim t tree run code claims b pc more_pc end whole more stands at from =
    sim_then (lands b end) (items_sim t tree run code claims b more_pc end more stands from) (list_ends t tree run claims b pc end whole stands at)
