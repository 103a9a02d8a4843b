-- Code that has the routines of a tree does what its parts do.
use Rattle.std.proofs.Common.{ap, refl, subst, ℕ, ◌+◌, Bool, false, List, ◌∷◌, length}
use Rattle.rapid_model.specs.Fits.{Fitting}
use Rattle.typed_trees.specs.Plain.{TypedExpr, TypedRoutine, TypedTree}
use Rattle.typed_trees.specs.declared.datum.Datum.{Datum}
use Rattle.typed_trees.specs.declared.datum.Datum.TheVariants.{Plain}
use Rattle.rapid_meaning.specs.Answering.{performed}
use Rattle.rapid_meaning.specs.Doings.{Gives}
use Rattle.rapid_meaning.specs.Expressions.{expr}
use Rattle.rapid_meaning.specs.Runs.{deep}
use Rattle.stack_code.specs.CodeData.{CodeData}
use Rattle.stack_code.specs.CodeRuns.{fitting_by}
use Rattle.stack_code.specs.Confs.{Running, Saved, conf}
use Rattle.stack_code.specs.Placed.{Own}
use Rattle.stack_code.specs.Raising.{raised}
use Rattle.stack_code.specs.Sizes.{expr_size}
use Rattle.tree_typing.proofs.Rows.{all_at}
use Rattle.code_laws.specs.Calls.{Takes}
use Rattle.code_laws.specs.Orderly.{IsOrderly, IsOrderlyRoutine}
use Rattle.code_laws.proofs.Claims.{Claims}
use Rattle.code_laws.proofs.CodeOf.{Found, IsCodeOf}
use Rattle.code_laws.proofs.Expressions.{expr_sim}
use Rattle.code_laws.proofs.Sim.{Target}
use Rattle.code_laws.proofs.Spots.{Spot}
use Rattle.code_laws.proofs.Whole.{claims}
use Rattle.code_laws.specs.Following.{DoesAs}
use Rattle.code_laws.specs.Parts.{CallDoes, ExprDoes, ExprStands}
use Rattle.code_laws.specs.Routines.{HasRoutine, HasRoutines}

abbrev target : CodeData → Target
target code = record { code = code; by = fitting_by code }

found : (tree : TypedTree) (code : CodeData) (number : ℕ) (routine : TypedRoutine) → IsOrderlyRoutine tree routine → HasRoutine tree code number routine
    → Found tree (target code) number routine
found tree code number routine orderly has = record {
  entry = has.entry;
  first = has.first;
  row = has.row;
  behind = has.behind;
  code = has.stands;
  others = has.others;
  firsts = has.firsts;
  handler = has.handler;
  room = has.room;
  orderly = orderly;
}

is_code : (tree : TypedTree) (code : CodeData) → IsOrderly tree → HasRoutines tree code → IsCodeOf tree (target code)
is_code tree code orderly has = record {
  fits = has.fits;
  found = λ number routine there.
      found tree code number routine (all_at (IsOrderlyRoutine tree) tree.routines number routine orderly.routines there) (has.routines number routine there);
  missing = has.missing;
  tasks = has.tasks;
  main = has.main;
  axes = ap (λ (by : Bool → Fitting). (by false).axes) has.fits;
  main_takes = orderly.main;
}

all_claims : (tree : TypedTree) (code : CodeData) (depth : ℕ) → IsOrderly tree → HasRoutines tree code → Claims (target code) tree (deep tree depth)
all_claims tree code depth orderly has = claims tree (target code) (is_code tree code orderly has) depth

-- the answers that fit the tree are those that fit the code
pub expr_does : (tree : TypedTree) (code : CodeData) (routine : TypedRoutine) (own : Own) (pc : ℕ) (e : TypedExpr) (stack : List Datum) (frame : Running) (saved : List Saved) (depth : ℕ)
    → IsOrderly tree → HasRoutines tree code → ExprStands tree code routine own pc e (length stack) → ExprDoes tree code routine own pc e stack frame saved depth
expr_does tree code routine own pc e stack frame saved depth orderly has at =
    let spot : Spot = record { target = target code; run = deep tree depth; tree = tree; routine = routine; own = own; frame = frame; saved = saved } in
    let sim = expr_sim spot (is_code tree code orderly has) (all_claims tree code depth orderly has) pc (pc + expr_size e) stack e at.behind at.calls
    at.stands at.room refl in
    let does : DoesAs code (Gives (conf pc stack frame saved)) (performed (fitting_by code) (deep tree depth) (expr tree routine e))
    (λ v. Gives (conf (pc + expr_size e) (Plain v ∷ stack) frame saved)) (raised code own frame saved) = record { comes = sim.by } in
    subst (λ (by : Bool → Fitting). DoesAs code (Gives (conf pc stack frame saved)) (performed by (deep tree depth) (expr tree routine e))
    (λ v. Gives (conf (pc + expr_size e) (Plain v ∷ stack) frame saved)) (raised code own frame saved)) has.fits does

pub call_does : (tree : TypedTree) (code : CodeData) (number : ℕ) (args : List Datum) (saved : List Saved) (depth : ℕ)
    → IsOrderly tree → HasRoutines tree code → Takes tree number (length args) → CallDoes tree code number args saved depth
call_does tree code number args saved depth orderly has takes =
    let claimed = all_claims tree code depth orderly has in
    let sim = claimed.calls number args saved takes in
    record { comes = sim.by }
