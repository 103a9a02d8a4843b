-- What the code of an expression and of a routine does.
use Rattle.std.specs.Prelude.{ℕ, ◌+◌, ◌≤◌, List, ◌∷◌}
use Rattle.typed_trees.specs.Plain.{TypedExpr, TypedRoutine, TypedTree}
use Rattle.typed_trees.specs.declared.datum.Datum.{Datum}
use Rattle.typed_trees.specs.declared.datum.Datum.TheVariants.{Plain}
use Rattle.rapid_meaning.specs.Answering.{fitting_of, performed}
use Rattle.rapid_meaning.specs.Doings.{Gives}
use Rattle.rapid_meaning.specs.Expressions.{expr}
use Rattle.rapid_meaning.specs.Flows.{Call, value_of}
use Rattle.rapid_meaning.specs.Runs.{deep}
use Rattle.stack_code.specs.CodeData.{CodeData}
use Rattle.stack_code.specs.Confs.{Running, Saved, conf}
use Rattle.stack_code.specs.Entering.{enter}
use Rattle.stack_code.specs.ExprLayouts.{expr_code}
use Rattle.stack_code.specs.Needs.{expr_need}
use Rattle.stack_code.specs.Placed.{Own, Placed, StandsAt}
use Rattle.stack_code.specs.Raising.{back_to, raised, raised_to}
use Rattle.stack_code.specs.Sizes.{expr_size}
use Rattle.code_laws.specs.Calls.{ExprCalls}
use Rattle.code_laws.specs.Following.{DoesAs}

-- The code of an expression of a routine is at a place, owned by this statement, with anything after it. Its calls pass
-- as many arguments as the routines take, and there is room for its operands above this many.
pub record ExprStands (tree : TypedTree) (code : CodeData) (routine : TypedRoutine) (own : Own) (pc : ℕ) (e : TypedExpr) (below : ℕ) : Type 0 where
  pub behind : List Placed
  pub stands : StandsAt code pc (expr_code tree routine own pc e behind)
  pub calls : ExprCalls tree e
  pub room : below + expr_need e ≤ code.deepest

-- code from there does what the expression does; after it the value is on the operands, and an error is the statement's
abbrev pub ExprDoes : TypedTree → CodeData → TypedRoutine → Own → ℕ → TypedExpr → List Datum → Running → List Saved → ℕ → Type 0
ExprDoes tree code routine own pc e stack frame saved depth =
    DoesAs code (Gives (conf pc stack frame saved)) (performed (fitting_of tree) (deep tree depth) (expr tree routine e))
    (λ v. Gives (conf (pc + expr_size e) (Plain v ∷ stack) frame saved)) (raised code own frame saved)

-- a routine that is entered does what its call does; execution then returns to what was saved, with the value or with
-- the error
abbrev pub CallDoes : TypedTree → CodeData → ℕ → List Datum → List Saved → ℕ → Type 0
CallDoes tree code number args saved depth =
    DoesAs code (enter code number args saved) (deep tree depth (Call number args)) (λ flow. back_to saved (value_of flow)) (raised_to code saved)
