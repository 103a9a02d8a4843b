-- An empty ERROR part.
use Rattle.std.proofs.Common.{◌≡◌, refl, ℕ, suc, List}
use Rattle.rapid_model.specs.declared.answer.Answer.{Answer}
use Rattle.typed_trees.specs.Plain.{TypedStmt, TypedTree, NoStmts}
use Rattle.rapid_meaning.specs.Answering.{fitting_of, performed}
use Rattle.rapid_meaning.specs.Data.{Data}
use Rattle.rapid_meaning.specs.Doings.{after}
use Rattle.rapid_meaning.specs.Errors.{failed_in}
use Rattle.rapid_meaning.specs.Flows.{Guarded, Unguarded, Where}
use Rattle.rapid_meaning.specs.Runs.{deep}

pub passes : (tree : TypedTree) (n : ℕ) (w : Where) (s : TypedStmt) (error : ℕ) (d : Data) (left : List Answer)
    → performed (fitting_of tree) (deep tree (suc n)) (failed_in (Guarded NoStmts) w s error) d left
    ≡ performed (fitting_of tree) (deep tree (suc n)) (failed_in Unguarded w s error) (record d { errno = error }) left
unfolding performed after deep
passes tree n w s error d left = refl
