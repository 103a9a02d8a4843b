use Rattle.std.proofs.Common.{◌≤◌, subst, sym}
use Rattle.rapid_model.proofs.Scripts.{axes-at_most}
use Rattle.rapid_limits.specs.declared.TheConstants.{MOST_AXES}
use Rattle.task_code.specs.declared.code.Code.TheInside.{Inside}
use Rattle.task_code.proofs.code.Code.axes.Goals as goal

pub returns-clause-few : goal.returns-clause-few
returns-clause-few c =
    subst (λ (inside : Inside). inside.linked.axes ≤ MOST_AXES) (sym c.self-inside.view_is) (axes-at_most c.self.inside.linked.axes c.self.invariant.axes)
