use Rattle.std.proofs.Common.{◌≡◌, ℕ, Bool, length, ◌∙◌, ap}
use Rattle.std.specs.Prelude.{◌&&◌, not, nat_lt}
use Rattle.cell_meaning.specs.Fates.{all_ended}
use Rattle.cell_meaning.specs.Inputs.{inputs_done}
use Rattle.cell_core.specs.Reading.{is_passed}
use Rattle.cell_core.proofs.Opening.{open_is}
use Rattle.cell_core.proofs.Ready.{can_pass}
use Rattle.cell_core.proofs.shared.Core.lets_pass.Goals as goal

pub is_passed-passed-requires : goal.is_passed-passed-requires
is_passed-passed-requires c =
    let core = c.self.inside in
    let at = rw (← c.self.view_is) at c.requires in
    can_pass core.cell core.pages.events core.boards core.steps (inputs_done core.cell core.pages.events) c.args.row.now c.self.invariant.0 at

pub returns : goal.returns
returns c =
    let core = c.self.inside in
    let row = c.args.row.now in
    let at = rw (← c.self.view_is) at c.requires in
    let can = can_pass core.cell core.pages.events core.boards core.steps (inputs_done core.cell core.pages.events) row c.self.invariant.0 at in
    let over : c.all_ended-over.result ≡ all_ended (length core.cell.tasks) core.pages.events = rw (← c.self.view_is) at c.all_ended-over.ensures in
    rw (← c.self.view_is) (c.all_so.ensures
    ∙ ap (λ (b : Bool). b && not c.all_ended-over.result && nat_lt c.counted-counted.result core.steps) c.is_passed-passed.ensures
    ∙ ap (λ (b : Bool). is_passed core.boards row && not b && nat_lt c.counted-counted.result core.steps) over
    ∙ ap (λ (n : ℕ). is_passed core.boards row && not (all_ended (length core.cell.tasks) core.pages.events) && nat_lt n core.steps) c.counted-counted.ensures
    ∙ open_is core.cell core.pages.events core.boards core.steps row c.self.invariant.0 at can)
