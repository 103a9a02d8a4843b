use Rattle.std.proofs.Common.{List, [], get_or, sym, ◌∙◌, ap}
use Rattle.rapid_model.specs.Paths.{has_path}
use Rattle.rapid_model.specs.declared.value.Value.{Value}
use Rattle.cell_meaning.specs.Stored.{value_at}
use Rattle.cell_core.proofs.Ready.{found, has_part}
use Rattle.cell_core.proofs.shared.Core.pers.Goals as goal

pub value-requires : goal.value-requires
value-requires c =
    let core = c.self.inside in
    let asked = rw (← c.self.view_is) at c.requires in
    let there = found core.cell c.args.pers (λ row. has_path row c.args.path.now) asked in
    has_part core.cell core.pages.events core.boards core.steps c.args.pers there.row c.args.path.now c.self.invariant.0 there.at there.so

pub returns : goal.returns
returns c =
    rw (← c.self.view_is) (ap (λ (rows : List (List Value)). value_at (get_or rows c.args.pers []) c.args.path.now) (sym c.self.invariant.0.store) ∙ c.value.ensures)
