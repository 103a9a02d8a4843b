use Rattle.std.proofs.Common.{slice_get, ap, sym, ◌∙◌}
use Rattle.history_pages.proofs.Lined.{lined_at}
use Rattle.history_pages.proofs.pages.Pages.is_lined.Goals as goal

pub returns-in-Some : goal.returns-in-Some
returns-in-Some c = λ event at.
    c.is_lined.ensures
    ∙ lined_at c.self.inside.heads.items c.self.inside.words.items c.args.k c.in-Some.head event (sym c.get.ensures ∙ c.in-Some.is) c.self.invariant.there
    (ap (λ p. slice_get p.events c.args.k) c.self.view_is ∙ at)
