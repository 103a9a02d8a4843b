use Rattle.std.proofs.Common.{slice_get, ap, sym, ◌∙◌}
use Rattle.history_pages.proofs.Packed.{event_at, spelled_at}
use Rattle.history_pages.proofs.pages.Pages.get.Goals as goal

pub spelled-requires : goal.spelled-requires
spelled-requires c = spelled_at c.self.inside.heads.items c.self.inside.words.items c.args.k c.at.result c.at.ensures c.self.invariant.there

pub returns : goal.returns
returns c =
    sym (event_at c.self.inside.heads.items c.self.inside.words.items c.args.k c.at.result c.at.ensures c.self.invariant.there ∙ ap (λ p. slice_get p.events c.args.k) c.self.view_is)
    ∙ c.spelled.ensures
