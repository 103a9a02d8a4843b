use Rattle.std.proofs.Common.{◌≡◌, Option, slice_get, ap, ◌∙◌, subst}
use Rattle.std.specs.Prelude.{IfSome}
use Rattle.rapid_model.specs.declared.event.Event.{Event}
use Rattle.history_pages.specs.Pages.{given_in}
use Rattle.history_pages.proofs.Packed.{event_at, spelled_at}
use Rattle.history_pages.proofs.pages.Pages.given.Goals as goal

pub given-requires : goal.given-requires
given-requires c = spelled_at c.self.inside.heads.items c.self.inside.words.items c.args.k c.at.result c.at.ensures c.self.invariant.there

pub returns : goal.returns
returns c = λ event at.
    subst (λ (o : Option Event). IfSome o (λ e. c.given.result ≡ given_in e))
    (event_at c.self.inside.heads.items c.self.inside.words.items c.args.k c.at.result c.at.ensures c.self.invariant.there ∙ ap (λ p. slice_get p.events c.args.k) c.self.view_is ∙ at)
    c.given.ensures
