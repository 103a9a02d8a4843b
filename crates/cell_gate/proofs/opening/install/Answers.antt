use Rattle.std.proofs.Common.{◌≡◌, [], ◌∷◌, sym, ◌∙◌, ap, Some, None, rules}
use Rattle.cell_gate.specs.Steps.{Hand}
use Rattle.cell_gate.specs.Views.{first_view, after_open}
use Rattle.cell_gate.proofs.Keeps.{open_allowed, give_allowed}
use Rattle.cell_gate.proofs.opening.install.Goals as goal

pub load-requires : goal.load-requires
load-requires c =
    let first = c.requires.first in
    (search rules, search rules, open_allowed _ _ _ _ (ap (λ (h : Hand). h.0.holds) first) (ap (λ (h : Hand). h.0.fresh) first) (ap (λ (h : Hand). h.0.spent) first))

pub swap-requires : goal.swap-requires
swap-requires c =
    let out : c.load.new.seat.me ≡ (after_open (first_view c.args.core.cell), (0, None) ∷ []) = c.load.ensures.2 ∙ ap (λ (h : Hand). (after_open h.0, (0, None) ∷ h.1)) c.requires.first in
    let is : c.put.new.place.me ≡ (after_open (first_view c.args.core.cell), (0, Some c.args.core) ∷ []) = c.put.ensures.me ∙ ap (λ (h : Hand). (h.0, (0, Some c.args.core) ∷ [])) out in (
      search rules,
      search rules,
      give_allowed _ _ _ _ c.args.core (ap (λ (h : Hand). h.1) is) (ap (λ (h : Hand). h.0.holds) is) (ap (λ (h : Hand). h.0.spent) is) (sym (ap (λ (h : Hand). h.0.cell) is))
          (c.requires.no_events ∙ sym (ap (λ (h : Hand). h.0.seen) is)),
    )
