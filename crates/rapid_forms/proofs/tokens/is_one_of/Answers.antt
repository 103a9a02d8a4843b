use Rattle.std.proofs.Common.{sym, ◌∙◌}
use Rattle.std.proofs.lemmas.List.{at_drop_more, at_drop_all}
use Rattle.rapid_forms.specs.Signs.{has}
use Rattle.rapid_forms.proofs.Codes.{has_here, has_behind}
use Rattle.rapid_forms.proofs.tokens.is_one_of.Goals as goal

pub returns-then-other-sign : goal.returns-then-other-sign
returns-then-other-sign c =
    sym (has_here _ _ _ c.if-other-sign.true) ∙ sym (at_drop_more (λ s. has s c.args.sign) c.args.signs.now c.loop-other.other-index _ c.loop-other-test.true) ∙ c.loop-other.invariant

pub loop-other-preserved : goal.loop-other-preserved
loop-other-preserved c =
    sym (has_behind _ _ _ c.if-other-sign.false) ∙ sym (at_drop_more (λ s. has s c.args.sign) c.args.signs.now c.loop-other.other-index _ c.loop-other-test.true) ∙ c.loop-other.invariant

pub returns : goal.returns
unfolding has
returns c = sym (at_drop_all (λ s. has s c.args.sign) c.args.signs.now c.loop-other.other-index c.loop-other-test.false) ∙ c.loop-other.invariant
