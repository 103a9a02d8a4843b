use Rattle.std.proofs.Common.{sym, ◌∙◌}
use Rattle.std.proofs.lemmas.List.{take_rest}
use Rattle.string_texts.proofs.Firsts.{first_fits}
use Rattle.string_texts.proofs.Begun.{begun_more, full_only, full_text, ended_spells, ended_only, stopped_only, stopped_text}
use Rattle.string_texts.proofs.text.text_after_quote.Goals as goal

pub returns-then-not-push-clause-only : goal.returns-then-not-push-clause-only
returns-then-not-push-clause-only c =
    full_only c.args.bytes.now c.loop-byte.left.now c.loop-byte.text c.in-Some.byte c.in-Some.len (sym c.in-Some.ensures) (sym c.push.ensures.taken ∙ c.if-not-push.true) c.loop-byte.invariant

pub returns-then-not-push-clause-text : goal.returns-then-not-push-clause-text
returns-then-not-push-clause-text c =
    full_text c.args.bytes.now c.loop-byte.left.now c.loop-byte.text c.in-Some.byte c.in-Some.len (sym c.in-Some.ensures) (sym c.push.ensures.taken ∙ c.if-not-push.true) c.loop-byte.invariant

pub slice_bounds-left-count : goal.slice_bounds-left-count
slice_bounds-left-count c = (first_fits c.loop-byte.left.now c.in-Some.byte c.in-Some.len (sym c.in-Some.ensures)).1

pub slice_bounds-left-start : goal.slice_bounds-left-start
slice_bounds-left-start c = (first_fits c.loop-byte.left.now c.in-Some.byte c.in-Some.len (sym c.in-Some.ensures)).1

pub loop-byte-preserved : goal.loop-byte-preserved
loop-byte-preserved c =
    rw (c.push.ensures.pushed, c.if-not-push.false, take_rest c.loop-byte.left.now c.in-Some.len)
    (begun_more c.args.bytes.now c.loop-byte.left.now c.loop-byte.text c.in-Some.byte c.in-Some.len (sym c.in-Some.ensures) (sym c.push.ensures.taken ∙ c.if-not-push.false) c.loop-byte.invariant)

pub returns-then-is_end-clause-spelled : goal.returns-then-is_end-clause-spelled
returns-then-is_end-clause-spelled c = ended_spells c.args.bytes.now c.loop-byte.left.now c.loop-byte.text (c.is_end.ensures.0 c.if-is_end.true) c.loop-byte.invariant

pub returns-then-is_end-clause-only : goal.returns-then-is_end-clause-only
returns-then-is_end-clause-only c t h le = ended_only c.args.bytes.now c.loop-byte.left.now c.loop-byte.text (sym c.in_default.ensures) c.loop-byte.invariant t h

pub returns-else-is_end-clause-only : goal.returns-else-is_end-clause-only
returns-else-is_end-clause-only c t h le =
    absurd (stopped_only c.args.bytes.now c.loop-byte.left.now c.loop-byte.text (sym c.in_default.ensures) (λ is. let yes = sym c.if-is_end.false ∙ c.is_end.ensures.1 is in cc) c.loop-byte.invariant t h)

pub returns-else-is_end-clause-text : goal.returns-else-is_end-clause-text
returns-else-is_end-clause-text c =
    stopped_text c.args.bytes.now c.loop-byte.left.now c.loop-byte.text (sym c.in_default.ensures) (λ is. let yes = sym c.if-is_end.false ∙ c.is_end.ensures.1 is in cc) c.loop-byte.invariant
