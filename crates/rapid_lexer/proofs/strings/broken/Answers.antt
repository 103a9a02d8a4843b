use Rattle.std.proofs.Common.{◌+◌, ap, ◌∙◌}
use Rattle.std.proofs.lemmas.List.{take_rest}
use Rattle.rapid_lexer.specs.Reading.{stopped, broken}
use Rattle.rapid_lexer.proofs.CharacterLoop.{broken_some}
use Rattle.rapid_lexer.proofs.strings.broken.Goals as goal

pub returns-in-None : goal.returns-in-None
unfolding broken
returns-in-None c = rw (← c.in-None.ensures.same)

pub returns-in-Some : goal.returns-in-Some
returns-in-Some c = c.stopped.ensures ∙ ap (stopped c.args.quote (c.args.quote + 1 + c.in-Some.len)) (take_rest c.args.bytes.now c.in-Some.len) ∙ broken_some c.args.quote c.in-Some.len c.args.bytes.now c.in-Some.ensures.same
