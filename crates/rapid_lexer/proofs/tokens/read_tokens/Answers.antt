use Rattle.rapid_lexer.proofs.Readings.{finds_tokens, finds_fault}
use Rattle.rapid_lexer.proofs.tokens.read_tokens.Goals as goal

pub returns-clause-only : goal.returns-clause-only
returns-clause-only c = finds_tokens (λ v. v.items) c.args.source.now c.all_tokens.result c.all_tokens.ensures.tiles c.all_tokens.ensures.fault

pub returns-clause-fault_only : goal.returns-clause-fault_only
returns-clause-fault_only c = finds_fault (λ v. v.items) c.args.source.now c.all_tokens.result c.all_tokens.ensures.tiles c.all_tokens.ensures.fault
