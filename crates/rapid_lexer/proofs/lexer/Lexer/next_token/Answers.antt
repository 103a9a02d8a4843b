use Rattle.rapid_lexer.proofs.Nexts.{answer_right, answer_only}
use Rattle.rapid_lexer.proofs.lexer.Lexer.next_token.Goals as goal

pub returns-in-Some-Ok-clause-answer : goal.returns-in-Some-Ok-clause-answer
returns-in-Some-Ok-clause-answer c = answer_right _ c.args.self.now _ c.self.view_is c.in_default.is c.next_of-next.ensures.same

pub returns-in-Some-Ok-clause-only : goal.returns-in-Some-Ok-clause-only
returns-in-Some-Ok-clause-only c = answer_only _ c.args.self.now _ c.self.view_is c.in_default.is c.next_of-next.ensures.same

pub returns-in-Some-Err-clause-answer : goal.returns-in-Some-Err-clause-answer
returns-in-Some-Err-clause-answer c = answer_right _ c.args.self.now _ c.self.view_is c.in_default.is c.next_of-next.ensures.same

pub returns-in-Some-Err-clause-only : goal.returns-in-Some-Err-clause-only
returns-in-Some-Err-clause-only c = answer_only _ c.args.self.now _ c.self.view_is c.in_default.is c.next_of-next.ensures.same

pub returns-in-None-clause-answer : goal.returns-in-None-clause-answer
returns-in-None-clause-answer c = answer_right _ c.args.self.now _ c.self.view_is c.in_default.is c.next_of-next.ensures.same

pub returns-in-None-clause-only : goal.returns-in-None-clause-only
returns-in-None-clause-only c = answer_only _ c.args.self.now _ c.self.view_is c.in_default.is c.next_of-next.ensures.same
