use Rattle.tree_typing.proofs.Own.{are_own, may_be_asked}
use Rattle.tree_typing.proofs.laws.requests_suit_the_task.Goals as goal

pub returns-clause-suits : goal.returns-clause-suits
returns-clause-suits c = λ cell number row tree answers request there typed numbered asking. may_be_asked cell number row tree answers request there typed numbered asking

pub returns-clause-own : goal.returns-clause-own
returns-clause-own c = λ number tree mine are. are_own number tree mine are
