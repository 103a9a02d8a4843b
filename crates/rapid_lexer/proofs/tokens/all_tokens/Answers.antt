use Rattle.std.proofs.Common.{◌≡◌}
use Rattle.std.proofs.lemmas.List.{map_push}
use Rattle.rapid_lexer.specs.Tokens.{view, views}
use Rattle.rapid_lexer.proofs.Readings.{read_first, read_token, read_falls, read_error}
use Rattle.rapid_lexer.proofs.tokens.all_tokens.Goals as goal

pub loop-next-init : goal.loop-next-init
loop-next-init c = rw c.new-tokens.ensures.items (read_first c.args.source.now c.new-lexer.result c.new-lexer.ensures.source c.new-lexer.ensures.front)

pub loop-next-smaller : goal.loop-next-smaller
loop-next-smaller c =
    read_falls c.args.source.now c.loop-next.lexer c.next_token.new.self (views c.loop-next.tokens.items) c.in-Some.next c.in-Ok.token c.in-Ok.is c.loop-next.invariant c.in-Some.ensures.answer c.in-Some.ensures.after

pub loop-next-preserved : goal.loop-next-preserved
loop-next-preserved c =
    rw (c.in_ok-push-in-Ok.ensures.items, map_push view c.loop-next.tokens.items c.in-Ok.token)
    (read_token c.args.source.now c.loop-next.lexer c.next_token.new.self (views c.loop-next.tokens.items) c.in-Some.next c.in-Ok.token c.in-Ok.is c.loop-next.invariant c.in-Some.ensures.answer c.in-Some.ensures.after)

pub returns-in-Err-clause-fault : goal.returns-in-Err-clause-fault
returns-in-Err-clause-fault c = λ f e.
    let same : c.in-Err.fault ≡ f = cc in
    read_error c.args.source.now c.loop-next.lexer (views c.loop-next.tokens.items) c.in-Some.next c.in-Err.fault f c.in-Err.is c.loop-next.invariant c.in-Some.ensures.answer same
