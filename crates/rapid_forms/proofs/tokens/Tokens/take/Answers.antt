use Rattle.std.proofs.Common.{◌≡◌, drop, true, false}
use Rattle.rapid_lexer.specs.Tokens.{view, views}
use Rattle.rapid_forms.specs.Signs.{has, begins_with, sign_of}
use Rattle.rapid_forms.specs.Reading.{Fails, one_read}
use Rattle.rapid_forms.proofs.Steps.{rest_here, rest_none, one_fails, gives_halt}
use Rattle.rapid_forms.proofs.tokens.Tokens.take.Goals as goal
use Rattle.rapid_forms.proofs.tokens.Tokens.take.Goals.{in_default-via-in-Some+else-is_one_of, in_default-via-in_default}

pub returns-in-Some : goal.returns-in-Some
unfolding one_read
returns-in-Some c =
    let seen : has c.args.signs.now (sign_of (view c.in-Some.token.now)) ≡ true = cc in
    rw (rest_here c.args.self.now.list.now c.args.at c.in-Some.token c.in-Some.ensures.lookup, seen)

pub returns-in_default : goal.returns-in_default
unfolding begins_with
returns-in_default c =
    let unseen : begins_with c.args.signs.now (drop c.args.at (views c.args.self.now.list.now)) ≡ false =
    elim c.in_default.branch [
      | in_default-via-in-Some+else-is_one_of w ↦
          rw (rest_here c.args.self.now.list.now c.args.at w.in-Some.token w.in-Some.ensures.lookup) (let seen : has c.args.signs.now (sign_of (view w.in-Some.token.now)) ≡ false = cc in seen)
      | in_default-via-in_default w ↦ rw (rest_none c.args.self.now.list.now c.args.at w.in_default.ensures.lookup)
    ]
    in
    gives_halt c.args.self.now view _ _ (Fails _) c.fails.ensures (one_fails _ _ unseen)
