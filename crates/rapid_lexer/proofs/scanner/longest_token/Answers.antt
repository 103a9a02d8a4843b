use Rattle.std.proofs.Common.{◌≡◌, get_or, ap, sym, ◌∙◌, arith}
use Rattle.rapid_num.specs.Characters.{is_letter}
use Rattle.rapid_lexer.specs.Scanning.{single_of}
use Rattle.rapid_lexer.proofs.FirstBytes.{name_longest, single_longest, nothing_longest}
use Rattle.rapid_lexer.proofs.Scan.{found_within, found_some_bytes}
use Rattle.rapid_lexer.proofs.scanner.longest_token.Goals as goal

pub returns-in_err-first-clause-same : goal.returns-in_err-first-clause-same
returns-in_err-first-clause-same c = c.from_residual.ensures ∙ nothing_longest c.args.bytes.now (grind (arith, c.in_err-first.ensures.item))

pub returns-then-is_letter-clause-same : goal.returns-then-is_letter-clause-same
returns-then-is_letter-clause-same c =
    let first : c.in_ok-first.field-0.now ≡ get_or c.args.bytes.now 0 0 = grind (arith, c.in_ok-first.ensures.item) in
    rw c.name_len.ensures.same (name_longest c.args.bytes.now (grind (arith, c.in_ok-first.ensures.item)) (ap is_letter (sym first) ∙ sym c.is_letter.ensures ∙ c.if-is_letter.true))

pub returns-in-Some-clause-same : goal.returns-in-Some-clause-same
returns-in-Some-clause-same c =
    let first : c.in_ok-first.field-0.now ≡ get_or c.args.bytes.now 0 0 = grind (arith, c.in_ok-first.ensures.item) in
    single_longest c.args.bytes.now c.in-Some.mark (grind (arith, c.in_ok-first.ensures.item)) (c.in-Some.ensures ∙ ap single_of first)

pub returns-clause-within : goal.returns-clause-within
returns-clause-within c = found_within c.args.bytes.now c.scanned_token.result c.scanned_token.ensures

pub returns-clause-some_bytes : goal.returns-clause-some_bytes
returns-clause-some_bytes c = found_some_bytes c.args.bytes.now c.scanned_token.result c.scanned_token.ensures
