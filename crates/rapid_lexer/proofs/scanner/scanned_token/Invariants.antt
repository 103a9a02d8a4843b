use Rattle.rapid_lexer.proofs.Scan.{IsScanned}
use Rattle.rapid_lexer.proofs.scanner.scanned_token.Given as goal

-- the longest token overall is the longest so far or one that continues from here
abbrev pub invariant-loop-i : goal.invariant-loop-i
invariant-loop-i l = IsScanned l.bytes l.last l.i l.state
