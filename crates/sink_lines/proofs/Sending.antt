-- The calls of one line after another.
use Rattle.std.proofs.Common.{ℕ, ◌-◌, ◌<◌, ◌≤◌, List, [], ◌∷◌, ◌++◌, length, refl, ap, sym, ◌∙◌, subst, arith, append_assoc, append-nil}
use Rattle.outside.specs.declared.call.Call.{Call}
use Rattle.sink_lines.specs.Sends.{Leaves, Sends, SendsLines, SendsSome}

-- one more call
pub leaves_more : (size : ℕ) (calls : List Call) (left taken : ℕ) → Leaves size calls left → 0 < taken → taken ≤ left
    → Leaves size (calls ++ record { handed = left; taken = taken } ∷ []) (left - taken)
leaves_more size [] left taken is some fits = (sym is, some, omega arith, omega arith)
leaves_more size (call ∷ calls) left taken sent some fits =
    (sent.0, sent.1, sent.2, leaves_more (size - call.taken) calls left taken sent.3 some fits)

-- the calls of one line
pub sends_one : (line : List ℕ) (calls : List Call) → Sends (length line) calls → SendsLines (line ∷ []) calls
sends_one line calls sent = (calls, [], sym (append-nil calls), sent, refl)

-- the calls of part of it
pub sends_part : (line : List ℕ) (calls : List Call) (left : ℕ) → 0 < left → Leaves (length line) calls left → SendsSome (line ∷ []) calls
sends_part line calls left lacks leaves = record {
  whole = [];
  next = line;
  missing = [];
  lines_are = refl;
  before = [];
  last = calls;
  calls_are = refl;
  sends = refl;
  left = left;
  lacks = lacks;
  leaves = leaves;
}

-- lines and then more of them
pub sends_then : (first second : List (List ℕ)) (calls more : List Call) → SendsLines first calls → SendsLines second more → SendsLines (first ++ second) (calls ++ more)
sends_then [] second calls more none sent = subst (λ (before : List Call). SendsLines second (before ++ more)) (sym none) sent
sends_then (line ∷ lines) second calls more f sent = (
  f.0,
  f.1 ++ more,
  ap (λ (before : List Call). before ++ more) f.2 ∙ append_assoc f.0 f.1 more,
  f.3,
  sends_then lines second f.1 more f.4 sent,
)

-- some of the first lines
pub some_first : (first second : List (List ℕ)) (calls : List Call) → SendsSome first calls → SendsSome (first ++ second) calls
some_first first second calls s = record {
  whole = s.whole;
  next = s.next;
  missing = s.missing ++ second;
  lines_are = ap (λ (lines : List (List ℕ)). lines ++ second) s.lines_are ∙ append_assoc s.whole (s.next ∷ s.missing) second;
  before = s.before;
  last = s.last;
  calls_are = s.calls_are;
  sends = s.sends;
  left = s.left;
  lacks = s.lacks;
  leaves = s.leaves;
}

-- the first lines, and some of those after them
pub some_then : (first second : List (List ℕ)) (calls more : List Call) → SendsLines first calls → SendsSome second more → SendsSome (first ++ second) (calls ++ more)
some_then first second calls more f s = record {
  whole = first ++ s.whole;
  next = s.next;
  missing = s.missing;
  lines_are = ap (λ (lines : List (List ℕ)). first ++ lines) s.lines_are ∙ sym (append_assoc first s.whole (s.next ∷ s.missing));
  before = calls ++ s.before;
  last = s.last;
  calls_are = ap (λ (cs : List Call). calls ++ cs) s.calls_are ∙ sym (append_assoc calls s.before s.last);
  sends = sends_then first s.whole calls s.before f s.sends;
  left = s.left;
  lacks = s.lacks;
  leaves = s.leaves;
}
