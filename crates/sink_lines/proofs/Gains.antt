-- What a sink gained by some lines after others.
use Rattle.std.proofs.Common.{◌≡◌, ◌≢◌, ◌<◌, ℕ, List, [], ◌∷◌, ◌++◌, refl, ap, sym, ◌∙◌, subst, append_assoc, append-nil, arith, length}
use Rattle.std.proofs.lemmas.List.Folds.{concat-append}
use Rattle.std.specs.List.{concat}
use Rattle.std.specs.Prelude.{Option, Result, Ok, Err, ⊤, codes}
use Rattle.outside.specs.declared.failed.Failed.{Failed}
use Rattle.outside.proofs.Counting.{Rose-since}
use Rattle.outside.proofs.Writing.{appended_none, appended_more}
use Rattle.sink_lines.specs.declared.line.TheConstants.{REFUSAL_BYTES}
use Rattle.sink_lines.specs.Printed.{Seen, Sunk, Gained, GainedPart}
use Rattle.sink_lines.specs.Written.{in_line, WritesAll, WritesPart, Writes, WritesLine}
use Rattle.sink_lines.proofs.Sending.{sends_then, some_first, some_then}

-- from one time to another
abbrev pub between : Seen → Seen → Sunk
between old new = record { old = old; new = new }

pub gained_none : {A : Type 0} (told : Option (List A)) → Gained [] told told
gained_none told = appended_none told

pub gained_more : {A : Type 0} (first second : List A) (a b c : Option (List A)) → Gained first a b → Gained second b c → Gained (first ++ second) a c
gained_more first second a b c f s = appended_more a b c first second f s

some_left : (xs ys : List ℕ) → xs ≢ [] → xs ++ ys ≢ []
some_left [] ys some e = some refl
some_left (x ∷ xs) ys some e = cc

-- a proper prefix of the first of two pieces
part_first : (first second : List ℕ) (a b : Option (List ℕ)) → GainedPart first a b → GainedPart (first ++ second) a b
part_first first second a b p = record {
  front = p.front;
  proper = record {
    rest = p.proper.rest ++ second;
    lacks = some_left p.proper.rest second p.proper.lacks;
    whole = ap (λ (xs : List ℕ). xs ++ second) p.proper.whole ∙ append_assoc p.front p.proper.rest second;
  };
  gained = p.gained;
}

-- the first of two pieces, and a proper prefix of the second
part_second : (first second : List ℕ) (a b c : Option (List ℕ)) → Gained first a b → GainedPart second b c → GainedPart (first ++ second) a c
part_second first second a b c f p = record {
  front = first ++ p.front;
  proper = record {
    rest = p.proper.rest;
    lacks = p.proper.lacks;
    whole = ap (λ (xs : List ℕ). first ++ xs) p.proper.whole ∙ sym (append_assoc first p.front p.proper.rest);
  };
  gained = gained_more first p.front a b c f p.gained;
}

-- some lines were written, and then more of them
pub wrote_more : (first second : List (List ℕ)) (a b c : Seen) → WritesAll first (between a b) → WritesAll second (between b c) → WritesAll (first ++ second) (between a c)
wrote_more first second a b c f s = record {
  bytes =
      subst (λ (bytes : List ℕ). Gained bytes a.bytes c.bytes) (sym (concat-append first second))
      (gained_more (concat first) (concat second) a.bytes b.bytes c.bytes f.bytes s.bytes);
  calls = record {
    calls = f.calls.calls ++ s.calls.calls;
    holds = sends_then first second f.calls.calls s.calls.calls f.calls.holds s.calls.holds;
    gained = gained_more f.calls.calls s.calls.calls a.calls b.calls c.calls f.calls.gained s.calls.gained;
  };
  faults = let m = f.faults in let n = s.faults in omega (arith, m, n);
}

-- some lines were written, and then part of the others
pub wrote_part : (first second : List (List ℕ)) (a b c : Seen) → WritesAll first (between a b) → WritesPart second (between b c) → WritesPart (first ++ second) (between a c)
wrote_part first second a b c f s = record {
  bytes =
      subst (λ (bytes : List ℕ). GainedPart bytes a.bytes c.bytes) (sym (concat-append first second))
      (part_second (concat first) (concat second) a.bytes b.bytes c.bytes f.bytes s.bytes);
  calls = record {
    calls = f.calls.calls ++ s.calls.calls;
    holds = some_then first second f.calls.calls s.calls.calls f.calls.holds s.calls.holds;
    gained = gained_more f.calls.calls s.calls.calls a.calls b.calls c.calls f.calls.gained s.calls.gained;
  };
  rose = Rose-since a.faults b.faults c.faults f.faults s.faults s.rose;
  faults = let m = f.faults in let n = s.faults in omega (arith, m, n);
}

-- part of the first lines was written
pub wrote_first : (first second : List (List ℕ)) (sink : Sunk) → WritesPart first sink → WritesPart (first ++ second) sink
wrote_first first second sink p = record {
  bytes =
      subst (λ (bytes : List ℕ). GainedPart bytes sink.old.bytes sink.new.bytes) (sym (concat-append first second))
      (part_first (concat first) (concat second) sink.old.bytes sink.new.bytes p.bytes);
  calls = record {
    calls = p.calls.calls;
    holds = some_first first second p.calls.calls p.calls.holds;
    gained = p.calls.gained;
  };
  rose = p.rose;
  faults = p.faults;
}

-- some lines were written, and then all or part of others
pub writes_then : (first second : List (List ℕ)) (result : Result ⊤ Failed) (a b c : Seen) → WritesAll first (between a b) → Writes second result (between b c)
    → Writes (first ++ second) result (between a c)
writes_then first second (Ok _) a b c f w = wrote_more first second a b c f w
writes_then first second (Err _) a b c f w = wrote_part first second a b c f w

-- a line in one piece
pub in_one : (line : List ℕ) (result : Result ⊤ Failed) (sink : Sunk) → Writes (line ∷ []) result sink → WritesLine line result sink
in_one line result sink w = (line ∷ [], record { whole = sym (append-nil line); one = λ short. refl }, w)

-- a line that does not fit the buffer, in five
pub in_five : (head name between rule : List ℕ) (result : Result ⊤ Failed) (sink : Sunk) → REFUSAL_BYTES < length (in_line head name between rule)
    → Writes (head ∷ name ∷ between ∷ rule ∷ codes "\n" ∷ []) result sink → WritesLine (in_line head name between rule) result sink
in_five head name between rule result sink long w =
    (head ∷ name ∷ between ∷ rule ∷ codes "\n" ∷ [], record { whole = refl; one = λ short. absurd (omega (arith, short, long)) }, w)

-- the same line in other words
pub in_words : (text line : List ℕ) (result : Result ⊤ Failed) (sink : Sunk) → text ≡ line → WritesLine line result sink → WritesLine text result sink
in_words text line result sink is w = subst (λ (bytes : List ℕ). WritesLine bytes result sink) (sym is) w
