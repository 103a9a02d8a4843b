-- The calls of lines, worked by hand.
use Rattle.std.proofs.Common.{ℕ, [], ◌∷◌, refl, arith}
use Rattle.std.specs.Prelude.{codes}
use Rattle.outside.specs.declared.call.Call.{Call}
use Rattle.sink_lines.specs.Sends.{Leaves, Sends, SendsLines, SendsSome}

abbrev call : ℕ → ℕ → Call
call handed taken = record { handed = handed; taken = taken }

-- three bytes in one call
whole : Sends 3 (call 3 3 ∷ [])
whole = (refl, omega arith, omega arith, refl)

-- the first call took one of them
in_two_calls : Sends 3 (call 3 1 ∷ call 2 2 ∷ [])
in_two_calls = (refl, omega arith, omega arith, (refl, omega arith, omega arith, refl))

two_left : Leaves 3 (call 3 1 ∷ []) 2
two_left = (refl, omega arith, omega arith, refl)

-- handed only a part
in_two_pieces : Sends 3 (call 1 1 ∷ call 2 2 ∷ []) → ⊥
in_two_pieces s = absurd (let handed = s.0 in omega (arith, handed))

-- a call after the whole
one_too_many : Sends 3 (call 3 3 ∷ call 3 3 ∷ []) → ⊥
one_too_many s = absurd (let handed = s.3.0 in omega (arith, handed))

-- a line, an event that has none, and a line in two calls
three_lines : SendsLines (codes "ab" ∷ [] ∷ codes "c d" ∷ []) (call 2 2 ∷ call 3 2 ∷ call 1 1 ∷ [])
three_lines = (
  call 2 2 ∷ [],
  call 3 2 ∷ call 1 1 ∷ [],
  refl,
  (refl, omega arith, omega arith, refl),
  (
    [],
    call 3 2 ∷ call 1 1 ∷ [],
    refl,
    refl,
    (call 3 2 ∷ call 1 1 ∷ [], [], refl, (refl, omega arith, omega arith, (refl, omega arith, omega arith, refl)), refl),
  ),
)

-- the second line failed after its first byte
cut_short : SendsSome (codes "ab" ∷ codes "cd" ∷ codes "e" ∷ []) (call 2 2 ∷ call 2 1 ∷ [])
cut_short = record {
  whole = codes "ab" ∷ [];
  next = codes "cd";
  missing = codes "e" ∷ [];
  lines_are = refl;
  before = call 2 2 ∷ [];
  last = call 2 1 ∷ [];
  calls_are = refl;
  sends = (call 2 2 ∷ [], [], refl, (refl, omega arith, omega arith, refl), refl);
  left = 1;
  lacks = omega arith;
  leaves = (refl, omega arith, omega arith, refl);
}
