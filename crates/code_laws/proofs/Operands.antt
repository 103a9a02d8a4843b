-- Operands that are pushed one by one, and what operations pop from them.
use Rattle.std.proofs.Common.{◌≡◌, refl, sym, ap, ◌∙◌, ℕ, ◌+◌, ◌≤◌, nat_le, Bool, true, false, List, [], ◌∷◌, ◌++◌, length, reverse, take, drop, if◌then◌else◌, IsTrue, append_assoc, arith}
use Rattle.std.proofs.Math.Seq.{drop-append_seam, take-append_seam}
use Rattle.std.proofs.lemmas.Bool.{le-leb}
use Rattle.std.proofs.lemmas.List.{length-append, length-reverse, length-take-le, reverse-append, reverse-reverse}
use Rattle.typed_trees.specs.declared.datum.Datum.{Datum}
use Rattle.rapid_meaning.specs.Doings.{Doing, Misfit}
use Rattle.stack_code.specs.Confs.{Conf}
use Rattle.stack_code.specs.Operands.{on_many}

-- the first one is deepest
abbrev pub pushed : List Datum → List Datum → List Datum
pushed [] stack = stack
pushed (x ∷ xs) stack = pushed xs (x ∷ stack)

reversed : (xs stack : List Datum) → pushed xs stack ≡ reverse xs ++ stack
reversed [] stack = refl
reversed (x ∷ xs) stack = reversed xs (x ∷ stack) ∙ sym (ap (λ (ys : List Datum). ys ++ stack) (reverse-append (x ∷ []) xs) ∙ append_assoc (reverse xs) (x ∷ []) stack)

pub pushed_length : (xs stack : List Datum) → length (pushed xs stack) ≡ length stack + length xs
pushed_length xs stack = ap length (reversed xs stack) ∙ omega (arith, length-append (reverse xs) stack, length-reverse xs)

taken : (xs stack : List Datum) → take (length xs) (pushed xs stack) ≡ reverse xs
taken xs stack =
    ap (λ (ys : List Datum). take (length xs) ys) (reversed xs stack)
    ∙ (ap (λ (n : ℕ). take n (reverse xs ++ stack)) (sym (length-reverse xs)) ∙ take-append_seam (reverse xs) stack)

dropped : (xs stack : List Datum) → drop (length xs) (pushed xs stack) ≡ stack
dropped xs stack =
    ap (λ (ys : List Datum). drop (length xs) ys) (reversed xs stack)
    ∙ (ap (λ (n : ℕ). drop n (reverse xs ++ stack)) (sym (length-reverse xs)) ∙ drop-append_seam (reverse xs) stack)

chosen : (b : Bool) (m : Doing Conf) → IsTrue b → (if b then m else Misfit) ≡ m
chosen true m yes_b = refl
chosen false m yes_b = cc

-- this many of the operands, if there are as many
pub some_at : (count : ℕ) (stack : List Datum) (next : List Datum → List Datum → Doing Conf) → count ≤ length stack
    → on_many count stack next ≡ next (reverse (take count stack)) (drop count stack)
some_at count stack next enough = chosen (nat_le count (length stack)) (next (reverse (take count stack)) (drop count stack)) (le-leb count (length stack) enough)

-- as many as were pushed
pub many_at : (xs stack : List Datum) (next : List Datum → List Datum → Doing Conf) → on_many (length xs) (pushed xs stack) next ≡ next xs stack
many_at xs stack next =
    some_at (length xs) (pushed xs stack) next (omega (arith, pushed_length xs stack))
    ∙ (ap (λ (ys : List Datum). next (reverse ys) (drop (length xs) (pushed xs stack))) (taken xs stack)
    ∙ (ap (λ (ys : List Datum). next ys (drop (length xs) (pushed xs stack))) (reverse-reverse xs) ∙ ap (λ (ys : List Datum). next xs ys) (dropped xs stack)))

-- taking this many operands gives this many
pub some_length : (count : ℕ) (stack : List Datum) → count ≤ length stack → length (reverse (take count stack)) ≡ count
some_length count stack enough = length-reverse (take count stack) ∙ length-take-le count stack enough
