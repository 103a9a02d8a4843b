-- The number after `load`, as it is parsed.
use Rattle.std.proofs.Common.{◌≡◌, ◌≤◌, ℕ, List, Bool, true, false, refl, ap, sym, subst, ◌∙◌, arith}
use Rattle.std.specs.Prelude.{Some, None, Result, Ok, Err, decimal, bytes_eq, nat_le, ◌&&◌, if◌then◌else◌}
use Rattle.std.specs.Str.{IsUtf8}
use Rattle.std.specs.Str.Parse.{ParsesUnsigned, digits_value}
use Rattle.std.proofs.lemmas.Bool.{and_parts, leb-true}
use Rattle.std.proofs.lemmas.Fmt.{decimal_is_IsNumeral, parse-decimal, IsAscii-decimal}
use Rattle.std.proofs.lemmas.Slice.Eq.{bytes_eq-Decides}
use Rattle.std.proofs.lemmas.Str.{IsUtf8-from_ascii}
use Rattle.command_words.specs.Words.{is_moves, moves_of}

-- what the test says
pub record AreDigits (word : List ℕ) (moves : ℕ) : Type 0 where
  pub same : word ≡ decimal moves
  pub most : moves ≤ 1000

digits_of : (word : List ℕ) (moves : ℕ) → is_moves word moves ≡ true → AreDigits word moves
digits_of word moves is =
    let parts = and_parts (bytes_eq word (decimal moves) && nat_le 1 moves) (nat_le moves 1000) is in
    let first = and_parts (bytes_eq word (decimal moves)) (nat_le 1 moves) parts.0 in
    record { same = (bytes_eq-Decides word (decimal moves)).0 first.0; most = leb-true moves 1000 parts.1 }

-- a word that is a number has it as the value of its digits
value_is : (word : List ℕ) (moves : ℕ) → is_moves word moves ≡ true → digits_value 10 word ≡ moves
value_is word moves is =
    let d = digits_of word moves is in
    let most = d.most in
    ap (digits_value 10) d.same ∙ (decimal_is_IsNumeral moves (omega (arith, most))).1

-- and is parsed as that
parsed_is : {E : Type 0} (word : List ℕ) (moves : ℕ) (r : Result ℕ E) → is_moves word moves ≡ true → ParsesUnsigned 32 10 word r → r ≡ Ok moves
parsed_is word moves r is parses =
    let d = digits_of word moves is in
    let most = d.most in
    parse-decimal 32 moves word r (omega (arith, most)) (omega (arith, most)) d.same parses

chosen_same : (a b : Bool) (n m : ℕ) → (a ≡ true → n ≡ m) → (b ≡ true → n ≡ m) → (n ≡ m → a ≡ b) → (if a then Some n else None) ≡ (if b then Some m else None)
chosen_same true true n m f g h = ap Some (f refl)
chosen_same true false n m f g h = let e = h (f refl) in cc
chosen_same false true n m f g h = let e = h (g refl) in cc
chosen_same false false n m f g h = refl

pub moves_parsed : {E : Type 0} (word : List ℕ) (moves : ℕ) (r : Result ℕ E) → r ≡ Ok moves → ParsesUnsigned 32 10 word r → moves_of word ≡ (if is_moves word moves then Some moves else None)
moves_parsed {E} word moves r is parses =
    let n = digits_value 10 word in
    chosen_same (is_moves word n) (is_moves word moves) n moves
    (λ t. let found : (let o : Result ℕ E = Ok n in o ≡ Ok moves) = sym (parsed_is word n r t parses) ∙ is in cc) (λ t. value_is word moves t) (λ e. ap (is_moves word) e)

not_chosen : (a : Bool) (n : ℕ) → (a ≡ true → ⊥) → (if a then Some n else None) ≡ None
not_chosen true n never = absurd (never refl)
not_chosen false n never = refl

pub moves_not_parsed : {E : Type 0} (word : List ℕ) (error : E) (r : Result ℕ E) → r ≡ Err error → ParsesUnsigned 32 10 word r → moves_of word ≡ None
moves_not_parsed {E} word error r is parses =
    let n = digits_value 10 word in
    not_chosen (is_moves word n) n (λ t. let found : (let o : Result ℕ E = Ok n in o ≡ Err error) = sym (parsed_is word n r t parses) ∙ is in cc)

-- nor is it a number if it is not text
pub moves_not_text : (word : List ℕ) → (IsUtf8 word → ⊥) → moves_of word ≡ None
moves_not_text word broken =
    let n = digits_value 10 word in
    not_chosen (is_moves word n) n (λ t.
    let d = digits_of word n t in
    let most = d.most in
    broken (subst IsUtf8 (sym d.same) (IsUtf8-from_ascii (decimal n) (IsAscii-decimal n (omega (arith, most))))))

-- the number of a text is that of its bytes
pub parses_bytes : {E : Type 0} (text word : List ℕ) (r : Result ℕ E) → text ≡ word → ParsesUnsigned 32 10 text r → ParsesUnsigned 32 10 word r
parses_bytes text word r is p = subst (λ (bytes : List ℕ). ParsesUnsigned 32 10 bytes r) is p
