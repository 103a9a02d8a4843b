-- The characters of a string, with one more in front.
use Rattle.std.proofs.Common.{◌≡◌, ℕ, zero, suc, ◌+◌, ◌-◌, ◌≤◌, ◌<◌, List, drop, Option, Some, None, refl, sym, ap, ◌∙◌, arith}
use Rattle.std.specs.Option.{option_map}
use Rattle.std.proofs.lemmas.List.{drop-drop}
use Rattle.std.proofs.lemmas.Bool.{ne_eqb}
use Rattle.rapid_lexer.specs.Reading.{character_len, characters_len, stopped, broken}

-- this many bytes more, if there is a number
abbrev pub plus : ℕ → Option ℕ → Option ℕ
plus n o = option_map (λ k. n + k) o

plus-plus : (m n : ℕ) (o : Option ℕ) → plus m (plus n o) ≡ plus (m + n) o
plus-plus m n None = refl
plus-plus m n (Some k) = ap (λ (x : ℕ). Some x) (let e : m + (n + k) ≡ m + n + k = omega arith in e)

pub characters_at : (left : ℕ) (bytes : List ℕ) → character_len bytes ≡ 0 → characters_len left bytes ≡ Some 0
unfolding characters_len
characters_at zero bytes e = rw e refl
characters_at (suc n) bytes e = rw e refl

pub characters_end : (left now n : ℕ) (bytes : List ℕ) (all : Option ℕ) → n ≡ character_len (drop now bytes) → n ≡ 0 → plus now (characters_len left (drop now bytes)) ≡ all → Some now ≡ all
characters_end left now n bytes all is e h =
    let m : now ≡ now + 0 = omega arith in
    ap (λ (x : ℕ). Some x) m ∙ sym (ap (plus now) (characters_at left (drop now bytes) (sym is ∙ e))) ∙ h

pub characters_more : (count now n : ℕ) (bytes : List ℕ) (all : Option ℕ) → count < 80 → n ≡ character_len (drop now bytes) → (n ≡ 0 → ⊥)
    → plus now (characters_len (80 - count) (drop now bytes)) ≡ all → plus (now + n) (characters_len (80 - (count + 1)) (drop (now + n) bytes)) ≡ all
unfolding characters_len
characters_more count now n bytes all lt is ne h =
    let k : 80 - count ≡ suc (80 - (count + 1)) = omega arith in
    let one : characters_len (80 - count) (drop now bytes) ≡ plus n (characters_len (80 - (count + 1)) (drop n (drop now bytes))) = rw (k, ← is, ne_eqb n 0 ne) refl in
    ap (λ (r : List ℕ). plus (now + n) (characters_len (80 - (count + 1)) r)) (sym (drop-drop n now bytes)) ∙ sym (plus-plus now n (characters_len (80 - (count + 1)) (drop n (drop now bytes)))) ∙ ap (plus now) (sym one) ∙ h

pub characters_over : (count now n : ℕ) (bytes : List ℕ) (all : Option ℕ) → 80 ≤ count → n ≡ character_len (drop now bytes) → (n ≡ 0 → ⊥)
    → plus now (characters_len (80 - count) (drop now bytes)) ≡ all → None ≡ all
unfolding characters_len
characters_over count now n bytes all le is ne h =
    let k : 80 - count ≡ 0 = omega arith in
    let one : characters_len (80 - count) (drop now bytes) ≡ None = rw (k, ← is, ne_eqb n 0 ne) refl in
    sym (ap (plus now) one) ∙ h

pub broken_some : (quote n : ℕ) (bytes : List ℕ) → Some n ≡ characters_len 80 bytes → stopped quote (quote + 1 + n) (drop n bytes) ≡ broken quote bytes
unfolding broken
broken_some quote n bytes e = rw (← e) refl
