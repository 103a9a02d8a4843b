-- The scanner accepts the numerical literals.
use Rattle.std.proofs.Common.{◌≡◌, ℕ, suc, ◌+◌, Bool, true, false, not, ◌&&◌, ◌||◌, cond, eqb, ltb, leb, List, [], ◌∷◌, ◌++◌, length, take, drop, Option, Some, None, refl, sym, ap, subst, ◌∙◌, arith}
use Rattle.std.specs.Prelude.{is_some, pos}
use Rattle.std.specs.List.{list_all, list_any, prefix_len, before_first, after_first}
use Rattle.std.specs.Option.{option_map, option_and_then}
use Rattle.std.proofs.lemmas.Bool.{eqb-true, leb-true, and_parts, ne_eqb}
use Rattle.std.proofs.lemmas.Bool.Decides.{nat_tests}
use Rattle.rapid_num.specs.Literal.{digit_value, are_digits, is_point, is_exponent_letter, mantissa_of, exponent_of, decimal_thousandths, base_of, spelled_thousandths}
use Rattle.rapid_lexer.specs.declared.kind.Kind.TheVariants.{Number}
use Rattle.rapid_lexer.specs.declared.state.State.{State}
use Rattle.rapid_lexer.specs.declared.state.State.TheVariants.{Zero, Whole, Dot, Fraction, Exponent, ExponentSign, Power, HexMark, Hex, OctalMark, Octal, BinaryMark, Binary, Dead}
use Rattle.rapid_num.specs.Characters.{is_digit}
use Rattle.rapid_lexer.specs.Scanning.{accepted, after_whole}
use Rattle.rapid_lexer.proofs.Scan.{dead_accepted}
use Rattle.rapid_lexer.proofs.Runs.{kind_if, run, some_run, suc_not_zero}

-- ---- bytes

abbrev is_ten : ℕ → Bool
is_ten b = ltb (digit_value b) 10

pub is_ten-digit : (b : ℕ) → is_ten b ≡ is_digit b
is_ten-digit b = grind (arith, nat_tests)

digit_plain : (b : ℕ) → is_digit b ≡ true → (is_exponent_letter b ≡ false) × (is_point b ≡ false)
digit_plain b e =
    let low = leb-true 48 b (and_parts (leb 48 b) (leb b 57) e).0 in
    let high = leb-true b 57 (and_parts (leb 48 b) (leb b 57) e).1 in
    (rw (ne_eqb b 69 (λ h. omega arith), ne_eqb b 101 (λ h. omega arith)) refl, ne_eqb b 46 (λ h. omega arith))

point_plain : (b : ℕ) → is_point b ≡ true → is_exponent_letter b ≡ false
point_plain b e = subst (λ (n : ℕ). is_exponent_letter n ≡ false) (sym (eqb-true b 46 e)) refl

-- ---- parts of a text

before_first-cons : (p : ℕ → Bool) (b : ℕ) (bs : List ℕ) → before_first p (b ∷ bs) ≡ cond (p b) [] (b ∷ before_first p bs)
before_first-cons p b bs = at (p b)
  where
    at : (t : Bool) → take (cond (not t) (1 + prefix_len (λ x. not (p x)) bs) 0) (b ∷ bs) ≡ cond t [] (b ∷ before_first p bs)
    at true = refl
    at false = let e : 1 + prefix_len (λ x. not (p x)) bs ≡ suc (prefix_len (λ x. not (p x)) bs) = omega arith in rw e refl

after_first-cons : (p : ℕ → Bool) (b : ℕ) (bs : List ℕ) → after_first p (b ∷ bs) ≡ cond (p b) bs (after_first p bs)
after_first-cons p b bs = at (p b)
  where
    at : (t : Bool) → drop (cond (not t) (1 + prefix_len (λ x. not (p x)) bs) 0 + 1) (b ∷ bs) ≡ cond t bs (after_first p bs)
    at true = refl
    at false = let e : 1 + prefix_len (λ x. not (p x)) bs + 1 ≡ suc (prefix_len (λ x. not (p x)) bs + 1) = omega arith in rw e refl

-- the digits of a mantissa
abbrev digits_in : List ℕ → List ℕ
digits_in m = before_first is_point m ++ after_first is_point m

digits_in-cons : (b : ℕ) (m : List ℕ) → digits_in (b ∷ m) ≡ cond (is_point b) m (b ∷ digits_in m)
digits_in-cons b m = rw (before_first-cons is_point b m, after_first-cons is_point b m) (at (is_point b))
  where
    at : (t : Bool) → cond t [] (b ∷ before_first is_point m) ++ cond t m (after_first is_point m) ≡ cond t m (b ∷ digits_in m)
    at true = refl
    at false = refl

-- whether the exponent, if there is one, has its digits
abbrev has_exponent : List ℕ → Bool
has_exponent text = is_some (cond (list_any is_exponent_letter text) (exponent_of (after_first is_exponent_letter text)) (Some (pos 0)))

has_exponent-cons : (b : ℕ) (bs : List ℕ) → has_exponent (b ∷ bs) ≡ cond (is_exponent_letter b) (is_some (exponent_of bs)) (has_exponent bs)
has_exponent-cons b bs = rw (after_first-cons is_exponent_letter b bs) (at (is_exponent_letter b))
  where
    at : (t : Bool) → is_some (cond (t || list_any is_exponent_letter bs) (exponent_of (cond t bs (after_first is_exponent_letter bs))) (Some (pos 0))) ≡ cond t (is_some (exponent_of bs)) (has_exponent bs)
    at true = refl
    at false = refl

-- digits, with or without digits before them, and what follows
abbrev all_digits : Bool → List ℕ → Bool → Bool
all_digits before ds rest = (before || not (eqb (length ds) 0)) && list_all is_ten ds && rest

all_digits-nil : (before rest : Bool) → all_digits before [] rest ≡ (before && rest)
all_digits-nil true rest = refl
all_digits-nil false rest = refl

all_digits-cons : (before : Bool) (b : ℕ) (ds : List ℕ) (rest : Bool) → all_digits before (b ∷ ds) rest ≡ (is_ten b && all_digits true ds rest)
all_digits-cons before b ds rest = rw (suc_not_zero (length ds)) (at before (is_ten b))
  where
    at : (t u : Bool) → ((t || true) && (u && list_all is_ten ds) && rest) ≡ (u && (list_all is_ten ds && rest))
    at true true = refl
    at true false = refl
    at false true = refl
    at false false = refl

-- the rest of a decimal, with or without digits before: after a point, and before any
abbrev past_point : Bool → List ℕ → Bool
past_point before text = all_digits before (before_first is_exponent_letter text) (has_exponent text)

abbrev no_point : Bool → List ℕ → Bool
no_point before text = all_digits before (digits_in (before_first is_exponent_letter text)) (has_exponent text)

past_point-cons : (before : Bool) (b : ℕ) (bs : List ℕ) → past_point before (b ∷ bs) ≡ cond (is_exponent_letter b) (before && is_some (exponent_of bs)) (is_ten b && past_point true bs)
past_point-cons before b bs = rw (before_first-cons is_exponent_letter b bs, has_exponent-cons b bs) (at (is_exponent_letter b))
  where
    at : (t : Bool) → all_digits before (cond t [] (b ∷ before_first is_exponent_letter bs)) (cond t (is_some (exponent_of bs)) (has_exponent bs)) ≡ cond t (before && is_some (exponent_of bs)) (is_ten b && past_point true bs)
    at true = all_digits-nil before (is_some (exponent_of bs))
    at false = all_digits-cons before b (before_first is_exponent_letter bs) (has_exponent bs)

no_point-cons : (before : Bool) (b : ℕ) (bs : List ℕ)
    → no_point before (b ∷ bs) ≡ cond (is_exponent_letter b) (before && is_some (exponent_of bs)) (cond (is_point b) (past_point before bs) (is_ten b && no_point true bs))
no_point-cons before b bs = rw (before_first-cons is_exponent_letter b bs, has_exponent-cons b bs) (at (is_exponent_letter b))
  where
    inner : (m : List ℕ) (rest t : Bool) → all_digits before (cond t m (b ∷ digits_in m)) rest ≡ cond t (all_digits before m rest) (is_ten b && all_digits true (digits_in m) rest)
    inner m rest true = refl
    inner m rest false = all_digits-cons before b (digits_in m) rest

    at : (t : Bool) → all_digits before (digits_in (cond t [] (b ∷ before_first is_exponent_letter bs))) (cond t (is_some (exponent_of bs)) (has_exponent bs))
        ≡ cond t (before && is_some (exponent_of bs)) (cond (is_point b) (past_point before bs) (is_ten b && no_point true bs))
    at true = all_digits-nil before (is_some (exponent_of bs))
    at false = rw (digits_in-cons b (before_first is_exponent_letter bs)) (inner (before_first is_exponent_letter bs) (has_exponent bs) (is_point b))

some_both : {A B C : Type 0} (g : A → B → C) (x : Option A) (y : Option B) → is_some (option_and_then (λ a. option_map (g a) y) x) ≡ (is_some x && is_some y)
some_both g None y = refl
some_both g (Some a) None = refl
some_both g (Some a) (Some b) = refl

some_if : {A : Type 0} (t : Bool) (x : A) → is_some (cond t (Some x) None) ≡ t
some_if true x = refl
some_if false x = refl

pub decimal_is : (text : List ℕ) → is_some (decimal_thousandths text) ≡ no_point false text
decimal_is text =
    let m = before_first is_exponent_letter text in
    some_both _ (mantissa_of m) (cond (list_any is_exponent_letter text) (exponent_of (after_first is_exponent_letter text)) (Some (pos 0)))
    ∙ ap (λ (t : Bool). t && has_exponent text) (some_if (are_digits 10 (digits_in m)) _)

-- ---- states

ten_step : (s : State) (b : ℕ) → cond (is_digit b) s Dead ≡ cond (is_ten b) s Dead
ten_step s b = ap (λ (t : Bool). cond t s Dead) (sym (is_ten-digit b))

power_all : (bs : List ℕ) → accepted Power bs ≡ kind_if Number (list_all is_ten bs)
power_all bs = run Power is_ten Number (λ b. ten_step Power b) refl bs

sign_all : (bs : List ℕ) → accepted ExponentSign bs ≡ kind_if Number (are_digits 10 bs)
sign_all bs = some_run ExponentSign Power is_ten Number (λ b. ten_step Power b) refl (λ b. ten_step Power b) refl bs

some_chain : {A : Type 0} (t u v w : Bool) (x y z : A) → is_some (cond t (cond v (Some x) None) (cond u (cond v (Some y) None) (cond w (Some z) None))) ≡ cond t v (cond u v w)
some_chain true u v w x y z = some_if v x
some_chain false true v w x y z = some_if v y
some_chain false false v w x y z = some_if w z

exponent_from : (b : ℕ) (bs : List ℕ) (t u d : Bool) → accepted (cond (t || u) ExponentSign (cond d Power Dead)) bs ≡ kind_if Number (cond t (are_digits 10 bs) (cond u (are_digits 10 bs) (d && list_all is_ten bs)))
exponent_from b bs true u d = sign_all bs
exponent_from b bs false true d = sign_all bs
exponent_from b bs false false true = power_all bs
exponent_from b bs false false false = dead_accepted bs

exponent_all : (bs : List ℕ) → accepted Exponent bs ≡ kind_if Number (is_some (exponent_of bs))
unfolding accepted
exponent_all [] = refl
exponent_all (b ∷ bs) =
    rw some_chain (rw (suc_not_zero (length bs), is_ten-digit b) (exponent_from b bs (eqb b 43) (eqb b 45) (is_digit b)))

-- if a test holds, the bytes continue in a state, else by the next test
fraction_from : (b : ℕ) (bs : List ℕ) (d e : Bool) → is_digit b ≡ d → is_exponent_letter b ≡ e → accepted Fraction bs ≡ kind_if Number (past_point true bs)
    → accepted (cond d Fraction (cond e Exponent Dead)) bs ≡ kind_if Number (cond e (is_some (exponent_of bs)) (d && past_point true bs))
fraction_from b bs true true di ei h = absurd (let x : true ≡ false = sym ei ∙ (digit_plain b di).0 in cc)
fraction_from b bs true false di ei h = h
fraction_from b bs false true di ei h = exponent_all bs
fraction_from b bs false false di ei h = dead_accepted bs

pub fraction_all : (bs : List ℕ) → accepted Fraction bs ≡ kind_if Number (past_point true bs)
unfolding accepted
fraction_all [] = refl
fraction_all (b ∷ bs) = rw (past_point-cons true b bs, is_ten-digit b) (fraction_from b bs (is_digit b) (is_exponent_letter b) refl refl (fraction_all bs))

whole_from : (b : ℕ) (bs : List ℕ) (d p e : Bool) → is_digit b ≡ d → is_point b ≡ p → is_exponent_letter b ≡ e → accepted Whole bs ≡ kind_if Number (no_point true bs)
    → accepted (cond d Whole (cond p Fraction (cond e Exponent Dead))) bs ≡ kind_if Number (cond e (is_some (exponent_of bs)) (cond p (past_point true bs) (d && no_point true bs)))
whole_from b bs true p true di pi ei h = absurd (let x : true ≡ false = sym ei ∙ (digit_plain b di).0 in cc)
whole_from b bs true true false di pi ei h = absurd (let x : true ≡ false = sym pi ∙ (digit_plain b di).1 in cc)
whole_from b bs true false false di pi ei h = h
whole_from b bs false true true di pi ei h = absurd (let x : true ≡ false = sym ei ∙ point_plain b pi in cc)
whole_from b bs false true false di pi ei h = fraction_all bs
whole_from b bs false false true di pi ei h = exponent_all bs
whole_from b bs false false false di pi ei h = dead_accepted bs

pub whole_all : (bs : List ℕ) → accepted Whole bs ≡ kind_if Number (no_point true bs)
unfolding accepted
whole_all [] = refl
whole_all (b ∷ bs) = rw (no_point-cons true b bs, is_ten-digit b) (whole_from b bs (is_digit b) (is_point b) (is_exponent_letter b) refl refl refl (whole_all bs))

hex_all : (bs : List ℕ) → accepted HexMark bs ≡ kind_if Number (are_digits 16 bs)
hex_all bs = some_run HexMark Hex (λ b. ltb (digit_value b) 16) Number (λ b. refl) refl (λ b. refl) refl bs

octal_all : (bs : List ℕ) → accepted OctalMark bs ≡ kind_if Number (are_digits 8 bs)
octal_all bs = some_run OctalMark Octal (λ b. ltb (digit_value b) 8) Number (λ b. refl) refl (λ b. refl) refl bs

binary_all : (bs : List ℕ) → accepted BinaryMark bs ≡ kind_if Number (are_digits 2 bs)
binary_all bs = some_run BinaryMark Binary (λ b. ltb (digit_value b) 2) Number (λ b. refl) refl (λ b. refl) refl bs

-- ---- a literal from its first byte on

abbrev pub is_number : List ℕ → Bool
is_number text = is_some (spelled_thousandths text)

-- a literal of two bytes or more, by the base for its second byte
spelled_one : (a b : ℕ) (ds : List ℕ) → (eqb a 48 ≡ false) → is_number (a ∷ b ∷ ds) ≡ is_some (decimal_thousandths (a ∷ b ∷ ds))
spelled_one a b ds e = rw e refl

spelled_none : (b : ℕ) (ds : List ℕ) → base_of b ≡ None → is_number (48 ∷ b ∷ ds) ≡ is_some (decimal_thousandths (48 ∷ b ∷ ds))
spelled_none b ds e = rw e refl

spelled_base : (b base : ℕ) (ds : List ℕ) → base_of b ≡ Some base → is_number (48 ∷ b ∷ ds) ≡ are_digits base ds
spelled_base b base ds e = rw e (some_if (are_digits base ds) _)

zero_from : (b : ℕ) (bs : List ℕ) (x o n : Bool) → base_of b ≡ cond x (Some 16) (cond o (Some 8) (cond n (Some 2) None))
    → accepted (cond x HexMark (cond o OctalMark (cond n BinaryMark (after_whole b)))) bs ≡ kind_if Number (is_number (48 ∷ b ∷ bs))
unfolding accepted
zero_from b bs true o n e = hex_all bs ∙ ap (kind_if Number) (sym (spelled_base b 16 bs e))
zero_from b bs false true n e = octal_all bs ∙ ap (kind_if Number) (sym (spelled_base b 8 bs e))
zero_from b bs false false true e = binary_all bs ∙ ap (kind_if Number) (sym (spelled_base b 2 bs e))
zero_from b bs false false false e =
    whole_all (b ∷ bs) ∙ ap (kind_if Number) (sym (spelled_none b bs e ∙ decimal_is (48 ∷ b ∷ bs) ∙ no_point-cons false 48 (b ∷ bs)))

pub zero_all : (bs : List ℕ) → accepted Zero bs ≡ kind_if Number (is_number (48 ∷ bs))
unfolding accepted
zero_all [] = refl
zero_all (b ∷ bs) = zero_from b bs (eqb b 120 || eqb b 88) (eqb b 111 || eqb b 79) (eqb b 98 || eqb b 66) refl

number_decimal : (a : ℕ) (bs : List ℕ) → eqb a 48 ≡ false → is_number (a ∷ bs) ≡ no_point false (a ∷ bs)
number_decimal a [] e = decimal_is (a ∷ [])
number_decimal a (b ∷ bs) e = spelled_one a b bs e ∙ decimal_is (a ∷ b ∷ bs)

pub digit_all : (a : ℕ) (bs : List ℕ) → is_digit a ≡ true → eqb a 48 ≡ false → accepted Whole bs ≡ kind_if Number (is_number (a ∷ bs))
digit_all a bs d e =
    let whole : is_number (a ∷ bs) ≡ no_point true bs =
    number_decimal a bs e ∙ no_point-cons false a bs ∙ rw ((digit_plain a d).0, (digit_plain a d).1, is_ten-digit a, d) refl in
    whole_all bs ∙ ap (kind_if Number) (sym whole)

dot_from : (b : ℕ) (bs : List ℕ) (d e : Bool) → is_digit b ≡ d → is_exponent_letter b ≡ e
    → accepted (cond d Fraction Dead) bs ≡ kind_if Number (cond e false (d && past_point true bs))
dot_from b bs true true di ei = absurd (let x : true ≡ false = sym ei ∙ (digit_plain b di).0 in cc)
dot_from b bs true false di ei = fraction_all bs
dot_from b bs false true di ei = dead_accepted bs
dot_from b bs false false di ei = dead_accepted bs

pub dot_all : (b : ℕ) (bs : List ℕ) → accepted Dot (b ∷ bs) ≡ kind_if Number (is_number (46 ∷ b ∷ bs))
unfolding accepted
dot_all b bs =
    let whole : is_number (46 ∷ b ∷ bs) ≡ cond (is_exponent_letter b) false (is_digit b && past_point true bs) =
    number_decimal 46 (b ∷ bs) refl ∙ no_point-cons false 46 (b ∷ bs) ∙ past_point-cons false b bs ∙ rw (is_ten-digit b) refl in
    dot_from b bs (is_digit b) (is_exponent_letter b) refl refl ∙ ap (kind_if Number) (sym whole)

digit_zero : (a : ℕ) → is_digit a ≡ false → eqb a 48 ≡ false
digit_zero a d = ne_eqb a 48 (λ e. let x : true ≡ false = subst (λ (n : ℕ). is_digit n ≡ false) e d in cc)

pub no_number : (a : ℕ) (bs : List ℕ) → is_digit a ≡ false → is_point a ≡ false → is_number (a ∷ bs) ≡ false
no_number a bs d p = number_decimal a bs (digit_zero a d) ∙ no_point-cons false a bs ∙ rw (is_ten-digit a, d, p) (either (is_exponent_letter a))
  where
    either : (t : Bool) → cond t false false ≡ false
    either true = refl
    either false = refl
