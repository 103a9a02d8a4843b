-- A number that was written is read back, whatever follows that is not part of it.
use Rattle.std.proofs.Common.{◌≡◌, ℕ, suc, ◌+◌, ◌-◌, ◌*◌, ◌/◌, ◌%◌, ◌^◌, ◌<◌, ◌≤◌, Bool, true, false, List, [], ◌∷◌, ◌++◌, length, Some, None, ℤ, pos, negsuc, refl, sym, ap, ◌∙◌, arith, decimal, append_assoc, inl, inr}
use Rattle.std.proofs.lemmas.Bool.{cases_eq}
use Rattle.std.proofs.lemmas.Bool.Decides.{nat_tests}
use Rattle.std.specs.List.{fold}
use Rattle.std.specs.Prelude.{nat_lt, ◌==◌}
use Rattle.rapid_num.specs.Characters.{is_digit}
use Rattle.rapid_num.specs.Literal.{digit_value}
use Rattle.rapid_num.specs.NumText.{fraction_text, shortest_text}
use Rattle.rapid_num.specs.Range.{IsNum, greatest, is_num}
use Rattle.rapid_num.proofs.DecimalDigits.{AreDigits, decimal_text, one_more}
use Rattle.rapid_num.proofs.ReadBack.{fraction_none, fraction_one, fraction_three, fraction_two}
use Rattle.history_text.specs.Reading.{decimals_at, digit_at, digits_at, ends_num, ends_whole, fraction_at, minus_at, next_num, num_at, number_at, size_at, whole_at}
use Rattle.history_text.proofs.AfterWord.{after_word_again}
use Rattle.history_text.proofs.Stops.{GoesOn, GoesOn-append, GoesOn-cond, Stops, each}

pub digits_go_on : (test : ℕ → Bool) → ((b : ℕ) → 48 ≤ b → b ≤ 57 → test b ≡ false) → (n : ℕ) → n < 2 ^ 64 → GoesOn test (decimal n)
digits_go_on test digit n small = each (λ b. (48 ≤ b) × (b ≤ 57)) (λ b. test b ≡ false) (λ b d. digit b d.0 d.1) (decimal n) (decimal_text n small).digits

-- integers

least : (ds : List ℕ) (n : ℕ) → n ≤ fold one_more n ds
least [] n = omega arith
least (d ∷ ds) n = let more : n * 10 + digit_value d ≤ fold one_more (n * 10 + digit_value d) ds = least ds (one_more n d) in omega arith

digits_again : (ds rest : List ℕ) (n : ℕ) → AreDigits ds → fold one_more n ds < 10 ^ 10 → Stops ends_whole rest → digits_at n (ds ++ rest) ≡ Some (fold one_more n ds, rest)
unfolding digits_at
digits_again [] [] n h small stops = refl
digits_again [] (b ∷ bs) n h small stops = let none : is_digit b ≡ false = grind (arith, nat_tests) in rw none refl
digits_again (d ∷ ds) rest n h small stops =
    let low : 48 ≤ d = h.0.0 in
    let high : d ≤ 57 = h.0.1 in
    let digit : is_digit d ≡ true = grind (arith, nat_tests) in
    let value : digit_value d ≡ d - 48 = grind (arith, nat_tests) in
    let more : n * 10 + digit_value d ≤ fold one_more (n * 10 + digit_value d) ds = least ds (one_more n d) in
    let below : n < 1_000_000_000 = omega arith in
    let room : nat_lt n 1_000_000_000 ≡ true = grind (arith, nat_tests) in
    rw (digit, room, ← value) (digits_again ds rest (n * 10 + digit_value d) h.1 small stops)

number_by : (ds rest : List ℕ) (n : ℕ) → AreDigits ds → 0 < length ds → fold one_more 0 ds ≡ n → n < 10 ^ 10 → Stops ends_whole rest → number_at (ds ++ rest) ≡ Some (n, rest)
unfolding number_at
number_by [] rest n h some number small stops = absurd (omega arith)
number_by (d ∷ ds) rest n h some number small stops =
    let low : 48 ≤ d = h.0.0 in
    let high : d ≤ 57 = h.0.1 in
    let digit : is_digit d ≡ true = grind (arith, nat_tests) in
    let value : 0 * 10 + digit_value d ≡ d - 48 = grind (arith, nat_tests) in
    let same : fold one_more (d - 48) ds ≡ n = ap (λ first. fold one_more first ds) (sym value) ∙ number in
    rw digit (digits_again ds rest (d - 48) h.1 (omega (arith, same)) stops ∙ ap (λ m. Some (m, rest)) same)

number_again : (n : ℕ) (rest : List ℕ) → n < 10 ^ 10 → Stops ends_whole rest → number_at (decimal n ++ rest) ≡ Some (n, rest)
number_again n rest small stops = let t = decimal_text n (omega arith) in number_by (decimal n) rest n t.digits t.nonempty t.number small stops

pub whole_again : (limit n : ℕ) (rest : List ℕ) → n < limit → n < 2 ^ 32 → Stops ends_whole rest → whole_at limit (decimal n ++ rest) ≡ Some (n, rest)
unfolding whole_at
whole_again limit n rest below small stops =
    let test : nat_lt n limit ≡ true = grind (arith, nat_tests) in
    rw (number_again n rest (omega arith) stops, test) refl

-- the bytes of nums

num_goes_on : (b : ℕ) → 48 ≤ b → b ≤ 57 → ends_num b ≡ false
num_goes_on b low high = grind (arith, nat_tests)

digit_goes_on : (d : ℕ) → d < 10 → ends_num (48 + d) ≡ false
digit_goes_on d below = num_goes_on (48 + d) (omega arith) (omega arith)

fraction_goes_on : (r : ℕ) → r < 1000 → GoesOn ends_num (fraction_text r)
fraction_goes_on r below =
    let tenths = digit_goes_on (r / 100) (omega arith) in
    let hundredths = digit_goes_on (r / 10 % 10) (omega arith) in
    let thousandths = digit_goes_on (r % 10) (omega arith) in
    GoesOn-cond ends_num (r == 0) _ _ tt (GoesOn-cond ends_num (r % 100 == 0) _ _ (refl, (tenths, tt)) (GoesOn-cond ends_num (r % 10 == 0) _ _ (refl, (tenths, (hundredths, tt))) (refl, (tenths, (hundredths, (thousandths, tt))))))

size_goes_on : (n : ℕ) → n ≤ greatest → GoesOn ends_num (decimal (n / 1000) ++ fraction_text (n % 1000))
size_goes_on n range =
    GoesOn-append ends_num (decimal (n / 1000)) (fraction_text (n % 1000)) (digits_go_on ends_num num_goes_on (n / 1000) (omega arith)) (fraction_goes_on (n % 1000) (omega arith))

pub shortest_goes_on : (z : ℤ) → IsNum z → GoesOn ends_num (shortest_text z)
shortest_goes_on (pos n) num = size_goes_on n num.size
shortest_goes_on (negsuc n) num = (refl, size_goes_on (suc n) num.size)

-- nums

digit_again : (unit d : ℕ) (rest : List ℕ) → d < 10 → digit_at unit ((48 + d) ∷ rest) ≡ (d * unit, rest)
unfolding digit_at
digit_again unit d rest below =
    let digit : is_digit (48 + d) ≡ true = grind (arith, nat_tests) in
    let value : 48 + d - 48 ≡ d = omega arith in
    rw (digit, value) refl

no_digit : (unit : ℕ) (rest : List ℕ) → Stops ends_num rest → digit_at unit rest ≡ (0, rest)
unfolding digit_at
no_digit unit [] stops = refl
no_digit unit (b ∷ bs) stops = let none : is_digit b ≡ false = grind (arith, nat_tests) in rw none refl

no_fraction : (rest : List ℕ) → Stops ends_num rest → fraction_at rest ≡ (0, rest)
unfolding fraction_at
no_fraction [] stops = refl
no_fraction (b ∷ bs) stops = let none : (b == 46) ≡ false = grind (arith, nat_tests) in rw none refl

one_decimal : (d : ℕ) (rest : List ℕ) → d < 10 → Stops ends_num rest → decimals_at ((48 + d) ∷ rest) ≡ (d * 100 + 0 + 0, rest)
unfolding decimals_at
one_decimal d rest below stops = rw (digit_again 100 d rest below, no_digit 10 rest stops, no_digit 1 rest stops) refl

two_decimals : (d e : ℕ) (rest : List ℕ) → d < 10 → e < 10 → Stops ends_num rest → decimals_at ((48 + d) ∷ (48 + e) ∷ rest) ≡ (d * 100 + e * 10 + 0, rest)
unfolding decimals_at
two_decimals d e rest below small stops = rw (digit_again 100 d ((48 + e) ∷ rest) below, digit_again 10 e rest small, no_digit 1 rest stops) refl

three_decimals : (d e f : ℕ) (rest : List ℕ) → d < 10 → e < 10 → f < 10 → decimals_at ((48 + d) ∷ (48 + e) ∷ (48 + f) ∷ rest) ≡ (d * 100 + e * 10 + f * 1, rest)
unfolding decimals_at
three_decimals d e f rest below small least = rw (digit_again 100 d ((48 + e) ∷ (48 + f) ∷ rest) below, digit_again 10 e ((48 + f) ∷ rest) small, digit_again 1 f rest least) refl

fraction_again : (r : ℕ) (rest : List ℕ) → r < 1000 → Stops ends_num rest → fraction_at (fraction_text r ++ rest) ≡ (r, rest)
unfolding fraction_at
fraction_again r rest below stops =
    elim (cases_eq r 0) [
      | inl none ↦ rw (fraction_none r none) (no_fraction rest stops ∙ ap (λ n. (n, rest)) (sym none))
      | inr some ↦ elim (cases_eq (r % 100) 0) [
        | inl one ↦ rw (fraction_one r some one) (one_decimal (r / 100) rest (omega arith) stops ∙ ap (λ n. (n, rest)) (omega arith))
        | inr more ↦ elim (cases_eq (r % 10) 0) [
          | inl two ↦ rw (fraction_two r some more two) (two_decimals (r / 100) (r / 10 % 10) rest (omega arith) (omega arith) stops ∙ ap (λ n. (n, rest)) (omega arith))
          | inr most ↦ rw (fraction_three r some more most) (three_decimals (r / 100) (r / 10 % 10) (r % 10) rest (omega arith) (omega arith) (omega arith) ∙ ap (λ n. (n, rest)) (omega arith))
        ]
      ]
    ]

fraction_stops : (r : ℕ) (rest : List ℕ) → Stops ends_num rest → Stops ends_whole (fraction_text r ++ rest)
fraction_stops r rest stops =
    elim (cases_eq r 0) [
      | inl none ↦ rw (fraction_none r none) (rest_stops rest stops)
      | inr some ↦ elim (cases_eq (r % 100) 0) [
        | inl one ↦ rw (fraction_one r some one) refl
        | inr more ↦ elim (cases_eq (r % 10) 0) [
          | inl two ↦ rw (fraction_two r some more two) refl
          | inr most ↦ rw (fraction_three r some more most) refl
        ]
      ]
    ]
  where
    rest_stops : (rest : List ℕ) → Stops ends_num rest → Stops ends_whole rest
    rest_stops [] stops = tt
    rest_stops (b ∷ bs) stops = grind (arith, nat_tests)

size_again : (n : ℕ) (rest : List ℕ) → n ≤ greatest → Stops ends_num rest → size_at ((decimal (n / 1000) ++ fraction_text (n % 1000)) ++ rest) ≡ Some (n, rest)
unfolding size_at
size_again n rest range stops =
    let after = fraction_text (n % 1000) ++ rest in
    let whole = number_again (n / 1000) after (omega arith) (fraction_stops (n % 1000) rest stops) in
    let parts : n / 1000 * 1000 + n % 1000 ≡ n = omega arith in
    ap size_at (append_assoc (decimal (n / 1000)) (fraction_text (n % 1000)) rest) ∙ rw (whole, fraction_again (n % 1000) rest (omega arith) stops, parts) refl

no_minus : (ds more : List ℕ) → AreDigits ds → 0 < length ds → minus_at (ds ++ more) ≡ (false, ds ++ more)
unfolding minus_at
no_minus [] more h some = absurd (omega arith)
no_minus (d ∷ ds) more h some =
    let low : 48 ≤ d = h.0.0 in
    let test : (d == 45) ≡ false = grind (arith, nat_tests) in
    rw test refl

pub num_again : (z : ℤ) (rest : List ℕ) → IsNum z → Stops ends_num rest → num_at (shortest_text z ++ rest) ≡ Some (z, rest)
unfolding num_at minus_at
num_again (pos n) rest num stops =
    let t = decimal_text (n / 1000) (omega (arith, num.size)) in
    let plain : minus_at ((decimal (n / 1000) ++ fraction_text (n % 1000)) ++ rest) ≡ (false, (decimal (n / 1000) ++ fraction_text (n % 1000)) ++ rest) =
    rw (append_assoc (decimal (n / 1000)) (fraction_text (n % 1000)) rest) (no_minus (decimal (n / 1000)) (fraction_text (n % 1000) ++ rest) t.digits t.nonempty) in
    let size : n ≤ greatest = num.size in
    let test : is_num (pos n) ≡ true = grind (arith, nat_tests) in
    rw (plain, size_again n rest num.size stops, test) refl
num_again (negsuc n) rest num stops =
    let size : suc n ≤ greatest = num.size in
    let test : is_num (negsuc n) ≡ true = grind (arith, nat_tests) in
    rw (size_again (suc n) rest size stops, test) refl

-- a minus alone is no num
pub no_num : (rest : List ℕ) → Stops ends_num rest → num_at (45 ∷ rest) ≡ None
unfolding num_at minus_at size_at number_at
no_num [] stops = refl
no_num (b ∷ bs) stops = let none : is_digit b ≡ false = grind (arith, nat_tests) in rw none refl

pub next_again : (byte : ℕ) (z : ℤ) (rest : List ℕ) → IsNum z → Stops ends_num rest → next_num byte (byte ∷ (shortest_text z ++ rest)) ≡ Some (z, rest)
unfolding next_num
next_again byte z rest num stops = rw (after_word_again (byte ∷ []) (shortest_text z ++ rest)) (num_again z rest num stops)
