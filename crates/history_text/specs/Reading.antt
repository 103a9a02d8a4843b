-- Reading from the left: what a text starts with, and the rest of the text. These definitions are internal to proofs:
-- what is read is written again and compared.
use Rattle.std.specs.Prelude.{ℕ, ◌+◌, ◌-◌, ◌*◌, ℤ, pos, neg_ℤ, Bool, true, false, not, ◌||◌, nat_lt, ◌==◌, if◌then◌else◌, zero, suc, List, [], ◌∷◌, ◌++◌, codes, Option, Some, None}
use Rattle.std.specs.List.{position_or_len}
use Rattle.std.specs.Option.{option_and_then}
use Rattle.rapid_limits.specs.declared.TheConstants.{LONGEST_STRING}
use Rattle.rapid_num.specs.Arithmetic.{num_of}
use Rattle.rapid_num.specs.Characters.{is_digit}
use Rattle.rapid_model.specs.Printable.{takes}

infixl 10 ◌>>=◌
abbrev pub ◌>>=◌ : {A B : Type 0} → Option A → (A → Option B) → Option B
o >>= f = option_and_then f o

-- what follows a word
unfoldable pub after_word : List ℕ → List ℕ → Option (List ℕ)
after_word [] text = Some text
after_word (c ∷ cs) [] = None
after_word (c ∷ cs) (b ∷ bs) = if b == c then after_word cs bs else None

-- what is read if something is there, or a default
abbrev pub or_else : {A B : Type 0} → Option A → (A → Option B) → Option B → Option B
or_else None next other = other
or_else (Some x) next other = next x

-- the place of the first byte that passes a test
abbrev pub place_of : (ℕ → Bool) → List ℕ → ℕ
place_of stops text = position_or_len stops text

abbrev pub ends_whole : ℕ → Bool
ends_whole b = not (is_digit b)

-- a num has digits, a point and a minus
abbrev pub ends_num : ℕ → Bool
ends_num b = not (is_digit b || (b == 46 || b == 45))

-- the number that the digits so far and these spell; none past ten digits
unfoldable pub digits_at : ℕ → List ℕ → Option (ℕ × List ℕ)
digits_at so_far [] = Some (so_far, [])
digits_at so_far (b ∷ bs) =
    if is_digit b then (if nat_lt so_far 1_000_000_000 then digits_at (so_far * 10 + (b - 48)) bs else None)
    else Some (so_far, b ∷ bs)

-- a number of one or more digits
unfoldable pub number_at : List ℕ → Option (ℕ × List ℕ)
number_at [] = None
number_at (b ∷ bs) = if is_digit b then digits_at (b - 48) bs else None

-- an integer below a limit
unfoldable pub whole_at : ℕ → List ℕ → Option (ℕ × List ℕ)
whole_at limit text = do
  n ← number_at text
  if nat_lt n.0 limit then Some (n.0, n.1) else None

-- what a digit counts, in these units; 0 if there is none
unfoldable pub digit_at : ℕ → List ℕ → ℕ × List ℕ
digit_at unit [] = (0, [])
digit_at unit (b ∷ bs) = if is_digit b then ((b - 48) * unit, bs) else (0, b ∷ bs)

-- up to three decimals, as thousandths
unfoldable pub decimals_at : List ℕ → ℕ × List ℕ
decimals_at text =
    let tenths = digit_at 100 text in
    let hundredths = digit_at 10 tenths.1 in
    let thousandths = digit_at 1 hundredths.1 in
    (tenths.0 + hundredths.0 + thousandths.0, thousandths.1)

-- the decimals after a point; none if there is no point
unfoldable pub fraction_at : List ℕ → ℕ × List ℕ
fraction_at [] = (0, [])
fraction_at (b ∷ bs) = if b == 46 then decimals_at bs else (0, b ∷ bs)

-- the thousandths of an unsigned num
unfoldable pub size_at : List ℕ → Option (ℕ × List ℕ)
size_at text = do
  whole ← number_at text
  Some (whole.0 * 1000 + (fraction_at whole.1).0, (fraction_at whole.1).1)

-- whether there is a minus, and what follows it
unfoldable pub minus_at : List ℕ → Bool × List ℕ
minus_at [] = (false, [])
minus_at (b ∷ bs) = if b == 45 then (true, bs) else (false, b ∷ bs)

abbrev pub signed : Bool → ℕ → ℤ
signed true size = neg_ℤ (pos size)
signed false size = pos size

-- a num
unfoldable pub num_at : List ℕ → Option (ℤ × List ℕ)
num_at text = do
  size ← size_at (minus_at text).1
  n ← num_of (signed (minus_at text).0 size.0)
  Some (n, size.1)

unfoldable pub truth_at : List ℕ → Option (Bool × List ℕ)
truth_at text = or_else (after_word (codes "TRUE") text) (λ rest. Some (true, rest)) (after_word (codes "FALSE") text >>= (λ rest. Some (false, rest)))

-- the next character of a text in quotes, or none at its end
unfoldable pub character_at : List ℕ → Option (Option ℕ × List ℕ)
character_at [] = None
character_at (b ∷ []) = if b == 34 then Some (None, []) else Some (Some b, [])
character_at (b ∷ c ∷ rest) =
    if b == 34 then (if c == 34 then Some (Some 34, rest) else Some (None, c ∷ rest))
    else if b == 92 then Some (Some c, rest)
    else Some (Some b, c ∷ rest)

-- one more character, or the end
abbrev pub with_character : List ℕ → (List ℕ → List ℕ → Option (List ℕ × List ℕ)) → Option ℕ × List ℕ → Option (List ℕ × List ℕ)
with_character so_far go_on (None, rest) = Some (so_far, rest)
with_character so_far go_on (Some b, rest) = if takes LONGEST_STRING so_far b then go_on (so_far ++ b ∷ []) rest else None

-- the characters up to the closing quote, after those so far, in at most this many steps
unfoldable pub characters_at : ℕ → List ℕ → List ℕ → Option (List ℕ × List ℕ)
characters_at zero so_far text = None
characters_at (suc steps) so_far text = character_at text >>= with_character so_far (λ more rest. characters_at steps more rest)

-- a text in quotes
unfoldable pub quoted_at : List ℕ → Option (List ℕ × List ℕ)
quoted_at text = after_word (codes "\"") text >>= (λ rest. characters_at (LONGEST_STRING + 1) [] rest)

-- a num after a byte
unfoldable pub next_num : ℕ → List ℕ → Option (ℤ × List ℕ)
next_num byte text = after_word (byte ∷ []) text >>= (λ rest. num_at rest)

-- this many things, one after the other
unfoldable pub many_at : {A : Type 0} → (List ℕ → Option (A × List ℕ)) → ℕ → List ℕ → Option (List A × List ℕ)
many_at one_at zero text = Some ([], text)
many_at one_at (suc more) text = do
  first ← one_at text
  rest ← many_at one_at more first.1
  Some (first.0 ∷ rest.0, rest.1)

-- what comes next, and as many as follow it
abbrev pub with_next : {A : Type 0} → List ℕ → (List ℕ → List A × List ℕ) → Option (A × List ℕ) → List A × List ℕ
with_next text go_on None = ([], text)
with_next text go_on (Some x) = (x.0 ∷ (go_on x.1).0, (go_on x.1).1)

-- as many things as come one after the other, at most this many
unfoldable pub few_at : {A : Type 0} → (List ℕ → Option (A × List ℕ)) → ℕ → List ℕ → List A × List ℕ
few_at one_at zero text = ([], text)
few_at one_at (suc more) text = with_next text (few_at one_at more) (one_at text)

-- a num, and this many more, each after a byte
unfoldable pub nums_at : ℕ → ℕ → List ℕ → Option (List ℤ × List ℕ)
nums_at byte more text = do
  first ← num_at text
  rest ← many_at (next_num byte) more first.1
  Some (first.0 ∷ rest.0, rest.1)

-- nums that a function returns as a tuple
abbrev pub four_nums : ℤ × ℤ × ℤ × ℤ → List ℤ
four_nums s = s.0 ∷ s.1 ∷ s.2 ∷ s.3 ∷ []

abbrev pub six_nums : ℤ × ℤ × ℤ × ℤ × ℤ × ℤ → List ℤ
six_nums s = s.0 ∷ s.1 ∷ s.2 ∷ s.3 ∷ s.4 ∷ s.5 ∷ []
