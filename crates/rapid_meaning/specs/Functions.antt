-- The values of predefined functions, and what they ask (RAPID Instructions, Functions and Data types).
use Rattle.std.specs.Prelude.{ℕ, zero, suc, ◌+◌, ◌-◌, ◌/◌, ◌%◌, ◌^◌, min, ◌==◌, Bool, ℤ, pos, negsuc, ◌*ℤ◌, nat_abs, List, [], ◌∷◌, ◌++◌, length, decimal, if◌then◌else◌}
use Rattle.rapid_num.specs.Arithmetic.{rounded, whole_part}
use Rattle.rapid_model.specs.declared.answer.Answer.{Answer}
use Rattle.rapid_model.specs.declared.answer.Answer.TheVariants as answers
use Rattle.rapid_model.specs.declared.request.Request.TheVariants.{ReadS}
use Rattle.rapid_model.specs.declared.value.Value.{Value}
use Rattle.rapid_model.specs.declared.value.Value.TheVariants as values
use Rattle.rapid_meaning.specs.Doings.{Doing, Gives, Misfit, Asks, ◌>>=◌}
use Rattle.rapid_meaning.specs.Values.{num_in, text_in, whole}

-- the last `count` digits of a number
unfoldable pub last_digits : ℕ → ℕ → List ℕ
last_digits zero n = []
last_digits (suc count) n = last_digits count (n / 10) ++ (48 + n % 10) ∷ []

-- a point and the decimals, or nothing if there are none
abbrev pub decimals_text : ℕ → ℕ → List ℕ
decimals_text zero n = []
decimals_text (suc count) n = 46 ∷ last_digits (suc count) n

-- zero has no sign
abbrev pub sign_text : ℤ → ℕ → List ℕ
sign_text (pos n) size = []
sign_text (negsuc n) size = if size == 0 then [] else 45 ∷ []

-- a size with `count` decimals, given in units of the last decimal
abbrev pub size_text : ℕ → ℕ → List ℕ
size_text count size = decimal (size / 10 ^ count) ++ decimals_text count (size % 10 ^ count)

abbrev pub signed_text : ℤ → ℕ → ℕ → List ℕ
signed_text n count size = sign_text n size ++ size_text count size

-- a num with `count` decimals, rounded half away from zero
abbrev pub num_text : ℤ → ℕ → List ℕ
num_text n count = signed_text n count (rounded (nat_abs n) (10 ^ (3 - count)))

-- the number of decimals: truncated, and clamped to 0 to 3
abbrev pub decimals_of : ℤ → ℕ
decimals_of (pos n) = min 3 (n / 1_000)
decimals_of (negsuc n) = 0

-- Abs
abbrev pub absolute : Value → Doing Value
absolute v = do
  n ← num_in v
  Gives (values.Num (pos (nat_abs n)))

-- Trunc
abbrev pub truncated : Value → Doing Value
truncated v = do
  n ← num_in v
  Gives (values.Num (whole_part n 1_000 *ℤ pos 1_000))

-- StrLen
abbrev pub text_length : Value → Doing Value
text_length v = do
  text ← text_in v
  Gives (whole (length text))

-- NumToStr
abbrev pub shown : Value → Value → Doing Value
shown v w = do
  n ← num_in v
  count ← num_in w
  Gives (values.Text (num_text n (decimals_of count)))

abbrev pub when_bit : Answer → Doing Bool
when_bit (answers.Bit bit) = Gives bit
when_bit _ = Misfit

abbrev pub read_signal : ℕ → Doing Bool
read_signal signal = Asks (ReadS signal) when_bit

abbrev pub when_at : Answer → Doing Value
when_at (answers.At position) = Gives (values.Target position)
when_at _ = Misfit
