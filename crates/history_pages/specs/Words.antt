-- Words: how nums, shapes and texts are stored as integers of 8 bytes, and how they are read back.
use Rattle.std.specs.Prelude.{ℕ, ◌+◌, ◌*◌, ◌/◌, ◌%◌, ◌-◌, ◌^◌, Bool, true, ◌&&◌, ◌==◌, nat_le, ℤ, pos, List, [], ◌∷◌, length, take, drop, map, slice_get, slice_index, slice_index_or, Option, Some, None, if◌then◌else◌}
use Rattle.std.specs.Int.{cast_signed, cast_unsigned, from_le_bytes, to_le_bytes, w64}
use Rattle.std.specs.List.{flat_map, list_all, range_with_len}
use Rattle.std.specs.Option.{option_and_then}
use Rattle.rapid_limits.specs.declared.TheConstants.{LONGEST_STRING, MOST_AXES}
use Rattle.rapid_num.specs.Arithmetic.{num_of}
use Rattle.rapid_num.specs.Characters.{is_printable}
use Rattle.rapid_num.specs.Range.{is_num}
use Rattle.rapid_num.specs.declared.shape.Bound.{Bound}
use Rattle.rapid_num.specs.declared.shape.Shape.{Shape}

-- a num is a word: its thousandths

-- the num in the first word
abbrev pub num_in : List ℤ → Option ℤ
num_in words = option_and_then num_of (slice_get words 0)

-- that many nums, in the first words
abbrev pub nums_in : ℕ → List ℤ → Option (List ℤ)
nums_in count words = if nat_le count (length words) && list_all is_num (take count words) then Some (take count words) else None

-- that many nums in range, as in every array of nums in a program
abbrev pub are_nums : ℕ → List ℤ → Bool
are_nums count nums = length nums == count && list_all is_num nums

-- the bounds of an axis take two words; without bounds each is the greatest integer, which is not a num

abbrev pub no_num : ℤ
no_num = pos (2 ^ 63 - 1)

abbrev pub bound_words : Option Bound → List ℤ
bound_words None = no_num ∷ no_num ∷ []
bound_words (Some bound) = bound.low ∷ bound.high ∷ []

abbrev pub shape_words : Shape → List ℤ
shape_words shape = flat_map bound_words shape.bounds

-- the bounds that two words spell
abbrev pub bound_of : ℤ → ℤ → Option Bound
bound_of low high = bound (num_of low) (num_of high)
  where
    bound : Option ℤ → Option ℤ → Option Bound
    bound (Some low) (Some high) = Some (record { low = low; high = high })
    bound _ _ = None

-- the bounds of an axis, counted from 0
abbrev pub bound_at : List ℤ → ℕ → Option Bound
bound_at words axis = bound_of (slice_index_or words (2 * axis) no_num) (slice_index_or words (2 * axis + 1) no_num)

-- the shape whose bounds are the first words
abbrev pub shape_in : Bool → List ℤ → Option Shape
shape_in inside words =
    if nat_le (2 * MOST_AXES) (length words) then Some (record { inside = inside; bounds = map (bound_at words) (range_with_len 0 MOST_AXES) })
    else None

abbrev pub is_proper_bound : Option Bound → Bool
is_proper_bound None = true
is_proper_bound (Some bound) = is_num bound.low && is_num bound.high

-- a shape with nums in range for each axis, as every shape in a program
abbrev pub is_proper_shape : Shape → Bool
is_proper_shape shape = length shape.bounds == MOST_AXES && list_all is_proper_bound shape.bounds

-- eight bytes of a text make a word, the first byte lowest; after the end of the text they are 0

abbrev pub word_of : List ℕ → ℤ
word_of bytes = cast_signed w64 (from_le_bytes w64 bytes)

-- how many words that many bytes take
abbrev pub words_for : ℕ → ℕ
words_for count = (count + 7) / 8

abbrev pub text_words : List ℕ → List ℤ
text_words bytes = map (λ k. word_of (drop (8 * k) bytes)) (range_with_len 0 (words_for (length bytes)))

-- a byte of the text that begins at the first word
abbrev pub byte_at : List ℤ → ℕ → ℕ
byte_at words k = slice_index (to_le_bytes w64 (cast_unsigned w64 (slice_index_or words (k / 8) no_num))) (k % 8)

abbrev pub bytes_in : ℕ → List ℤ → List ℕ
bytes_in count words = map (byte_at words) (range_with_len 0 count)

-- a text of printable characters, not too long, as every text in a program
abbrev pub is_text : List ℕ → Bool
is_text bytes = nat_le (length bytes) LONGEST_STRING && list_all is_printable bytes

-- the text of that many bytes that begins at the first word
abbrev pub text_in : ℕ → List ℤ → Option (List ℕ)
text_in count words = if nat_le count (8 * length words) && is_text (bytes_in count words) then Some (bytes_in count words) else None
