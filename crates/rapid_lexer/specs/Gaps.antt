-- What is between tokens and has no meaning (RAPID Kernel, comments and file headers).
use Rattle.std.specs.Prelude.{◌≡◌, ℕ, suc, ◌+◌, Bool, true, false, not, ◌&&◌, ◌==◌, if◌then◌else◌, List, [], ◌∷◌, drop, Option, Some, None, Result, Ok, Err}
use Rattle.std.specs.List.{prefix_len}
use Rattle.std.specs.Option.{option_map}
use Rattle.rapid_lexer.specs.Bytes.{is_blank}

-- a line feed or nothing comes next
abbrev pub is_line_over : List ℕ → Bool
is_line_over [] = true
is_line_over (b ∷ bs) = b == 10

-- Blanks and comments, with the text after them, and whether they start inside a comment. A comment reaches from ! up
-- to the next line feed, which is not part of it, or to the end of the text.
abbrev pub is_gap_within : Bool → List ℕ → List ℕ → Bool
is_gap_within comment [] rest = if comment then is_line_over rest else true
is_gap_within comment (b ∷ bs) rest =
    if comment then is_gap_within (not (b == 10)) bs rest
    else if b == 33 then is_gap_within true bs rest
    else is_blank b && is_gap_within false bs rest

abbrev pub IsGap : List ℕ → List ℕ → Type 0
IsGap gap rest = is_gap_within false gap rest ≡ true

-- the number of bytes of a byte order mark at the front
abbrev pub mark_len : List ℕ → ℕ
mark_len [] = 0
mark_len (a ∷ []) = 0
mark_len (a ∷ b ∷ []) = 0
mark_len (a ∷ b ∷ c ∷ bs) = if a == 239 && b == 187 && c == 191 then 3 else 0

-- three percent signs come next
abbrev pub is_fence : List ℕ → Bool
is_fence [] = false
is_fence (a ∷ []) = false
is_fence (a ∷ b ∷ []) = false
is_fence (a ∷ b ∷ c ∷ bs) = a == 37 && b == 37 && c == 37

-- the number of bytes before the next fence, if there is one
abbrev pub before_fence : List ℕ → Option ℕ
before_fence [] = None
before_fence (b ∷ bs) = if is_fence (b ∷ bs) then Some 0 else option_map suc (before_fence bs)

-- the end of a header that starts at a position, given what is before its second fence
abbrev pub header_end : ℕ → Option ℕ → Result ℕ ℕ
header_end at None = Err at
header_end at (Some n) = Ok (at + 3 + n + 3)

-- A header is a fence, any bytes, and the next fence. It may follow a byte order mark and blanks. Ok: the number of
-- bytes of the mark, or of the mark, blanks and the header. Err: the position of a header without an end.
abbrev pub front_behind : List ℕ → ℕ → ℕ → Result ℕ ℕ
front_behind source mark at = if is_fence (drop at source) then header_end at (before_fence (drop (at + 3) source)) else Ok mark

abbrev pub front_of : List ℕ → Result ℕ ℕ
front_of source = front_behind source (mark_len source) (mark_len source + prefix_len is_blank (drop (mark_len source) source))
