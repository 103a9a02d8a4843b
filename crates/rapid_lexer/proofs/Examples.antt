-- The definitions on worked examples.
use Rattle.std.proofs.Common.{◌≡◌, true, false, [], ◌∷◌, ◌++◌, Some, Ok, Err, refl, lit<}
use Rattle.std.specs.Prelude.{codes, is_some}
use Rattle.rapid_num.specs.Characters.{is_name}
use Rattle.rapid_num.specs.Literal.{spelled_thousandths}
use Rattle.rapid_lexer.specs.declared.kind.Kind.TheVariants.{Word, Number, Quoted, Mark}
use Rattle.rapid_lexer.specs.declared.mark.Mark.TheVariants.{LessEqual, NotEqual}
use Rattle.rapid_lexer.specs.declared.word.Word.TheVariants.{Else, If}
use Rattle.rapid_lexer.specs.declared.fault.LexRule.TheVariants.{OpenString}
use Rattle.rapid_lexer.specs.Words.{IsWord}
use Rattle.rapid_lexer.specs.Strings.{is_character, IsString}
use Rattle.rapid_lexer.specs.Gaps.{is_gap_within, front_of}
use Rattle.rapid_lexer.specs.Tokens.{IsToken}
use Rattle.rapid_lexer.specs.Places.{line_of, column_of}
use Rattle.rapid_lexer.specs.Scanning.{longest}
use Rattle.rapid_lexer.specs.Reading.{gap_len, characters_len, broken, token_at, next_of}

name : is_name (codes "a_1") ≡ true
name = refl

no_name : is_name (codes "_a") ≡ false
no_name = refl

word : IsWord If (codes "iF")
word = (27, lit< tt, refl)

doubled_quote : is_character (codes "\"\"") ≡ true
doubled_quote = refl

lone_quote : is_character (codes "\"") ≡ false
lone_quote = refl

escape : is_character (codes "\\7e") ≡ true
escape = refl

escape_past_printable : is_character (codes "\\7F") ≡ false
escape_past_printable = refl

string_of_two : IsString (codes "\"a\\41\"") (codes "a" ∷ codes "\\41" ∷ [])
string_of_two = record { characters = (refl, (refl, tt)); whole = refl }

one_mark : IsToken (Mark LessEqual) (codes "<=")
one_mark = refl

point_first : is_some (spelled_thousandths (codes ".5")) ≡ true
point_first = refl

no_exponent : is_some (spelled_thousandths (codes "1e+")) ≡ false
no_exponent = refl

comment_to_line_end : is_gap_within false (codes " !x") (10 ∷ []) ≡ true
comment_to_line_end = refl

comment_goes_on : is_gap_within false (codes "!x") (codes "y") ≡ false
comment_goes_on = refl

mark_and_header : front_of (239 ∷ 187 ∷ 191 ∷ codes " %%%a%%%b") ≡ Ok 11
mark_and_header = refl

header_without_end : front_of (codes " %%%a%%") ≡ Err 1
header_without_end = refl

second_line : line_of (97 ∷ 10 ∷ 98 ∷ []) 2 ≡ 2
second_line = refl

first_column : column_of (97 ∷ 10 ∷ 98 ∷ []) 2 ≡ 1
first_column = refl

-- after a doubled quote and the end of the line, the token is the string of one character
doubled_then_end : next_of 0 (codes "\"a\"\"" ++ 10 ∷ []) ≡ Some (Ok (record { kind = Quoted; text = codes "\"a\""; at = 0 }))
unfolding next_of token_at longest gap_len characters_len
doubled_then_end = refl

-- and the error is at the second quote
open_behind : next_of 3 (34 ∷ 10 ∷ []) ≡ Some (Err (record { rule = OpenString; at = 3 }))
unfolding next_of token_at longest gap_len characters_len broken
open_behind = refl

-- a word in mixed case, and a mark of two bytes
word_first : next_of 0 (codes "eLse<>") ≡ Some (Ok (record { kind = Word Else; text = codes "eLse"; at = 0 }))
unfolding next_of token_at longest gap_len
word_first = refl

mark_of_two : next_of 4 (codes "<>") ≡ Some (Ok (record { kind = Mark NotEqual; text = codes "<>"; at = 4 }))
unfolding next_of token_at longest gap_len
mark_of_two = refl

-- digits, then an exponent without digits
falls_back : next_of 0 (codes "1e+") ≡ Some (Ok (record { kind = Number; text = codes "1"; at = 0 }))
unfolding next_of token_at longest gap_len
falls_back = refl
