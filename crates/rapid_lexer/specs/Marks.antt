-- Marks (RAPID Kernel, lexical elements).
use Rattle.std.specs.Prelude.{ℕ, List, codes}
use Rattle.rapid_lexer.specs.declared.mark.Mark.{Mark}
use Rattle.rapid_lexer.specs.declared.mark.Mark.TheVariants.{OpenBrace, CloseBrace, OpenBracket, CloseBracket, OpenParenthesis, CloseParenthesis, Comma, Dot, Semicolon, Colon, Assign, Equal, Less, Greater, LessEqual, GreaterEqual, NotEqual, Plus, Minus, Star, Slash, Backslash, Question}

-- the bytes of each mark
abbrev pub mark_text : Mark → List ℕ
mark_text OpenBrace = codes "{"
mark_text CloseBrace = codes "}"
mark_text OpenBracket = codes "["
mark_text CloseBracket = codes "]"
mark_text OpenParenthesis = codes "("
mark_text CloseParenthesis = codes ")"
mark_text Comma = codes ","
mark_text Dot = codes "."
mark_text Semicolon = codes ";"
mark_text Colon = codes ":"
mark_text Assign = codes ":="
mark_text Equal = codes "="
mark_text Less = codes "<"
mark_text Greater = codes ">"
mark_text LessEqual = codes "<="
mark_text GreaterEqual = codes ">="
mark_text NotEqual = codes "<>"
mark_text Plus = codes "+"
mark_text Minus = codes "-"
mark_text Star = codes "*"
mark_text Slash = codes "/"
mark_text Backslash = codes "\\"
mark_text Question = codes "?"
