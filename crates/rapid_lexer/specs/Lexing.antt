-- How callers see a lexer.
use Rattle.std.specs.Prelude.{◌≡◌, ℕ, ◌+◌, List, length, drop, Option, Some, None, Result, Ok, Err, ◌⊎◌}
use Rattle.std.specs.Option.{option_map}
use Rattle.rapid_lexer.specs.declared.fault.LexRule.TheVariants.{OpenHeader}
use Rattle.rapid_lexer.specs.declared.fault.LexFault.{LexFault}
use Rattle.rapid_lexer.specs.declared.fault.TokensFault.{TokensFault}
use Rattle.rapid_lexer.specs.declared.fault.TokensFault.TheVariants.{Lex, Memory}
use Rattle.rapid_lexer.specs.declared.token.Token.{Token}
use Rattle.rapid_lexer.specs.Tokens.{Lexeme, views}
use Rattle.rapid_lexer.specs.Faults.{IsNext, seen}

-- the text, the position after the last token, and the error if one was found
pub record Lexing : Type 0 where
  pub source : List ℕ
  pub at : ℕ
  pub fault : Option LexFault

-- a lexer before its first token: after the front, or at a header without an end
abbrev pub IsAtFront : Lexing → Result ℕ ℕ → Type 0
IsAtFront l (Ok n) = (l.at ≡ n) × (l.fault ≡ None)
IsAtFront l (Err at) = l.fault ≡ Some (record { rule = OpenHeader; at = at })

-- the answer of a lexer: the error that was found, or what comes next
abbrev pub IsAnswerBehind : Option LexFault → Lexing → Option (Result Lexeme LexFault) → Type 0
IsAnswerBehind None l answer = IsNext l.at (drop l.at l.source) answer
IsAnswerBehind (Some f) l answer = answer ≡ Some (Err f)

abbrev pub IsAnswer : Lexing → Option (Result Lexeme LexFault) → Type 0
IsAnswer l answer = IsAnswerBehind l.fault l answer

abbrev pub seen_next : Option (Result Token LexFault) → Option (Result Lexeme LexFault)
seen_next answer = option_map seen answer

-- a lexer after an answer
abbrev pub lexing_after : Lexing → Option (Result Lexeme LexFault) → Lexing
lexing_after l None = l
lexing_after l (Some (Ok t)) = record { source = l.source; at = t.at + length t.text; fault = None }
lexing_after l (Some (Err f)) = record { source = l.source; at = l.at; fault = Some f }

-- these are all tokens of the source, unless out of memory
abbrev pub FindsTokens : {Z : Type 0} → (Z → List Token) → Result Z TokensFault → List Lexeme → Type 0
FindsTokens items (Ok v) ts = views (items v) ≡ ts
FindsTokens items (Err e) ts = e ≡ Memory

-- this error is found, unless out of memory
abbrev pub FindsFault : {Z : Type 0} → Result Z TokensFault → LexFault → Type 0
FindsFault (Ok v) f = ⊥
FindsFault (Err e) f = (e ≡ Memory) ⊎ (e ≡ Lex f)
