-- The meaning of operators and of the words that are literals.
use Rattle.std.specs.Prelude.{Bool, List, [], ◌∷◌, map, if◌then◌else◌}
use Rattle.rapid_lexer.specs.Tokens.{Lexeme}
use Rattle.rapid_model.specs.declared.operator.Operator.{Operator}
use Rattle.rapid_model.specs.declared.operator.Operator.TheVariants as operators
use Rattle.rapid_forms.specs.declared.sign.Sign.{Sign}
use Rattle.rapid_forms.specs.declared.sign.Sign.TheVariants as signs
use Rattle.rapid_forms.specs.Signs.{has, sign_of}

-- the signs of operators, with the operators
abbrev pub operator_rows : List (Sign × Operator)
operator_rows =
    (signs.Or, operators.Or) ∷ (signs.Xor, operators.Xor) ∷ (signs.And, operators.And)
    ∷ (signs.Equal, operators.Equal) ∷ (signs.NotEqual, operators.NotEqual)
    ∷ (signs.Less, operators.Less) ∷ (signs.Greater, operators.Greater)
    ∷ (signs.LessEqual, operators.LessEqual) ∷ (signs.GreaterEqual, operators.GreaterEqual)
    ∷ (signs.Plus, operators.Add) ∷ (signs.Minus, operators.Sub)
    ∷ (signs.Star, operators.Mul) ∷ (signs.Slash, operators.Div) ∷ (signs.Div, operators.IntDiv) ∷ (signs.Mod, operators.Mod)
    ∷ []

abbrev pub operator_signs : List Sign
operator_signs = map (λ row. row.0) operator_rows

-- the operator of the first row with this sign
abbrev pub operator_in : List (Sign × Operator) → Sign → Operator
operator_in [] sign = operators.Or
operator_in (row ∷ rows) sign = if has (row.0 ∷ []) sign then row.1 else operator_in rows sign

unfoldable pub operator_of : Lexeme → Operator
operator_of t = operator_in operator_rows (sign_of t)

unfoldable pub is_minus : Lexeme → Bool
is_minus t = has (signs.Minus ∷ []) (sign_of t)

unfoldable pub is_true : Lexeme → Bool
is_true t = has (signs.True ∷ []) (sign_of t)
