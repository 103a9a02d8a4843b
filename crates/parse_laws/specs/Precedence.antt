-- Tokens and trees of `NOT a AND b`, for any names a and b.
use Rattle.std.specs.Prelude.{ℕ, List, [], ◌∷◌, None, codes}
use Rattle.rapid_lexer.specs.declared.kind.Kind.TheVariants as kinds
use Rattle.rapid_lexer.specs.declared.word.Word.TheVariants as words
use Rattle.rapid_lexer.specs.Tokens.{Lexeme}
use Rattle.rapid_model.specs.declared.operator.Operator.TheVariants as operators
use Rattle.raw_trees.specs.Plain.{PlainExpr, Place, Not, Chain, steps_of}
use Rattle.expr_parser.specs.Grammar.{name_tree, place_tree}

abbrev pub name_at : List ℕ → ℕ → Lexeme
name_at text at = record { kind = kinds.Name; text = text; at = at }

-- the place that a name is by itself
abbrev pub place_at : List ℕ → ℕ → PlainExpr
place_at text at = Place at (place_tree at (name_tree at (name_at text at), (None, [])))

-- NOT a AND b, with tokens at these bytes
abbrev pub not_a_and_b : List ℕ → List ℕ → ℕ → ℕ → ℕ → ℕ → List Lexeme
not_a_and_b a b i j k l =
    record { kind = kinds.Word words.Not; text = codes "NOT"; at = i } ∷ name_at a j
    ∷ record { kind = kinds.Word words.And; text = codes "AND"; at = k } ∷ name_at b l ∷ []

-- NOT applied to a AND b
abbrev pub not_of_both : List ℕ → List ℕ → ℕ → ℕ → ℕ → PlainExpr
not_of_both a b i j l = Not i (Chain j (place_at a j) (steps_of ((operators.And, place_at b l) ∷ [])))
