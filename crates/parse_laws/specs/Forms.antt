-- The parts of expressions that the grammar names only inside an expression, with up to a number of levels of nesting.
use Rattle.std.specs.Prelude.{ℕ, List}
use Rattle.raw_trees.specs.Plain.{PlainExpr}
use Rattle.rapid_forms.specs.Forms.{Form}
use Rattle.expr_parser.specs.Grammar.{expr, exprs, inside}

-- expressions separated by commas
abbrev pub exprs_within : ℕ → Form (List PlainExpr)
exprs_within n = exprs (expr n)

-- an index in braces
abbrev pub index_within : ℕ → Form PlainExpr
index_within n = (inside n).index
