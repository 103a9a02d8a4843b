-- Reading expressions from left to right: the readers of the grammar's forms, which the functions are proved against.
use Rattle.std.specs.Prelude.{ℕ, zero, suc, Bool, false, List, [], ◌∷◌, Option, Result, Ok, Err}
use mathlib.Core.Logic.{◌⊎◌, inl, inr}
use Rattle.rapid_lexer.specs.Tokens.{Lexeme}
use Rattle.rapid_model.specs.declared.operator.Operator.{Operator}
use Rattle.raw_trees.specs.Plain.{PlainName, PlainExpr, PlainPlace, PlainArg, Place}
use Rattle.rapid_forms.specs.declared.sign.Sign.{Sign}
use Rattle.rapid_forms.specs.declared.sign.Sign.TheVariants as signs
use Rattle.rapid_forms.specs.declared.fault.SyntaxFault.{SyntaxFault}
use Rattle.rapid_forms.specs.declared.tokens.Tokens.{Tokens}
use Rattle.rapid_forms.specs.Signs.{begins_with}
use Rattle.rapid_forms.specs.Reading.{Reader, rest_from, one_read, seq_read, either_read, optional_read, many_read, made_read, nothing_read}
use Rattle.expr_parser.specs.declared.level.Level.{Level}
use Rattle.expr_parser.specs.declared.level.Level.TheVariants as levels
use Rattle.expr_parser.specs.Operators.{operator_signs}
use Rattle.expr_parser.specs.Grammar.{name_tree, number_tree, quoted_tree, truth_tree, inner, behind, group_tree, aggregate_tree, invoke_tree, place_tree, needed_tree, option_tree, none_or, first_and_more, step_tree, chain_tree, relation_tree, signed_tree, negated_tree, comparisons}

-- the signs that expressions and arguments can start with
abbrev pub expr_signs : List Sign
expr_signs =
    signs.Not ∷ signs.Plus ∷ signs.Minus ∷ signs.Number ∷ signs.Quoted ∷ signs.True ∷ signs.False ∷ signs.OpenParenthesis ∷ signs.OpenBracket ∷ signs.Name ∷ []

abbrev pub arg_signs : List Sign
arg_signs = signs.Backslash ∷ expr_signs

-- NOT and the leading signs, which apply to the first operand of a chain
abbrev pub prefixes : List Sign
prefixes = signs.Not ∷ signs.Plus ∷ signs.Minus ∷ []

pub record InsideRead : Type 0 where
  pub group : Reader PlainExpr
  pub aggregate : Reader PlainExpr
  pub index : Reader PlainExpr
  pub call : Reader (List PlainArg)
  pub args : Reader (List PlainArg)

abbrev pub mark_read : Sign → Reader Lexeme
mark_read sign = one_read (sign ∷ [])

unfoldable pub name_read : Reader PlainName
name_read = made_read name_tree (mark_read signs.Name)

unfoldable pub part_read : Reader PlainName
part_read = made_read behind (seq_read (mark_read signs.Dot) name_read)

-- an optional index, and components
unfoldable pub parts_read : InsideRead → Reader (Option PlainExpr × List PlainName)
parts_read i = seq_read (optional_read (signs.OpenBrace ∷ []) i.index) (many_read (signs.Dot ∷ []) part_read)

unfoldable pub place_read : InsideRead → Reader PlainPlace
place_read i = made_read place_tree (seq_read name_read (parts_read i))

-- what follows a name: arguments in parentheses, or what makes it a place
abbrev pub left : {A B : Type 0} → ℕ → A → A ⊎ B
left at x = inl x

abbrev pub right : {A B : Type 0} → ℕ → B → A ⊎ B
right at y = inr y

abbrev pub Tail : Type 0
Tail = List PlainArg ⊎ (Option PlainExpr × List PlainName)

abbrev pub named_tree : ℕ → PlainName × Tail → PlainExpr
named_tree at (n, inl args) = invoke_tree at (n, args)
named_tree at (n, inr x) = Place at (place_tree at (n, x))

unfoldable pub named_read : InsideRead → Reader PlainExpr
named_read i =
    made_read named_tree (seq_read name_read (either_read (signs.OpenParenthesis ∷ []) (made_read left i.call) (made_read right (parts_read i))))

unfoldable pub primary_read : InsideRead → Reader PlainExpr
primary_read i =
    either_read (signs.Number ∷ []) (made_read number_tree (mark_read signs.Number))
    (either_read (signs.Quoted ∷ []) (made_read quoted_tree (mark_read signs.Quoted))
    (either_read (signs.True ∷ signs.False ∷ []) (made_read truth_tree (one_read (signs.True ∷ signs.False ∷ [])))
    (either_read (signs.OpenParenthesis ∷ []) i.group
    (either_read (signs.OpenBracket ∷ []) i.aggregate (named_read i)))))

unfoldable pub step_read : List Sign → Reader PlainExpr → Reader (Operator × PlainExpr)
step_read operators each = made_read step_tree (seq_read (one_read operators) each)

unfoldable pub chain_read : List Sign → Reader PlainExpr → Reader PlainExpr → Reader PlainExpr
chain_read operators first each = made_read chain_tree (seq_read first (many_read operators (step_read operators each)))

abbrev pub operators_of : Level → List Sign
operators_of levels.Or = signs.Or ∷ signs.Xor ∷ []
operators_of levels.And = signs.And ∷ []
operators_of levels.Sum = signs.Plus ∷ signs.Minus ∷ []
operators_of levels.Term = signs.Star ∷ signs.Slash ∷ signs.Div ∷ signs.Mod ∷ []

unfoldable pub term_read : InsideRead → Reader PlainExpr
term_read i = chain_read (operators_of levels.Term) (primary_read i) (primary_read i)

unfoldable pub signed_read : InsideRead → Reader PlainExpr
signed_read i = made_read signed_tree (seq_read (optional_read (operators_of levels.Sum) (one_read (operators_of levels.Sum))) (term_read i))

unfoldable pub sum_read : InsideRead → Reader PlainExpr
sum_read i = chain_read (operators_of levels.Sum) (signed_read i) (term_read i)

unfoldable pub relation_read : InsideRead → Reader PlainExpr
relation_read i = made_read relation_tree (seq_read (sum_read i) (optional_read comparisons (step_read comparisons (sum_read i))))

unfoldable pub land_read : InsideRead → Reader PlainExpr
land_read i = chain_read (operators_of levels.And) (relation_read i) (relation_read i)

unfoldable pub negated_read : InsideRead → Reader PlainExpr
negated_read i = made_read negated_tree (seq_read (optional_read (signs.Not ∷ []) (mark_read signs.Not)) (land_read i))

unfoldable pub expr_of_read : InsideRead → Reader PlainExpr
expr_of_read i = chain_read (operators_of levels.Or) (negated_read i) (land_read i)

-- a chain of a level, its first operand, and each further one

abbrev pub level_read : InsideRead → Level → Reader PlainExpr
level_read i levels.Or = expr_of_read i
level_read i levels.And = land_read i
level_read i levels.Sum = sum_read i
level_read i levels.Term = term_read i

abbrev pub first_read : InsideRead → Level → Reader PlainExpr
first_read i levels.Or = negated_read i
first_read i levels.And = relation_read i
first_read i levels.Sum = signed_read i
first_read i levels.Term = primary_read i

abbrev pub operand_read : InsideRead → Level → Reader PlainExpr
operand_read i levels.Or = land_read i
operand_read i levels.And = relation_read i
operand_read i levels.Sum = term_read i
operand_read i levels.Term = primary_read i

unfoldable pub group_read : Reader PlainExpr → Reader PlainExpr
group_read e = made_read group_tree (seq_read (mark_read signs.OpenParenthesis) (seq_read e (mark_read signs.CloseParenthesis)))

unfoldable pub exprs_read : Reader PlainExpr → Reader (List PlainExpr)
exprs_read e = made_read first_and_more (seq_read e (many_read (signs.Comma ∷ []) (made_read behind (seq_read (mark_read signs.Comma) e))))

unfoldable pub aggregate_read : Reader PlainExpr → Reader PlainExpr
aggregate_read e = made_read aggregate_tree (seq_read (mark_read signs.OpenBracket) (seq_read (exprs_read e) (mark_read signs.CloseBracket)))

unfoldable pub index_read : Reader PlainExpr → Reader PlainExpr
index_read e = made_read inner (seq_read (mark_read signs.OpenBrace) (seq_read e (mark_read signs.CloseBrace)))

unfoldable pub needed_read : Reader PlainExpr → Reader PlainArg
needed_read e = made_read needed_tree e

unfoldable pub value_read : Reader PlainExpr → Reader PlainExpr
value_read e = made_read behind (seq_read (mark_read signs.Assign) e)

unfoldable pub option_read : Reader PlainExpr → Reader PlainArg
option_read e = made_read option_tree (seq_read (mark_read signs.Backslash) (seq_read name_read (optional_read (signs.Assign ∷ []) (value_read e))))

unfoldable pub arg_read : Reader PlainExpr → Reader PlainArg
arg_read e = either_read (signs.Backslash ∷ []) (option_read e) (needed_read e)

-- after a comma comes any argument, without one an option
unfoldable pub later_read : Reader PlainExpr → Reader PlainArg
later_read e = either_read (signs.Comma ∷ []) (made_read behind (seq_read (mark_read signs.Comma) (arg_read e))) (option_read e)

unfoldable pub args_read : Reader PlainExpr → Reader (List PlainArg)
args_read e = made_read first_and_more (seq_read (arg_read e) (many_read (signs.Comma ∷ signs.Backslash ∷ []) (later_read e)))

unfoldable pub call_read : Reader (List PlainArg) → Reader (List PlainArg)
call_read args =
    made_read inner (seq_read (mark_read signs.OpenParenthesis) (seq_read (made_read none_or (optional_read arg_signs args)) (mark_read signs.CloseParenthesis)))

-- within this many levels
unfoldable pub inside_read : ℕ → InsideRead
inside_read zero = record {
  group = nothing_read (signs.OpenParenthesis ∷ []);
  aggregate = nothing_read (signs.OpenBracket ∷ []);
  index = nothing_read (signs.OpenBrace ∷ []);
  call = nothing_read (signs.OpenParenthesis ∷ []);
  args = nothing_read arg_signs;
}
inside_read (suc n) = record {
  group = group_read (expr_of_read (inside_read n));
  aggregate = aggregate_read (expr_of_read (inside_read n));
  index = index_read (expr_of_read (inside_read n));
  call = call_read (inside_read n).args;
  args = args_read (expr_of_read (inside_read n));
}

-- an expression within this many levels
unfoldable pub expr_read : ℕ → Reader PlainExpr
expr_read n = expr_of_read (inside_read n)

-- a function returned a form, and the token after it is an operator
abbrev pub is_followed : {X : Type 0} → Tokens → Result (X × ℕ) SyntaxFault → Bool
is_followed tokens (Ok x) = begins_with operator_signs (rest_from tokens x.1)
is_followed tokens (Err fault) = false
