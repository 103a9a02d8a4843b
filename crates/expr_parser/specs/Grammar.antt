-- The grammar of expressions (RAPID Kernel, expressions and data access). Braces mean zero or more, brackets mean
-- optional, except where they are quoted:
--
--   expr     = [ NOT ] land { (OR | XOR) land }
--   land     = relation { AND relation }
--   relation = sum [ ("=" | "<>" | "<" | ">" | "<=" | ">=") sum ]
--   sum      = [ "+" | "-" ] term { ("+" | "-") term }
--   term     = primary { ("*" | "/" | DIV | MOD) primary }
--   primary  = number | string | TRUE | FALSE | "(" expr ")" | "[" expr { "," expr } "]"
--            | name "(" [ args ] ")" | place
--   place    = name [ "{" expr "}" ] { "." name }
--   args     = ( expr | option ) { "," expr | [ "," ] option }
--   option   = "\" name [ ":=" expr ]
--
-- Each parenthesis, bracket, brace and list of arguments opens a level of nesting.
use Rattle.std.specs.Prelude.{ℕ, zero, suc, List, [], ◌∷◌, Option, None, Some}
use Rattle.rapid_lexer.specs.Tokens.{Lexeme}
use Rattle.rapid_model.specs.declared.operator.Operator.{Operator}
use Rattle.raw_trees.specs.Plain.{PlainName, PlainExpr, PlainPlace, PlainArg, Number, Quoted, Truth, Group, Aggregate, Invoke, Place, Not, Signed, Chain, PlaceOf, Needed, Optional, exprs_of, args_of, steps_of, held_of}
use Rattle.rapid_forms.specs.declared.sign.Sign.{Sign}
use Rattle.rapid_forms.specs.declared.sign.Sign.TheVariants as signs
use Rattle.rapid_forms.specs.Forms.{Form, one, seq, either, optional, many, made, nothing}
use Rattle.expr_parser.specs.Operators.{operator_of, is_minus, is_true}

abbrev pub mark : Sign → Form Lexeme
mark sign = one (sign ∷ [])

-- the trees that forms denote, each at the byte of its first token

abbrev pub name_tree : ℕ → Lexeme → PlainName
name_tree at t = record { text = t.text; at = at }

abbrev pub number_tree : ℕ → Lexeme → PlainExpr
number_tree at t = Number at t.text

abbrev pub quoted_tree : ℕ → Lexeme → PlainExpr
quoted_tree at t = Quoted at t.text

abbrev pub truth_tree : ℕ → Lexeme → PlainExpr
truth_tree at t = Truth at (is_true t)

-- between two marks
abbrev pub inner : {A : Type 0} → ℕ → Lexeme × (A × Lexeme) → A
inner at x = x.1.0

-- after a mark
abbrev pub behind : {M A : Type 0} → ℕ → M × A → A
behind at x = x.1

abbrev pub group_tree : ℕ → Lexeme × (PlainExpr × Lexeme) → PlainExpr
group_tree at x = Group at x.1.0

abbrev pub aggregate_tree : ℕ → Lexeme × (List PlainExpr × Lexeme) → PlainExpr
aggregate_tree at x = Aggregate at (exprs_of x.1.0)

abbrev pub invoke_tree : ℕ → PlainName × List PlainArg → PlainExpr
invoke_tree at x = Invoke at x.0 (args_of x.1)

abbrev pub place_tree : ℕ → PlainName × (Option PlainExpr × List PlainName) → PlainPlace
place_tree at x = PlaceOf x.0 (held_of x.1.0) x.1.1

abbrev pub needed_tree : ℕ → PlainExpr → PlainArg
needed_tree at e = Needed e

abbrev pub option_tree : ℕ → Lexeme × (PlainName × Option PlainExpr) → PlainArg
option_tree at x = Optional x.1.0 (held_of x.1.1) at

abbrev pub none_or : {A : Type 0} → ℕ → Option (List A) → List A
none_or at None = []
none_or at (Some xs) = xs

abbrev pub first_and_more : {A : Type 0} → ℕ → A × List A → List A
first_and_more at x = x.0 ∷ x.1

abbrev pub step_tree : ℕ → Lexeme × PlainExpr → Operator × PlainExpr
step_tree at x = (operator_of x.0, x.1)

-- operators of one level group to the left and make one node
abbrev pub chain_tree : ℕ → PlainExpr × List (Operator × PlainExpr) → PlainExpr
chain_tree at (e, []) = e
chain_tree at (e, s ∷ ss) = Chain at e (steps_of (s ∷ ss))

abbrev pub relation_tree : ℕ → PlainExpr × Option (Operator × PlainExpr) → PlainExpr
relation_tree at (e, None) = e
relation_tree at (e, Some s) = Chain at e (steps_of (s ∷ []))

abbrev pub signed_tree : ℕ → Option Lexeme × PlainExpr → PlainExpr
signed_tree at (None, e) = e
signed_tree at (Some t, e) = Signed at (is_minus t) e

abbrev pub negated_tree : ℕ → Option Lexeme × PlainExpr → PlainExpr
negated_tree at (None, e) = e
negated_tree at (Some t, e) = Not at e

-- the forms that open a level
pub record Inside : Type 1 where
  pub group : Form PlainExpr
  pub aggregate : Form PlainExpr
  pub index : Form PlainExpr
  pub call : Form (List PlainArg)
  pub args : Form (List PlainArg)

unfoldable pub name : Form PlainName
name = made name_tree (mark signs.Name)

unfoldable pub part : Form PlainName
part = made behind (seq (mark signs.Dot) name)

-- an optional index, and components
unfoldable pub parts_of : Inside → Form (Option PlainExpr × List PlainName)
parts_of i = seq (optional i.index) (many part)

unfoldable pub place : Inside → Form PlainPlace
place i = made place_tree (seq name (parts_of i))

unfoldable pub primary : Inside → Form PlainExpr
primary i =
    either (made number_tree (mark signs.Number))
    (either (made quoted_tree (mark signs.Quoted))
    (either (made truth_tree (one (signs.True ∷ signs.False ∷ [])))
    (either i.group
    (either i.aggregate
    (either (made invoke_tree (seq name i.call))
    (made Place (place i)))))))

-- first { operator each }
unfoldable pub chain : List Sign → Form PlainExpr → Form PlainExpr → Form PlainExpr
chain operators first each = made chain_tree (seq first (many (made step_tree (seq (one operators) each))))

unfoldable pub term : Inside → Form PlainExpr
term i = chain (signs.Star ∷ signs.Slash ∷ signs.Div ∷ signs.Mod ∷ []) (primary i) (primary i)

unfoldable pub sum : Inside → Form PlainExpr
sum i = chain (signs.Plus ∷ signs.Minus ∷ []) (made signed_tree (seq (optional (one (signs.Plus ∷ signs.Minus ∷ []))) (term i))) (term i)

abbrev pub comparisons : List Sign
comparisons = signs.Equal ∷ signs.NotEqual ∷ signs.Less ∷ signs.Greater ∷ signs.LessEqual ∷ signs.GreaterEqual ∷ []

unfoldable pub relation : Inside → Form PlainExpr
relation i = made relation_tree (seq (sum i) (optional (made step_tree (seq (one comparisons) (sum i)))))

unfoldable pub land : Inside → Form PlainExpr
land i = chain (signs.And ∷ []) (relation i) (relation i)

-- NOT applies only to the first land
unfoldable pub expr_of : Inside → Form PlainExpr
expr_of i = chain (signs.Or ∷ signs.Xor ∷ []) (made negated_tree (seq (optional (mark signs.Not)) (land i))) (land i)

unfoldable pub group_of : Form PlainExpr → Form PlainExpr
group_of e = made group_tree (seq (mark signs.OpenParenthesis) (seq e (mark signs.CloseParenthesis)))

-- expr { "," expr }
unfoldable pub exprs : Form PlainExpr → Form (List PlainExpr)
exprs e = made first_and_more (seq e (many (made behind (seq (mark signs.Comma) e))))

unfoldable pub aggregate_of : Form PlainExpr → Form PlainExpr
aggregate_of e = made aggregate_tree (seq (mark signs.OpenBracket) (seq (exprs e) (mark signs.CloseBracket)))

unfoldable pub index_of : Form PlainExpr → Form PlainExpr
index_of e = made inner (seq (mark signs.OpenBrace) (seq e (mark signs.CloseBrace)))

unfoldable pub needed : Form PlainExpr → Form PlainArg
needed e = made needed_tree e

unfoldable pub option : Form PlainExpr → Form PlainArg
option e = made option_tree (seq (mark signs.Backslash) (seq name (optional (made behind (seq (mark signs.Assign) e)))))

unfoldable pub args_list : Form PlainExpr → Form (List PlainArg)
args_list e =
    made first_and_more
    (seq (either (needed e) (option e))
    (many (either (made behind (seq (mark signs.Comma) (needed e))) (made behind (seq (optional (mark signs.Comma)) (option e))))))

-- "(" [ args ] ")"
unfoldable pub call_of : Form (List PlainArg) → Form (List PlainArg)
call_of args = made inner (seq (mark signs.OpenParenthesis) (seq (made none_or (optional args)) (mark signs.CloseParenthesis)))

-- within this many levels
unfoldable pub inside : ℕ → Inside
inside zero = record { group = nothing; aggregate = nothing; index = nothing; call = nothing; args = nothing }
inside (suc n) = record {
  group = group_of (expr_of (inside n));
  aggregate = aggregate_of (expr_of (inside n));
  index = index_of (expr_of (inside n));
  call = call_of (inside n).args;
  args = args_list (expr_of (inside n));
}

-- an expression within this many levels
unfoldable pub expr : ℕ → Form PlainExpr
expr n = expr_of (inside n)

-- what follows a name in a place, within this many levels
unfoldable pub parts : ℕ → Form (Option PlainExpr × List PlainName)
parts n = parts_of (inside n)

-- arguments, if any, within this many levels
unfoldable pub args : ℕ → Form (List PlainArg)
args n = made none_or (optional (inside n).args)
