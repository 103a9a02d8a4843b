-- Reading modules from left to right: the readers of the grammar's forms, which the functions are proved against. Items
-- are read with LOCAL factored out, because several of them can start with it.
use Rattle.std.specs.Prelude.{ℕ, List, [], ◌∷◌, Option}
use mathlib.Core.Logic.{◌⊎◌, inl, inr}
use Rattle.rapid_lexer.specs.Tokens.{Lexeme}
use Rattle.raw_trees.specs.declared.raw_module.Attribute.{Attribute}
use Rattle.raw_trees.specs.Plain.{PlainName, PlainDatum, PlainParam, PlainItem, PlainModule}
use Rattle.rapid_forms.specs.declared.sign.Sign.{Sign}
use Rattle.rapid_forms.specs.declared.sign.Sign.TheVariants as signs
use Rattle.rapid_forms.specs.Reading.{Reader, one_read, seq_read, either_read, optional_read, many_read, made_read}
use Rattle.expr_parser.specs.Grammar.{behind, inner, none_or, first_and_more}
use Rattle.expr_parser.specs.Reads.{inside_read, mark_read, name_read, expr_of_read, value_read, left, right}
use Rattle.stmt_parser.specs.Reads.{list_read, if_read}
use Rattle.module_parser.specs.Words.{attribute_of}
use Rattle.module_parser.specs.Grammar.{Rest, Body, datum_tree, datum_item, task_item, param_tree, proc_tree, func_tree, trap_tree, module_tree}

-- the signs that items and attributes can start with

abbrev pub datum_signs : List Sign
datum_signs = signs.Const ∷ signs.Var ∷ signs.Pers ∷ []

abbrev pub item_signs : List Sign
item_signs = signs.Task ∷ signs.Local ∷ signs.Proc ∷ signs.Func ∷ signs.Trap ∷ datum_signs

abbrev pub attribute_signs : List Sign
attribute_signs = signs.SysModule ∷ signs.NoView ∷ signs.NoStepIn ∷ signs.ViewOnly ∷ signs.ReadOnly ∷ []

abbrev pub mode_signs : List Sign
mode_signs = signs.Inout ∷ signs.Var ∷ signs.Pers ∷ []

abbrev pub param_signs : List Sign
param_signs = signs.Name ∷ mode_signs

unfoldable pub rest_read : ℕ → Reader Rest
rest_read n =
    seq_read name_read
    (seq_read name_read
    (seq_read (optional_read (signs.OpenBrace ∷ []) (inside_read n).index)
    (seq_read (optional_read (signs.Assign ∷ []) (value_read (expr_of_read (inside_read n)))) (mark_read signs.Semicolon))))

unfoldable pub datum_read : List Sign → ℕ → Reader PlainDatum
datum_read words n = made_read datum_tree (seq_read (one_read words) (rest_read n))

unfoldable pub param_read : Reader PlainParam
param_read = made_read param_tree (seq_read (optional_read mode_signs (one_read mode_signs)) (seq_read name_read name_read))

unfoldable pub more_param_read : Reader PlainParam
more_param_read = made_read behind (seq_read (mark_read signs.Comma) param_read)

unfoldable pub some_params_read : Reader (List PlainParam)
some_params_read = made_read first_and_more (seq_read param_read (many_read (signs.Comma ∷ []) more_param_read))

unfoldable pub params_read : Reader (List PlainParam)
params_read =
    made_read inner
    (seq_read (mark_read signs.OpenParenthesis) (seq_read (made_read none_or (optional_read param_signs some_params_read)) (mark_read signs.CloseParenthesis)))

unfoldable pub locals_read : ℕ → Reader (List PlainDatum)
locals_read n = many_read (signs.Const ∷ signs.Var ∷ []) (datum_read (signs.Const ∷ signs.Var ∷ []) n)

unfoldable pub body_read : ℕ → Reader Body
body_read n = seq_read (locals_read n) (seq_read (list_read n) (if_read signs.Error (list_read n)))

-- what follows an optional LOCAL: a datum, or a routine of one of three kinds

abbrev pub Proc : Type 0
Proc = Lexeme × (PlainName × (List PlainParam × (Body × Lexeme)))

abbrev pub Func : Type 0
Func = Lexeme × (PlainName × (PlainName × (List PlainParam × (Body × Lexeme))))

abbrev pub Trap : Type 0
Trap = Lexeme × (PlainName × (Body × Lexeme))

abbrev pub Item : Type 0
Item = PlainDatum ⊎ (Proc ⊎ (Func ⊎ Trap))

unfoldable pub proc_read : ℕ → Reader Proc
proc_read n = seq_read (mark_read signs.Proc) (seq_read name_read (seq_read params_read (seq_read (body_read n) (mark_read signs.EndProc))))

unfoldable pub func_read : ℕ → Reader Func
func_read n =
    seq_read (mark_read signs.Func)
    (seq_read name_read (seq_read name_read (seq_read params_read (seq_read (body_read n) (mark_read signs.EndFunc)))))

unfoldable pub trap_read : ℕ → Reader Trap
trap_read n = seq_read (mark_read signs.Trap) (seq_read name_read (seq_read (body_read n) (mark_read signs.EndTrap)))

unfoldable pub behind_local_read : ℕ → Reader Item
behind_local_read n =
    either_read datum_signs (made_read left (datum_read datum_signs n))
    (made_read right
    (either_read (signs.Proc ∷ []) (made_read left (proc_read n))
    (made_read right (either_read (signs.Func ∷ []) (made_read left (func_read n)) (made_read right (trap_read n))))))

abbrev pub local_tree : ℕ → Option Lexeme × Item → PlainItem
local_tree at (t, inl x) = datum_item at (t, x)
local_tree at (t, inr (inl x)) = proc_tree at (t, x)
local_tree at (t, inr (inr (inl x))) = func_tree at (t, x)
local_tree at (t, inr (inr (inr x))) = trap_tree at (t, x)

unfoldable pub local_read : Reader (Option Lexeme)
local_read = optional_read (signs.Local ∷ []) (mark_read signs.Local)

unfoldable pub task_read : ℕ → Reader PlainItem
task_read n = made_read task_item (seq_read (mark_read signs.Task) (datum_read (signs.Pers ∷ []) n))

unfoldable pub item_read : ℕ → Reader PlainItem
item_read n = either_read (signs.Task ∷ []) (task_read n) (made_read local_tree (seq_read local_read (behind_local_read n)))

unfoldable pub attribute_read : Reader Attribute
attribute_read = made_read attribute_of (one_read attribute_signs)

unfoldable pub more_attribute_read : Reader Attribute
more_attribute_read = made_read behind (seq_read (mark_read signs.Comma) attribute_read)

unfoldable pub attributes_read : Reader (List Attribute)
attributes_read =
    made_read inner
    (seq_read (mark_read signs.OpenParenthesis)
    (seq_read (made_read first_and_more (seq_read attribute_read (many_read (signs.Comma ∷ []) more_attribute_read))) (mark_read signs.CloseParenthesis)))

unfoldable pub module_read : ℕ → Reader PlainModule
module_read n =
    made_read module_tree
    (seq_read (mark_read signs.Module)
    (seq_read name_read
    (seq_read (made_read none_or (optional_read (signs.OpenParenthesis ∷ []) attributes_read))
    (seq_read (many_read item_signs (item_read n)) (mark_read signs.EndModule)))))
