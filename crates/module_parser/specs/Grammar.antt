-- The grammar of modules (RAPID Kernel, module, data and routine declarations). Braces mean zero or more, brackets
-- mean optional, except where they are quoted:
--
--   module   = MODULE name [ "(" attr { "," attr } ")" ] { item } ENDMODULE
--   attr     = SYSMODULE | NOVIEW | NOSTEPIN | VIEWONLY | READONLY
--   item     = [ LOCAL ] datum | TASK PERS rest | routine
--   datum    = (CONST | VAR | PERS) rest
--   rest     = name name [ "{" expr "}" ] [ ":=" expr ] ";"
--   routine  = [ LOCAL ] PROC name "(" [ params ] ")" body ENDPROC
--            | [ LOCAL ] FUNC name name "(" [ params ] ")" body ENDFUNC
--            | [ LOCAL ] TRAP name body ENDTRAP
--   params   = param { "," param }
--   param    = [ INOUT | VAR | PERS ] name name
--   body     = { (CONST | VAR) rest } list [ ERROR list ]
use Rattle.std.specs.Prelude.{ℕ, true, false, is_some, List, [], ◌∷◌, Option, None, Some}
use Rattle.rapid_lexer.specs.Tokens.{Lexeme}
use Rattle.raw_trees.specs.declared.raw_module.Attribute.{Attribute}
use Rattle.rapid_model.specs.declared.routine_kind.RoutineKind.TheVariants as kinds
use Rattle.rapid_model.specs.declared.mode.Mode.TheVariants as modes
use Rattle.raw_trees.specs.Plain.{PlainName, PlainExpr, PlainStmt, PlainDatum, PlainParam, PlainItem, PlainModule, Datum, Routine}
use Rattle.rapid_forms.specs.declared.sign.Sign.{Sign}
use Rattle.rapid_forms.specs.declared.sign.Sign.TheVariants as signs
use Rattle.rapid_forms.specs.Forms.{Form, one, seq, either, optional, many, made}
use Rattle.expr_parser.specs.Grammar.{inside, mark, name, expr_of, behind, inner, none_or, first_and_more}
use Rattle.stmt_parser.specs.Grammar.{list}
use Rattle.module_parser.specs.Words.{attribute_of, kind_of, mode_of}

-- a datum after the word that declares it: the name of its type, its name, its length, its initial value, and ";"
abbrev pub Rest : Type 0
Rest = PlainName × (PlainName × (Option PlainExpr × (Option PlainExpr × Lexeme)))

abbrev pub datum_tree : ℕ → Lexeme × Rest → PlainDatum
datum_tree at x = record { kind = kind_of x.0; sort = x.1.0; name = x.1.1.0; len = x.1.1.1.0; first = x.1.1.1.1.0; at = at }

abbrev pub datum_item : ℕ → Option Lexeme × PlainDatum → PlainItem
datum_item at x = Datum (is_some x.0) false x.1 at

abbrev pub task_item : ℕ → Lexeme × PlainDatum → PlainItem
task_item at x = Datum false true x.1 at

abbrev pub param_tree : ℕ → Option Lexeme × (PlainName × PlainName) → PlainParam
param_tree at (None, x) = record { mode = modes.Value; sort = x.0; name = x.1; at = at }
param_tree at (Some t, x) = record { mode = mode_of t; sort = x.0; name = x.1; at = at }

-- the data of a routine, its list, and its ERROR part
abbrev pub Body : Type 0
Body = List PlainDatum × (List PlainStmt × Option (List PlainStmt))

abbrev pub proc_tree : ℕ → Option Lexeme × (Lexeme × (PlainName × (List PlainParam × (Body × Lexeme)))) → PlainItem
proc_tree at x = Routine (record {
  local = is_some x.0;
  kind = kinds.Proc;
  result = None;
  name = x.1.1.0;
  params = x.1.1.1.0;
  locals = x.1.1.1.1.0.0;
  list = x.1.1.1.1.0.1.0;
  handler = x.1.1.1.1.0.1.1;
  at = at;
})

abbrev pub func_tree : ℕ → Option Lexeme × (Lexeme × (PlainName × (PlainName × (List PlainParam × (Body × Lexeme))))) → PlainItem
func_tree at x = Routine (record {
  local = is_some x.0;
  kind = kinds.Func;
  result = Some x.1.1.0;
  name = x.1.1.1.0;
  params = x.1.1.1.1.0;
  locals = x.1.1.1.1.1.0.0;
  list = x.1.1.1.1.1.0.1.0;
  handler = x.1.1.1.1.1.0.1.1;
  at = at;
})

abbrev pub trap_tree : ℕ → Option Lexeme × (Lexeme × (PlainName × (Body × Lexeme))) → PlainItem
trap_tree at x = Routine (record {
  local = is_some x.0;
  kind = kinds.Trap;
  result = None;
  name = x.1.1.0;
  params = [];
  locals = x.1.1.1.0.0;
  list = x.1.1.1.0.1.0;
  handler = x.1.1.1.0.1.1;
  at = at;
})

abbrev pub module_tree : ℕ → Lexeme × (PlainName × (List Attribute × (List PlainItem × Lexeme))) → PlainModule
module_tree at x = record { name = x.1.0; attributes = x.1.1.0; items = x.1.1.1.0; at = at }

-- the forms of a module, with up to this many levels of nesting in expressions and lists

-- name name [ "{" expr "}" ] [ ":=" expr ] ";"
unfoldable pub rest : ℕ → Form Rest
rest n =
    seq name
    (seq name
    (seq (optional (inside n).index)
    (seq (optional (made behind (seq (mark signs.Assign) (expr_of (inside n))))) (mark signs.Semicolon))))

unfoldable pub datum : List Sign → ℕ → Form PlainDatum
datum words n = made datum_tree (seq (one words) (rest n))

unfoldable pub param : Form PlainParam
param = made param_tree (seq (optional (one (signs.Inout ∷ signs.Var ∷ signs.Pers ∷ []))) (seq name name))

-- "(" [ params ] ")"
unfoldable pub params : Form (List PlainParam)
params =
    made inner
    (seq (mark signs.OpenParenthesis)
    (seq (made none_or (optional (made first_and_more (seq param (many (made behind (seq (mark signs.Comma) param)))))))
    (mark signs.CloseParenthesis)))

unfoldable pub body : ℕ → Form Body
body n = seq (many (datum (signs.Const ∷ signs.Var ∷ []) n)) (seq (list n) (optional (made behind (seq (mark signs.Error) (list n)))))

unfoldable pub local : Form (Option Lexeme)
local = optional (mark signs.Local)

unfoldable pub routine : ℕ → Form PlainItem
routine n =
    either (made proc_tree (seq local (seq (mark signs.Proc) (seq name (seq params (seq (body n) (mark signs.EndProc)))))))
    (either (made func_tree (seq local (seq (mark signs.Func) (seq name (seq name (seq params (seq (body n) (mark signs.EndFunc))))))))
    (made trap_tree (seq local (seq (mark signs.Trap) (seq name (seq (body n) (mark signs.EndTrap)))))))

unfoldable pub item : ℕ → Form PlainItem
item n =
    either (made datum_item (seq local (datum (signs.Const ∷ signs.Var ∷ signs.Pers ∷ []) n)))
    (either (made task_item (seq (mark signs.Task) (datum (signs.Pers ∷ []) n)))
    (routine n))

unfoldable pub attribute : Form Attribute
attribute = made attribute_of (one (signs.SysModule ∷ signs.NoView ∷ signs.NoStepIn ∷ signs.ViewOnly ∷ signs.ReadOnly ∷ []))

-- "(" attr { "," attr } ")"
unfoldable pub attributes : Form (List Attribute)
attributes =
    made inner
    (seq (mark signs.OpenParenthesis)
    (seq (made first_and_more (seq attribute (many (made behind (seq (mark signs.Comma) attribute))))) (mark signs.CloseParenthesis)))

-- a module, within this many levels of nesting
unfoldable pub «module» : ℕ → Form PlainModule
«module» n =
    made module_tree
    (seq (mark signs.Module) (seq name (seq (made none_or (optional attributes)) (seq (many (item n)) (mark signs.EndModule)))))
