-- Arguments taken one by one, each of them well typed.
use Rattle.std.proofs.Common.{◌≡◌, false, List, [], ◌∷◌, Option, Some, None, sym, subst}
use Rattle.raw_trees.specs.Plain.{PlainArg, PlainArgs, PlainExpr, Needed, Optional, NoArgs, MoreArgs}
use Rattle.rapid_builtins.specs.Calls.{OptionRow, option_named}
use Rattle.rapid_builtins.specs.declared.need.Need.{Need}
use Rattle.typed_trees.specs.Plain as trees
use Rattle.typed_trees.specs.Plain.{TypedArg, TypedArgs, TypedArgument, TypedExpr, Given}
use Rattle.named_data.specs.Rules.{Site}
use Rattle.expr_types.specs.Calls.{Taking, after, is_excluded}
use Rattle.type_laws.specs.Calls.{Indexes, IsNeeded, IsPlainOption, IsValuedOption, Values}
use Rattle.tree_typing.specs.Expressions.{IsArg}
use Rattle.tree_typing.specs.Instructions.{IsOptionArg}
use Rattle.tree_typing.specs.Kinds.{Kind}
use Rattle.tree_typing.specs.Setting.{Setting}
use Rattle.accepted_cells.proofs.Arguments.{RightIndex, RightValue, argument_right}
use Rattle.accepted_cells.proofs.Named.{Suits}

-- what the next need asks; if no need is left, any expression
abbrev pub IsTakenBy : Setting → List Kind → List Need → TypedArg → Type 0
IsTakenBy c kinds [] x = (e : TypedExpr) × (x ≡ Given e)
IsTakenBy c kinds (need ∷ more) x = IsArg c kinds x need

-- an option that may stand here
abbrev pub IsOptionTaken : Setting → List Kind → Taking → Option OptionRow → TypedArg → Type 0
IsOptionTaken c kinds t None x = ⊥
IsOptionTaken c kinds t (Some row) x =
    (value : TypedArgument) × IsOptionArg c kinds value row.value × (is_excluded t.choice row.name t.before ≡ false) × (x ≡ trees.Optional row.name value)

abbrev pub IsTaken : Setting → List Kind → PlainArg → Taking → TypedArg → Type 0
IsTaken c kinds (Needed e) t x = IsTakenBy c kinds t.needs x
IsTaken c kinds (Optional name held at) t x = IsOptionTaken c kinds t (option_named name.text t.options) x

abbrev pub AreTaken : Setting → List Kind → PlainArgs → Taking → TypedArgs → Type 0
AreTaken c kinds NoArgs t us = us ≡ trees.NoArgs
AreTaken c kinds (MoreArgs a more) t us =
    (x : TypedArg) × (xs : TypedArgs) × IsTaken c kinds a t x × AreTaken c kinds more (after t a) xs × (us ≡ trees.MoreArgs x xs)

module _ (c : Setting) (kinds : List Kind) (s : Site) (suits : Suits c kinds s) where
  pub needed_taken : (needs : List Need) (e : PlainExpr) (IsValue : Values) (IsIndexed : Indexes) (x : TypedArg) → RightValue c kinds s suits IsValue → RightIndex c kinds s suits e IsIndexed
      → IsNeeded s needs e IsValue IsIndexed x → IsTakenBy c kinds needs x
  needed_taken [] e IsValue IsIndexed x value index (t, is_value, is) = (t, is)
  needed_taken (need ∷ more) e IsValue IsIndexed x value index h = argument_right c kinds s suits need e IsValue IsIndexed x value index h

  pub plain_taken : (t : Taking) (row : Option OptionRow) (x : TypedArg) → IsPlainOption t row x → IsOptionTaken c kinds t row x
  plain_taken t None x h = absurd h
  plain_taken t (Some row) x (none, free, is) = (trees.NoArgument, subst (IsOptionArg c kinds trees.NoArgument) (sym none) tt, free, is)

  pub valued_taken : (t : Taking) (row : Option OptionRow) (e : PlainExpr) (IsValue : Values) (IsIndexed : Indexes) (x : TypedArg) → RightValue c kinds s suits IsValue → RightIndex c kinds s suits e IsIndexed
      → IsValuedOption s t row e IsValue IsIndexed x → IsOptionTaken c kinds t row x
  valued_taken t None e IsValue IsIndexed x value index h = absurd h
  valued_taken t (Some row) e IsValue IsIndexed x value index (need, arg, some, right, free, is) =
      (trees.Argument arg, subst (IsOptionArg c kinds (trees.Argument arg)) (sym some) (argument_right c kinds s suits need e IsValue IsIndexed arg value index right), free, is)
