-- Which typed form an expression has, one case per form: each name means its innermost visible declaration, each part
-- has the type that its place requires (RAPID Overview, expressions; RAPID Kernel, expressions).
use Rattle.std.specs.Prelude.{◌≡◌, ℕ, true, false, List, length, drop}
use Rattle.raw_trees.specs.Plain.{PlainExpr, PlainExprs, PlainSteps, PlainHeld, PlainArg, PlainArgs, Number, Quoted, Truth, Group, Aggregate, Invoke, Place, Not, Signed, Chain, NoExprs, MoreExprs, NoSteps, MoreSteps, NotHeld, Held, PlaceOf, Needed, Optional, NoArgs, MoreArgs}
use Rattle.rapid_model.specs.declared.sort.Sort.{Sort}
use Rattle.rapid_model.specs.declared.sort.Sort.TheVariants as sorts
use Rattle.rapid_model.specs.declared.value.Value.TheVariants as values
use Rattle.rapid_values.specs.Components.{Component}
use Rattle.rapid_builtins.specs.Calls.{option_named}
use Rattle.typed_trees.specs.Plain
use Rattle.typed_trees.specs.Plain.{TypedExpr, TypedExprs, TypedSteps, TypedHeld, TypedArg, TypedArgs}
use Rattle.rapid_model.specs.Sorts.{has_values}
use Rattle.named_data.specs.declared.wanted.Wanted.{Wanted}
use Rattle.named_data.specs.declared.wanted.Wanted.TheVariants.{Is, Same}
use Rattle.named_data.specs.Rules.{Site}
use Rattle.named_data.specs.Wants.{fits, inside, hands_on, needed_components, needed_sort, of_component, first_operand, suits, comes_to}
use Rattle.named_data.specs.Data.{NamedPart, value_from, is_empty}
use Rattle.expr_types.specs.Arguments.{is_held}
use Rattle.expr_types.specs.Calls.{Called, Taking, taking, after}
use Rattle.expr_types.specs.Typing.{number_of, text_of, sort_of, count, invoked}
use Rattle.type_laws.specs.Names.{IsPlace}
use Rattle.type_laws.specs.Calls.{IsNeeded, IsPlainOption, IsValuedOption, IsCall, IsFunction}

-- the value at a place
abbrev pub IsPlaceValue : Wanted → ℕ → NamedPart → TypedExpr → Type 0
IsPlaceValue want at p t = (has_values p.sort ≡ true) × (fits want p.sort ≡ true) × (t ≡ value_from at p p.source)

unfoldable mutual
  pub IsExpr : Site → PlainExpr → Wanted → TypedExpr → Type 0
  IsExpr s (Number at text) want t = (fits want sorts.Num ≡ true) × (t ≡ Plain.Known at sorts.Num (values.Num (number_of text)))
  IsExpr s (Quoted at text) want t = (fits want sorts.Text ≡ true) × (t ≡ Plain.Known at sorts.Text (values.Text (text_of text)))
  IsExpr s (Truth at b) want t = (fits want sorts.Bool ≡ true) × (t ≡ Plain.Known at sorts.Bool (values.Bool b))
  IsExpr s (Group at e) want t = (u : TypedExpr) × IsExpr s e (inside want) u × (hands_on want ≡ true) × (t ≡ Plain.Group at (sort_of u) u)
  IsExpr s (Aggregate at es) want t =
      (us : TypedExprs) × AreElements s es (needed_components want) us × (is_empty (needed_components want) ≡ false)
      × (count es ≡ length (needed_components want)) × (t ≡ Plain.Aggregate at (needed_sort want) us)
  IsExpr s (Invoke at name args) want t =
      (called : Called) × (us : TypedArgs) × IsFunction s name called × AreArguments s args (taking called.signature) us
      × (fits want called.sort ≡ true) × IsCall s called.signature args × (t ≡ invoked at called.sort called.callee us)
  IsExpr s (Place at (PlaceOf name held components)) want t =
      (i : TypedHeld) × (p : NamedPart) × IsIndex s held i × IsPlace s false name (is_held held) i components p × IsPlaceValue want at p t
  IsExpr s (Not at e) want t =
      (u : TypedExpr) × IsExpr s e (Same sorts.Bool) u × (fits want sorts.Bool ≡ true) × (t ≡ Plain.Not at sorts.Bool u)
  IsExpr s (Signed at minus e) want t =
      (u : TypedExpr) × IsExpr s e (Same sorts.Num) u × (fits want sorts.Num ≡ true) × (t ≡ Plain.Signed at sorts.Num minus u)
  IsExpr s (Chain at e ss) want t =
      (u : TypedExpr) × (us : TypedSteps) × (sort : Sort) × IsExpr s e (first_operand ss) u × AreSteps s ss (sort_of u) us sort
      × (fits want sort ≡ true) × (t ≡ Plain.Chain at sort u us)

  -- the elements of brackets, each with its component's type
  pub AreElements : Site → PlainExprs → List Component → TypedExprs → Type 0
  AreElements s NoExprs cs ts = ts ≡ Plain.NoExprs
  AreElements s (MoreExprs e es) cs ts =
      (u : TypedExpr) × (us : TypedExprs) × IsExpr s e (of_component cs) u × AreElements s es (drop 1 cs) us × (ts ≡ Plain.MoreExprs u us)

  -- operators after operands of a type, and the type of the result
  pub AreSteps : Site → PlainSteps → Sort → TypedSteps → Sort → Type 0
  AreSteps s NoSteps left ts sort = (ts ≡ Plain.NoSteps) × (sort ≡ left)
  AreSteps s (MoreSteps operator e ss) left ts sort =
      (u : TypedExpr) × (us : TypedSteps) × (suits operator left ≡ true) × IsExpr s e (Same left) u
      × AreSteps s ss (comes_to operator left) us sort × (ts ≡ Plain.MoreSteps operator u us)

  pub IsIndex : Site → PlainHeld → TypedHeld → Type 0
  IsIndex s NotHeld i = i ≡ Plain.NotHeld
  IsIndex s (Held e) i = (u : TypedExpr) × IsExpr s e (Is sorts.Num) u × (i ≡ Plain.Held u)

  -- the index in an argument that is a place
  pub IsIndexIn : Site → PlainExpr → TypedHeld → Type 0
  IsIndexIn s (Place at (PlaceOf name held components)) i = IsIndex s held i
  IsIndexIn s e i = ⊥

  pub AreArguments : Site → PlainArgs → Taking → TypedArgs → Type 0
  AreArguments s NoArgs t us = us ≡ Plain.NoArgs
  AreArguments s (MoreArgs a more) t us =
      (x : TypedArg) × (xs : TypedArgs) × IsOneArgument s a t x × AreArguments s more (after t a) xs × (us ≡ Plain.MoreArgs x xs)

  pub IsOneArgument : Site → PlainArg → Taking → TypedArg → Type 0
  IsOneArgument s (Needed e) t x = IsNeeded s t.needs e (IsExpr s e) (IsIndexIn s e) x
  IsOneArgument s (Optional name NotHeld at) t x = IsPlainOption t (option_named name.text t.options) x
  IsOneArgument s (Optional name (Held e) at) t x = IsValuedOption s t (option_named name.text t.options) e (IsExpr s e) (IsIndexIn s e) x
