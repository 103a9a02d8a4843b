-- The typed form of an expression, or the first broken rule in it: from left to right, the parts before the whole
-- (RAPID Overview, expressions; RAPID Kernel, expressions).
use Rattle.std.specs.Prelude.{ℕ, suc, ℤ, pos, Bool, true, false, List, [], ◌==◌, not, length, drop, Option, Some, None, Ok, if◌then◌else◌}
use Rattle.rapid_num.specs.Literal.{literal_value}
use Rattle.string_texts.specs.Spelled.{text_in}
use Rattle.raw_trees.specs.Plain.{PlainExpr, PlainExprs, PlainSteps, PlainHeld, PlainArg, PlainArgs, Number, Quoted, Truth, Group, Aggregate, Invoke, Place, Not, Signed, Chain, NoExprs, MoreExprs, NoSteps, MoreSteps, NotHeld, Held, PlaceOf, Needed, Optional, NoArgs, MoreArgs}
use Rattle.rapid_model.specs.declared.sort.Sort.{Sort}
use Rattle.rapid_model.specs.declared.sort.Sort.TheVariants as sorts
use Rattle.rapid_model.specs.declared.value.Value.TheVariants as values
use Rattle.rapid_values.specs.Components.{Component}
use Rattle.rapid_builtins.specs.Calls.{option_named}
use Rattle.typed_trees.specs.Plain
use Rattle.typed_trees.specs.Plain.{TypedExpr, TypedExprs, TypedSteps, TypedHeld, TypedArg, TypedArgs}
use Rattle.rule_checks.specs.declared.rule.TypeRule.TheVariants.{TypeClash, DimRange, SyncName}
use Rattle.rule_checks.specs.Checks.{◌>>=◌, must}
use Rattle.rule_checks.specs.TypeChecks.{Checked}
use Rattle.expr_types.specs.declared.callee.Callee.{Callee}
use Rattle.expr_types.specs.declared.callee.Callee.TheVariants as callees
use Rattle.expr_types.specs.declared.want.Want.{Want}
use Rattle.expr_types.specs.declared.want.Want.TheVariants as wants
use Rattle.named_data.specs.declared.wanted.Wanted.{Wanted}
use Rattle.named_data.specs.declared.wanted.Wanted.TheVariants.{Any, Is, Same, Meeting}
use Rattle.named_data.specs.Rules.{Site, fail, at_byte}
use Rattle.named_data.specs.Wants.{fits, clash, untyped, inside, hands_on, needed_components, needed_sort, of_component, first_operand, suits, comes_to}
use Rattle.rapid_model.specs.Sorts.{has_values}
use Rattle.named_data.specs.Data.{NamedPart, given, place_value, value_from, is_empty}
use Rattle.expr_types.specs.Arguments.{is_held}
use Rattle.expr_types.specs.Calls.{Called, Signature, Taking, taking, function_at, count_rules, call_rules, needed, plain_option, valued_option, after}

abbrev pub or_zero : Option ℤ → ℤ
or_zero (Some n) = n
or_zero None = pos 0

-- the number of a literal; each token of this kind spells one
abbrev pub number_of : List ℕ → ℤ
number_of text = or_zero (literal_value text)

abbrev pub or_empty : Option (List ℕ) → List ℕ
or_empty (Some text) = text
or_empty None = []

-- the text of a string; each token of this kind spells one
abbrev pub text_of : List ℕ → List ℕ
text_of quoted = or_empty (text_in quoted)

-- the type of an expression
abbrev pub sort_of : TypedExpr → Sort
sort_of (Plain.Known at sort value) = sort
sort_of (Plain.ErrorNumber at sort) = sort
sort_of (Plain.SignalValue at sort signal) = sort
sort_of (Plain.Stored at sort place) = sort
sort_of (Plain.Group at sort e) = sort
sort_of (Plain.Aggregate at sort es) = sort
sort_of (Plain.Builtin at sort function args) = sort
sort_of (Plain.Invoke at sort routine args) = sort
sort_of (Plain.Not at sort e) = sort
sort_of (Plain.Signed at sort minus e) = sort
sort_of (Plain.Chain at sort e steps) = sort

-- operators and their operands, and the type of the result
pub record TypedRest : Type 0 where
  pub steps : TypedSteps
  pub sort : Sort

abbrev pub count : PlainExprs → ℕ
count NoExprs = 0
count (MoreExprs e es) = suc (count es)

-- brackets must have a type, and as many values as it has components
abbrev pub aggregate : Site → Wanted → ℕ → PlainExprs → TypedExprs → Checked TypedExpr
aggregate site want at es ts =
    must (not (is_empty (needed_components want))) (at_byte site at (untyped want)) >>= (λ _.
    must (count es == length (needed_components want)) (at_byte site at DimRange) >>= (λ _.
    Ok (Plain.Aggregate at (needed_sort want) ts)))

abbrev pub invoked : ℕ → Sort → Callee → TypedArgs → TypedExpr
invoked at sort (callees.Builtin f) args = Plain.Builtin at sort f args
invoked at sort (callees.Routine routine) args = Plain.Invoke at sort routine args

-- the place takes the name of a meeting
abbrev pub names_meeting : Wanted → Bool
names_meeting Meeting = true
names_meeting want = false

-- a call, after its arguments; in place of a meeting's name, its first rules come before the rule that it is not a
-- meeting
abbrev pub call : Site → Wanted → ℕ → Called → PlainArgs → TypedArgs → Checked TypedExpr
call site want at called args ts =
    if names_meeting want then count_rules site at called.signature args >>= (λ _. fail site at SyncName)
    else must (fits want called.sort) (at_byte site at (clash want)) >>= (λ _.
    call_rules site at called.signature args >>= (λ _. Ok (invoked at called.sort called.callee ts)))

abbrev pub group : Site → Wanted → ℕ → TypedExpr → Checked TypedExpr
group site want at t = must (hands_on want) (at_byte site at (clash want)) >>= (λ _. Ok (Plain.Group at (sort_of t) t))

-- the value at a place that was found
abbrev pub value_given : Site → Wanted → ℕ → NamedPart → Checked TypedExpr
value_given site want at p = must (has_values p.sort) (at_byte site at TypeClash) >>= (λ _. given site want at p.sort (value_from at p p.source))

unfoldable mutual
  pub typed : Site → PlainExpr → Wanted → Checked TypedExpr
  typed site (Number at text) want = given site want at sorts.Num (Plain.Known at sorts.Num (values.Num (number_of text)))
  typed site (Quoted at text) want = given site want at sorts.Text (Plain.Known at sorts.Text (values.Text (text_of text)))
  typed site (Truth at b) want = given site want at sorts.Bool (Plain.Known at sorts.Bool (values.Bool b))
  typed site (Group at e) want = typed site e (inside want) >>= (λ t. group site want at t)
  typed site (Aggregate at es) want = elements site es (needed_components want) >>= (λ ts. aggregate site want at es ts)
  typed site (Invoke at name args) want =
      function_at site name >>= (λ called. arguments site args (taking called.signature) >>= (λ ts. call site want at called args ts))
  typed site (Place at (PlaceOf name held components)) want = place_value site at name (is_held held) (index site held) components want
  typed site (Not at e) want = typed site e (Same sorts.Bool) >>= (λ t. given site want at sorts.Bool (Plain.Not at sorts.Bool t))
  typed site (Signed at minus e) want = typed site e (Same sorts.Num) >>= (λ t. given site want at sorts.Num (Plain.Signed at sorts.Num minus t))
  typed site (Chain at e ss) want =
      typed site e (first_operand ss) >>= (λ t. steps site ss at (sort_of t) >>= (λ r. given site want at r.sort (Plain.Chain at r.sort t r.steps)))

  -- the elements of brackets, each with its component's type
  pub elements : Site → PlainExprs → List Component → Checked TypedExprs
  elements site NoExprs cs = Ok Plain.NoExprs
  elements site (MoreExprs e es) cs =
      typed site e (of_component cs) >>= (λ t. elements site es (drop 1 cs) >>= (λ ts. Ok (Plain.MoreExprs t ts)))

  -- after operands of this type, in a chain that starts at this byte
  pub steps : Site → PlainSteps → ℕ → Sort → Checked TypedRest
  steps site NoSteps at left = Ok (record { steps = Plain.NoSteps; sort = left })
  steps site (MoreSteps operator e ss) at left =
      must (suits operator left) (at_byte site at TypeClash) >>= (λ _. typed site e (Same left) >>= (λ t.
      steps site ss at (comes_to operator left) >>= (λ r. Ok (record { steps = Plain.MoreSteps operator t r.steps; sort = r.sort }))))

  pub index : Site → PlainHeld → Checked TypedHeld
  index site NotHeld = Ok Plain.NotHeld
  index site (Held e) = typed site e (Is sorts.Num) >>= (λ t. Ok (Plain.Held t))

  -- the index in an argument that is a place
  pub index_in : Site → PlainExpr → Checked TypedHeld
  index_in site (Place at (PlaceOf name held components)) = index site held
  index_in site e = Ok Plain.NotHeld

  pub arguments : Site → PlainArgs → Taking → Checked TypedArgs
  arguments site NoArgs t = Ok Plain.NoArgs
  arguments site (MoreArgs a more) t =
      one_argument site a t >>= (λ x. arguments site more (after t a) >>= (λ xs. Ok (Plain.MoreArgs x xs)))

  pub one_argument : Site → PlainArg → Taking → Checked TypedArg
  one_argument site (Needed e) t = needed site t.needs e (typed site e) (index_in site e)
  one_argument site (Optional name NotHeld at) t = plain_option site t at (option_named name.text t.options)
  one_argument site (Optional name (Held e) at) t = valued_option site t at (option_named name.text t.options) e (typed site e) (index_in site e)

-- what is required of a whole expression
abbrev pub wanted : Want → Wanted
wanted wants.Any = Any
wanted (wants.Is sort) = Is sort

-- the arguments of a call that starts at this byte, and its rules
abbrev pub call_arguments : Site → ℕ → PlainArgs → Signature → Checked TypedArgs
call_arguments site at args s = arguments site args (taking s) >>= (λ ts. call_rules site at s args >>= (λ _. Ok ts))
