-- Lengths and initial values of data: known before the run, and of the datum's type (RAPID Kernel, data declarations).
use Rattle.std.specs.Prelude.{ℕ, suc, not, ◌||◌, ◌==◌, List, [], ◌∷◌, length, replicate, map, Option, Some, None, is_some, Ok, if◌then◌else◌}
use Rattle.std.specs.List.{list_all}
use Rattle.rapid_limits.specs.declared.TheConstants.{LONGEST_ARRAY}
use Rattle.raw_trees.specs.Plain.{PlainDatum, PlainExpr, PlainExprs, Aggregate, Group, NoExprs, MoreExprs}
use Rattle.rapid_model.specs.declared.sort.Sort.{Sort}
use Rattle.rapid_model.specs.declared.sort.Sort.TheVariants as sorts
use Rattle.rapid_model.specs.declared.value.Value.{Value}
use Rattle.rapid_model.specs.declared.value.Value.TheVariants as values
use Rattle.rapid_values.specs.Values.{start_value}
use Rattle.typed_trees.specs.Plain
use Rattle.typed_trees.specs.Plain.{TypedExpr, TypedExprs}
use Rattle.typed_trees.specs.declared.datum.Datum.{Datum}
use Rattle.typed_trees.specs.declared.datum.Datum.TheVariants as held
use Rattle.rapid_values.specs.Elements.{element_number}
use Rattle.constant_meaning.specs.Constants.{Elements, Outcomes, all, stops, constant_value, constant_values, is_constant, are_constant}
use Rattle.constant_meaning.specs.declared.outcome.Outcome.{Outcome}
use Rattle.constant_meaning.specs.declared.outcome.Outcome.TheVariants as outcomes
use Rattle.rule_checks.specs.declared.rule.TypeRule.TheVariants.{TypeClash, NoInit, NotConst, ConstFault, DimRange}
use Rattle.rule_checks.specs.Checks.{◌>>=◌, must}
use Rattle.rule_checks.specs.TypeChecks.{Checked}
use Rattle.data_scopes.specs.Numbers.{is_const}
use Rattle.data_scopes.specs.Rows.{begin_of}
use Rattle.data_scopes.specs.Scopes.{Names}
use Rattle.rapid_model.specs.Sorts.{has_values, is_value_of, width}
use Rattle.named_data.specs.declared.wanted.Wanted.TheVariants.{Is, Nothing}
use Rattle.named_data.specs.Rules.{Site, fail, at_byte}
use Rattle.expr_types.specs.Typing.{typed}

abbrev pub length_or_fault : Site → ℕ → Option ℕ → Checked ℕ
length_or_fault site at (Some n) = Ok n
length_or_fault site at None = fail site at DimRange

-- an integer from 1 to the maximum length
abbrev pub whole_length : Site → ℕ → Outcome → Checked ℕ
whole_length site at (outcomes.Value (values.Num n)) = length_or_fault site at (element_number LONGEST_ARRAY n)
whole_length site at other = fail site at DimRange

-- the length of an array
abbrev pub length_at : Site → Elements → PlainExpr → Checked ℕ
length_at site known e =
    typed site e (Is sorts.Num) >>= (λ t.
    must (is_constant known t) (at_byte site (begin_of e) NotConst) >>= (λ _. whole_length site (begin_of e) (constant_value known t)))

-- the value of an initial value, which must be of the type
abbrev pub value_or_fault : Site → ℕ → Sort → Outcome → Checked Value
value_or_fault site at sort (outcomes.Value v) = must (is_value_of sort v) (at_byte site at ConstFault) >>= (λ _. Ok v)
value_or_fault site at sort other = fail site at ConstFault

-- the initial value of a datum that is not an array
abbrev pub single_value : Site → Elements → Sort → PlainExpr → Checked (List Value)
single_value site known sort e =
    typed site e (Is sort) >>= (λ t.
    must (is_constant known t) (at_byte site (begin_of e) NotConst) >>= (λ _.
    value_or_fault site (begin_of e) sort (constant_value known t) >>= (λ v. Ok (v ∷ []))))

-- the brackets of an array: where they start, and the elements
pub record Brackets : Type 0 where
  pub at : ℕ
  pub elements : TypedExprs

-- elements of an array, each of the array's type
abbrev pub array_elements : Site → Sort → PlainExprs → Checked TypedExprs
array_elements site sort NoExprs = Ok Plain.NoExprs
array_elements site sort (MoreExprs e es) =
    typed site e (Is sort) >>= (λ t. array_elements site sort es >>= (λ ts. Ok (Plain.MoreExprs t ts)))

-- the initial value of an array must be brackets; parentheses pass this on
abbrev pub brackets : Site → Sort → PlainExpr → Checked Brackets
brackets site sort (Aggregate at es) = array_elements site sort es >>= (λ ts. Ok (record { at = at; elements = ts }))
brackets site sort (Group at e) = brackets site sort e
brackets site sort e = typed site e Nothing >>= (λ t. fail site (begin_of e) TypeClash)

-- the number of elements
abbrev pub how_many : TypedExprs → ℕ
how_many Plain.NoExprs = 0
how_many (Plain.MoreExprs e es) = suc (how_many es)

-- the values of an array's elements, which must be of its type
abbrev pub values_or_fault : Site → ℕ → Sort → Outcomes → Checked (List Value)
values_or_fault site at sort (all vs) = must (list_all (is_value_of sort) vs) (at_byte site at ConstFault) >>= (λ _. Ok vs)
values_or_fault site at sort (stops other) = fail site at ConstFault

-- The initial value of an array of this length. Brackets in parentheses are a part of it: first the number of their
-- elements is checked, then whether the whole is constant.
abbrev pub array_values : Site → Elements → Sort → ℕ → PlainExpr → Checked (List Value)
array_values site known sort len e =
    brackets site sort e >>= (λ b.
    must (b.at == begin_of e || how_many b.elements == len) (at_byte site b.at DimRange) >>= (λ _.
    must (are_constant known b.elements) (at_byte site (begin_of e) NotConst) >>= (λ _.
    values_or_fault site (begin_of e) sort (constant_values known b.elements) >>= (λ vs.
    must (length vs == len) (at_byte site b.at DimRange) >>= (λ _. Ok vs)))))

-- data of types without values have no initial value
abbrev pub no_value : Site → PlainExpr → Checked (List Value)
no_value site e = typed site e Nothing >>= (λ t. fail site (begin_of e) TypeClash)

abbrev pub initial_values : Site → Elements → Sort → Option ℕ → PlainExpr → Checked (List Value)
initial_values site known sort None e = if has_values sort then single_value site known sort e else no_value site e
initial_values site known sort (Some len) e = if has_values sort then array_values site known sort len e else no_value site e

-- the site of an expression of a declaration
abbrev pub site_of : Names → ℕ → Option ℕ → PlainExpr → Site
site_of names number routine e =
    record { names = names; spot = record { «module» = number; routine = routine; within = None; at = begin_of e } }

abbrev pub values_at : Names → ℕ → Option ℕ → Elements → Sort → Option ℕ → Option PlainExpr → Checked (Option (List Value))
values_at names number routine known sort len None = Ok None
values_at names number routine known sort len (Some e) =
    initial_values (site_of names number routine e) known sort len e >>= (λ vs. Ok (Some vs))

abbrev pub len_of : Names → ℕ → Option ℕ → Elements → Option PlainExpr → Checked (Option ℕ)
len_of names number routine known None = Ok None
len_of names number routine known (Some e) = length_at (site_of names number routine e) known e >>= (λ n. Ok (Some n))

-- the length of a datum, if it is an array, and the values that its declaration gives, one for each element
pub record Initial : Type 0 where
  pub len : Option ℕ
  pub values : Option (List Value)

-- a CONST without a value is reported at its name
abbrev pub init_rule : Names → ℕ → Option ℕ → PlainDatum → Checked (Unit {0})
init_rule names number routine d =
    must (is_some d.first || not (is_const d.kind)) (at_byte (record { names = names; spot = record { «module» = number; routine = routine; within = None; at = d.name.at } }) d.name.at NoInit)

abbrev pub initial : Names → ℕ → Option ℕ → Elements → Sort → PlainDatum → Checked Initial
initial names number routine known sort d =
    init_rule names number routine d >>= (λ _.
    len_of names number routine known d.len >>= (λ len.
    values_at names number routine known sort len d.first >>= (λ vs.
    Ok (record { len = len; values = vs }))))

-- the first contents of a datum of a type, if its declaration gives no value
abbrev pub without_value : Sort → Datum
without_value sorts.ShapeData = held.Shape None
without_value sort = held.Mark 0

abbrev pub plain_or_mark : Sort → Option Value → Datum
plain_or_mark sort (Some v) = held.Plain v
plain_or_mark sort None = without_value sort

abbrev pub start_datum : Sort → Datum
start_datum sort = plain_or_mark sort (start_value sort)

abbrev pub first_data : Sort → Option ℕ → Option (List Value) → List Datum
first_data sort len (Some vs) = map held.Plain vs
first_data sort len None = replicate (width len) (start_datum sort)
