-- Which type the place of an expression requires.
use Rattle.std.specs.Prelude.{Bool, true, false, List, [], ◌∷◌}
use Rattle.rapid_model.specs.declared.operator.Operator.{Operator}
use Rattle.rapid_model.specs.declared.operator.Operator.TheVariants as operators
use Rattle.raw_trees.specs.Plain.{PlainSteps, NoSteps, MoreSteps}
use Rattle.rapid_model.specs.declared.sort.Sort.{Sort}
use Rattle.rapid_model.specs.declared.sort.Sort.TheVariants as sorts
use Rattle.rapid_model.specs.Sorts.{is_compared}
use Rattle.rapid_values.specs.Components.{Component, components}
use Rattle.rule_checks.specs.declared.rule.TypeRule.{TypeRule}
use Rattle.rule_checks.specs.declared.rule.TypeRule.TheVariants.{TypeClash, BadRef, SyncName}
pub use Rattle.data_scopes.specs.Sorts.{same_sort}
use Rattle.named_data.specs.declared.wanted.Wanted.{Wanted}
use Rattle.named_data.specs.declared.wanted.Wanted.TheVariants.{Any, Brackets, Is, Same, Fits, Nothing, Reference, ReferenceTo, Meeting}

-- an operator takes operands of this type, both of the same type
abbrev pub suits : Operator → Sort → Bool
suits operators.Equal sort = is_compared sort
suits operators.NotEqual sort = is_compared sort
suits operators.And sort = same_sort sort sorts.Bool
suits operators.Or sort = same_sort sort sorts.Bool
suits operators.Xor sort = same_sort sort sorts.Bool
suits operators.Add sorts.Text = true
suits _ sort = same_sort sort sorts.Num

-- the type of an operator's result on operands of this type
abbrev pub comes_to : Operator → Sort → Sort
comes_to operators.Add sort = sort
comes_to operators.Sub sort = sorts.Num
comes_to operators.Mul sort = sorts.Num
comes_to operators.Div sort = sorts.Num
comes_to operators.IntDiv sort = sorts.Num
comes_to operators.Mod sort = sorts.Num
comes_to _ sort = sorts.Bool

-- a type meets the requirement
abbrev pub fits : Wanted → Sort → Bool
fits Any sort = true
fits (Brackets taken) sort = true
fits (Is wanted) sort = same_sort sort wanted
fits (Same wanted) sort = same_sort sort wanted
fits (Fits operator) sort = suits operator sort
fits Nothing sort = false
fits Reference sort = false
fits (ReferenceTo wanted) sort = false
fits Meeting sort = false

-- the rule that a value of a wrong type breaks
abbrev pub clash : Wanted → TypeRule
clash Reference = BadRef
clash (ReferenceTo sort) = BadRef
clash Meeting = SyncName
clash _ = TypeClash

-- the rule that brackets break if their type is not known
abbrev pub untyped : Wanted → TypeRule
untyped Meeting = SyncName
untyped _ = TypeClash

-- what is required inside parentheses: they pass the type on
abbrev pub inside : Wanted → Wanted
inside Reference = Any
inside (ReferenceTo sort) = Brackets sort
inside Meeting = Any
inside wanted = wanted

-- parentheses are allowed there, if what is inside them is
abbrev pub hands_on : Wanted → Bool
hands_on Reference = false
hands_on (ReferenceTo sort) = false
hands_on Meeting = false
hands_on _ = true

-- the components that brackets must have: those of the required type. An operand passes no type to brackets.
abbrev pub needed_components : Wanted → List Component
needed_components (Is sort) = components sort
needed_components (Brackets sort) = components sort
needed_components (ReferenceTo sort) = components sort
needed_components _ = []

-- the type of brackets
abbrev pub needed_sort : Wanted → Sort
needed_sort (Is sort) = sort
needed_sort (Brackets sort) = sort
needed_sort (ReferenceTo sort) = sort
needed_sort _ = sorts.Num

-- what is required of the next element
abbrev pub of_component : List Component → Wanted
of_component [] = Any
of_component (c ∷ cs) = Is c.sort

-- what is required of the first operand of a chain
abbrev pub first_operand : PlainSteps → Wanted
first_operand NoSteps = Any
first_operand (MoreSteps operator e steps) = Fits operator
