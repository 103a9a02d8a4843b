-- What is called, and its arguments as a list: needed ones in order, with options anywhere among them.
use Rattle.std.specs.Prelude.{ℕ, Bool, true, false, not, ◌&&◌, ◌||◌, ◌+◌, ◌-◌, ◌==◌, nat_lt, nat_le, List, [], ◌∷◌, ◌++◌, codes, length, map, drop, Option, Some, None, Ok, if◌then◌else◌}
use Rattle.std.specs.List.{list_any}
use Rattle.std.specs.Option.{option_map}
use Rattle.std.specs.Str.{str_eq_ignore_ascii_case}
use Rattle.rapid_limits.specs.declared.TheConstants.{MOST_ARGUMENTS}
use Rattle.raw_trees.specs.Plain.{PlainName, PlainExpr, PlainArg, PlainArgs, Needed, Optional, NoArgs, MoreArgs}
use Rattle.rapid_model.specs.declared.routine_kind.RoutineKind.{RoutineKind}
use Rattle.rapid_model.specs.declared.routine_kind.RoutineKind.TheVariants as kinds
use Rattle.rapid_model.specs.declared.function.Function.{Function}
use Rattle.rapid_model.specs.declared.instruction.Instruction.{Instruction}
use Rattle.rapid_model.specs.declared.sort.Sort.{Sort}
use Rattle.rapid_model.specs.declared.sort.Sort.TheVariants as sorts
use Rattle.rapid_model.specs.Names.{is_among}
use Rattle.rapid_model.specs.Truths.{same_truth}
use Rattle.rapid_builtins.specs.Calls.{OptionRow, option_named, options, choice, instruction_needs, needs_arm, function_needs, function_result, function_needs_arm}
use Rattle.rapid_builtins.specs.declared.need.Need.{Need}
use Rattle.rapid_builtins.specs.declared.need.Need.TheVariants as needs
use Rattle.rapid_builtins.specs.declared.option_choice.Choice.{Choice}
use Rattle.rapid_builtins.specs.declared.option_choice.Choice.TheVariants as choices
use Rattle.typed_trees.specs.Plain
use Rattle.typed_trees.specs.Plain.{TypedExpr, TypedHeld, TypedArg, Given, NoArgument, Argument}
use Rattle.data_scopes.specs.declared.data_row.ParamRow.{ParamRow}
use Rattle.rule_checks.specs.declared.rule.TypeRule.TheVariants.{NoName, NotThis, ArgCount, ArgName, NoArm}
use Rattle.data_scopes.specs.declared.meant.Meant.{Meant}
use Rattle.data_scopes.specs.declared.meant.Meant.TheVariants as meants
use Rattle.data_scopes.specs.Called.{kind_of, params_of, result_of}
use Rattle.rule_checks.specs.Checks.{◌>>=◌, must}
use Rattle.rule_checks.specs.TypeChecks.{Checked}
use Rattle.rapid_builtins.specs.Parameters.{parameter_need}
use Rattle.expr_types.specs.declared.callee.Callee.{Callee}
use Rattle.expr_types.specs.declared.callee.Callee.TheVariants as callees
use Rattle.named_data.specs.declared.wanted.Wanted.{Wanted}
use Rattle.named_data.specs.declared.wanted.Wanted.TheVariants.{Any}
use Rattle.named_data.specs.Rules.{Site, fail, at_byte}
use Rattle.named_data.specs.Data.{named}
use Rattle.expr_types.specs.Arguments.{argument}

-- how something is called: the needs of its arguments in order, its options and how many of them one call may have, and
-- whether it needs an arm
pub record Signature : Type 0 where
  pub needs : List Need
  pub options : List OptionRow
  pub choice : Choice
  pub arm : Bool

-- the needs of the remaining arguments, and the options so far
pub record Taking : Type 0 where
  pub needs : List Need
  pub options : List OptionRow
  pub choice : Choice
  pub before : List (List ℕ)

abbrev pub taking : Signature → Taking
taking s = record { needs = s.needs; options = s.options; choice = s.choice; before = [] }

-- the need of a parameter
abbrev pub need_of : ParamRow → Need
need_of p = parameter_need p.mode p.sort

-- a routine of the task
abbrev pub routine_signature : List ParamRow → Signature
routine_signature params = record { needs = map need_of params; options = []; choice = choices.Any; arm = false }

abbrev pub function_signature : Function → Signature
function_signature f = record { needs = function_needs f; options = []; choice = choices.Any; arm = function_needs_arm f }

-- a called function, its signature, and the type of its result
pub record Called : Type 0 where
  pub callee : Callee
  pub signature : Signature
  pub sort : Sort

-- only a function has a result
abbrev pub routine_function : Site → ℕ → ℕ → Option RoutineKind → Option Sort → Checked Called
routine_function site at routine (Some kinds.Func) (Some sort) =
    Ok (record { callee = callees.Routine routine; signature = routine_signature (params_of site.names.rows routine); sort = sort })
routine_function site at routine kind sort = fail site at NotThis

abbrev pub function_meant : Site → ℕ → Option Meant → Checked Called
function_meant site at None = fail site at NoName
function_meant site at (Some (meants.Function f)) =
    Ok (record { callee = callees.Builtin f; signature = function_signature f; sort = function_result f })
function_meant site at (Some (meants.Routine routine)) =
    routine_function site at routine (kind_of site.names.rows routine) (result_of site.names.rows routine)
function_meant site at (Some _) = fail site at NotThis

abbrev pub function_at : Site → PlainName → Checked Called
function_at site name = function_meant site name.at (named site name)

abbrev pub is_needed : PlainArg → Bool
is_needed (Needed e) = true
is_needed (Optional name held at) = false

-- how many arguments are not options, and how many there are
abbrev pub needed_in : PlainArgs → ℕ
needed_in NoArgs = 0
needed_in (MoreArgs (Needed e) more) = needed_in more + 1
needed_in (MoreArgs (Optional name held at) more) = needed_in more

abbrev pub all_in : PlainArgs → ℕ
all_in NoArgs = 0
all_in (MoreArgs a more) = all_in more + 1

-- as many arguments as needed, and not too many with the options
abbrev pub are_counted : PlainArgs → ℕ → Bool
are_counted args count = needed_in args == count && nat_le (all_in args) MOST_ARGUMENTS

-- as many options as are required, among options that do not exclude each other
abbrev pub are_chosen : Choice → PlainArgs → Bool
are_chosen choices.JustOne args = not (all_in args == needed_in args)
are_chosen choices.InsideAndOne args = all_in args - needed_in args == 2
are_chosen _ args = true

-- the rules of a call, after those of its arguments as many arguments as needed, and valid options
abbrev pub count_rules : Site → ℕ → Signature → PlainArgs → Checked (Unit {0})
count_rules site at s args = must (are_counted args (length s.needs)) (at_byte site at ArgCount) >>= (λ _. must (are_chosen s.choice args) (at_byte site at ArgName))

abbrev pub call_rules : Site → ℕ → Signature → PlainArgs → Checked (Unit {0})
call_rules site at s args =
    must (are_counted args (length s.needs)) (at_byte site at ArgCount) >>= (λ _.
    must (are_chosen s.choice args) (at_byte site at ArgName) >>= (λ _.
    must (not s.arm || nat_lt 0 site.names.axes) (at_byte site at NoArm)))

-- what the next argument must be
abbrev pub first_need : List Need → Option Need
first_need [] = None
first_need (need ∷ more) = Some need

-- an argument that is not an option
abbrev pub needed : Site → List Need → PlainExpr → (Wanted → Checked TypedExpr) → Checked TypedHeld → Checked TypedArg
needed site [] e value index = value Any >>= (λ t. Ok (Given t))
needed site (need ∷ more) e value index = argument site need e value index

abbrev pub is_inside : List ℕ → Bool
is_inside name = str_eq_ignore_ascii_case (codes "Inside") name

-- `Inside` excludes itself alone, and each other option all others
abbrev pub is_like : List ℕ → List ℕ → Bool
is_like name other = same_truth (is_inside name) (is_inside other)

-- an option is not allowed after those before it: it is one of them, or it excludes one of them
abbrev pub is_excluded : Choice → List ℕ → List (List ℕ) → Bool
is_excluded choices.Any name before = is_among name before
is_excluded choices.InsideAndOne name before = list_any (is_like name) before
is_excluded _ name before = not (length before == 0)

abbrev pub may_stand : Site → Taking → ℕ → List ℕ → Checked (Unit {0})
may_stand site t at name = must (not (is_excluded t.choice name t.before)) (at_byte site at ArgName)

abbrev pub option_with : Site → Taking → ℕ → List ℕ → TypedArg → Checked TypedArg
option_with site t at name x = may_stand site t at name >>= (λ _. Ok (Plain.Optional name (Argument x)))

-- the name of an option that takes a value, and what that must be
abbrev pub needed_by : Option OptionRow → Option (List ℕ × Need)
needed_by None = None
needed_by (Some row) = option_map (λ need. (row.name, need)) row.value

abbrev pub plain_option : Site → Taking → ℕ → Option OptionRow → Checked TypedArg
plain_option site t at None = fail site at ArgName
plain_option site t at (Some row) = by_need row.value
  where
    by_need : Option Need → Checked TypedArg
    by_need None = must (not (is_excluded t.choice row.name t.before)) (at_byte site at ArgName) >>= (λ _. Ok (Plain.Optional row.name NoArgument))
    by_need (Some need) = fail site at ArgName

abbrev pub valued_option : Site → Taking → ℕ → Option OptionRow → PlainExpr → (Wanted → Checked TypedExpr) → Checked TypedHeld → Checked TypedArg
valued_option site t at None e value index = value Any >>= (λ x. fail site at ArgName)
valued_option site t at (Some row) e value index = by_need row.value
  where
    by_need : Option Need → Checked TypedArg
    by_need None = value Any >>= (λ x. fail site at ArgName)
    by_need (Some need) =
        argument site need e value index >>= (λ x.
        must (not (is_excluded t.choice row.name t.before)) (at_byte site at ArgName) >>= (λ _. Ok (Plain.Optional row.name (Argument x))))

abbrev pub with_option : Taking → Option OptionRow → Taking
with_option t None = t
with_option t (Some row) = record { needs = t.needs; options = t.options; choice = t.choice; before = t.before ++ row.name ∷ [] }

-- what is left after an argument that is not an option
abbrev pub after_needed : Taking → Taking
after_needed t = record { needs = drop 1 t.needs; options = t.options; choice = t.choice; before = t.before }

-- what is left after an argument
abbrev pub after : Taking → PlainArg → Taking
after t (Needed e) = record { needs = drop 1 t.needs; options = t.options; choice = t.choice; before = t.before }
after t (Optional name held at) = with_option t (option_named name.text t.options)

-- WZLimSup, WZDOSet: the zone's variable has the type that the first of the options Temp and Stat determines
abbrev pub zone_need : PlainArgs → Need
zone_need NoArgs = needs.WorldZone
zone_need (MoreArgs (Needed e) more) = zone_need more
zone_need (MoreArgs (Optional name held at) more) =
    if str_eq_ignore_ascii_case (codes "Temp") name.text then needs.Var sorts.WzTemporary
    else if str_eq_ignore_ascii_case (codes "Stat") name.text then needs.Var sorts.WzStationary
    else zone_need more

-- the type of the zone's variable, given an option with this name, or given an argument
abbrev pub zone_named : List ℕ → Option Need
zone_named name =
    if str_eq_ignore_ascii_case (codes "Temp") name then Some (needs.Var sorts.WzTemporary)
    else if str_eq_ignore_ascii_case (codes "Stat") name then Some (needs.Var sorts.WzStationary)
    else None

abbrev pub zone_need_of : PlainArg → Option Need
zone_need_of (Needed e) = None
zone_need_of (Optional name held at) = zone_named name.text

-- a need, or this one for the variable of a world zone
abbrev pub with_zone : Need → Need → Need
with_zone variable needs.WorldZone = variable
with_zone variable need = need

-- a need in a call with these arguments
abbrev pub need_in : PlainArgs → Need → Need
need_in args needs.WorldZone = zone_need args
need_in args need = need

-- a predefined instruction, called with these arguments
abbrev pub instruction_signature : Instruction → PlainArgs → Signature
instruction_signature i args = record { needs = map (need_in args) (instruction_needs i); options = options i; choice = choice i; arm = needs_arm i }
