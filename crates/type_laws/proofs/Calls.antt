-- What is called, options among arguments, and the rules of a call.
use Rattle.std.proofs.Common.{◌≡◌, ◌↔◌, ℕ, Bool, false, not, ◌||◌, nat_lt, List, [], ◌∷◌, length, Option, Some, None, Ok, refl, subst}
use Rattle.std.proofs.lemmas.Bool.{not-true, not_from_false}
use Rattle.raw_trees.specs.Plain.{PlainName, PlainExpr, PlainArgs}
use Rattle.rapid_model.specs.declared.routine_kind.RoutineKind.{RoutineKind}
use Rattle.rapid_model.specs.declared.routine_kind.RoutineKind.TheVariants as kinds
use Rattle.rapid_model.specs.declared.sort.Sort.{Sort}
use Rattle.rapid_builtins.specs.Calls.{OptionRow}
use Rattle.rapid_builtins.specs.declared.need.Need.{Need}
use Rattle.typed_trees.specs.Plain
use Rattle.typed_trees.specs.Plain.{TypedExpr, TypedHeld, TypedArg, NoArgument, Argument}
use Rattle.rule_checks.specs.declared.rule.TypeRule.TheVariants.{ArgCount, ArgName, NoArm}
use Rattle.data_scopes.specs.declared.meant.Meant.{Meant}
use Rattle.data_scopes.specs.declared.meant.Meant.TheVariants as meants
use Rattle.data_scopes.specs.Called.{kind_of, result_of}
use Rattle.rule_checks.specs.Checks.{◌>>=◌, must}
use Rattle.rule_checks.specs.TypeChecks.{Checked}
use Rattle.named_data.specs.declared.wanted.Wanted.{Wanted}
use Rattle.named_data.specs.declared.wanted.Wanted.TheVariants.{Any}
use Rattle.named_data.specs.Data.{named}
use Rattle.named_data.specs.Rules.{Site, at_byte}
use Rattle.expr_types.specs.Arguments.{argument}
use Rattle.expr_types.specs.Calls.{Called, Signature, Taking, routine_function, function_meant, function_at, are_counted, are_chosen, call_rules, needed, is_excluded, plain_option, valued_option}
use Rattle.type_laws.specs.Calls.{Values, Indexes, IsArgument, IsNeeded, IsPlainOption, IsValuedOption, IsCall, IsRoutine, IsFunctionMeant, IsFunction}
use Rattle.type_laws.proofs.Steps.{in_words, neither, done, never, then, never_after, where_it_holds, it_holds}
use Rattle.type_laws.proofs.Arguments.{PartsAre, value_law, argument_law}

routine_law : (s : Site) (at routine : ℕ) (kind : Option RoutineKind) (sort : Option Sort) (called : Called) → (routine_function s at routine kind sort ≡ Ok called) ↔ IsRoutine s routine kind sort called
routine_law s at routine (Some kinds.Func) (Some sort) called = done _ called
routine_law s at routine kind sort called = never _ called

function_meant_law : (s : Site) (at : ℕ) (meant : Option Meant) (called : Called) → (function_meant s at meant ≡ Ok called) ↔ IsFunctionMeant s meant called
function_meant_law s at None called = never _ called
function_meant_law s at (Some (meants.Function f)) called = done _ called
function_meant_law s at (Some (meants.Routine routine)) called = routine_law s at routine (kind_of s.names.rows routine) (result_of s.names.rows routine) called
function_meant_law s at (Some _) called = never _ called

pub function_law : (s : Site) (name : PlainName) (called : Called) → (function_at s name ≡ Ok called) ↔ IsFunction s name called
function_law s name called = function_meant_law s name.at (named s name) called

pub call_law : (s : Site) (at : ℕ) (signature : Signature) (args : PlainArgs) (t : Unit {0}) → (call_rules s at signature args ≡ Ok t) ↔ IsCall s signature args
call_law s at signature args t =
    in_words
    (where_it_holds s (are_counted args (length signature.needs)) at ArgCount _ t (
    where_it_holds s (are_chosen signature.choice args) at ArgName _ t (
    it_holds (not signature.arm || nat_lt 0 s.names.axes) (at_byte s at NoArm) t)))
    (λ (counted, (chosen, armed)). record { counted = counted; chosen = chosen; armed = armed })
    (λ h. (h.counted, (h.chosen, h.armed)))

pub needed_law : {value : Wanted → Checked TypedExpr} {index : Checked TypedHeld} {IsValue : Values} {IsIndexed : Indexes} (s : Site) (needs : List Need) (e : PlainExpr) (arg : TypedArg)
    → PartsAre e value index IsValue IsIndexed → (needed s needs e value index ≡ Ok arg) ↔ IsNeeded s needs e IsValue IsIndexed arg
needed_law {value} s [] e arg law = value_law value Any arg law.as_value
needed_law s (need ∷ more) e arg law = argument_law s need e arg law

-- an option is allowed
may_stand_law : {P : Type 0} (s : Site) (excluded : Bool) (at : ℕ) (rest : Checked TypedArg) (arg : TypedArg) → ((rest ≡ Ok arg) ↔ P)
    → ((must (not excluded) (at_byte s at ArgName) >>= (λ _. rest)) ≡ Ok arg) ↔ ((excluded ≡ false) × P)
may_stand_law s excluded at rest arg next =
    in_words (where_it_holds s (not excluded) at ArgName rest arg next) (λ (may, is). (not-true excluded may, is)) (λ (may, is). (not_from_false excluded may, is))

-- an option that takes this
abbrev taking_value : List ℕ → Option Need → OptionRow
taking_value name value = record { name = name; value = value }

plain_by : (s : Site) (t : Taking) (at : ℕ) (name : List ℕ) (need : Option Need) (arg : TypedArg)
    → (plain_option s t at (Some (taking_value name need)) ≡ Ok arg) ↔ IsPlainOption t (Some (taking_value name need)) arg
plain_by s t at name None arg =
    in_words (may_stand_law s (is_excluded t.choice name t.before) at _ arg (done (Plain.Optional name NoArgument) arg)) (λ (may, is). (refl, may, is)) (λ (none, may, is). (may, is))
plain_by s t at name (Some need) arg = neither (never _ arg) (λ (none, may, is). cc)

pub plain_option_law : (s : Site) (t : Taking) (at : ℕ) (row : Option OptionRow) (arg : TypedArg) → (plain_option s t at row ≡ Ok arg) ↔ IsPlainOption t row arg
plain_option_law s t at None arg = never _ arg
plain_option_law s t at (Some row) arg = plain_by s t at row.name row.value arg

valued_by : {value : Wanted → Checked TypedExpr} {index : Checked TypedHeld} {IsValue : Values} {IsIndexed : Indexes} (s : Site) (t : Taking) (at : ℕ) (name : List ℕ) (need : Option Need) (e : PlainExpr) (arg : TypedArg)
    → PartsAre e value index IsValue IsIndexed → (valued_option s t at (Some (taking_value name need)) e value index ≡ Ok arg) ↔ IsValuedOption s t (Some (taking_value name need)) e IsValue IsIndexed arg
valued_by {value} s t at name None e arg law = neither (never_after (value Any) _ arg (λ x. never _ arg)) (λ (n, x, some, given, may, is). cc)
valued_by {value} {index} {IsValue} {IsIndexed} s t at name (Some need) e arg law =
    in_words
    (then (argument s need e value index) _ arg (λ x. argument_law s need e x law) (λ x. may_stand_law s (is_excluded t.choice name t.before) at _ arg (done (Plain.Optional name (Argument x)) arg)))
    (λ (x, given, (may, is)). (need, x, refl, given, may, is))
    (λ (n, x, some, given, may, is). let same : n ≡ need = cc in (x, subst (λ n. IsArgument s n e IsValue IsIndexed x) same given, (may, is)))

pub valued_option_law : {value : Wanted → Checked TypedExpr} {index : Checked TypedHeld} {IsValue : Values} {IsIndexed : Indexes} (s : Site) (t : Taking) (at : ℕ) (row : Option OptionRow) (e : PlainExpr) (arg : TypedArg)
    → PartsAre e value index IsValue IsIndexed → (valued_option s t at row e value index ≡ Ok arg) ↔ IsValuedOption s t row e IsValue IsIndexed arg
valued_option_law {value} s t at None e arg law = never_after (value Any) _ arg (λ x. never _ arg)
valued_option_law s t at (Some row) e arg law = valued_by s t at row.name row.value e arg law
