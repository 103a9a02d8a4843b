-- Procedures of the task and instructions, with their arguments.
use Rattle.std.proofs.Common.{◌≡◌, ◌↔◌, ℕ, Option, Some, None, Ok, refl, sym, subst}
use Rattle.raw_trees.specs.Plain.{PlainName, PlainArgs}
use Rattle.rapid_model.specs.declared.routine_kind.RoutineKind.{RoutineKind}
use Rattle.rapid_model.specs.declared.routine_kind.RoutineKind.TheVariants as kinds
use Rattle.typed_trees.specs.Plain
use Rattle.typed_trees.specs.Plain.{TypedArgs, TypedStmt}
use Rattle.data_scopes.specs.declared.meant.Meant.{Meant}
use Rattle.data_scopes.specs.declared.meant.Meant.TheVariants as meants
use Rattle.data_scopes.specs.Called.{kind_of, params_of}
use Rattle.named_data.specs.Rules.{Site}
use Rattle.expr_types.specs.Calls.{Signature, taking, routine_signature, instruction_signature, call_rules}
use Rattle.expr_types.specs.Typing.{arguments, call_arguments}
use Rattle.stmt_types.specs.Bodies.{procedure, call_meant}
use Rattle.type_laws.specs.Expressions.{AreArguments}
use Rattle.type_laws.proofs.Steps.{in_words, neither, done, never, then}
use Rattle.type_laws.proofs.Calls.{call_law}
use Rattle.type_laws.proofs.ExpressionLaws.{arguments_law}
use Rattle.type_laws.specs.Statements.{AreCallArguments, IsCalled}

call_arguments_law : (s : Site) (at : ℕ) (args : PlainArgs) (signature : Signature) (us : TypedArgs) → (call_arguments s at args signature ≡ Ok us) ↔ AreCallArguments s args signature us
call_arguments_law s at args signature us =
    in_words
    (then (arguments s args (taking signature)) _ us (arguments_law s args (taking signature)) (λ ts.
    then (call_rules s at signature args) _ us (call_law s at signature args) (λ _. done ts us)))
    (λ (ts, are, (_, rules, same)). (subst (AreArguments s args (taking signature)) (sym same) are, rules))
    (λ (are, rules). (us, are, (tt, rules, refl)))

procedure_law : (s : Site) (at : ℕ) (name : PlainName) (routine : ℕ) (args : PlainArgs) (kind : Option RoutineKind) (t : TypedStmt)
    → (procedure s at name routine args kind ≡ Ok t)
    ↔ ((us : TypedArgs) × (kind ≡ Some kinds.Proc) × AreCallArguments s args (routine_signature (params_of s.names.rows routine)) us × (t ≡ Plain.Call at routine us))
procedure_law s at name routine args (Some kinds.Proc) t =
    let signature : Signature = routine_signature (params_of s.names.rows routine) in
    in_words
    (then (call_arguments s at args signature) _ t (call_arguments_law s at args signature) (λ us. done (Plain.Call at routine us) t))
    (λ (us, are, is). (us, refl, are, is))
    (λ (us, proc, are, is). (us, are, is))
procedure_law s at name routine args kind t = neither (never _ t) (λ (us, proc, are, is). cc)

pub called_law : (s : Site) (at : ℕ) (name : PlainName) (args : PlainArgs) (meant : Option Meant) (t : TypedStmt) → (call_meant s at name args meant ≡ Ok t) ↔ IsCalled s at args meant t
called_law s at name args None t = never _ t
called_law s at name args (Some (meants.Instruction i)) t =
    then (call_arguments s at args (instruction_signature i args)) _ t (call_arguments_law s at args (instruction_signature i args)) (λ us. done (Plain.Instruct at i us) t)
called_law s at name args (Some (meants.Routine routine)) t = procedure_law s at name routine args (kind_of s.names.rows routine) t
called_law s at name args (Some _) t = never _ t
