-- RETURN and RAISE.
use Rattle.std.proofs.Common.{◌≡◌, ◌↔◌, ℕ, not, Option, Some, None, Ok}
use Rattle.raw_trees.specs.Plain.{PlainExpr}
use Rattle.rapid_model.specs.declared.routine_kind.RoutineKind.{RoutineKind}
use Rattle.rapid_model.specs.declared.routine_kind.RoutineKind.TheVariants as kinds
use Rattle.rapid_model.specs.declared.sort.Sort.{Sort}
use Rattle.rapid_model.specs.declared.sort.Sort.TheVariants as sorts
use Rattle.typed_trees.specs.Plain
use Rattle.typed_trees.specs.Plain.{TypedStmt}
use Rattle.rule_checks.specs.declared.rule.TypeRule.TheVariants.{HandlerOnly, ReturnKind}
use Rattle.data_scopes.specs.Called.{result_of}
use Rattle.rule_checks.specs.Checks.{◌>>=◌, must}
use Rattle.named_data.specs.declared.wanted.Wanted.TheVariants.{Any, Is}
use Rattle.named_data.specs.Rules.{Site, at_byte}
use Rattle.expr_types.specs.Typing.{typed}
use Rattle.stmt_types.specs.Bodies.{Body, Around, is_function, returned_value, returned, raised}
use Rattle.type_laws.proofs.Steps.{done, never, then, never_after, where_it_holds}
use Rattle.type_laws.proofs.ExpressionLaws.{typed_law}
use Rattle.type_laws.specs.Statements.{IsReturnedValue, IsReturn, IsRaise}

no_value_law : (body : Body) (s : Site) (at : ℕ) (kind : RoutineKind) (t : TypedStmt)
    → ((must (not (is_function kind)) (at_byte s at ReturnKind) >>= (λ _. Ok (Plain.Return at None))) ≡ Ok t) ↔ IsReturn body s at None kind t
no_value_law body s at kinds.Func t = never _ t
no_value_law body s at kind t = done (Plain.Return at None) t

value_law : (s : Site) (at : ℕ) (e : PlainExpr) (kind : RoutineKind) (sort : Option Sort) (t : TypedStmt) → (returned_value s at e kind sort ≡ Ok t) ↔ IsReturnedValue s at e kind sort t
value_law s at e kinds.Func (Some sort) t = then (typed s e (Is sort)) _ t (typed_law s e (Is sort)) (λ u. done (Plain.Return at (Some u)) t)
value_law s at e kind sort t = never_after (typed s e Any) _ t (λ u. never _ t)

pub return_law : (body : Body) (s : Site) (at : ℕ) (value : Option PlainExpr) (t : TypedStmt) → (returned body s at value ≡ Ok t) ↔ IsReturn body s at value body.kind t
return_law body s at None t = no_value_law body s at body.kind t
return_law body s at (Some e) t = value_law s at e body.kind (result_of s.names.rows body.routine) t

pub raise_law : (around : Around) (s : Site) (at : ℕ) (number : Option PlainExpr) (t : TypedStmt) → (raised around s at number ≡ Ok t) ↔ IsRaise around s at number t
raise_law around s at None t = where_it_holds s around.handler at HandlerOnly _ t (done (Plain.Raise at None) t)
raise_law around s at (Some e) t = then (typed s e (Is sorts.Num)) _ t (typed_law s e (Is sorts.Num)) (λ u. done (Plain.Raise at (Some u)) t)
