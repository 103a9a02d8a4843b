-- The bounds of a FOR, and the values of a CASE.
use Rattle.std.proofs.Common.{◌≡◌, ◌↔◌, List, [], ◌∷◌, Option, Some, None, Ok, refl, sym, subst}
use Rattle.raw_trees.specs.Plain.{PlainExpr}
use Rattle.rapid_model.specs.declared.sort.Sort.{Sort}
use Rattle.rapid_model.specs.declared.sort.Sort.TheVariants as sorts
use Rattle.typed_trees.specs.Plain
use Rattle.typed_trees.specs.Plain.{TypedExpr, TypedExprs}
use Rattle.named_data.specs.declared.wanted.Wanted.TheVariants.{Is, Same}
use Rattle.named_data.specs.Rules.{Site}
use Rattle.expr_types.specs.Typing.{typed}
use Rattle.stmt_types.specs.Bodies.{Bounds, step_of, bounds, case_values}
use Rattle.type_laws.specs.Expressions.{IsExpr}
use Rattle.type_laws.proofs.Steps.{in_words, done, then, both}
use Rattle.type_laws.proofs.ExpressionLaws.{typed_law}
use Rattle.type_laws.specs.Statements.{IsStep, AreCaseValues}

step_law : (s : Site) (step : Option PlainExpr) (u : Option TypedExpr) → (step_of s step ≡ Ok u) ↔ IsStep s step u
step_law s None u = done None u
step_law s (Some e) u = then (typed s e (Is sorts.Num)) _ u (typed_law s e (Is sorts.Num)) (λ t. done (Some t) u)

abbrev pub AreBounds : Site → PlainExpr → PlainExpr → Option PlainExpr → Bounds → Type 0
AreBounds s first last step b = IsExpr s first (Is sorts.Num) b.first × IsExpr s last (Is sorts.Num) b.last × IsStep s step b.step

pub bounds_law : (s : Site) (first last : PlainExpr) (step : Option PlainExpr) (b : Bounds) → (bounds s first last step ≡ Ok b) ↔ AreBounds s first last step b
bounds_law s first last step b =
    in_words
    (then (typed s first (Is sorts.Num)) _ b (typed_law s first (Is sorts.Num)) (λ f.
    then (typed s last (Is sorts.Num)) _ b (typed_law s last (Is sorts.Num)) (λ l.
    then (step_of s step) _ b (step_law s step) (λ u. done (record { first = f; last = l; step = u }) b))))
    (λ (f, is_first, (l, is_last, (u, is_step, same))). subst (AreBounds s first last step) (sym same) (is_first, is_last, is_step))
    (λ (is_first, is_last, is_step). (b.first, is_first, (b.last, is_last, (b.step, is_step, refl))))

pub case_values_law : (s : Site) (sort : Sort) (es : List PlainExpr) (us : TypedExprs) → (case_values s sort es ≡ Ok us) ↔ AreCaseValues s sort es us
case_values_law s sort [] us = done Plain.NoExprs us
case_values_law s sort (e ∷ es) us =
    both (typed s e (Same sort)) (case_values s sort es) Plain.MoreExprs us (typed_law s e (Same sort)) (case_values_law s sort es)
