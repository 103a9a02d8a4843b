-- Elements of arrays, one after the other.
use Rattle.std.proofs.Common.{◌≡◌, ℕ, ◌+◌, ◌<◌, ◌≤◌, suc, Bool, true, false, ◌&&◌, List, [], ◌∷◌, ◌++◌, length, get_or, map, drop, Ok, Err, refl, sym, ap, ◌∙◌}
use Rattle.std.specs.List.{list_all}
use Rattle.std.proofs.lemmas.List.{at_drop_all, at_drop_more, append-nil, length-map}
use Rattle.std.proofs.Math.Bool.{and-false}
use Rattle.raw_trees.specs.declared.raw_expr.RawExpr.{RawExpr}
use Rattle.raw_trees.specs.Plain.{exprs_of as raw_exprs_of}
use Rattle.raw_trees.specs.Views.{view_expr as view_raw}
use Rattle.rapid_model.specs.declared.sort.Sort.{Sort}
use Rattle.rapid_model.specs.declared.value.Value.{Value}
use Rattle.typed_trees.specs.declared.expr.Expr.{Expr}
use Rattle.typed_trees.specs.Plain
use Rattle.typed_trees.specs.Plain.{TypedExpr, TypedExprs, exprs_of}
use Rattle.typed_trees.specs.Views.{view_expr}
use Rattle.constant_meaning.specs.Constants.{Outcomes, all, stops, and_more}
use Rattle.constant_meaning.specs.declared.outcome.Outcome.{Outcome}
use Rattle.constant_meaning.specs.declared.outcome.Outcome.TheVariants as outcomes
use Rattle.constant_meaning.proofs.Lists.{behind}
use Rattle.rule_checks.specs.declared.fault.TypeFault.{TypeFault}
use Rattle.rule_checks.specs.declared.fault.TypeFault.TheVariants.{Rule, Memory}
use Rattle.rule_checks.specs.declared.rule.TypeRule.{TypeRule}
use Rattle.rule_checks.specs.declared.rule.TypeRule.TheVariants.{ConstFault}
use Rattle.rule_checks.specs.Checks.{◌>>=◌, must}
use Rattle.rule_checks.specs.TypeChecks.{TypeBreak, Fails}
use Rattle.rapid_model.specs.Sorts.{is_value_of}
use Rattle.named_data.specs.declared.wanted.Wanted.TheVariants.{Is}
use Rattle.named_data.specs.Rules.{Site, fail, at_byte}
use Rattle.expr_types.specs.Typing.{typed}
use Rattle.expr_types.proofs.Loops.{then_more}
use Rattle.decl_types.specs.Values.{array_elements, how_many, value_or_fault, values_or_fault}

-- the elements from one on
pub elements_more : (site : Site) (sort : Sort) (list : List RawExpr) (i : ℕ) (e : RawExpr) → i < length list → e ≡ get_or list i e →
    array_elements site sort (raw_exprs_of (map view_raw (drop i list)))
    ≡ (typed site (view_raw e) (Is sort) >>= (λ t. then_more Plain.MoreExprs t (array_elements site sort (raw_exprs_of (map view_raw (drop (i + 1) list))))))
elements_more site sort list i e lt is =
    at_drop_more (λ left. array_elements site sort (raw_exprs_of (map view_raw left))) list i e lt
    ∙ ap (λ x. typed site (view_raw x) (Is sort) >>= (λ t. then_more Plain.MoreExprs t (array_elements site sort (raw_exprs_of (map view_raw (drop (i + 1) list)))))) (sym is)

pub elements_end : (site : Site) (sort : Sort) (list : List RawExpr) (i : ℕ) → length list ≤ i →
    array_elements site sort (raw_exprs_of (map view_raw (drop i list))) ≡ Ok Plain.NoExprs
elements_end site sort list i le = at_drop_all (λ left. array_elements site sort (raw_exprs_of (map view_raw left))) list i le

-- there are as many elements as trees that they are made of
trees_counted : (es : List TypedExpr) → how_many (exprs_of es) ≡ length es
trees_counted [] = refl
trees_counted (e ∷ es) = ap (λ (n : ℕ). suc n) (trees_counted es)

pub all_counted : (es : List Expr) → how_many (exprs_of (map view_expr es)) ≡ length es
all_counted es = trees_counted (map view_expr es) ∙ length-map es view_expr

-- a value that is found is of the type
pub record IsFound (sort : Sort) (v : Value) (outcome : Outcome) : Type 0 where
  pub is : outcome ≡ outcomes.Value v
  pub fits : is_value_of sort v ≡ true

-- if a rule and what follows it give a result, the rule holds
pub held_if : {A : Type 0} (site : Site) (at : ℕ) (rule : TypeRule) (holds : Bool) (w v : A) → (must holds (at_byte site at rule) >>= (λ _. Ok w)) ≡ Ok v → (w ≡ v) × (holds ≡ true)
held_if site at rule true w v is = (cc, refl)
held_if site at rule false w v is = absurd cc

pub found : (site : Site) (at : ℕ) (sort : Sort) (v : Value) (outcome : Outcome) → value_or_fault site at sort outcome ≡ Ok v → IsFound sort v outcome
found site at sort v (outcomes.Value w) is =
    let both = held_if site at ConstFault (is_value_of sort w) w v is in
    record { is = ap outcomes.Value both.0; fits = ap (is_value_of sort) (sym both.0) ∙ both.1 }
found site at sort v (outcomes.Raises n) is = absurd cc
found site at sort v outcomes.OutOfRange is = absurd cc
found site at sort v outcomes.OutOfArray is = absurd cc
found site at sort v outcomes.NotKnown is = absurd cc

pub all_found : (site : Site) (at : ℕ) (sort : Sort) (front : List Value) → list_all (is_value_of sort) front ≡ true →
    values_or_fault site at sort (behind front (all [])) ≡ Ok front
all_found site at sort front fit =
    ap (λ vs. values_or_fault site at sort (all vs)) (append-nil front)
    ∙ ap (λ b. must b (at_byte site at ConstFault) >>= (λ _. Ok front)) fit

-- one that is not a value of the type
unfit : (sort : Sort) (front : List Value) (v : Value) (vs : List Value) → is_value_of sort v ≡ false → list_all (is_value_of sort) (front ++ v ∷ vs) ≡ false
unfit sort [] v vs fails = ap (λ b. b && list_all (is_value_of sort) vs) fails
unfit sort (w ∷ front) v vs fails = ap (λ b. is_value_of sort w && b) (unfit sort front v vs fails) ∙ and-false (is_value_of sort w)

stopped_if : (site : Site) (at : ℕ) (fits fit : Bool) (v : Value) (vs : List Value) (broken : TypeBreak) → (fits ≡ false → fit ≡ false) →
    (must fits (at_byte site at ConstFault) >>= (λ _. Ok v)) ≡ Err broken → (must fit (at_byte site at ConstFault) >>= (λ _. Ok vs)) ≡ Err broken
stopped_if site at true fit v vs broken unless is = absurd cc
stopped_if site at false fit v vs broken unless is =
    ap (λ b. must b (at_byte site at ConstFault) >>= (λ _. Ok vs)) (unless refl) ∙ ap (λ checked. checked >>= (λ _. fail site at ConstFault)) is

stopped : (site : Site) (at : ℕ) (sort : Sort) (front : List Value) (outcome : Outcome) (more : Outcomes) (broken : TypeBreak) →
    value_or_fault site at sort outcome ≡ Err broken → values_or_fault site at sort (behind front (and_more outcome more)) ≡ Err broken
stopped site at sort front (outcomes.Value v) (all vs) broken is =
    stopped_if site at (is_value_of sort v) (list_all (is_value_of sort) (front ++ v ∷ vs)) v (front ++ v ∷ vs) broken (unfit sort front v vs) is
stopped site at sort front (outcomes.Value v) (stops other) broken is = stopped_if site at (is_value_of sort v) false v [] broken (λ _. refl) is
stopped site at sort front other more broken is = ap (λ checked. checked >>= (λ _. fail site at ConstFault)) is

pub stops_at : (site : Site) (at : ℕ) (sort : Sort) (front : List Value) (outcome : Outcome) (more : Outcomes) (fault : TypeFault) →
    Fails fault (value_or_fault site at sort outcome) → Fails fault (values_or_fault site at sort (behind front (and_more outcome more)))
stops_at site at sort front outcome more (Rule number byte rule) is = stopped site at sort front outcome more _ is
stops_at site at sort front outcome more Memory is = tt
