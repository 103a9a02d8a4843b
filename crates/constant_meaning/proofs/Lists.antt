-- Lists of expressions, evaluated one after the other.
use Rattle.std.proofs.Common.{◌≡◌, ℕ, ◌+◌, ◌<◌, ◌≤◌, Bool, ◌&&◌, List, [], ◌∷◌, ◌++◌, length, get_or, map, drop, None, refl, sym, ap, ◌∙◌, arith, length-append, true, false, if◌then◌else◌}
use Rattle.std.proofs.lemmas.List.{at_drop_all, at_drop_more, append_assoc, append-nil}
use Rattle.std.specs.declared.alloc.Global.{Global}
use Rattle.std.specs.declared.boxed.Box.{Box}
use Rattle.std.specs.declared.vec.Vec.{Vec}
use Rattle.rapid_model.specs.declared.sort.Sort.{Sort}
use Rattle.rapid_model.specs.declared.sort.Sort.TheVariants as sorts
use Rattle.rapid_model.specs.declared.value.Value.{Value}
use Rattle.rapid_model.specs.declared.value.Value.TheVariants as values
use Rattle.rapid_model.specs.declared.operator.Operator.{Operator}
use Rattle.rapid_values.specs.Values.{made_of}
use Rattle.rapid_values.proofs.Lists.{other_count}
use Rattle.typed_trees.specs.declared.expr.Expr.{Expr}
use Rattle.typed_trees.specs.declared.expr.ExprForm.{Aggregate, Chain}
use Rattle.typed_trees.specs.Plain.{exprs_of, steps_of}
use Rattle.typed_trees.specs.Views.{view_expr, view_form, view_step}
use Rattle.typed_trees.proofs.Rows.{aggregate_view, chain_view}
use Rattle.constant_meaning.specs.declared.outcome.Outcome.{Outcome}
use Rattle.constant_meaning.specs.declared.outcome.Outcome.TheVariants as outcomes
use Rattle.constant_meaning.specs.Constants.{Elements, Outcomes, all, stops, along, and_more, are_constant, are_constant_steps, between, constant_value, constant_values, is_constant, made, value_or_not_known}

-- outcomes after values that are already there
abbrev pub behind : List Value → Outcomes → Outcomes
behind front (all vs) = all (front ++ vs)
behind front (stops other) = stops other

-- no record type has seven components
too_many : (sort : Sort) (vs : List Value) → 7 ≤ length vs → made_of sort vs ≡ None
too_many sorts.RobJoint vs many = other_count 6 values.Rob vs (λ e. omega (arith, e, many))
too_many sorts.ExtJoint vs many = other_count 6 values.Ext vs (λ e. omega (arith, e, many))
too_many sorts.SpeedData vs many = other_count 4 values.Speed vs (λ e. omega (arith, e, many))
too_many sorts.JointTarget [] many = absurd (omega (arith, many))
too_many sorts.JointTarget (v ∷ []) many = absurd (omega (arith, many))
too_many sorts.JointTarget (v ∷ w ∷ []) many = absurd (omega (arith, many))
too_many sorts.JointTarget (values.Rob rob ∷ values.Ext ext ∷ x ∷ vs) many = refl
too_many sorts.JointTarget (v ∷ w ∷ x ∷ vs) many = refl
too_many sorts.Tasks [] many = refl
too_many sorts.Tasks (v ∷ []) many = absurd (omega (arith, many))
too_many sorts.Tasks (values.Text text ∷ w ∷ vs) many = refl
too_many sorts.Tasks (v ∷ w ∷ vs) many = refl
too_many sort vs many = refl

-- the values from one on
pub values_more : (known : Elements) (list : List Expr) (i : ℕ) (e : Expr) → i < length list → e ≡ get_or list i e →
    constant_values known (exprs_of (map view_expr (drop i list))) ≡ and_more (constant_value known (view_expr e)) (constant_values known (exprs_of (map view_expr (drop (i + 1) list))))
unfolding constant_values
values_more known list i e lt is =
    at_drop_more (λ left. constant_values known (exprs_of (map view_expr left))) list i e lt
    ∙ ap (λ x. and_more (constant_value known (view_expr x)) (constant_values known (exprs_of (map view_expr (drop (i + 1) list))))) (sym is)

pub values_end : (known : Elements) (list : List Expr) (i : ℕ) → length list ≤ i → constant_values known (exprs_of (map view_expr (drop i list))) ≡ all []
unfolding constant_values
values_end known list i le = at_drop_all (λ left. constant_values known (exprs_of (map view_expr left))) list i le

-- one outcome that is not a value
pub stopped : (sort : Sort) (front : List Value) (one : Outcome) (more : Outcomes) → ((v : Value) → one ≡ outcomes.Value v → ⊥) →
    made sort (behind front (and_more one more)) ≡ one
stopped sort front (outcomes.Value v) more differs = absurd (differs v refl)
stopped sort front one more differs = refl

-- one that is kept
pub kept : (front : List Value) (v : Value) (more : Outcomes) → behind front (and_more (outcomes.Value v) more) ≡ behind (front ++ v ∷ []) more
kept front v (all vs) = ap all (sym (append_assoc front (v ∷ []) vs))
kept front v (stops other) = refl

-- one too many
not_kept : (sort : Sort) (front : List Value) (v : Value) (more : Outcomes) → length front ≡ 7 →
    made sort (behind front (and_more (outcomes.Value v) more)) ≡ made sort (behind front more)
not_kept sort front v (all vs) full = ap value_or_not_known (too_many sort (front ++ v ∷ vs) (rw (length-append front (v ∷ vs)) (omega arith)) ∙ sym (too_many sort (front ++ vs) (rw (length-append front vs) (omega arith))))
not_kept sort front v (stops other) full = refl

-- one more, if there is room for it
pub keeps : (room : Bool) (sort : Sort) (front after : List Value) (v : Value) (more : Outcomes) → after ≡ (if room then front ++ v ∷ [] else front) → (room ≡ false → length front ≡ 7) →
    made sort (behind after more) ≡ made sort (behind front (and_more (outcomes.Value v) more))
keeps true sort front after v more is full = ap (λ vs. made sort (behind vs more)) is ∙ ap (made sort) (sym (kept front v more))
keeps false sort front after v more is full = ap (λ vs. made sort (behind vs more)) is ∙ sym (not_kept sort front v more (full refl))

-- nothing more
pub made_now : (sort : Sort) (front : List Value) → made sort (behind front (all [])) ≡ value_or_not_known (made_of sort front)
made_now sort front = ap (λ vs. value_or_not_known (made_of sort vs)) (append-nil front)

pub aggregate_value : (known : Elements) (e : Expr) (components : Vec Expr Global) → e.form ≡ Aggregate components →
    constant_value known (view_expr e) ≡ made e.sort (constant_values known (exprs_of (map view_expr components.items)))
unfolding constant_value
aggregate_value known e components is =
    ap (λ form. constant_value known (view_form e.at e.sort form)) is ∙ ap (constant_value known) (aggregate_view e.at e.sort components)

-- the operators from one on
pub along_more : (known : Elements) (left : Outcome) (list : List (Operator × Expr)) (i : ℕ) (s : Operator × Expr) → i < length list → s ≡ get_or list i s →
    along known left (steps_of (map view_step (drop i list))) ≡ along known (between s.0 left (constant_value known (view_expr s.1))) (steps_of (map view_step (drop (i + 1) list)))
unfolding along
along_more known left list i s lt is =
    at_drop_more (λ rest. along known left (steps_of (map view_step rest))) list i s lt
    ∙ ap (λ x. along known (between x.0 left (constant_value known (view_expr x.1))) (steps_of (map view_step (drop (i + 1) list)))) (sym is)

pub along_end : (known : Elements) (left : Outcome) (list : List (Operator × Expr)) (i : ℕ) → length list ≤ i → along known left (steps_of (map view_step (drop i list))) ≡ left
unfolding along
along_end known left list i le = at_drop_all (λ rest. along known left (steps_of (map view_step rest))) list i le

pub chain_value : (known : Elements) (e : Expr) (first : Box Expr Global) (rest : Vec (Operator × Expr) Global) → e.form ≡ Chain first rest →
    constant_value known (view_expr e) ≡ along known (constant_value known (view_expr first.value)) (steps_of (map view_step rest.items))
unfolding constant_value
chain_value known e first rest is =
    ap (λ form. constant_value known (view_form e.at e.sort form)) is ∙ ap (constant_value known) (chain_view e.at e.sort first rest)

-- whether those from one on are constant
pub constant_more : (known : Elements) (list : List Expr) (i : ℕ) (e : Expr) → i < length list → e ≡ get_or list i e →
    are_constant known (exprs_of (map view_expr (drop i list))) ≡ (is_constant known (view_expr e) && are_constant known (exprs_of (map view_expr (drop (i + 1) list))))
unfolding are_constant
constant_more known list i e lt is =
    at_drop_more (λ left. are_constant known (exprs_of (map view_expr left))) list i e lt
    ∙ ap (λ x. is_constant known (view_expr x) && are_constant known (exprs_of (map view_expr (drop (i + 1) list)))) (sym is)

pub constant_end : (known : Elements) (list : List Expr) (i : ℕ) → length list ≤ i → are_constant known (exprs_of (map view_expr (drop i list))) ≡ true
unfolding are_constant
constant_end known list i le = at_drop_all (λ left. are_constant known (exprs_of (map view_expr left))) list i le

pub constant_steps_more : (known : Elements) (list : List (Operator × Expr)) (i : ℕ) (s : Operator × Expr) → i < length list → s ≡ get_or list i s →
    are_constant_steps known (steps_of (map view_step (drop i list))) ≡ (is_constant known (view_expr s.1) && are_constant_steps known (steps_of (map view_step (drop (i + 1) list))))
unfolding are_constant_steps
constant_steps_more known list i s lt is =
    at_drop_more (λ rest. are_constant_steps known (steps_of (map view_step rest))) list i s lt
    ∙ ap (λ x. is_constant known (view_expr x.1) && are_constant_steps known (steps_of (map view_step (drop (i + 1) list)))) (sym is)

pub constant_steps_end : (known : Elements) (list : List (Operator × Expr)) (i : ℕ) → length list ≤ i → are_constant_steps known (steps_of (map view_step (drop i list))) ≡ true
unfolding are_constant_steps
constant_steps_end known list i le = at_drop_all (λ rest. are_constant_steps known (steps_of (map view_step rest))) list i le

pub constant_aggregate : (known : Elements) (e : Expr) (components : Vec Expr Global) → e.form ≡ Aggregate components →
    is_constant known (view_expr e) ≡ are_constant known (exprs_of (map view_expr components.items))
unfolding is_constant
constant_aggregate known e components is =
    ap (λ form. is_constant known (view_form e.at e.sort form)) is ∙ ap (is_constant known) (aggregate_view e.at e.sort components)

pub constant_chain : (known : Elements) (e : Expr) (first : Box Expr Global) (rest : Vec (Operator × Expr) Global) → e.form ≡ Chain first rest →
    is_constant known (view_expr e) ≡ (is_constant known (view_expr first.value) && are_constant_steps known (steps_of (map view_step rest.items)))
unfolding is_constant
constant_chain known e first rest is =
    ap (λ form. is_constant known (view_form e.at e.sort form)) is ∙ ap (is_constant known) (chain_view e.at e.sort first rest)
