-- Lists that are checked one element after the other.
use Rattle.std.proofs.Common.{◌≡◌, ℕ, ◌+◌, ◌<◌, ◌≤◌, List, [], ◌∷◌, ◌++◌, length, get_or, map, drop, Ok, Err, refl, sym, ap, ◌∙◌, length-append}
use Rattle.std.proofs.lemmas.List.{at_drop_all, at_drop_more, map_push, drop-drop}
use Rattle.rapid_model.specs.declared.operator.Operator.{Operator}
use Rattle.raw_trees.specs.declared.raw_expr.RawArg.{RawArg}
use Rattle.raw_trees.specs.declared.raw_expr.RawExpr.{RawExpr}
use Rattle.raw_trees.specs.Plain.{args_of as raw_args_of, exprs_of as raw_exprs_of, steps_of as raw_steps_of}
use Rattle.raw_trees.specs.Views.{view_arg as view_raw_arg, view_expr as view_raw, view_step as view_raw_step}
use Rattle.rapid_model.specs.declared.sort.Sort.{Sort}
use Rattle.rapid_values.specs.Components.{Component}
use Rattle.typed_trees.specs.declared.expr.Arg.{Arg}
use Rattle.typed_trees.specs.declared.expr.Expr.{Expr}
use Rattle.typed_trees.specs.Plain.{TypedArg, TypedArgs, TypedExpr, TypedExprs, NoArgs, NoExprs, NoSteps, MoreArgs, MoreExprs, MoreSteps, args_of, exprs_of, steps_of}
use Rattle.typed_trees.specs.Views.{view_arg, view_expr, view_step}
use Rattle.rule_checks.specs.declared.fault.TypeFault.{TypeFault}
use Rattle.rule_checks.specs.declared.fault.TypeFault.TheVariants.{Rule, Memory}
use Rattle.rule_checks.specs.declared.rule.TypeRule.TheVariants.{TypeClash}
use Rattle.rule_checks.specs.Checks.{◌>>=◌, must}
use Rattle.rule_checks.specs.TypeChecks.{TypeBreak, Checked, Fails}
use Rattle.named_data.specs.declared.wanted.Wanted.TheVariants.{Same}
use Rattle.named_data.specs.Rules.{Site, at_byte}
use Rattle.named_data.specs.Wants.{of_component, suits, comes_to}
use Rattle.expr_types.specs.Calls.{Taking, after}
use Rattle.expr_types.specs.Typing.{TypedRest, arguments, elements, one_argument, steps, typed}

-- a list in front of the rest
abbrev pub all : {X R : Type 0} → (X → R → R) → List X → R → R
all more [] r = r
all more (x ∷ xs) r = more x (all more xs r)

-- what is there, and what comes after it
abbrev pub behind : {X R : Type 0} → (X → R → R) → List X → Checked R → Checked R
behind more front (Ok r) = Ok (all more front r)
behind more front (Err b) = Err b

-- one more in front of what comes after
abbrev pub then_more : {X R : Type 0} → (X → R → R) → X → Checked R → Checked R
then_more more x rest = rest >>= (λ r. Ok (more x r))

abbrev pub more_steps : Operator × TypedExpr → TypedRest → TypedRest
more_steps s r = record { steps = MoreSteps s.0 s.1 r.steps; sort = r.sort }

all_push : {X R : Type 0} (more : X → R → R) (front : List X) (x : X) (r : R) → all more (front ++ x ∷ []) r ≡ all more front (more x r)
all_push more [] x r = refl
all_push more (y ∷ front) x r = ap (more y) (all_push more front x r)

pub goes_on : {X R : Type 0} (more : X → R → R) (front : List X) (x : X) (rest : Checked R) → behind more front (then_more more x rest) ≡ behind more (front ++ x ∷ []) rest
goes_on more front x (Ok r) = ap Ok (sym (all_push more front x r))
goes_on more front x (Err b) = refl

-- a rule broken by a step is broken by the whole
pub stops : {X R : Type 0} (f : Checked X → Checked R) → ((b : TypeBreak) → f (Err b) ≡ Err b) → (fault : TypeFault) (one : Checked X) (whole : Checked R) → whole ≡ f one → Fails fault one → Fails fault whole
stops f errs (Rule number at rule) one whole is h = is ∙ ap f h ∙ errs (record { «module» = number; at = at; rule = rule })
stops f errs Memory one whole is h = tt

pub all_exprs : (es : List TypedExpr) → all MoreExprs es NoExprs ≡ exprs_of es
all_exprs [] = refl
all_exprs (e ∷ es) = ap (MoreExprs e) (all_exprs es)

all_args : (args : List TypedArg) → all MoreArgs args NoArgs ≡ args_of args
all_args [] = refl
all_args (a ∷ args) = ap (MoreArgs a) (all_args args)

all_steps : (ss : List (Operator × TypedExpr)) (sort : Sort) → all more_steps ss (record { steps = NoSteps; sort = sort }) ≡ record { steps = steps_of ss; sort = sort }
all_steps [] sort = refl
all_steps (s ∷ ss) sort = ap (more_steps s) (all_steps ss sort)

-- the elements from one on
elements_more : (site : Site) (list : List RawExpr) (cs : List Component) (i : ℕ) (e : RawExpr) → i < length list → e ≡ get_or list i e →
    elements site (raw_exprs_of (map view_raw (drop i list))) cs
    ≡ (typed site (view_raw e) (of_component cs) >>= (λ t. then_more MoreExprs t (elements site (raw_exprs_of (map view_raw (drop (i + 1) list))) (drop 1 cs))))
unfolding elements
elements_more site list cs i e lt is =
    at_drop_more (λ left. elements site (raw_exprs_of (map view_raw left)) cs) list i e lt
    ∙ ap (λ x. typed site (view_raw x) (of_component cs) >>= (λ t. then_more MoreExprs t (elements site (raw_exprs_of (map view_raw (drop (i + 1) list))) (drop 1 cs)))) (sym is)

pub elements_step : (site : Site) (list : List RawExpr) (cs : List Component) (i : ℕ) (e : RawExpr) (front : List Expr) (value : Expr) → i < length list → e ≡ get_or list i e →
    typed site (view_raw e) (of_component (drop (length front) cs)) ≡ Ok (view_expr value) →
    behind MoreExprs (map view_expr front) (elements site (raw_exprs_of (map view_raw (drop i list))) (drop (length front) cs))
    ≡ behind MoreExprs (map view_expr (front ++ value ∷ [])) (elements site (raw_exprs_of (map view_raw (drop (i + 1) list))) (drop (length (front ++ value ∷ [])) cs))
elements_step site list cs i e front value lt is ok =
    let rest : List Component → Checked TypedExprs = λ left. elements site (raw_exprs_of (map view_raw (drop (i + 1) list))) left in
    let next : drop 1 (drop (length front) cs) ≡ drop (length (front ++ value ∷ [])) cs = rw (drop-drop, length-append front (value ∷ [])) refl in
    ap (behind MoreExprs (map view_expr front)) (elements_more site list (drop (length front) cs) i e lt is ∙ ap (λ r. r >>= (λ t. then_more MoreExprs t (rest (drop 1 (drop (length front) cs))))) ok)
    ∙ goes_on MoreExprs (map view_expr front) (view_expr value) (rest (drop 1 (drop (length front) cs)))
    ∙ ap (λ left. behind MoreExprs (map view_expr front ++ view_expr value ∷ []) (rest left)) next
    ∙ ap (λ done. behind MoreExprs done (rest (drop (length (front ++ value ∷ [])) cs))) (sym (map_push view_expr front value))

pub elements_stop : (site : Site) (list : List RawExpr) (cs : List Component) (i : ℕ) (e : RawExpr) (front : List Expr) (fault : TypeFault) (whole : Checked TypedExprs) → i < length list → e ≡ get_or list i e →
    behind MoreExprs (map view_expr front) (elements site (raw_exprs_of (map view_raw (drop i list))) (drop (length front) cs)) ≡ whole →
    Fails fault (typed site (view_raw e) (of_component (drop (length front) cs))) → Fails fault whole
elements_stop site list cs i e front fault whole lt is invariant h =
    stops (λ (r : Checked TypedExpr). behind MoreExprs (map view_expr front) (r >>= (λ t. then_more MoreExprs t (elements site (raw_exprs_of (map view_raw (drop (i + 1) list))) (drop 1 (drop (length front) cs))))))
    (λ b. refl) fault (typed site (view_raw e) (of_component (drop (length front) cs))) whole
    (sym invariant ∙ ap (behind MoreExprs (map view_expr front)) (elements_more site list (drop (length front) cs) i e lt is)) h

pub elements_end : (site : Site) (list : List RawExpr) (cs : List Component) (i : ℕ) (front : List Expr) → length list ≤ i →
    behind MoreExprs (map view_expr front) (elements site (raw_exprs_of (map view_raw (drop i list))) cs) ≡ Ok (exprs_of (map view_expr front))
unfolding elements
elements_end site list cs i front le =
    ap (behind MoreExprs (map view_expr front)) (at_drop_all (λ left. elements site (raw_exprs_of (map view_raw left)) cs) list i le)
    ∙ ap Ok (all_exprs (map view_expr front))

-- the operators from one on
steps_more : (site : Site) (list : List (Operator × RawExpr)) (at : ℕ) (left : Sort) (i : ℕ) (s : Operator × RawExpr) → i < length list → s ≡ get_or list i s →
    steps site (raw_steps_of (map view_raw_step (drop i list))) at left
    ≡ (must (suits s.0 left) (at_byte site at TypeClash) >>= (λ _. typed site (view_raw s.1) (Same left) >>= (λ t.
    then_more more_steps (s.0, t) (steps site (raw_steps_of (map view_raw_step (drop (i + 1) list))) at (comes_to s.0 left)))))
unfolding steps
steps_more site list at left i s lt is =
    at_drop_more (λ rest. steps site (raw_steps_of (map view_raw_step rest)) at left) list i s lt
    ∙ ap (λ (x : Operator × RawExpr). must (suits x.0 left) (at_byte site at TypeClash) >>= (λ _. typed site (view_raw x.1) (Same left) >>= (λ t.
    then_more more_steps (x.0, t) (steps site (raw_steps_of (map view_raw_step (drop (i + 1) list))) at (comes_to x.0 left))))) (sym is)

pub steps_step : (site : Site) (list : List (Operator × RawExpr)) (at : ℕ) (left : Sort) (i : ℕ) (s : Operator × RawExpr) (front : List (Operator × Expr)) (value : Expr) → i < length list → s ≡ get_or list i s →
    must (suits s.0 left) (at_byte site at TypeClash) ≡ Ok tt → typed site (view_raw s.1) (Same left) ≡ Ok (view_expr value) →
    behind more_steps (map view_step front) (steps site (raw_steps_of (map view_raw_step (drop i list))) at left)
    ≡ behind more_steps (map view_step (front ++ (s.0, value) ∷ [])) (steps site (raw_steps_of (map view_raw_step (drop (i + 1) list))) at (comes_to s.0 left))
steps_step site list at left i s front value lt is holds ok =
    let rest : Checked TypedRest = steps site (raw_steps_of (map view_raw_step (drop (i + 1) list))) at (comes_to s.0 left) in
    ap (behind more_steps (map view_step front)) (steps_more site list at left i s lt is
    ∙ ap (λ r. r >>= (λ _. typed site (view_raw s.1) (Same left) >>= (λ t. then_more more_steps (s.0, t) rest))) holds
    ∙ ap (λ r. r >>= (λ t. then_more more_steps (s.0, t) rest)) ok)
    ∙ goes_on more_steps (map view_step front) (s.0, view_expr value) rest
    ∙ ap (λ done. behind more_steps done rest) (sym (map_push view_step front (s.0, value)))

pub steps_clash : (site : Site) (list : List (Operator × RawExpr)) (at : ℕ) (left : Sort) (i : ℕ) (s : Operator × RawExpr) (front : List (Operator × Expr)) (fault : TypeFault) (whole : Checked TypedRest) → i < length list → s ≡ get_or list i s →
    behind more_steps (map view_step front) (steps site (raw_steps_of (map view_raw_step (drop i list))) at left) ≡ whole →
    Fails fault (must (suits s.0 left) (at_byte site at TypeClash)) → Fails fault whole
steps_clash site list at left i s front fault whole lt is invariant h =
    stops (λ (r : Checked (Unit {0})). behind more_steps (map view_step front) (r >>= (λ _. typed site (view_raw s.1) (Same left) >>= (λ t.
    then_more more_steps (s.0, t) (steps site (raw_steps_of (map view_raw_step (drop (i + 1) list))) at (comes_to s.0 left))))))
    (λ b. refl) fault (must (suits s.0 left) (at_byte site at TypeClash)) whole
    (sym invariant ∙ ap (behind more_steps (map view_step front)) (steps_more site list at left i s lt is)) h

pub steps_stop : (site : Site) (list : List (Operator × RawExpr)) (at : ℕ) (left : Sort) (i : ℕ) (s : Operator × RawExpr) (front : List (Operator × Expr)) (fault : TypeFault) (whole : Checked TypedRest) → i < length list → s ≡ get_or list i s →
    behind more_steps (map view_step front) (steps site (raw_steps_of (map view_raw_step (drop i list))) at left) ≡ whole →
    must (suits s.0 left) (at_byte site at TypeClash) ≡ Ok tt → Fails fault (typed site (view_raw s.1) (Same left)) → Fails fault whole
steps_stop site list at left i s front fault whole lt is invariant holds h =
    let rest : Checked TypedRest = steps site (raw_steps_of (map view_raw_step (drop (i + 1) list))) at (comes_to s.0 left) in
    stops (λ (r : Checked TypedExpr). behind more_steps (map view_step front) (r >>= (λ t. then_more more_steps (s.0, t) rest)))
    (λ b. refl) fault (typed site (view_raw s.1) (Same left)) whole
    (sym invariant ∙ ap (behind more_steps (map view_step front)) (steps_more site list at left i s lt is
    ∙ ap (λ r. r >>= (λ _. typed site (view_raw s.1) (Same left) >>= (λ t. then_more more_steps (s.0, t) rest))) holds)) h

pub steps_end : (site : Site) (list : List (Operator × RawExpr)) (at : ℕ) (left : Sort) (i : ℕ) (front : List (Operator × Expr)) → length list ≤ i →
    behind more_steps (map view_step front) (steps site (raw_steps_of (map view_raw_step (drop i list))) at left) ≡ Ok (record { steps = steps_of (map view_step front); sort = left })
unfolding steps
steps_end site list at left i front le =
    ap (behind more_steps (map view_step front)) (at_drop_all (λ rest. steps site (raw_steps_of (map view_raw_step rest)) at left) list i le)
    ∙ ap Ok (all_steps (map view_step front) left)

-- the arguments from one on
arguments_more : (site : Site) (list : List RawArg) (t : Taking) (i : ℕ) (a : RawArg) → i < length list → a ≡ get_or list i a →
    arguments site (raw_args_of (map view_raw_arg (drop i list))) t
    ≡ (one_argument site (view_raw_arg a) t >>= (λ x. then_more MoreArgs x (arguments site (raw_args_of (map view_raw_arg (drop (i + 1) list))) (after t (view_raw_arg a)))))
unfolding arguments
arguments_more site list t i a lt is =
    at_drop_more (λ left. arguments site (raw_args_of (map view_raw_arg left)) t) list i a lt
    ∙ ap (λ (x : RawArg). one_argument site (view_raw_arg x) t >>= (λ y. then_more MoreArgs y (arguments site (raw_args_of (map view_raw_arg (drop (i + 1) list))) (after t (view_raw_arg x))))) (sym is)

pub arguments_step : (site : Site) (list : List RawArg) (t left : Taking) (i : ℕ) (a : RawArg) (front : List Arg) (value : Arg) → i < length list → a ≡ get_or list i a →
    one_argument site (view_raw_arg a) t ≡ Ok (view_arg value) → after t (view_raw_arg a) ≡ left →
    behind MoreArgs (map view_arg front) (arguments site (raw_args_of (map view_raw_arg (drop i list))) t)
    ≡ behind MoreArgs (map view_arg (front ++ value ∷ [])) (arguments site (raw_args_of (map view_raw_arg (drop (i + 1) list))) left)
arguments_step site list t left i a front value lt is ok now =
    let rest : Taking → Checked TypedArgs = λ s. arguments site (raw_args_of (map view_raw_arg (drop (i + 1) list))) s in
    ap (behind MoreArgs (map view_arg front)) (arguments_more site list t i a lt is ∙ ap (λ r. r >>= (λ x. then_more MoreArgs x (rest (after t (view_raw_arg a))))) ok)
    ∙ goes_on MoreArgs (map view_arg front) (view_arg value) (rest (after t (view_raw_arg a)))
    ∙ ap (λ s. behind MoreArgs (map view_arg front ++ view_arg value ∷ []) (rest s)) now
    ∙ ap (λ done. behind MoreArgs done (rest left)) (sym (map_push view_arg front value))

pub arguments_stop : (site : Site) (list : List RawArg) (t : Taking) (i : ℕ) (a : RawArg) (front : List Arg) (fault : TypeFault) (whole : Checked TypedArgs) → i < length list → a ≡ get_or list i a →
    behind MoreArgs (map view_arg front) (arguments site (raw_args_of (map view_raw_arg (drop i list))) t) ≡ whole →
    Fails fault (one_argument site (view_raw_arg a) t) → Fails fault whole
arguments_stop site list t i a front fault whole lt is invariant h =
    stops (λ (r : Checked TypedArg). behind MoreArgs (map view_arg front) (r >>= (λ x. then_more MoreArgs x (arguments site (raw_args_of (map view_raw_arg (drop (i + 1) list))) (after t (view_raw_arg a))))))
    (λ b. refl) fault (one_argument site (view_raw_arg a) t) whole
    (sym invariant ∙ ap (behind MoreArgs (map view_arg front)) (arguments_more site list t i a lt is)) h

pub arguments_end : (site : Site) (list : List RawArg) (t : Taking) (i : ℕ) (front : List Arg) → length list ≤ i →
    behind MoreArgs (map view_arg front) (arguments site (raw_args_of (map view_raw_arg (drop i list))) t) ≡ Ok (args_of (map view_arg front))
unfolding arguments
arguments_end site list t i front le =
    ap (behind MoreArgs (map view_arg front)) (at_drop_all (λ left. arguments site (raw_args_of (map view_raw_arg left)) t) list i le)
    ∙ ap Ok (all_args (map view_arg front))
