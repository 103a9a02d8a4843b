-- Expressions and arguments by their forms.
use Rattle.std.proofs.Common.{◌≡◌, ℕ, ◌⊎◌, inl, inr, Bool, true, false, not, ◌&&◌, List, [], ◌∷◌, map, Option, None, Some, Result, Ok, Err, refl, sym, ap, subst, ◌∙◌}
use Rattle.std.specs.Result.{IsErrAnd}
use Rattle.std.specs.declared.alloc.Global.{Global}
use Rattle.std.specs.declared.boxed.Box.{Box}
use Rattle.std.specs.declared.vec.Vec.{Vec}
use Rattle.rapid_model.specs.declared.operator.Operator.{Operator}
use Rattle.raw_trees.specs.declared.raw_expr.RawArg.{RawArg, Needed as NeededArg, Option as OptionArg}
use Rattle.raw_trees.specs.declared.raw_expr.RawExpr.{RawExpr}
use Rattle.raw_trees.specs.declared.raw_expr.RawExprForm.{Aggregate, Call, Chain}
use Rattle.raw_trees.specs.declared.raw_name.RawName.{RawName}
use Rattle.raw_trees.specs.Plain as spelled
use Rattle.raw_trees.specs.Plain.{PlainArgs, PlainExpr, PlainExprs, PlainName, PlainSteps, Place, NotHeld, Held, PlaceOf, Optional, args_of as raw_args_of, exprs_of as raw_exprs_of, steps_of as raw_steps_of}
use Rattle.raw_trees.specs.Views.{view_arg as view_raw_arg, view_expr as view_raw, view_form, view_name, view_step as view_raw_step}
use Rattle.raw_trees.proofs.Rows.{aggregate_view, chain_view, invoke_view}
use Rattle.rapid_model.specs.declared.sort.Sort.{Sort}
use Rattle.rapid_model.specs.declared.sort.Sort.TheVariants as sorts
use Rattle.rapid_builtins.specs.declared.need.Need.{Need}
use Rattle.rapid_builtins.specs.declared.need.Need.TheVariants as needs
use Rattle.typed_trees.specs.declared.expr.ExprForm.{ExprForm, Number as NumberForm, Const, Errno, Signal as SignalForm, Place as StoredForm, Group', Aggregate', Builtin', Call', Not', Signed', Chain'}
use Rattle.typed_trees.specs.declared.expr.Expr.{Expr}
use Rattle.typed_trees.specs.Views.{view_expr, view_form as view_typed_form}
use Rattle.typed_trees.specs.Plain
use Rattle.typed_trees.specs.Plain.{TypedArg, TypedExpr, TypedHeld, Given}
use Rattle.rule_checks.specs.declared.fault.TypeFault.{TypeFault}
use Rattle.rule_checks.specs.declared.fault.TypeFault.TheVariants.{Rule}
use Rattle.rule_checks.specs.declared.rule.TypeRule.{TypeRule}
use Rattle.rule_checks.specs.declared.rule.TypeRule.TheVariants.{TypeClash, BadRef, ArgName}
use Rattle.rule_checks.specs.Checks.{◌>>=◌}
use Rattle.rule_checks.specs.TypeChecks.{TypeBreak, Checked, Fails, Gives}
use Rattle.data_scopes.specs.Rows.{begin_of}
use Rattle.rapid_model.specs.Sorts.{has_values}
use Rattle.named_data.specs.declared.wanted.Wanted.{Wanted}
use Rattle.named_data.specs.declared.wanted.Wanted.TheVariants.{Any, Nothing}
use Rattle.named_data.specs.Data.{NamedPart, given, named, is_empty}
use Rattle.named_data.specs.Rules.{Site, fail}
use Rattle.named_data.specs.Wants.{first_operand, needed_components, same_sort}
use Rattle.expr_types.specs.Arguments.{any_place, argument, bare, is_held, is_whole, lent, lent_as, lent_of, lent_whole, meeting, meeting_meant, pers_name, reference, referred, signal, signal_meant, whole_array}
use Rattle.expr_types.specs.Calls.{Taking, first_need, function_at, needed, needed_by, option_with, taking, valued_option}
use Rattle.rapid_builtins.specs.Calls.{OptionRow, option_named}
use Rattle.expr_types.specs.Places
use Rattle.expr_types.specs.Places.{no_meeting, place_in}
use Rattle.expr_types.specs.Typing.{aggregate, arguments, call, elements, index_in, one_argument, sort_of, steps, typed}

-- what is given by a check is given by an equal one
pub along : {X A : Type 0} (view : X → A) (r : Result X TypeFault) (a b : Checked A) → b ≡ a → Gives view r a → Gives view r b
along view r a b same h = subst (λ (checked : Checked _). Gives view r checked) (sym same) h

-- an expression of a form that holds a list
pub aggregate_form : (raw : RawExpr) (values : Vec RawExpr Global) → raw.form ≡ Aggregate values → view_raw raw ≡ spelled.Aggregate raw.at (raw_exprs_of (map view_raw values.items))
aggregate_form raw values is = ap (view_form raw.at) is ∙ aggregate_view raw.at values

pub call_form : (raw : RawExpr) (name : RawName) (args : Vec RawArg Global) → raw.form ≡ Call name args → view_raw raw ≡ spelled.Invoke raw.at (view_name name) (raw_args_of (map view_raw_arg args.items))
call_form raw name args is = ap (view_form raw.at) is ∙ invoke_view raw.at name args

pub chain_form : (raw : RawExpr) (first : Box RawExpr Global) (rest : Vec (Operator × RawExpr) Global) → raw.form ≡ Chain first rest → view_raw raw ≡ spelled.Chain raw.at (view_raw first.value) (raw_steps_of (map view_raw_step rest.items))
chain_form raw first rest is = ap (view_form raw.at) is ∙ chain_view raw.at first rest

-- a broken rule stays broken
never : {X Y Z : Type 0} (r : Checked X) (b : TypeBreak) (f : Y → Checked Z) → (r >>= (λ _. Err b)) ≡ ((r >>= (λ _. Err b)) >>= f)
never (Ok x) b f = refl
never (Err c) b f = refl

pub reference_in : (site : Site) (need : Need) (e : PlainExpr) →
    reference site need e (typed site e) (index_in site e) ≡ (place_in site false (referred need) BadRef e >>= (λ p. lent_as site need (begin_of e) p))
unfolding index_in
reference_in site need (Place at (PlaceOf name held components)) = refl
reference_in site need e = never (typed site e (referred need)) (record { «module» = site.spot.«module»; at = begin_of e; rule = BadRef }) (λ p. lent_as site need (begin_of e) p)

pub any_place_in : (site : Site) (sort : Sort) (e : PlainExpr) →
    any_place site sort e (typed site e) (index_in site e) ≡ (place_in site false Nothing TypeClash e >>= (λ p. lent_of site sort (begin_of e) p))
unfolding index_in
any_place_in site sort (Place at (PlaceOf name held components)) = refl
any_place_in site sort e = never (typed site e Nothing) (record { «module» = site.spot.«module»; at = begin_of e; rule = TypeClash }) (λ p. lent_of site sort (begin_of e) p)

both : (a b c d : Bool) → (((a && b) && c) && d) ≡ ((a && (b && c)) && d)
both true b c d = refl
both false b c d = refl

lent_both : (site : Site) (at : ℕ) (held : Bool) (none : Bool) (fits : Sort → Bool) (r : Checked NamedPart) →
    (r >>= (λ p. lent site (((p.array && held) && none) && fits p.sort) at TypeClash p p.source)) ≡ (r >>= (λ p. lent site ((p.array && (held && none)) && fits p.sort) at TypeClash p p.source))
lent_both site at held none fits (Ok p) = ap (λ holds. lent site holds at TypeClash p p.source) (both p.array held none (fits p.sort))
lent_both site at held none fits (Err b) = refl

pub array_in : (site : Site) (e : PlainExpr) →
    whole_array site has_values e (typed site e) (index_in site e) ≡ (place_in site true Nothing TypeClash e >>= (λ p. lent_whole site needs.Array (begin_of e) (is_whole e) p))
unfolding index_in
array_in site (Place at (PlaceOf name held components)) =
    lent_both site at (not (is_held held)) (is_empty components) has_values (Places.place site true (PlaceOf name held components))
array_in site e = never (typed site e Nothing) (record { «module» = site.spot.«module»; at = begin_of e; rule = TypeClash }) (λ p. lent_whole site needs.Array (begin_of e) false p)

pub task_list_in : (site : Site) (e : PlainExpr) →
    whole_array site (same_sort sorts.Tasks) e (typed site e) (index_in site e) ≡ (place_in site true Nothing TypeClash e >>= (λ p. lent_whole site needs.TaskList (begin_of e) (is_whole e) p))
unfolding index_in
task_list_in site (Place at (PlaceOf name held components)) =
    lent_both site at (not (is_held held)) (is_empty components) (same_sort sorts.Tasks) (Places.place site true (PlaceOf name held components))
task_list_in site e = never (typed site e Nothing) (record { «module» = site.spot.«module»; at = begin_of e; rule = TypeClash }) (λ p. lent_whole site needs.TaskList (begin_of e) false p)

-- by the name that an expression is, if it is one
abbrev pub by_name : Option PlainName → (PlainName → Checked TypedArg) → Checked TypedArg → Checked TypedArg
by_name (Some name) found other = found name
by_name None found other = other

pub signal_by : (site : Site) (output : Bool) (e : PlainExpr) →
    signal site output e (typed site e) ≡ by_name (bare e) (λ name. signal_meant site output (begin_of e) (named site name)) (typed site e Nothing >>= (λ t. fail site (begin_of e) TypeClash))
signal_by site output (Place at (PlaceOf name NotHeld [])) = refl
signal_by site output (Place at (PlaceOf name NotHeld (c ∷ cs))) = refl
signal_by site output (Place at (PlaceOf name (Held i) cs)) = refl
signal_by site output e = refl

pub meeting_by : (site : Site) (e : PlainExpr) →
    meeting site e (typed site e) (index_in site e) ≡ by_name (bare e) (λ name. meeting_meant site (begin_of e) (named site name)) (no_meeting site e)
unfolding index_in
meeting_by site (Place at (PlaceOf name NotHeld [])) = refl
meeting_by site (Place at (PlaceOf name NotHeld (c ∷ cs))) = refl
meeting_by site (Place at (PlaceOf name (Held i) cs)) = refl
meeting_by site e = refl

pub pers_name_by : (site : Site) (e : PlainExpr) → pers_name site e (typed site e) (index_in site e) ≡ Places.pers_name site e
unfolding index_in
pers_name_by site (Place at (PlaceOf name held components)) = refl
pers_name_by site e = refl

-- what the next argument must be
pub needed_by_first : (site : Site) (list : List Need) (e : PlainExpr) (value : Wanted → Checked TypedExpr) (i : Checked TypedHeld) (need : Need) →
    Some need ≡ first_need list → needed site list e value i ≡ argument site need e value i
needed_by_first site [] e value i need is = absurd (cc)
needed_by_first site (n ∷ list) e value i need is = let same : need ≡ n = cc in ap (λ m. argument site m e value i) (sym same)

pub needed_by_none : (site : Site) (list : List Need) (e : PlainExpr) (value : Wanted → Checked TypedExpr) (i : Checked TypedHeld) →
    None ≡ first_need list → needed site list e value i ≡ (value Any >>= (λ t. Ok (Given t)))
needed_by_none site [] e value i is = refl
needed_by_none site (n ∷ list) e value i is = absurd (cc)

-- an exit by a fault
pub exits : {X A : Type 0} (view : X → A) (r : Result X TypeFault) (fault : TypeFault) (checked : Checked A) → IsErrAnd r (λ e. e ≡ fault) → Fails fault checked → Gives view r checked
exits view (Ok x) fault checked same h = absurd same
exits view (Err e) fault checked same h = subst (λ (f : TypeFault). Fails f checked) (sym same) h

-- an exit by a rule that is broken
pub breaks : {A : Type 0} (fault : TypeFault) (site : Site) (at : ℕ) (rule : TypeRule) (checked : Checked A) → fault ≡ Rule site.spot.«module» at rule → checked ≡ fail site at rule → Fails fault checked
breaks fault site at rule checked is h = subst (λ (f : TypeFault). Fails f checked) (sym is) h

-- needs of a place that the callee reads and writes
abbrev pub ByReference : Need → Type 0
ByReference need =
    ((x : Sort) × (need ≡ needs.Var x)) ⊎ (((x : Sort) × (need ≡ needs.Pers x)) ⊎ (((x : Sort) × (need ≡ needs.VarOrPers x)) ⊎ (((x : Sort) × (need ≡ needs.Written x)) ⊎ (need ≡ needs.WorldZone))))

by_reference : (site : Site) (need : Need) (e : PlainExpr) (value : Wanted → Checked TypedExpr) (i : Checked TypedHeld) → ByReference need → argument site need e value i ≡ reference site need e value i
by_reference site need e value i (inl p) = subst (λ n. argument site n e value i ≡ reference site n e value i) (sym p.1) refl
by_reference site need e value i (inr (inl p)) = subst (λ n. argument site n e value i ≡ reference site n e value i) (sym p.1) refl
by_reference site need e value i (inr (inr (inl p))) = subst (λ n. argument site n e value i ≡ reference site n e value i) (sym p.1) refl
by_reference site need e value i (inr (inr (inr (inl p)))) = subst (λ n. argument site n e value i ≡ reference site n e value i) (sym p.1) refl
by_reference site need e value i (inr (inr (inr (inr is)))) = subst (λ n. argument site n e value i ≡ reference site n e value i) (sym is) refl

pub argument_by_reference : (site : Site) (need : Need) (e : PlainExpr) → ByReference need →
    argument site need e (typed site e) (index_in site e) ≡ (place_in site false (referred need) BadRef e >>= (λ p. lent_as site need (begin_of e) p))
argument_by_reference site need e by = by_reference site need e (typed site e) (index_in site e) by ∙ reference_in site need e

pub argument_of_sort : (site : Site) (need : Need) (sort : Sort) (e : PlainExpr) → need ≡ needs.Place sort →
    argument site need e (typed site e) (index_in site e) ≡ (place_in site false Nothing TypeClash e >>= (λ p. lent_of site sort (begin_of e) p))
argument_of_sort site need sort e is = ap (λ n. argument site n e (typed site e) (index_in site e)) is ∙ any_place_in site sort e

pub argument_of_array : (site : Site) (need : Need) (e : PlainExpr) → (need ≡ needs.Array) ⊎ (need ≡ needs.TaskList) →
    argument site need e (typed site e) (index_in site e) ≡ (place_in site true Nothing TypeClash e >>= (λ p. lent_whole site need (begin_of e) (is_whole e) p))
argument_of_array site need e (inl is) =
    subst (λ n. argument site n e (typed site e) (index_in site e) ≡ (place_in site true Nothing TypeClash e >>= (λ p. lent_whole site n (begin_of e) (is_whole e) p))) (sym is) (array_in site e)
argument_of_array site need e (inr is) =
    subst (λ n. argument site n e (typed site e) (index_in site e) ≡ (place_in site true Nothing TypeClash e >>= (λ p. lent_whole site n (begin_of e) (is_whole e) p))) (sym is) (task_list_in site e)

-- an argument that is not an option
pub needed_argument : (site : Site) (t : Taking) (a : RawArg) (v : RawExpr) → a ≡ NeededArg v →
    one_argument site (view_raw_arg a) t ≡ needed site t.needs (view_raw v) (typed site (view_raw v)) (index_in site (view_raw v))
unfolding one_argument
needed_argument site t a v is = ap (λ x. one_argument site (view_raw_arg x) t) is

-- an option with a value
pub optional_argument : (site : Site) (t : Taking) (a : RawArg) (name : RawName) (value : Option RawExpr) (at : ℕ) (v : RawExpr) → a ≡ OptionArg name value at → value ≡ Some v →
    one_argument site (view_raw_arg a) t ≡ one_argument site (Optional (record { text = name.text.now; at = 0 }) (Held (view_raw v)) at) t
unfolding one_argument
optional_argument site t a name value at v is some =
    ap (λ x. one_argument site (view_raw_arg x) t) is ∙ ap (λ o. one_argument site (view_raw_arg (OptionArg name o at)) t) some

-- by the option that takes a value, if there is one
abbrev pub valued_from : Site → Taking → ℕ → PlainExpr → (Wanted → Checked TypedExpr) → Checked TypedHeld → Option (List ℕ × Need) → Checked TypedArg
valued_from site t at e value i (Some p) = argument site p.1 e value i >>= (λ x. option_with site t at p.0 x)
valued_from site t at e value i None = value Any >>= (λ x. fail site at ArgName)

valued_at : (site : Site) (t : Taking) (at : ℕ) (e : PlainExpr) (value : Wanted → Checked TypedExpr) (i : Checked TypedHeld) (name : List ℕ) (need : Option Need) →
    valued_option site t at (Some (record { name = name; value = need })) e value i ≡ valued_from site t at e value i (needed_by (Some (record { name = name; value = need })))
valued_at site t at e value i name None = refl
valued_at site t at e value i name (Some need) = refl

valued_by : (site : Site) (t : Taking) (at : ℕ) (row : Option OptionRow) (e : PlainExpr) (value : Wanted → Checked TypedExpr) (i : Checked TypedHeld) →
    valued_option site t at row e value i ≡ valued_from site t at e value i (needed_by row)
valued_by site t at None e value i = refl
valued_by site t at (Some row) e value i = valued_at site t at e value i row.name row.value

pub valued_argument : (site : Site) (t : Taking) (at : ℕ) (name : List ℕ) (e : PlainExpr) →
    one_argument site (Optional (record { text = name; at = 0 }) (Held e) at) t
    ≡ valued_from site t at e (typed site e) (index_in site e) (needed_by (option_named name t.options))
unfolding one_argument
valued_argument site t at name e = valued_by site t at (option_named name t.options) e (typed site e) (index_in site e)

-- the type of a tree is that of its form
pub sort_view : (at : ℕ) (sort : Sort) (form : ExprForm) → sort_of (view_typed_form at sort form) ≡ sort
sort_view at sort (NumberForm number) = refl
sort_view at sort (Const value) = refl
sort_view at sort Errno = refl
sort_view at sort (SignalForm signal) = refl
sort_view at sort (StoredForm place) = refl
sort_view at sort (Group' pointer begin kind form) = refl
sort_view at sort (Aggregate' shape row) = refl
sort_view at sort (Builtin' function shape row) = refl
sort_view at sort (Call' routine shape row) = refl
sort_view at sort (Not' pointer begin kind form) = refl
sort_view at sort (Signed' minus pointer begin kind form) = refl
sort_view at sort (Chain' pointer begin kind form shape row) = refl

-- an expression of a form that holds a list, by its parts
module _ (site : Site) (want : Wanted) (at : ℕ) where
  pub typed_aggregate : (es : PlainExprs) → typed site (spelled.Aggregate at es) want ≡ (elements site es (needed_components want) >>= (λ ts. aggregate site want at es ts))
  unfolding typed
  typed_aggregate es = refl

  pub typed_call : (name : PlainName) (args : PlainArgs) →
      typed site (spelled.Invoke at name args) want ≡ (function_at site name >>= (λ called. arguments site args (taking called.signature) >>= (λ ts. call site want at called args ts)))
  unfolding typed
  typed_call name args = refl

  pub typed_chain : (first : PlainExpr) (rest : PlainSteps) →
      typed site (spelled.Chain at first rest) want
      ≡ (typed site first (first_operand rest) >>= (λ t. steps site rest at (sort_of t) >>= (λ r. given site want at r.sort (Plain.Chain at r.sort t r.steps))))
  unfolding typed
  typed_chain first rest = refl

  -- after the first operand
  pub chain_after : (first : PlainExpr) (rest : PlainSteps) (value : Expr) → typed site first (first_operand rest) ≡ Ok (view_expr value) →
      typed site (spelled.Chain at first rest) want ≡ (steps site rest at value.sort >>= (λ r. given site want at r.sort (Plain.Chain at r.sort (view_expr value) r.steps)))
  chain_after first rest value is =
      typed_chain first rest
      ∙ ap (λ (r : Checked TypedExpr). r >>= (λ t. steps site rest at (sort_of t) >>= (λ r. given site want at r.sort (Plain.Chain at r.sort t r.steps)))) is
      ∙ ap (λ sort. steps site rest at sort >>= (λ r. given site want at r.sort (Plain.Chain at r.sort (view_expr value) r.steps))) (sort_view value.at value.sort value.form)
