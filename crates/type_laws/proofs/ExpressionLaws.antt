-- Expressions, form by form.
use Rattle.std.proofs.Common.{◌≡◌, ◌↔◌, ℕ, Bool, true, false, not, ◌==◌, List, length, drop, Ok, refl, sym, ap, subst}
use Rattle.std.proofs.lemmas.Bool.{not-true, not_from_false, eqb-true, eq-eqb}
use Rattle.raw_trees.specs.Plain.{PlainName, PlainExpr, PlainExprs, PlainSteps, PlainHeld, PlainArg, PlainArgs, Number, Quoted, Truth, Group, Aggregate, Invoke, Place, Not, Signed, Chain, NoExprs, MoreExprs, NoSteps, MoreSteps, NotHeld, Held, PlaceOf, Needed, Optional, NoArgs, MoreArgs}
use Rattle.rapid_model.specs.declared.operator.Operator.{Operator}
use Rattle.rapid_model.specs.declared.sort.Sort.{Sort}
use Rattle.rapid_model.specs.declared.sort.Sort.TheVariants as sorts
use Rattle.rapid_model.specs.declared.value.Value.TheVariants as values
use Rattle.rapid_values.specs.Components.{Component}
use Rattle.rapid_builtins.specs.Calls.{option_named}
use Rattle.typed_trees.specs.Plain
use Rattle.typed_trees.specs.Plain.{TypedExpr, TypedExprs, TypedSteps, TypedHeld, TypedArg, TypedArgs}
use Rattle.rule_checks.specs.declared.rule.TypeRule.TheVariants.{TypeClash, DimRange}
use Rattle.rule_checks.specs.Checks.{◌>>=◌, must}
use Rattle.rule_checks.specs.TypeChecks.{Checked}
use Rattle.rapid_model.specs.Sorts.{has_values}
use Rattle.named_data.specs.declared.wanted.Wanted.{Wanted}
use Rattle.named_data.specs.declared.wanted.Wanted.TheVariants.{Any, Brackets, Is, Same, Fits, Nothing, Reference, ReferenceTo, Meeting}
use Rattle.named_data.specs.Rules.{Site, at_byte}
use Rattle.named_data.specs.Wants.{fits, clash, untyped, inside, hands_on, needed_components, needed_sort, of_component, first_operand, suits, comes_to}
use Rattle.named_data.specs.Data.{NamedPart, given, place_value, value_from, is_empty}
use Rattle.expr_types.specs.Arguments.{is_held}
use Rattle.expr_types.specs.Calls.{Called, Taking, taking, function_at, count_rules, call_rules, after}
use Rattle.expr_types.specs.Typing.{TypedRest, number_of, text_of, sort_of, count, aggregate, invoked, call, group, typed, elements, steps, index, index_in, arguments, one_argument}
use Rattle.type_laws.specs.Names.{IsPlace}
use Rattle.type_laws.specs.Calls.{IsCall, IsFunction}
use Rattle.type_laws.specs.Expressions.{IsPlaceValue, IsExpr, AreElements, AreSteps, IsIndex, IsIndexIn, AreArguments, IsOneArgument}
use Rattle.type_laws.proofs.Steps.{in_words, neither, done, never, then, never_after, both, where_it_holds}
use Rattle.type_laws.proofs.Names.{at_place}
use Rattle.type_laws.proofs.Arguments.{IndexIn}
use Rattle.type_laws.proofs.Calls.{function_law, call_law, needed_law, plain_option_law, valued_option_law}

-- a value in a place with a requirement
given_law : (s : Site) (want : Wanted) (at : ℕ) (sort : Sort) (tree t : TypedExpr) → (given s want at sort tree ≡ Ok t) ↔ ((fits want sort ≡ true) × (t ≡ tree))
given_law s want at sort tree t = where_it_holds s (fits want sort) at (clash want) _ t (done tree t)

-- an expression with one part
with_part : {IsPart : TypedExpr → Type 0} (s : Site) (want : Wanted) (at : ℕ) (sort : Sort) (form : TypedExpr → TypedExpr) (part : Checked TypedExpr) (t : TypedExpr)
    → ((u : TypedExpr) → (part ≡ Ok u) ↔ IsPart u)
    → ((part >>= (λ u. given s want at sort (form u))) ≡ Ok t) ↔ ((u : TypedExpr) × IsPart u × (fits want sort ≡ true) × (t ≡ form u))
with_part s want at sort form part t law =
    in_words (then part _ t law (λ u. given_law s want at sort (form u) t)) (λ (u, part, (fit, is)). (u, part, fit, is)) (λ (u, part, fit, is). (u, part, (fit, is)))

group_law : {IsPart : TypedExpr → Type 0} (s : Site) (want : Wanted) (at : ℕ) (part : Checked TypedExpr) (t : TypedExpr) → ((u : TypedExpr) → (part ≡ Ok u) ↔ IsPart u)
    → ((part >>= (λ u. group s want at u)) ≡ Ok t) ↔ ((u : TypedExpr) × IsPart u × (hands_on want ≡ true) × (t ≡ Plain.Group at (sort_of u) u))
group_law s want at part t law =
    in_words
    (then part _ t law (λ u. where_it_holds s (hands_on want) at (clash want) _ t (done (Plain.Group at (sort_of u) u) t)))
    (λ (u, part, (on, is)). (u, part, on, is))
    (λ (u, part, on, is). (u, part, (on, is)))

aggregate_law : {AreParts : TypedExprs → Type 0} (s : Site) (want : Wanted) (at : ℕ) (es : PlainExprs) (parts : Checked TypedExprs) (t : TypedExpr) → ((us : TypedExprs) → (parts ≡ Ok us) ↔ AreParts us)
    → ((parts >>= (λ us. aggregate s want at es us)) ≡ Ok t)
    ↔ ((us : TypedExprs) × AreParts us × (is_empty (needed_components want) ≡ false) × (count es ≡ length (needed_components want)) × (t ≡ Plain.Aggregate at (needed_sort want) us))
aggregate_law s want at es parts t law =
    let untold : Bool = is_empty (needed_components want) in
    let wanted : ℕ = length (needed_components want) in
    in_words
    (then parts _ t law (λ us.
    where_it_holds s (not untold) at (untyped want) _ t (
    where_it_holds s (count es == wanted) at DimRange _ t (done (Plain.Aggregate at (needed_sort want) us) t))))
    (λ (us, parts, (typed, (counted, is))). (us, parts, not-true untold typed, eqb-true (count es) wanted counted, is))
    (λ (us, parts, typed, counted, is). (us, parts, (not_from_false untold typed, (eq-eqb (count es) wanted counted, is))))

-- a call where a value is allowed, after its arguments
valued_law : (s : Site) (want : Wanted) (at : ℕ) (called : Called) (args : PlainArgs) (us : TypedArgs) (t : TypedExpr)
    → ((must (fits want called.sort) (at_byte s at (clash want)) >>= (λ _. call_rules s at called.signature args >>= (λ _. Ok (invoked at called.sort called.callee us)))) ≡ Ok t)
    ↔ ((fits want called.sort ≡ true) × ((u : Unit {0}) × IsCall s called.signature args × (t ≡ invoked at called.sort called.callee us)))
valued_law s want at called args us t =
    where_it_holds s (fits want called.sort) at (clash want) _ t (
    then (call_rules s at called.signature args) _ t (call_law s at called.signature args) (λ _. done (invoked at called.sort called.callee us) t))

-- a call, after its arguments; none is the name of a meeting
called_law : (s : Site) (want : Wanted) (at : ℕ) (called : Called) (args : PlainArgs) (us : TypedArgs) (t : TypedExpr)
    → (call s want at called args us ≡ Ok t) ↔ ((fits want called.sort ≡ true) × ((u : Unit {0}) × IsCall s called.signature args × (t ≡ invoked at called.sort called.callee us)))
called_law s Meeting at called args us t = neither (never_after (count_rules s at called.signature args) _ t (λ u. never _ t)) (λ (fit, _). cc)
called_law s Any at called args us t = valued_law s Any at called args us t
called_law s (Brackets sort) at called args us t = valued_law s (Brackets sort) at called args us t
called_law s (Is sort) at called args us t = valued_law s (Is sort) at called args us t
called_law s (Same sort) at called args us t = valued_law s (Same sort) at called args us t
called_law s (Fits operator) at called args us t = valued_law s (Fits operator) at called args us t
called_law s Nothing at called args us t = valued_law s Nothing at called args us t
called_law s Reference at called args us t = valued_law s Reference at called args us t
called_law s (ReferenceTo sort) at called args us t = valued_law s (ReferenceTo sort) at called args us t

invoke_law : {AreParts : Taking → TypedArgs → Type 0} (s : Site) (want : Wanted) (at : ℕ) (name : PlainName) (args : PlainArgs) (parts : Taking → Checked TypedArgs) (t : TypedExpr)
    → ((taking : Taking) (us : TypedArgs) → (parts taking ≡ Ok us) ↔ AreParts taking us)
    → ((function_at s name >>= (λ called. parts (taking called.signature) >>= (λ us. call s want at called args us))) ≡ Ok t)
    ↔ ((called : Called) × (us : TypedArgs) × IsFunction s name called × AreParts (taking called.signature) us × (fits want called.sort ≡ true) × IsCall s called.signature args × (t ≡ invoked at called.sort called.callee us))
invoke_law s want at name args parts t law =
    in_words
    (then (function_at s name) _ t (function_law s name) (λ called.
    then (parts (taking called.signature)) _ t (law (taking called.signature)) (λ us. called_law s want at called args us t)))
    (λ (called, meant, (us, parts, (fit, (_, rules, is)))). (called, us, meant, parts, fit, rules, is))
    (λ (called, us, meant, parts, fit, rules, is). (called, meant, (us, parts, (fit, (tt, rules, is)))))

place_value_law : {IsIndexed : TypedHeld → Type 0} (s : Site) (want : Wanted) (at : ℕ) (name : PlainName) (indexed : Bool) (part : Checked TypedHeld) (components : List PlainName) (t : TypedExpr)
    → ((i : TypedHeld) → (part ≡ Ok i) ↔ IsIndexed i)
    → (place_value s at name indexed part components want ≡ Ok t) ↔ ((i : TypedHeld) × (p : NamedPart) × IsIndexed i × IsPlace s false name indexed i components p × IsPlaceValue want at p t)
place_value_law s want at name indexed part components t law =
    at_place s false name indexed part components _ t law (λ p.
    in_words
    (where_it_holds s (has_values p.sort) at TypeClash _ t (given_law s want at p.sort (value_from at p p.source) t))
    (λ (valued, (fit, is)). (valued, fit, is))
    (λ (valued, fit, is). (valued, (fit, is))))

chain_law : {IsPart : TypedExpr → Type 0} (s : Site) (want : Wanted) (at : ℕ) (part : Checked TypedExpr) (rest : Sort → Checked TypedRest) (AreRest : Sort → TypedSteps → Sort → Type 0) (t : TypedExpr)
    → ((u : TypedExpr) → (part ≡ Ok u) ↔ IsPart u)
    → ((left : Sort) (r : TypedRest) → (rest left ≡ Ok r) ↔ AreRest left r.steps r.sort)
    → ((part >>= (λ u. rest (sort_of u) >>= (λ r. given s want at r.sort (Plain.Chain at r.sort u r.steps)))) ≡ Ok t)
    ↔ ((u : TypedExpr) × (us : TypedSteps) × (sort : Sort) × IsPart u × AreRest (sort_of u) us sort × (fits want sort ≡ true) × (t ≡ Plain.Chain at sort u us))
chain_law s want at part rest AreRest t first law =
    in_words
    (then part _ t first (λ u.
    then (rest (sort_of u)) _ t (law (sort_of u)) (λ r. given_law s want at r.sort (Plain.Chain at r.sort u r.steps) t)))
    (λ (u, part, (r, rest, (fit, is))). (u, r.steps, r.sort, part, rest, fit, is))
    (λ (u, us, sort, part, rest, fit, is). (u, part, (record { steps = us; sort = sort }, rest, (fit, is))))

-- operators with their operands, and the type of the result
rest_is : (ts : TypedSteps) (sort : Sort) (r : TypedRest) → (◌≡◌ {A = Checked TypedRest} (Ok (record { steps = ts; sort = sort })) (Ok r)) ↔ ((r.steps ≡ ts) × (r.sort ≡ sort))
rest_is ts sort r = in_words (done (record { steps = ts; sort = sort }) r) (λ e. (ap (λ r. r.steps) e, ap (λ r. r.sort) e)) (λ h. λ i. record { steps = h.0 i; sort = h.1 i })

more_steps_law : {IsPart : TypedExpr → Type 0} (s : Site) (operator : Operator) (at : ℕ) (left : Sort) (part : Checked TypedExpr) (rest : Checked TypedRest) (AreRest : TypedSteps → Sort → Type 0) (r : TypedRest)
    → ((u : TypedExpr) → (part ≡ Ok u) ↔ IsPart u)
    → ((r : TypedRest) → (rest ≡ Ok r) ↔ AreRest r.steps r.sort)
    → ((must (suits operator left) (at_byte s at TypeClash) >>= (λ _. part >>= (λ u. rest >>= (λ r. Ok (record { steps = Plain.MoreSteps operator u r.steps; sort = r.sort }))))) ≡ Ok r)
    ↔ ((u : TypedExpr) × (us : TypedSteps) × (suits operator left ≡ true) × IsPart u × AreRest us r.sort × (r.steps ≡ Plain.MoreSteps operator u us))
more_steps_law s operator at left part rest AreRest r first law =
    in_words
    (where_it_holds s (suits operator left) at TypeClash _ r (
    then part _ r first (λ u. then rest _ r law (λ more. rest_is (Plain.MoreSteps operator u more.steps) more.sort r))))
    (λ (suit, (u, part, (more, rest, (steps_are, sort_is)))). (u, more.steps, suit, part, subst (AreRest more.steps) (sym sort_is) rest, steps_are))
    (λ (u, us, suit, part, rest, steps_are). (suit, (u, part, (record { steps = us; sort = r.sort }, rest, (steps_are, refl)))))

no_index : (s : Site) (held : PlainHeld) → is_held held ≡ false → index s held ≡ Ok Plain.NotHeld
unfolding index
no_index s NotHeld none = refl
no_index s (Held e) held = absurd (cc (held))

mutual
  unfolding typed elements steps index index_in arguments one_argument IsExpr AreElements AreSteps IsIndex IsIndexIn AreArguments IsOneArgument

  pub typed_law : (s : Site) (e : PlainExpr) (want : Wanted) (t : TypedExpr) → (typed s e want ≡ Ok t) ↔ IsExpr s e want t
  typed_law s (Number at text) want t = given_law s want at sorts.Num (Plain.Known at sorts.Num (values.Num (number_of text))) t
  typed_law s (Quoted at text) want t = given_law s want at sorts.Text (Plain.Known at sorts.Text (values.Text (text_of text))) t
  typed_law s (Truth at b) want t = given_law s want at sorts.Bool (Plain.Known at sorts.Bool (values.Bool b)) t
  typed_law s (Group at e) want t = group_law s want at (typed s e (inside want)) t (typed_law s e (inside want))
  typed_law s (Aggregate at es) want t =
      let cs : List Component = needed_components want in
      aggregate_law s want at es (elements s es cs) t (elements_law s es cs)
  typed_law s (Invoke at name args) want t = invoke_law s want at name args (arguments s args) t (arguments_law s args)
  typed_law s (Place at (PlaceOf name held components)) want t = place_value_law s want at name (is_held held) (index s held) components t (index_law s held)
  typed_law s (Not at e) want t = with_part s want at sorts.Bool (Plain.Not at sorts.Bool) (typed s e (Same sorts.Bool)) t (typed_law s e (Same sorts.Bool))
  typed_law s (Signed at minus e) want t = with_part s want at sorts.Num (Plain.Signed at sorts.Num minus) (typed s e (Same sorts.Num)) t (typed_law s e (Same sorts.Num))
  typed_law s (Chain at e ss) want t =
      chain_law s want at (typed s e (first_operand ss)) (steps s ss at) (AreSteps s ss) t (typed_law s e (first_operand ss)) (steps_law s ss at)

  elements_law : (s : Site) (es : PlainExprs) (cs : List Component) (ts : TypedExprs) → (elements s es cs ≡ Ok ts) ↔ AreElements s es cs ts
  elements_law s NoExprs cs ts = done Plain.NoExprs ts
  elements_law s (MoreExprs e es) cs ts =
      both (typed s e (of_component cs)) (elements s es (drop 1 cs)) Plain.MoreExprs ts (typed_law s e (of_component cs)) (elements_law s es (drop 1 cs))

  steps_law : (s : Site) (ss : PlainSteps) (at : ℕ) (left : Sort) (r : TypedRest) → (steps s ss at left ≡ Ok r) ↔ AreSteps s ss left r.steps r.sort
  steps_law s NoSteps at left r = rest_is Plain.NoSteps left r
  steps_law s (MoreSteps operator e ss) at left r =
      more_steps_law s operator at left (typed s e (Same left)) (steps s ss at (comes_to operator left)) (AreSteps s ss (comes_to operator left)) r (typed_law s e (Same left)) (steps_law s ss at (comes_to operator left))

  pub index_law : (s : Site) (held : PlainHeld) (i : TypedHeld) → (index s held ≡ Ok i) ↔ IsIndex s held i
  index_law s NotHeld i = done Plain.NotHeld i
  index_law s (Held e) i = then (typed s e (Is sorts.Num)) _ i (typed_law s e (Is sorts.Num)) (λ u. done (Plain.Held u) i)

  index_in_law : (s : Site) (e : PlainExpr) → IndexIn e (index_in s e) (IsIndexIn s e)
  index_in_law s (Place at (PlaceOf name held components)) = record { law = index_law s held; none = no_index s held }
  index_in_law s e = tt

  pub arguments_law : (s : Site) (args : PlainArgs) (t : Taking) (us : TypedArgs) → (arguments s args t ≡ Ok us) ↔ AreArguments s args t us
  arguments_law s NoArgs t us = done Plain.NoArgs us
  arguments_law s (MoreArgs a more) t us =
      both (one_argument s a t) (arguments s more (after t a)) Plain.MoreArgs us (one_argument_law s a t) (arguments_law s more (after t a))

  one_argument_law : (s : Site) (a : PlainArg) (t : Taking) (x : TypedArg) → (one_argument s a t ≡ Ok x) ↔ IsOneArgument s a t x
  one_argument_law s (Needed e) t x = needed_law s t.needs e x (record { as_value = typed_law s e; as_index = index_in_law s e })
  one_argument_law s (Optional name NotHeld at) t x = plain_option_law s t at (option_named name.text t.options) x
  one_argument_law s (Optional name (Held e) at) t x = valued_option_law s t at (option_named name.text t.options) e x (record { as_value = typed_law s e; as_index = index_in_law s e })
