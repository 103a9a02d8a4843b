-- Lengths and initial values of data.
use Rattle.std.proofs.Common.{◌≡◌, ◌↔◌, ℕ, ℤ, suc, Bool, true, not, ◌||◌, ◌==◌, List, [], ◌∷◌, length, Option, Some, None, is_some, Ok, refl, sym, ap, subst, ◌∙◌}
use Rattle.std.proofs.lemmas.Bool.{eqb-true, eq-eqb, or_right}
use Rattle.std.specs.List.{list_all}
use Rattle.rapid_limits.specs.declared.TheConstants.{LONGEST_ARRAY}
use Rattle.raw_trees.specs.Plain.{PlainDatum, PlainExpr, PlainExprs, Aggregate, Group, NoExprs, MoreExprs}
use Rattle.rapid_model.specs.declared.sort.Sort.{Sort}
use Rattle.rapid_model.specs.declared.sort.Sort.TheVariants as sorts
use Rattle.rapid_model.specs.declared.value.Value.{Value}
use Rattle.rapid_model.specs.declared.value.Value.TheVariants as values
use Rattle.typed_trees.specs.Plain
use Rattle.typed_trees.specs.Plain.{TypedExprs}
use Rattle.rapid_values.specs.Elements.{element_number}
use Rattle.constant_meaning.specs.Constants.{Elements, Outcomes, all, stops, and_more, constant_value, constant_values, is_constant, are_constant}
use Rattle.constant_meaning.specs.declared.outcome.Outcome.{Outcome}
use Rattle.constant_meaning.specs.declared.outcome.Outcome.TheVariants as outcomes
use Rattle.rule_checks.specs.declared.rule.TypeRule.TheVariants.{NoInit, NotConst, ConstFault, DimRange}
use Rattle.rule_checks.specs.Checks.{◌>>=◌}
use Rattle.rule_checks.specs.TypeChecks.{Checked}
use Rattle.data_scopes.specs.Numbers.{is_const}
use Rattle.data_scopes.specs.Rows.{begin_of}
use Rattle.data_scopes.specs.Scopes.{Names}
use Rattle.rapid_model.specs.Sorts.{has_values, is_value_of}
use Rattle.named_data.specs.declared.wanted.Wanted.TheVariants.{Is, Nothing}
use Rattle.named_data.specs.Rules.{Site}
use Rattle.expr_types.specs.Typing.{typed}
use Rattle.decl_types.specs.Values.{Initial, Brackets, length_or_fault, whole_length, length_at, value_or_fault, single_value, array_elements, brackets, how_many, values_or_fault, array_values, no_value, initial_values, site_of, values_at, len_of, initial}
use Rattle.type_laws.proofs.Steps.{in_words, neither, done, never, then, both, never_after, where_it_holds}
use Rattle.type_laws.proofs.ExpressionLaws.{typed_law}
use Rattle.type_laws.specs.Data.{IsLength, IsLen, IsSingle, AreArrayElements, AreBrackets, AreArrayValues, AreInitialValues, AreValues, IsInitial}
use Rattle.type_laws.proofs.TaskSteps.{regrouped}
use Rattle.type_laws.proofs.Choices.{chosen}

-- if each element has a value, there are as many values
one_more : (one : Outcome) (more : Outcomes) (n : ℕ) (vs : List Value) → ((ws : List Value) → more ≡ all ws → length ws ≡ n) → and_more one more ≡ all vs → length vs ≡ suc n
one_more (outcomes.Value v) (all ws) n vs others is =
    let same : vs ≡ v ∷ ws = cc in
    ap length same ∙ ap (λ (n : ℕ). suc n) (others ws refl)
one_more (outcomes.Value v) (stops other) n vs others is = absurd cc
one_more other more n vs others is = absurd cc

values_counted : (known : Elements) (ts : TypedExprs) (vs : List Value) → constant_values known ts ≡ all vs → length vs ≡ how_many ts
unfolding constant_values
values_counted known Plain.NoExprs vs is =
    let none : vs ≡ [] = cc in
    ap length none
values_counted known (Plain.MoreExprs t ts) vs is = one_more (constant_value known t) (constant_values known ts) (how_many ts) vs (values_counted known ts) is

found_length : (s : Site) (at : ℕ) (found : Option ℕ) (n : ℕ) → (length_or_fault s at found ≡ Ok n) ↔ (found ≡ Some n)
found_length s at None n = (λ e. absurd (cc), λ e. absurd (cc))
found_length s at (Some found) n = (λ e. ap Some (cc), λ e. ap Ok (cc))

whole_length_law : (s : Site) (at : ℕ) (outcome : Outcome) (n : ℕ)
    → (whole_length s at outcome ≡ Ok n) ↔ ((v : ℤ) × (outcome ≡ outcomes.Value (values.Num v)) × (element_number LONGEST_ARRAY v ≡ Some n))
whole_length_law s at (outcomes.Value (values.Num v)) n =
    in_words
    (found_length s at (element_number LONGEST_ARRAY v) n)
    (λ is. (v, refl, is))
    (λ (w, same, is). let e : w ≡ v = cc in subst (λ w. element_number LONGEST_ARRAY w ≡ Some n) e is)
whole_length_law s at (outcomes.Value _) n = neither (never _ n) (λ (v, same, is). cc)
whole_length_law s at other n = neither (never _ n) (λ (v, same, is). cc)

length_law : (s : Site) (known : Elements) (e : PlainExpr) (n : ℕ) → (length_at s known e ≡ Ok n) ↔ IsLength s known e n
length_law s known e n =
    in_words
    (then (typed s e (Is sorts.Num)) _ n (typed_law s e (Is sorts.Num)) (λ t.
    where_it_holds s (is_constant known t) (begin_of e) NotConst _ n (whole_length_law s (begin_of e) (constant_value known t) n)))
    (λ (t, is_expr, (constant, (v, comes_to, is))). (t, v, is_expr, constant, comes_to, is))
    (λ (t, v, is_expr, constant, comes_to, is). (t, is_expr, (constant, (v, comes_to, is))))

len_law : (names : Names) (number : ℕ) (routine : Option ℕ) (known : Elements) (e : Option PlainExpr) (len : Option ℕ) → (len_of names number routine known e ≡ Ok len) ↔ IsLen names number routine known e len
len_law names number routine known None len = done None len
len_law names number routine known (Some e) len =
    let s : Site = site_of names number routine e in
    then (length_at s known e) _ len (length_law s known e) (λ n. done (Some n) len)

value_law : (s : Site) (at : ℕ) (sort : Sort) (outcome : Outcome) (v : Value) → (value_or_fault s at sort outcome ≡ Ok v) ↔ ((outcome ≡ outcomes.Value v) × (is_value_of sort v ≡ true))
value_law s at sort (outcomes.Value found) v =
    in_words
    (where_it_holds s (is_value_of sort found) at ConstFault _ v (done found v))
    (λ (fits, same). (ap outcomes.Value (sym same), subst (λ v. is_value_of sort v ≡ true) (sym same) fits))
    (λ (is, fits). let e : v ≡ found = cc in (subst (λ v. is_value_of sort v ≡ true) e fits, e))
value_law s at sort other v = neither (never _ v) (λ (is, fits). cc)

single_law : (s : Site) (known : Elements) (sort : Sort) (e : PlainExpr) (vs : List Value) → (single_value s known sort e ≡ Ok vs) ↔ IsSingle s known sort e vs
single_law s known sort e vs =
    in_words
    (then (typed s e (Is sort)) _ vs (typed_law s e (Is sort)) (λ t.
    where_it_holds s (is_constant known t) (begin_of e) NotConst _ vs (
    then (value_or_fault s (begin_of e) sort (constant_value known t)) _ vs (value_law s (begin_of e) sort (constant_value known t)) (λ v. done (v ∷ []) vs))))
    (λ (t, is_expr, (constant, (v, (comes_to, fits), is))). (t, v, is_expr, constant, comes_to, fits, is))
    (λ (t, v, is_expr, constant, comes_to, fits, is). (t, is_expr, (constant, (v, (comes_to, fits), is))))

elements_law : (s : Site) (sort : Sort) (es : PlainExprs) (ts : TypedExprs) → (array_elements s sort es ≡ Ok ts) ↔ AreArrayElements s sort es ts
elements_law s sort NoExprs ts = done Plain.NoExprs ts
elements_law s sort (MoreExprs e es) ts =
    both (typed s e (Is sort)) (array_elements s sort es) Plain.MoreExprs ts (typed_law s e (Is sort)) (elements_law s sort es)

-- the brackets of an array, and what follows, wherever they are
at_brackets : {B : Type 0} {Q : TypedExprs → Type 0} (s : Site) (sort : Sort) (e : PlainExpr) (f : Brackets → Checked B) (t : B)
    → ((b : Brackets) → (f b ≡ Ok t) ↔ Q b.elements) → ((brackets s sort e >>= f) ≡ Ok t) ↔ ((ts : TypedExprs) × AreBrackets s sort e ts × Q ts)
at_brackets {Q} s sort (Aggregate at es) f t next =
    in_words
    (then (brackets s sort (Aggregate at es)) f t (λ b. then (array_elements s sort es) _ b (elements_law s sort es) (λ ts. done _ b)) next)
    (λ (b, (ts, are, same), is). (ts, are, subst Q (ap (λ b. b.elements) same) is))
    (λ (ts, are, is). (record { at = at; elements = ts }, (ts, are, refl), is))
at_brackets s sort (Group at e) f t next = at_brackets s sort e f t next
at_brackets s sort e f t next =
    neither (regrouped (typed s e Nothing) _ f t (never_after (typed s e Nothing) _ t (λ u. never _ t))) (λ (ts, none, is). none)

values_law : (s : Site) (at : ℕ) (sort : Sort) (found : Outcomes) (vs : List Value) → (values_or_fault s at sort found ≡ Ok vs) ↔ ((found ≡ all vs) × (list_all (is_value_of sort) vs ≡ true))
values_law s at sort (all found) vs =
    in_words
    (where_it_holds s (list_all (is_value_of sort) found) at ConstFault _ vs (done found vs))
    (λ (fit, same). (ap all (sym same), subst (λ vs. list_all (is_value_of sort) vs ≡ true) (sym same) fit))
    (λ (are, fit). let e : vs ≡ found = cc in (subst (λ vs. list_all (is_value_of sort) vs ≡ true) e fit, e))
values_law s at sort (stops other) vs = neither (never _ vs) (λ (are, fit). cc)

-- the values of an array's elements
abbrev AreFound : Elements → Sort → ℕ → List Value → TypedExprs → Type 0
AreFound known sort len vs ts =
    (are_constant known ts ≡ true)
    × ((found : List Value) × ((constant_values known ts ≡ all found) × (list_all (is_value_of sort) found ≡ true)) × (((length found == len) ≡ true) × (vs ≡ found)))

-- if there are as many values as required, there are as many elements
counted_before : (whole : Bool) (known : Elements) (sort : Sort) (len : ℕ) (vs : List Value) (ts : TypedExprs) → AreFound known sort len vs ts → (whole || how_many ts == len) ≡ true
counted_before whole known sort len vs ts (constant, (found, (come_to, fit), (counted, same))) =
    or_right whole (how_many ts == len) (ap (λ n. n == len) (sym (values_counted known ts found come_to)) ∙ counted)

array_law : (s : Site) (known : Elements) (sort : Sort) (len : ℕ) (e : PlainExpr) (vs : List Value) → (array_values s known sort len e ≡ Ok vs) ↔ AreArrayValues s known sort len e vs
array_law s known sort len e vs =
    let at : ℕ = begin_of e in
    in_words
    (at_brackets {Q = AreFound known sort len vs} s sort e _ vs (λ b.
    in_words
    (where_it_holds s (b.at == at || how_many b.elements == len) b.at DimRange _ vs (
    where_it_holds s (are_constant known b.elements) at NotConst _ vs (
    then (values_or_fault s at sort (constant_values known b.elements)) _ vs (values_law s at sort (constant_values known b.elements)) (λ found.
    where_it_holds s (length found == len) b.at DimRange _ vs (done found vs)))))
    (λ (counted, found). found)
    (λ found. (counted_before (b.at == at) known sort len vs b.elements found, found))))
    (λ (ts, are, (constant, (found, (come_to, fit), (counted, same)))).
    (ts, are, constant, subst (λ vs. constant_values known ts ≡ all vs) (sym same) come_to, subst (λ vs. list_all (is_value_of sort) vs ≡ true) (sym same) fit, ap length same ∙ eqb-true (length found) len counted))
    (λ (ts, are, constant, come_to, fit, counted). (ts, are, (constant, (vs, (come_to, fit), (eq-eqb (length vs) len counted, refl)))))

never_valued : (s : Site) (e : PlainExpr) (vs : List Value) → (no_value s e ≡ Ok vs) ↔ ⊥
never_valued s e vs = never_after (typed s e Nothing) _ vs (λ t. never _ vs)

initial_values_law : (s : Site) (known : Elements) (sort : Sort) (len : Option ℕ) (e : PlainExpr) (vs : List Value) → (initial_values s known sort len e ≡ Ok vs) ↔ AreInitialValues s known sort len e vs
initial_values_law s known sort None e vs = chosen (has_values sort) (single_value s known sort e) (no_value s e) vs (single_law s known sort e vs) (never_valued s e vs)
initial_values_law s known sort (Some len) e vs = chosen (has_values sort) (array_values s known sort len e) (no_value s e) vs (array_law s known sort len e vs) (never_valued s e vs)

values_at_law : (names : Names) (number : ℕ) (routine : Option ℕ) (known : Elements) (sort : Sort) (len : Option ℕ) (e : Option PlainExpr) (vs : Option (List Value))
    → (values_at names number routine known sort len e ≡ Ok vs) ↔ AreValues names number routine known sort len e vs
values_at_law names number routine known sort len None vs = done None vs
values_at_law names number routine known sort len (Some e) vs =
    let s : Site = site_of names number routine e in
    then (initial_values s known sort len e) _ vs (initial_values_law s known sort len e) (λ found. done (Some found) vs)

pub initial_law : (names : Names) (number : ℕ) (routine : Option ℕ) (known : Elements) (sort : Sort) (d : PlainDatum) (i : Initial)
    → (initial names number routine known sort d ≡ Ok i) ↔ IsInitial names number routine known sort d i
initial_law names number routine known sort d i =
    let s : Site = record { names = names; spot = record { «module» = number; routine = routine; within = None; at = d.name.at } } in
    in_words
    (where_it_holds s (is_some d.first || not (is_const d.kind)) d.name.at NoInit _ i (
    then (len_of names number routine known d.len) _ i (len_law names number routine known d.len) (λ len.
    then (values_at names number routine known sort len d.first) _ i (values_at_law names number routine known sort len d.first) (λ vs.
    done (record { len = len; values = vs }) i))))
    (λ (given, (len, is_len, (vs, are, same))). subst (IsInitial names number routine known sort d) (sym same) (given, is_len, are))
    (λ (given, is_len, are). (given, (i.len, is_len, (i.values, are, refl))))
