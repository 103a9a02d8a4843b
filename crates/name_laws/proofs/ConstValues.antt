-- The values kept for CONSTs that are not arrays: each is that of its declaration.
use Rattle.std.proofs.Common.{◌≡◌, ℕ, zero, suc, ◌+◌, ◌<◌, ◌≤◌, Bool, true, false, not, ◌&&◌, ◌||◌, List, [], ◌∷◌, length, set, Option, Some, None, is_some, is_none, Ok, slice_get, refl, sym, ap, subst, ◌∙◌, if◌then◌else◌, arith}
use Rattle.std.proofs.lemmas.List.{length-append, length-replicate, length-set}
use Rattle.raw_trees.specs.Plain.{PlainExpr, PlainDatum, PlainRoutine, PlainItem, Datum, Routine}
use Rattle.rapid_model.specs.Sorts.{has_values}
use Rattle.rapid_model.specs.declared.sort.Sort.{Sort}
use Rattle.rapid_model.specs.declared.value.Value.{Value}
use Rattle.rule_checks.specs.Checks.{must}
use Rattle.rule_checks.specs.declared.rule.TypeRule.TheVariants.{NotConst}
use Rattle.rule_checks.proofs.Steps.{behind, it_holds, ok_same}
use Rattle.constant_meaning.specs.Constants.{Elements, constant_value, is_constant}
use Rattle.data_scopes.specs.Called.{local_of}
use Rattle.data_scopes.specs.Kept.{with_kept}
use Rattle.data_scopes.specs.Numbers.{Tally, is_const, is_pers, is_scalar_const, scalar_consts, after_item}
use Rattle.data_scopes.specs.Rows.{begin_of}
use Rattle.data_scopes.specs.Scopes.{Names, Rows}
use Rattle.data_scopes.proofs.Within.{after_by}
use Rattle.data_scopes.proofs.Keeping.{set_same}
use Rattle.named_data.specs.Rules.{Site, at_byte}
use Rattle.named_data.specs.declared.wanted.Wanted.TheVariants.{Is, Nothing}
use Rattle.expr_types.specs.Typing.{typed}
use Rattle.decl_types.specs.Values.{Initial, init_rule, initial, initial_values, len_of, no_value, single_value, site_of, value_or_fault, values_at}
use Rattle.decl_types.specs.Data.{Inner, Progress, data_of, entered, item, items, keeping, left, local, locals, of_modules, routine, sort_in, with_const, with_pers, with_slot}
use Rattle.name_laws.specs.Constants.{HasItsValue}
use Rattle.name_laws.proofs.ConstRows.{consts_before}
use Rattle.name_laws.proofs.Data.{datum_by, local_by}
use Rattle.name_laws.proofs.Items.{Done, Fact, IsWalk}

put_elsewhere : {A : Type 0} (xs : List A) (k : ℕ) (y : A) (j : ℕ) → (j ≡ k → ⊥) → slice_get (set xs k y) j ≡ slice_get xs j
put_elsewhere [] k y j other = refl
put_elsewhere (x ∷ xs) zero y zero other = absurd (other refl)
put_elsewhere (x ∷ xs) zero y (suc j) other = refl
put_elsewhere (x ∷ xs) (suc k) y zero other = refl
put_elsewhere (x ∷ xs) (suc k) y (suc j) other = put_elsewhere xs k y j (λ e. other (ap suc e))

-- one value
One : Option (List Value) → Type 0
One vs = (v : Value) × (vs ≡ Some (v ∷ []))

single_one : (site : Site) (known : Elements) (sort : Sort) (e : PlainExpr) (vs : List Value) → single_value site known sort e ≡ Ok vs → One (Some vs)
unfolding One
single_one site known sort e vs is =
    behind (One (Some vs)) vs (typed site e (Is sort)) _ is (λ t was rest.
    behind (One (Some vs)) vs (must (is_constant known t) (at_byte site (begin_of e) NotConst)) _ rest (λ u constant more.
    behind (One (Some vs)) vs (value_or_fault site (begin_of e) sort (constant_value known t)) _ more (λ v came done.
    (v, ap Some (sym (ok_same (v ∷ []) vs done))))))

not_none : (site : Site) (e : PlainExpr) (vs : List Value) → no_value site e ≡ Ok vs → ⊥
not_none site e vs is = behind ⊥ vs (typed site e Nothing) _ is (λ t was rest. cc rest)

initial_one : (site : Site) (known : Elements) (sort : Sort) (e : PlainExpr) (vs : List Value) → (b : Bool) → (if b then single_value site known sort e else no_value site e) ≡ Ok vs → One (Some vs)
initial_one site known sort e vs true is = single_one site known sort e vs is
initial_one site known sort e vs false is = absurd (not_none site e vs is)

values_one : (names : Names) (number : ℕ) (around : Option ℕ) (known : Elements) (sort : Sort) (first : Option PlainExpr) (vs : Option (List Value)) → is_some first ≡ true → values_at names number around known sort None first ≡ Ok vs → One vs
unfolding One
values_one names number around known sort None vs there is = absurd (cc there)
values_one names number around known sort (Some e) vs there is =
    behind (One vs) vs (initial_values (site_of names number around e) known sort None e) _ is (λ us was done.
    subst One (ok_same (Some us) vs done) (initial_one (site_of names number around e) known sort e us (has_values sort) was))

scalar_is : (const : Bool) (len : Option PlainExpr) → (const && is_none len) ≡ true → (const ≡ true) × (len ≡ None)
scalar_is true None e = (refl, refl)
scalar_is true (Some e') e = absurd (cc e)
scalar_is false len e = absurd (cc e)

given_if : (first : Bool) (const : Bool) → const ≡ true → (first || not const) ≡ true → first ≡ true
given_if true const is e = refl
given_if false true is e = absurd (cc e)
given_if false false is e = absurd (cc is)

-- a CONST that is not an array has one value
const_one : (names : Names) (number : ℕ) (around : Option ℕ) (known : Elements) (sort : Sort) (d : PlainDatum) (i : Initial) → is_scalar_const d ≡ true → initial names number around known sort d ≡ Ok i
    → (v : Value) × (i ≡ record { len = None; values = Some (v ∷ []) })
unfolding One
const_one names number around known sort d i scalar is =
    let P : Type 0 = (v : Value) × (i ≡ record { len = None; values = Some (v ∷ []) }) in
    let (const, no_len) = scalar_is (is_const d.kind) d.len scalar in
    behind P i (init_rule names number around d) _ is (λ u has rest.
    behind P i (len_of names number around known d.len) _ rest (λ len found more.
    let none : len ≡ None = sym (ok_same None len (ap (len_of names number around known) (sym no_len) ∙ found)) in
    behind P i (values_at names number around known sort len d.first) _ more (λ vs were done.
    let given = given_if (is_some d.first) (is_const d.kind) const (it_holds (is_some d.first || not (is_const d.kind)) _ u has) in
    let (v, one) = values_one names number around known sort d.first vs given (ap (λ l. values_at names number around known sort l d.first) (sym none) ∙ were) in
    (v, sym (ok_same _ i done) ∙ ap (λ l. let x : Initial = record { len = l; values = vs } in x) none ∙ ap (λ w. let x : Initial = record { len = None; values = w } in x) one))))

module _ (rows : Rows) where
  -- names in which CONSTs below a number have values
  pub record Knows (names : Names) (consts : ℕ) : Type 0 where
    pub same : names.rows ≡ rows
    pub above : (j : ℕ) (value : Option Value) → consts ≤ j → slice_get names.kept j ≡ Some value → value ≡ None

  -- names with more values
  pub record Grows (a : Names) (m : ℕ) (b : Names) (n : ℕ) : Type 0 where
    pub more : m ≤ n
    pub below : (j : ℕ) → j < m → slice_get a.kept j ≡ slice_get b.kept j
    pub long : length b.kept ≡ length a.kept
    pub same : a ≡ record b { kept = a.kept }

  grows_same : (a : Names) (m : ℕ) → Grows a m a m
  grows_same a m = record { more = omega arith; below = λ j few. refl; long = refl; same = refl }

  grows_then : (a : Names) (m : ℕ) (b : Names) (n : ℕ) (c : Names) (o : ℕ) → Grows a m b n → Grows b n c o → Grows a m c o
  grows_then a m b n c o g h = record {
    more = omega (arith, g.more, h.more);
    below = λ j few. g.below j few ∙ h.below j (omega (arith, few, g.more));
    long = h.long ∙ g.long;
    same = g.same ∙ ap (λ (x : Names). let r : Names = record x { kept = a.kept } in r) h.same;
  }

  -- a value stays
  value_later : (a : Names) (m : ℕ) (b : Names) (n k number : ℕ) (around : Option ℕ) (d : PlainDatum) (sort : Sort) → k < m → Grows a m b n → HasItsValue a k number around d sort → HasItsValue b k number around d sort
  value_later a m b n k number around d sort few g h = record {
    before = h.before;
    known = h.known;
    value = h.value;
    comes_to = h.comes_to;
    has_value = sym (g.below k few) ∙ h.has_value;
    same = h.same ∙ ap (λ (x : Names). let r : Names = record x { kept = h.before.kept } in r) g.same;
    below = λ j less. h.below j less ∙ g.below j (omega (arith, less, few));
    above = h.above;
  }

  -- one more value
  pub record Kept (names : Names) (k number : ℕ) (around : Option ℕ) (d : PlainDatum) (sort : Sort) (next : Names) : Type 0 where
    pub knows : Knows next (k + 1)
    pub grows : Grows names k next (k + 1)
    pub has_value : k < length next.kept → HasItsValue next k number around d sort

  value_kept : (names : Names) (k number : ℕ) (around : Option ℕ) (known : Elements) (sort : Sort) (d : PlainDatum) (i : Initial) → Knows names k → is_scalar_const d ≡ true → initial names number around known sort d ≡ Ok i
      → Kept names k number around d sort (keeping names k i.values)
  value_kept names k number around known sort d i knows scalar is =
      let (v, one) = const_one names number around known sort d i scalar is in
      let kept_is : keeping names k i.values ≡ with_kept names k v = ap (λ (x : Initial). keeping names k x.values) one in
      subst (Kept names k number around d sort) (sym kept_is) (record {
        knows = record {
          same = knows.same;
          above = λ j value past at. knows.above j value (omega (arith, past)) (sym (put_elsewhere names.kept k (Some v) j (λ e. omega (arith, e, past))) ∙ at);
        };
        grows = record {
          more = omega arith;
          below = λ j few. sym (put_elsewhere names.kept k (Some v) j (λ e. omega (arith, e, few)));
          long = length-set names.kept k (Some v);
          same = refl;
        };
        has_value = λ within. record {
          before = names;
          known = known;
          value = v;
          comes_to = is ∙ ap Ok one;
          has_value = set_same names.kept k (Some v) (omega (arith, within, length-set names.kept k (Some v)));
          same = refl;
          below = λ j less. sym (put_elsewhere names.kept k (Some v) j (λ e. omega (arith, e, less)));
          above = knows.above;
        };
      })

  -- the CONSTs among a routine's data, given the place of the first after its parameters
  pub record LocalsKept (number around index : ℕ) (ds : List PlainDatum) (n m : Inner) : Type 0 where
    pub count : m.consts ≡ n.consts + scalar_consts ds
    pub knows : Knows m.names m.consts
    pub grows : Grows n.names n.consts m.names m.consts
    pub values : (k : ℕ) (d : PlainDatum) → slice_get ds k ≡ Some d → is_scalar_const d ≡ true → n.consts + consts_before k ds < length m.names.kept
        → HasItsValue m.names (n.consts + consts_before k ds) number (Some around) d (sort_in (local_of rows (Some around) (index + k)))

  -- a datum of a routine
  pub record LocalKept (number around index : ℕ) (d : PlainDatum) (scalar : Bool) (n u : Inner) : Type 0 where
    pub count : u.consts ≡ n.consts + (if scalar then 1 else 0)
    pub longer : length u.known ≡ length n.known + 1
    pub knows : Knows u.names u.consts
    pub grows : Grows n.names n.consts u.names u.consts
    pub value : scalar ≡ true → n.consts < length u.names.kept → HasItsValue u.names n.consts number (Some around) d (sort_in (local_of rows (Some around) index))

  local_by_kind : (number around index : ℕ) (known : Elements) (d : PlainDatum) (n : Inner) (sort : Sort) (i : Initial) (scalar : Bool) (elements : Option (List Value)) → sort ≡ sort_in (local_of rows (Some around) index) → Knows n.names n.consts
      → is_scalar_const d ≡ scalar → initial n.names number (Some around) known sort d ≡ Ok i → LocalKept number around index d scalar n (local_by rows n d sort i scalar elements)
  local_by_kind number around index known d n sort i true elements is_sort knows scalar is =
      let kept = value_kept n.names n.consts number (Some around) known sort d i knows scalar is in
      record {
        count = refl;
        longer = length-append n.known (None ∷ []);
        knows = kept.knows;
        grows = kept.grows;
        value = λ e within. subst (HasItsValue (keeping n.names n.consts i.values) n.consts number (Some around) d) is_sort (kept.has_value within);
      }
  local_by_kind number around index known d n sort i false elements is_sort knows scalar is =
      record { count = omega arith; longer = length-append n.known (elements ∷ []); knows = knows; grows = grows_same n.names n.consts; value = λ e. absurd (cc e) }

  local_kept : (number around index : ℕ) (slots : List (Option (List Value))) (d : PlainDatum) (n u : Inner) → length n.known ≡ index → Knows n.names n.consts → local number around slots d n ≡ Ok u
      → LocalKept number around index d (is_scalar_const d) n u
  local_kept number around index slots d n u long knows e =
      let sort = sort_in (local_of n.names.rows (Some around) (length n.known)) in
      let is_sort : sort ≡ sort_in (local_of rows (Some around) index) = ap (λ r. sort_in (local_of r (Some around) (length n.known))) knows.same ∙ ap (λ k. sort_in (local_of rows (Some around) k)) long in
      behind (LocalKept number around index d (is_scalar_const d) n u) u (initial n.names number (Some around) (record { slots = slots; locals = n.known }) sort d) _ e (λ i is done.
      subst (LocalKept number around index d (is_scalar_const d) n) (ok_same _ u done) (local_by_kind number around index (record { slots = slots; locals = n.known }) d n sort i (is_scalar_const d) _ is_sort knows refl is))

  locals_kept : (number around index : ℕ) (slots : List (Option (List Value))) (ds : List PlainDatum) (n m : Inner) → length n.known ≡ index → Knows n.names n.consts → locals number around slots ds n ≡ Ok m → LocalsKept number around index ds n m
  locals_kept number around index slots [] n m long knows e =
      subst (LocalsKept number around index [] n) (ok_same n m e) (record { count = omega arith; knows = knows; grows = grows_same n.names n.consts; values = λ k d is. absurd (cc is) })
  locals_kept number around index slots (d ∷ ds) n m long knows e =
      behind (LocalsKept number around index (d ∷ ds) n m) m (local number around slots d n) _ e (λ u is rest.
      let one = local_kept number around index slots d n u long knows is in
      let more = locals_kept number around (index + 1) slots ds u m (omega (arith, one.longer, long)) one.knows rest in
      let here : ℕ = if is_scalar_const d then 1 else 0 in
      record {
        count = more.count ∙ ap (λ c. c + scalar_consts ds) one.count ∙ omega arith;
        knows = more.knows;
        grows = grows_then n.names n.consts u.names u.consts m.names m.consts one.grows more.grows;
        values = values_of number around index d ds n u m one more;
      })
    where
      values_of : (number around index : ℕ) (d : PlainDatum) (ds : List PlainDatum) (n u m : Inner) → LocalKept number around index d (is_scalar_const d) n u → LocalsKept number around (index + 1) ds u m → (k : ℕ) (e : PlainDatum)
          → slice_get (d ∷ ds) k ≡ Some e → is_scalar_const e ≡ true → n.consts + consts_before k (d ∷ ds) < length m.names.kept
          → HasItsValue m.names (n.consts + consts_before k (d ∷ ds)) number (Some around) e (sort_in (local_of rows (Some around) (index + k)))
      values_of number around index d ds n u m one more zero e is scalar within =
          let same : d ≡ e = cc is in
          let d_scalar = subst (λ x. is_scalar_const x ≡ true) (sym same) scalar in
          let first : n.consts + 0 ≡ n.consts = omega arith in
          let spot : index + 0 ≡ index = omega arith in
          let grown : u.consts ≡ n.consts + 1 = one.count ∙ ap (λ b. n.consts + (if b then 1 else 0)) d_scalar in
          let value = one.value d_scalar (omega (arith, within, more.grows.long)) in
          let later = value_later u.names u.consts m.names m.consts n.consts number (Some around) d (sort_in (local_of rows (Some around) index)) (omega (arith, grown)) more.grows value in
          subst (λ x. HasItsValue m.names (n.consts + 0) number (Some around) x (sort_in (local_of rows (Some around) (index + 0)))) same
          (subst (λ c. HasItsValue m.names c number (Some around) d (sort_in (local_of rows (Some around) (index + 0)))) (sym first)
          (subst (λ p. HasItsValue m.names n.consts number (Some around) d (sort_in (local_of rows (Some around) p))) (sym spot) later))
      values_of number around index d ds n u m one more (suc k) e is scalar within =
          let here : ℕ = if is_scalar_const d then 1 else 0 in
          let count : u.consts + consts_before k ds ≡ n.consts + consts_before (suc k) (d ∷ ds) = ap (λ c. c + consts_before k ds) one.count ∙ omega arith in
          let spot : (index + 1) + k ≡ index + suc k = omega arith in
          subst (λ c. HasItsValue m.names c number (Some around) e (sort_in (local_of rows (Some around) (index + suc k)))) count
          (subst (λ p. HasItsValue m.names (u.consts + consts_before k ds) number (Some around) e (sort_in (local_of rows (Some around) p))) spot
          (more.values k e is scalar (omega (arith, within, count))))

  -- as many CONSTs and routines as were counted
  pub record AreCounted (c : Tally) (p : Progress) : Type 0 where
    pub consts : c.consts ≡ p.consts
    pub routines : c.routines ≡ length p.locals
    pub knows : Knows p.names p.consts

  abbrev pub Grow : Progress → Progress → Type 0
  Grow p q = Grows p.names p.consts q.names q.consts

  -- a CONST of a module has its value
  abbrev pub DatumIn : Progress → ℕ → Tally → PlainDatum → Bool → Type 0
  DatumIn p number c d true = (c.consts < p.consts) × (c.consts < length p.names.kept → HasItsValue p.names c.consts number None d (sort_in (slice_get rows.consts c.consts)))
  DatumIn p number c d false = Unit {0}

  -- and so have those of a routine
  pub record RoutineIn (p : Progress) (number : ℕ) (c : Tally) (r : PlainRoutine) : Type 0 where
    pub few : c.consts + scalar_consts r.locals ≤ p.consts
    pub values : (k : ℕ) (d : PlainDatum) → slice_get r.locals k ≡ Some d → is_scalar_const d ≡ true → c.consts + consts_before k r.locals < length p.names.kept
        → HasItsValue p.names (c.consts + consts_before k r.locals) number (Some c.routines) d (sort_in (local_of rows (Some c.routines) (length r.params + k)))

  abbrev pub ValueIn : Progress → Fact
  ValueIn p number c (Datum local task d at) = DatumIn p number c d (is_scalar_const d)
  ValueIn p number c (Routine r) = RoutineIn p number c r

  -- a CONST before a place is one of them all
  before_all : (ds : List PlainDatum) (k : ℕ) (d : PlainDatum) → slice_get ds k ≡ Some d → is_scalar_const d ≡ true → consts_before k ds < scalar_consts ds
  before_all [] k d is scalar = absurd (cc is)
  before_all (e ∷ ds) zero d is scalar =
      let same : e ≡ d = cc is in
      let one : ◌≡◌ {A = ℕ} (if is_scalar_const e then 1 else 0) 1 = ap (λ b. if b then 1 else 0) (subst (λ x. is_scalar_const x ≡ true) (sym same) scalar) in
      omega (arith, one)
  before_all (e ∷ ds) (suc k) d is scalar = let here : ℕ = if is_scalar_const e then 1 else 0 in omega (arith, before_all ds k d is scalar)

  datum_later : (p q : Progress) (number : ℕ) (c : Tally) (d : PlainDatum) (scalar : Bool) → Grow p q → DatumIn p number c d scalar → DatumIn q number c d scalar
  datum_later p q number c d true g h = (
    omega (arith, h.0, g.more),
    λ within. value_later p.names p.consts q.names q.consts c.consts number None d (sort_in (slice_get rows.consts c.consts)) h.0 g (h.1 (omega (arith, within, g.long))),
  )
  datum_later p q number c d false g h = tt

  value_in_later : (p q : Progress) (number : ℕ) (c : Tally) (item : PlainItem) → Grow p q → ValueIn p number c item → ValueIn q number c item
  value_in_later p q number c (Datum local task d at) g h = datum_later p q number c d (is_scalar_const d) g h
  value_in_later p q number c (Routine r) g h = record {
    few = omega (arith, h.few, g.more);
    values = λ k d is scalar within.
        value_later p.names p.consts q.names q.consts (c.consts + consts_before k r.locals) number (Some c.routines) d (sort_in (local_of rows (Some c.routines) (length r.params + k)))
        (omega (arith, h.few, before_all r.locals k d is scalar)) g (h.values k d is scalar (omega (arith, within, g.long)));
  }

  datum_done : (number : ℕ) (c : Tally) (own : Bool) (d : PlainDatum) (p q : Progress) (scalar pers : Bool) → is_scalar_const d ≡ scalar → AreCounted c p → datum_by rows number own d p scalar pers ≡ Ok q
      → Done AreCounted Grow (after_by c scalar pers) (λ q. DatumIn q number c d scalar) p q
  datum_done number c own d p q true pers scalar h e =
      let Is : Progress → Type 0 = Done AreCounted Grow (after_by c true pers) (λ q. DatumIn q number c d true) p in
      let sort = sort_in (slice_get p.names.rows.consts p.consts) in
      let is_sort : sort ≡ sort_in (slice_get rows.consts c.consts) = ap (λ r. sort_in (slice_get r.consts p.consts)) h.knows.same ∙ ap (λ k. sort_in (slice_get rows.consts k)) (sym h.consts) in
      behind (Is q) q (initial p.names number None (of_modules p) sort d) _ e (λ i is done.
      let kept = value_kept p.names p.consts number None (of_modules p) sort d i h.knows scalar is in
      subst Is (ok_same (with_const p i) q done) (
        record { consts = omega (arith, h.consts); routines = h.routines; knows = kept.knows },
        kept.grows,
        (
          omega (arith, h.consts),
          λ within.
              subst (λ k. HasItsValue (keeping p.names p.consts i.values) k number None d (sort_in (slice_get rows.consts c.consts))) (sym h.consts)
              (subst (HasItsValue (keeping p.names p.consts i.values) p.consts number None d) is_sort (kept.has_value (omega (arith, within, h.consts)))),
        ),
      ))
  datum_done number c own d p q false true scalar h e =
      let Is : Progress → Type 0 = Done AreCounted Grow (after_by c false true) (λ q. DatumIn q number c d false) p in
      let sort = sort_in (slice_get p.names.rows.pers (length p.pers)) in
      behind (Is q) q (initial p.names number None (of_modules p) sort d) _ e (λ i is done.
      subst Is (ok_same (with_pers p number own d sort i) q done) (record { consts = h.consts; routines = h.routines; knows = h.knows }, grows_same p.names p.consts, tt))
  datum_done number c own d p q false false scalar h e =
      let Is : Progress → Type 0 = Done AreCounted Grow (after_by c false false) (λ q. DatumIn q number c d false) p in
      let sort = sort_in (slice_get p.names.rows.slots (length p.slots)) in
      behind (Is q) q (initial p.names number None (of_modules p) sort d) _ e (λ i is done.
      subst Is (ok_same (with_slot p d sort i) q done) (record { consts = h.consts; routines = h.routines; knows = h.knows }, grows_same p.names p.consts, tt))

  routine_done : (number : ℕ) (c : Tally) (r : PlainRoutine) (p q : Progress) → AreCounted c p → routine number r p ≡ Ok q → Done AreCounted Grow (after_item c (Routine r)) (λ q. RoutineIn q number c r) p q
  routine_done number c r p q h e =
      let Is : Progress → Type 0 = Done AreCounted Grow (after_item c (Routine r)) (λ q. RoutineIn q number c r) p in
      behind (Is q) q (locals number (length p.locals) p.known r.locals (entered p r.params)) _ e (λ n is done.
      let all = locals_kept number (length p.locals) (length r.params) p.known r.locals (entered p r.params) n (length-replicate (length r.params) None) h.knows is in
      subst Is (ok_same (left p n) q done) (
        record { consts = omega (arith, all.count, h.consts); routines = omega (arith, h.routines, length-append p.locals (n.rows ∷ [])); knows = all.knows },
        all.grows,
        record {
          few = omega (arith, all.count, h.consts);
          values = λ k d is scalar within.
              subst (λ m. HasItsValue n.names (c.consts + consts_before k r.locals) number (Some m) d (sort_in (local_of rows (Some m) (length r.params + k)))) (sym h.routines)
              (subst (λ m. HasItsValue n.names (m + consts_before k r.locals) number (Some (length p.locals)) d (sort_in (local_of rows (Some (length p.locals)) (length r.params + k)))) (sym h.consts)
              (all.values k d is scalar (omega (arith, within, h.consts))));
        },
      ))

  item_done : (number : ℕ) (c : Tally) (i : PlainItem) (p q : Progress) → AreCounted c p → item number i p ≡ Ok q → AreCounted (after_item c i) q × Grow p q × ValueIn q number c i
  item_done number c (Datum local task d at) p q h e = datum_done number c (local || task) d p q (is_scalar_const d) (is_pers d.kind) refl h e
  item_done number c (Routine r) p q h e = routine_done number c r p q h e

  pub values_walk : IsWalk Progress item items data_of AreCounted Grow ValueIn
  values_walk = record {
    no_items = λ number s. refl;
    more_items = λ number i is s. refl;
    no_modules = λ number s. refl;
    more_modules = λ number m ms s. refl;
    same = λ s. grows_same s.names s.consts;
    then = λ s t u g h. grows_then s.names s.consts t.names t.consts u.names u.consts g h;
    later = value_in_later;
    one = item_done;
  }
