-- The GOTOs and labels of each routine of a task.
use Rattle.std.proofs.Common.{◌≡◌, ℕ, ◌+◌, Bool, false, List, [], ◌∷◌, ◌++◌, length, Some, Ok, slice_get, sym, ap, subst, ◌∙◌, nat_le}
use Rattle.std.proofs.Math.Logic.{⊎_elim}
use Rattle.rapid_limits.specs.declared.TheConstants.{MOST_VALUES}
use Rattle.raw_trees.specs.Plain.{PlainRoutine, PlainItem, PlainModule, Datum, Routine, stmts_of, else_of}
use Rattle.rapid_model.specs.declared.signal_row.SignalRow.{SignalRow}
use Rattle.typed_trees.specs.Plain.{TypedLocal, TypedRoutine, TypedTree}
use Rattle.rule_checks.specs.Checks.{must}
use Rattle.rule_checks.specs.declared.rule.TypeRule.TheVariants.{DataRange}
use Rattle.rule_checks.proofs.Steps.{behind, ok_same}
use Rattle.typed_trees.specs.Labels.{numbers_in_routine}
use Rattle.data_scopes.specs.Naming.{names_of}
use Rattle.data_scopes.specs.Scopes.{Names}
use Rattle.named_data.specs.Rules.{at_byte}
use Rattle.decl_types.specs.Data.{beginning, data_of}
use Rattle.stmt_types.specs.Bodies.{outside, stmts, into}
use Rattle.stmt_types.specs.Labels.{labels_in, labels_in_else, labels_in_routine}
use Rattle.task_types.specs.Task.{task_of, handler_of, body_of, typed_routine, item_bodies, items_bodies, bodies, main_or, top, main_among, routines_of, tree_of}
use Rattle.name_laws.specs.Declared.{StandsIn}
use Rattle.name_laws.specs.Jumps.{JumpsLand, AreApart, AreInOrder, LabelsApart}
use Rattle.name_laws.proofs.Items.{Rest, rest_all, rest_first, rest_more}
use Rattle.name_laws.proofs.Jumps.{numbered, AreFirst, first_append, appended, all_apart, in_order, list_done, within, handler_done}
use Rattle.name_laws.proofs.Meetings.{last_or}

-- of the GOTOs and labels of a typed routine
record AreRight (r : PlainRoutine) (t : TypedRoutine) : Type 0 where
  pub lands : JumpsLand t
  pub all : numbers_in_routine t ≡ numbered (labels_in_routine r) (labels_in_routine r)
  pub first : AreFirst (labels_in_routine r) (labels_in_routine r)

routine_right : (names : Names) (locals : List (List TypedLocal)) (number routine : ℕ) (r : PlainRoutine) (t : TypedRoutine) → typed_routine names locals number routine r ≡ Ok t → AreRight r t
routine_right names locals number routine r t e =
    let body = body_of names number routine r in
    let labels = labels_in_routine r in
    let list = stmts_of r.list in
    let other = else_of r.handler in
    behind (AreRight r t) t (stmts body list (into (outside false) list) 0) _ e (λ l is rest.
    behind (AreRight r t) t (handler_of body r.handler l.next) _ rest (λ h was done.
    let here = list_done body list (into (outside false) list) 0 l is in
    let after = handler_done body r.handler l.next h was in
    subst (AreRight r) (ok_same _ t done) (record {
      lands = record { list = within body [] list l.tree here; handler = after.lands };
      all = appended labels (labels_in list) (labels_in_else other) _ _ here.all after.all;
      first = first_append labels (labels_in list) (labels_in_else other) here.first after.first;
    })))

module _ (modules : List PlainModule) (names : Names) (locals : List (List TypedLocal)) where
  -- a routine of the modules
  record IsOne (t : TypedRoutine) : Type 0 where
    pub number : ℕ
    pub r : PlainRoutine
    pub stands : StandsIn modules number (Routine r)
    pub right : AreRight r t

  abbrev All : List TypedRoutine → Type 0
  All rs = (k : ℕ) (t : TypedRoutine) → slice_get rs k ≡ Some t → IsOne t

  one_more : (rs : List TypedRoutine) (t : TypedRoutine) → All rs → IsOne t → All (rs ++ t ∷ [])
  one_more rs t all one k u is = ⊎_elim (λ before. all k u before) (λ last. subst IsOne last.is_it one) (last_or rs t k u is)

  item_right : (number : ℕ) (item : PlainItem) (rs ts : List TypedRoutine) → StandsIn modules number item → All rs → item_bodies names locals number item rs ≡ Ok ts → All ts
  item_right number (Datum local task d at) rs ts stands all e = subst All (ok_same rs ts e) all
  item_right number (Routine r) rs ts stands all e =
      behind (All ts) ts (typed_routine names locals number (length rs) r) _ e (λ t is done.
      subst All (ok_same _ ts done) (one_more rs t all (record { number = number; r = r; stands = stands; right = routine_right names locals number (length rs) r t is })))

  items_right : (number : ℕ) (m : PlainModule) (index : ℕ) (items : List PlainItem) (rs ts : List TypedRoutine) → slice_get modules number ≡ Some m → Rest m.items index items → All rs →
      items_bodies names locals number items rs ≡ Ok ts → All ts
  items_right number m index [] rs ts is rest all e = subst All (ok_same rs ts e) all
  items_right number m index (item ∷ items) rs ts is rest all e =
      behind (All ts) ts (item_bodies names locals number item rs) _ e (λ us one more.
      items_right number m (index + 1) items us ts is (rest_more m.items index item items rest)
      (item_right number item rs us (record { unit = m; index = index; is_module = is; is_item = rest_first m.items index item items rest }) all one) more)

  modules_right : (number : ℕ) (ms : List PlainModule) (rs ts : List TypedRoutine) → Rest modules number ms → All rs → bodies names locals number ms rs ≡ Ok ts → All ts
  modules_right number [] rs ts rest all e = subst All (ok_same rs ts e) all
  modules_right number (m ∷ ms) rs ts rest all e =
      behind (All ts) ts (items_bodies names locals number m.items rs) _ e (λ us here more.
      modules_right (number + 1) ms us ts (rest_more modules number m ms rest)
      (items_right number m 0 m.items rs us (rest_first modules number m ms rest) (rest_all m.items) all here) more)

-- a routine of a checked tree
pub record IsRight (modules : List PlainModule) (t : TypedRoutine) : Type 0 where
  pub lands : JumpsLand t
  pub once : ((number : ℕ) (r : PlainRoutine) → StandsIn modules number (Routine r) → LabelsApart r) → AreApart (numbers_in_routine t)
  pub in_text_order : ((number : ℕ) (r : PlainRoutine) → StandsIn modules number (Routine r) → LabelsApart r) → AreInOrder (numbers_in_routine t)

pub jumps_right : (modules : List PlainModule) (tasks : List (List ℕ)) (signals : List SignalRow) (axes : ℕ) (tree : TypedTree) → task_of modules tasks signals axes ≡ Ok tree →
    (k : ℕ) (t : TypedRoutine) → slice_get tree.routines k ≡ Some t → IsRight modules t
jumps_right modules tasks signals axes tree e k t is =
    let P : Type 0 = IsRight modules t in
    behind P tree (names_of modules signals axes) _ e (λ names named rest.
    behind P tree (data_of 0 modules (beginning names)) _ rest (λ p held more.
    behind P tree (bodies p.names p.locals 0 modules []) _ more (λ routines run left.
    behind P tree (main_or (top p.names) (main_among (routines_of modules))) _ left (λ main runs last.
    behind P tree (must (nat_le p.values MOST_VALUES) (at_byte (top p.names) 0 DataRange)) _ last (λ u few done.
    let there : slice_get routines k ≡ Some t = ap (λ x. slice_get x.routines k) (ok_same (tree_of modules tasks axes p routines main) tree done) ∙ is in
    let none : All modules p.names p.locals [] = λ n x none. absurd (cc) in
    let one = modules_right modules p.names p.locals 0 modules [] routines (rest_all modules) none run k t there in
    let labels = labels_in_routine one.r in
    record {
      lands = one.right.lands;
      once = λ apart. subst AreApart (sym one.right.all) (all_apart labels labels one.right.first (apart one.number one.r one.stands));
      in_text_order = λ apart. subst AreInOrder (sym one.right.all) (in_order labels one.right.first (apart one.number one.r one.stands));
    })))))
