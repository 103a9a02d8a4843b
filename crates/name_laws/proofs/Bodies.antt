-- The rows of a task's routines in its typed tree.
use Rattle.std.proofs.Common.{◌≡◌, ℕ, List, [], ◌∷◌, ◌++◌, length, Some, None, Ok, slice_get, refl, sym, ap, subst, ◌∙◌, false, length-append, arith}
use Rattle.rapid_model.proofs.Lists.{between}
use Rattle.raw_trees.specs.Plain.{PlainRoutine, PlainItem, Datum, Routine, stmts_of, else_of}
use Rattle.typed_trees.specs.Plain.{TypedLocal, TypedRoutine}
use Rattle.rule_checks.proofs.Steps.{behind, ok_same}
use Rattle.data_scopes.specs.Called.{params_of, result_of}
use Rattle.data_scopes.specs.Loops.{loops_in, loops_in_else, loops_in_routine}
use Rattle.data_scopes.specs.Numbers.{Tally, is_pers, is_scalar_const}
use Rattle.data_scopes.specs.Scopes.{Names, list_at}
use Rattle.stmt_types.specs.Bodies.{outside, stmts, into}
use Rattle.task_types.specs.Task.{handler_of, body_of, typed_params, typed_routine, item_bodies, items_bodies, bodies}
use Rattle.name_laws.proofs.Counters.{stmts_next, handler_next, routine_next}
use Rattle.name_laws.proofs.Items.{Fact, IsWalk, IsFront, Stepped, front_more}
use Rattle.name_laws.proofs.Seen.{no_routine}

module _ (names : Names) (locals : List (List TypedLocal)) where
  -- what is known of a routine's row before its statements are checked
  pub record IsHead (number routine : ℕ) (r : PlainRoutine) (t : TypedRoutine) : Type 0 where
    pub name : t.name ≡ r.name.text
    pub «module» : t.«module» ≡ number
    pub at : t.at ≡ r.at
    pub kind : t.kind ≡ r.kind
    pub result : t.result ≡ result_of names.rows routine
    pub params : t.params ≡ typed_params r.params (params_of names.rows routine)
    pub data_are : t.locals ≡ list_at locals routine
    pub loops : t.loops ≡ length (loops_in_routine r)

  head_typed : (number routine : ℕ) (r : PlainRoutine) (t : TypedRoutine) → typed_routine names locals number routine r ≡ Ok t → IsHead number routine r t
  head_typed number routine r t e =
      let P : Type 0 = IsHead number routine r t in
      let body = body_of names number routine r in
      behind P t (stmts body (stmts_of r.list) (into (outside false) (stmts_of r.list)) 0) _ e (λ l is rest.
      behind P t (handler_of body r.handler l.next) _ rest (λ h was done.
      subst (IsHead number routine r) (ok_same _ t done) (record {
        name = refl;
        «module» = refl;
        at = refl;
        kind = refl;
        result = refl;
        params = refl;
        data_are = refl;
        loops = routine_next (λ n. loops_in_else None n (else_of r.handler)) (loops_in None 0 (stmts_of r.list)) l.next h.next
            (stmts_next body (stmts_of r.list) (into (outside false) (stmts_of r.list)) None 0 l is) (handler_next body r.handler l.next h was);
      })))

  abbrev pub AreCounted : Tally → List TypedRoutine → Type 0
  AreCounted c rs = c.routines ≡ length rs

  pub record RoutineIn (rs : List TypedRoutine) (number : ℕ) (c : Tally) (r : PlainRoutine) : Type 0 where
    pub row : TypedRoutine
    pub is : slice_get rs c.routines ≡ Some row
    pub head : IsHead number c.routines r row

  abbrev pub RowIn : List TypedRoutine → Fact
  RowIn rs number c (Datum local task d at) = Unit {0}
  RowIn rs number c (Routine r) = RoutineIn rs number c r

  row_later : (rs ts : List TypedRoutine) (number : ℕ) (c : Tally) (item : PlainItem) → IsFront rs ts → RowIn rs number c item → RowIn ts number c item
  row_later rs ts number c (Datum local task d at) g h = tt
  row_later rs ts number c (Routine r) g h = record { row = h.row; is = g c.routines h.row h.is; head = h.head }

  item_done : (number : ℕ) (c : Tally) (item : PlainItem) (rs ts : List TypedRoutine) → AreCounted c rs → item_bodies names locals number item rs ≡ Ok ts → Stepped AreCounted IsFront RowIn number c item rs ts
  item_done number c (Datum local task d at) rs ts h e =
      subst (Stepped AreCounted IsFront RowIn number c (Datum local task d at) rs) (ok_same rs ts e) (no_routine c (is_scalar_const d) (is_pers d.kind) ∙ h, λ k x is. is, tt)
  item_done number c (Routine r) rs ts h e =
      behind (Stepped AreCounted IsFront RowIn number c (Routine r) rs ts) ts (typed_routine names locals number (length rs) r) _ e (λ t is done.
      let there : slice_get (rs ++ t ∷ []) c.routines ≡ Some t = ap (slice_get (rs ++ t ∷ [])) h ∙ between rs [] t in
      subst (Stepped AreCounted IsFront RowIn number c (Routine r) rs) (ok_same _ ts done) (
        omega (arith, h, length-append rs (t ∷ [])),
        front_more rs t,
        record { row = t; is = there; head = subst (λ n. IsHead number n r t) (sym h) (head_typed number (length rs) r t is) },
      ))

  pub bodies_walk : IsWalk (List TypedRoutine) (item_bodies names locals) (items_bodies names locals) (bodies names locals) AreCounted IsFront RowIn
  bodies_walk = record {
    no_items = λ number s. refl;
    more_items = λ number item items s. refl;
    no_modules = λ number s. refl;
    more_modules = λ number m ms s. refl;
    same = λ s k x is. is;
    then = λ s t u g h k x is. h k x (g k x is);
    later = row_later;
    one = item_done;
  }
