-- The routines of a task's modules.
use Rattle.std.proofs.Common.{◌≡◌, ◌↔◌, ℕ, ◌+◌, true, false, List, [], ◌∷◌, ◌++◌, length, Option, Some, None, Ok}
use Rattle.raw_trees.specs.Plain as Raw
use Rattle.raw_trees.specs.Plain.{PlainRoutine, PlainItem, PlainModule, Datum, Routine, stmts_of}
use Rattle.typed_trees.specs.Plain.{TypedStmts, TypedLocal, TypedRoutine}
use Rattle.data_scopes.specs.Scopes.{Names}
use Rattle.stmt_types.specs.Bodies.{Body, Typed, outside, stmts, into}
use Rattle.task_types.specs.Task.{handler_of, body_of, typed_routine, items_bodies, bodies}
use Rattle.type_laws.proofs.Steps.{in_words, done, then}
use Rattle.type_laws.proofs.Sequences.{typed_is, with_last}
use Rattle.type_laws.proofs.StatementLaws.{stmts_law}
use Rattle.type_laws.specs.Tasks.{IsHandler, IsRoutine, AreItemRoutines, AreRoutines}
use Rattle.type_laws.proofs.TaskSteps.{regrouped}

handler_law : (body : Body) (handler : Option (List Raw.PlainStmt)) (next : ℕ) (h : Typed (Option TypedStmts)) → (handler_of body handler next ≡ Ok h) ↔ IsHandler body handler next h.tree h.next
handler_law body None next h = typed_is None next h
handler_law body (Some list) next h =
    with_last (stmts body (stmts_of list) (into (outside true) (stmts_of list)) next) Some h (stmts_law body (stmts_of list) (into (outside true) (stmts_of list)) next)

routine_law : (names : Names) (locals : List (List TypedLocal)) (number routine : ℕ) (r : PlainRoutine) (t : TypedRoutine)
    → (typed_routine names locals number routine r ≡ Ok t) ↔ IsRoutine names locals number routine r t
routine_law names locals number routine r t =
    let body : Body = body_of names number routine r in
    in_words
    (then (stmts body (stmts_of r.list) (into (outside false) (stmts_of r.list)) 0) _ t (stmts_law body (stmts_of r.list) (into (outside false) (stmts_of r.list)) 0) (λ l.
    then (handler_of body r.handler l.next) _ t (handler_law body r.handler l.next) (λ h. done _ t)))
    (λ (l, are, (h, is_handler, is)). (l.tree, l.next, h.tree, h.next, are, is_handler, is))
    (λ (ts, middle, h, loops, are, is_handler, is). (record { tree = ts; next = middle }, are, (record { tree = h; next = loops }, is_handler, is)))

items_law : (names : Names) (locals : List (List TypedLocal)) (number : ℕ) (is : List PlainItem) (before past : List TypedRoutine)
    → (items_bodies names locals number is before ≡ Ok past) ↔ AreItemRoutines names locals number is before past
items_law names locals number [] before past = done before past
items_law names locals number (Datum local task d at ∷ is) before past = items_law names locals number is before past
items_law names locals number (Routine r ∷ is) before past =
    regrouped (typed_routine names locals number (length before) r) _ _ past (
    then (typed_routine names locals number (length before) r) _ past (routine_law names locals number (length before) r) (λ t.
    items_law names locals number is (before ++ t ∷ []) past))

pub routines_law : (names : Names) (locals : List (List TypedLocal)) (number : ℕ) (ms : List PlainModule) (before past : List TypedRoutine)
    → (bodies names locals number ms before ≡ Ok past) ↔ AreRoutines names locals number ms before past
routines_law names locals number [] before past = done before past
routines_law names locals number (m ∷ ms) before past =
    then (items_bodies names locals number m.items before) _ past (items_law names locals number m.items before) (λ middle. routines_law names locals (number + 1) ms middle past)
