-- The number after a routine's last FOR is how many FORs it has.
use Rattle.std.proofs.Common.{◌≡◌, ℕ, ◌+◌, true, List, ◌++◌, length, Option, Some, None, Ok, sym, ap, ◌∙◌, length-append, arith}
use Rattle.raw_trees.specs.Plain as Raw
use Rattle.raw_trees.specs.Plain.{PlainStmt, PlainStmts, PlainArms, PlainCases, PlainElse, Assign, Call, Label, Goto, Return, Exit, Raise, Retry, TryNext, Connect, If, IfOne, For, While, Test, NoStmts, MoreStmts, NoArms, MoreArms, NoCases, MoreCases, NoElse, Else, stmts_of, else_of}
use Rattle.rapid_model.specs.declared.operator.Operator.TheVariants as operators
use Rattle.rapid_model.specs.declared.sort.Sort.{Sort}
use Rattle.rapid_model.specs.declared.sort.Sort.TheVariants as sorts
use Rattle.typed_trees.specs.Plain
use Rattle.typed_trees.specs.Plain.{TypedStmt, TypedStmts, TypedArms, TypedCases, TypedElse}
use Rattle.rule_checks.specs.TypeChecks.{Checked}
use Rattle.rule_checks.proofs.Steps.{behind, ok_same}
use Rattle.data_scopes.specs.Loops.{loops_of, loops_in, loops_in_arms, loops_in_cases, loops_in_else}
use Rattle.data_scopes.specs.Scopes.{Loop}
use Rattle.named_data.specs.declared.wanted.Wanted.TheVariants.{Is, Fits}
use Rattle.named_data.specs.Rules.{Site}
use Rattle.expr_types.specs.Typing.{typed, sort_of}
use Rattle.stmt_types.specs.Bodies.{Body, Around, Typed, outside, site, into, into_loop, assigned, called, labelled, jumped, returned, raised, in_handler, connected, bounds, case_values, then_next, stmt, stmts, branches, choices, otherwise}
use Rattle.task_types.specs.Task.{handler_of}

-- a statement with no FOR
alone : (next : ℕ) (checked : Checked TypedStmt) (r : Typed TypedStmt) → then_next next checked ≡ Ok r → r.next ≡ next + 0
alone next checked r e =
    behind (r.next ≡ next + 0) r checked _ e (λ t is done. let same : next ≡ r.next = ap (λ x. x.next) (ok_same _ r done) in omega (arith, same))

-- FORs in a part, and in what comes after it
in_turn : (next : ℕ) (here : List Loop) (rest : ℕ → List Loop) (middle past : ℕ) → middle ≡ next + length here → past ≡ middle + length (rest middle) → past ≡ next + length (here ++ rest (next + length here))
in_turn next here rest middle past first last =
    let more = rest (next + length here) in
    let sum : (next + length here) + length more ≡ next + length (here ++ more) = omega (arith, length-append here more) in
    last ∙ ap (λ n. n + length (rest n)) first ∙ sum

mutual
  unfolding stmt stmts branches choices otherwise

  stmt_next : (body : Body) (statement : PlainStmt) (around : Around) (outer : Option ℕ) (next : ℕ) (r : Typed TypedStmt) → stmt body statement around next ≡ Ok r → r.next ≡ next + length (loops_of outer next statement)
  stmt_next body (Assign at written value) around outer next r e = alone next (assigned (site body around at) at written value) r e
  stmt_next body (Call at name args) around outer next r e = alone next (called (site body around at) at name args) r e
  stmt_next body (Label at name) around outer next r e = alone next (labelled body (site body around at) at name) r e
  stmt_next body (Goto at name) around outer next r e = alone next (jumped body around (site body around at) at name) r e
  stmt_next body (Return at value) around outer next r e = alone next (returned body (site body around at) at value) r e
  stmt_next body (Exit at) around outer next r e = alone next (Ok (Plain.Exit at)) r e
  stmt_next body (Raise at number) around outer next r e = alone next (raised around (site body around at) at number) r e
  stmt_next body (Retry at) around outer next r e = alone next (in_handler around (site body around at) at (Plain.Retry at)) r e
  stmt_next body (TryNext at) around outer next r e = alone next (in_handler around (site body around at) at (Plain.TryNext at)) r e
  stmt_next body (Connect at written trap) around outer next r e = alone next (connected (site body around at) at written trap) r e
  stmt_next body (If at arms other) around outer next r e =
      let here = loops_in_arms outer next arms in
      let P : Type 0 = r.next ≡ next + length (here ++ loops_in_else outer (next + length here) other) in
      behind P r (branches body arms (site body around at) around next) _ e (λ a is rest.
      behind P r (otherwise body other around a.next) _ rest (λ o was done.
      ap (λ x. x.next) (sym (ok_same _ r done))
      ∙ in_turn next here (λ n. loops_in_else outer n other) a.next o.next (branches_next body arms (site body around at) around outer next a is) (otherwise_next body other around outer a.next o was)))
  stmt_next body (IfOne at test simple) around outer next r e =
      let P : Type 0 = r.next ≡ next + length (loops_of outer next simple) in
      behind P r (typed (site body around at) test (Is sorts.Bool)) _ e (λ t is rest.
      behind P r (stmt body simple around next) _ rest (λ s was done. ap (λ x. x.next) (sym (ok_same _ r done)) ∙ stmt_next body simple around outer next s was))
  stmt_next body (For at name first last step list) around outer next r e =
      let inner = loops_in (Some next) (next + 1) list in
      let P : Type 0 = r.next ≡ next + length (loops_of outer next (For at name first last step list)) in
      behind P r (bounds (site body around at) first last step) _ e (λ b is rest.
      behind P r (stmts body list (into_loop around next list) (next + 1)) _ rest (λ l was done.
      let same : l.next ≡ r.next = ap (λ x. x.next) (ok_same _ r done) in
      let all : l.next ≡ (next + 1) + length inner = stmts_next body list (into_loop around next list) (Some next) (next + 1) l was in
      omega (arith, same, all)))
  stmt_next body (While at test list) around outer next r e =
      let P : Type 0 = r.next ≡ next + length (loops_in outer next list) in
      behind P r (typed (site body around at) test (Is sorts.Bool)) _ e (λ t is rest.
      behind P r (stmts body list (into around list) next) _ rest (λ l was done. ap (λ x. x.next) (sym (ok_same _ r done)) ∙ stmts_next body list (into around list) outer next l was))
  stmt_next body (Test at value cases other) around outer next r e =
      let here = loops_in_cases outer next cases in
      let P : Type 0 = r.next ≡ next + length (here ++ loops_in_else outer (next + length here) other) in
      behind P r (typed (site body around at) value (Fits operators.Equal)) _ e (λ t is rest.
      behind P r (choices body cases (site body around at) (sort_of t) around next) _ rest (λ c was more.
      behind P r (otherwise body other around c.next) _ more (λ o were done.
      ap (λ x. x.next) (sym (ok_same _ r done))
      ∙ in_turn next here (λ n. loops_in_else outer n other) c.next o.next (choices_next body cases (site body around at) (sort_of t) around outer next c was) (otherwise_next body other around outer c.next o were))))

  pub stmts_next : (body : Body) (list : PlainStmts) (around : Around) (outer : Option ℕ) (next : ℕ) (r : Typed TypedStmts) → stmts body list around next ≡ Ok r → r.next ≡ next + length (loops_in outer next list)
  stmts_next body NoStmts around outer next r e = let same : next ≡ r.next = ap (λ x. x.next) (ok_same _ r e) in omega (arith, same)
  stmts_next body (MoreStmts first list) around outer next r e =
      let here = loops_of outer next first in
      let P : Type 0 = r.next ≡ next + length (here ++ loops_in outer (next + length here) list) in
      behind P r (stmt body first around next) _ e (λ s is rest.
      behind P r (stmts body list around s.next) _ rest (λ l was done.
      ap (λ x. x.next) (sym (ok_same _ r done))
      ∙ in_turn next here (λ n. loops_in outer n list) s.next l.next (stmt_next body first around outer next s is) (stmts_next body list around outer s.next l was)))

  branches_next : (body : Body) (arms : PlainArms) (s : Site) (around : Around) (outer : Option ℕ) (next : ℕ) (r : Typed TypedArms) → branches body arms s around next ≡ Ok r → r.next ≡ next + length (loops_in_arms outer next arms)
  branches_next body NoArms s around outer next r e = let same : next ≡ r.next = ap (λ x. x.next) (ok_same _ r e) in omega (arith, same)
  branches_next body (MoreArms test list arms) s around outer next r e =
      let here = loops_in outer next list in
      let P : Type 0 = r.next ≡ next + length (here ++ loops_in_arms outer (next + length here) arms) in
      behind P r (typed s test (Is sorts.Bool)) _ e (λ t is rest.
      behind P r (stmts body list (into around list) next) _ rest (λ l was more.
      behind P r (branches body arms s around l.next) _ more (λ a were done.
      ap (λ x. x.next) (sym (ok_same _ r done))
      ∙ in_turn next here (λ n. loops_in_arms outer n arms) l.next a.next (stmts_next body list (into around list) outer next l was) (branches_next body arms s around outer l.next a were))))

  choices_next : (body : Body) (cases : PlainCases) (s : Site) (sort : Sort) (around : Around) (outer : Option ℕ) (next : ℕ) (r : Typed TypedCases) → choices body cases s sort around next ≡ Ok r → r.next ≡ next + length (loops_in_cases outer next cases)
  choices_next body NoCases s sort around outer next r e = let same : next ≡ r.next = ap (λ x. x.next) (ok_same _ r e) in omega (arith, same)
  choices_next body (MoreCases values list cases) s sort around outer next r e =
      let here = loops_in outer next list in
      let P : Type 0 = r.next ≡ next + length (here ++ loops_in_cases outer (next + length here) cases) in
      behind P r (case_values s sort values) _ e (λ vs is rest.
      behind P r (stmts body list (into around list) next) _ rest (λ l was more.
      behind P r (choices body cases s sort around l.next) _ more (λ c were done.
      ap (λ x. x.next) (sym (ok_same _ r done))
      ∙ in_turn next here (λ n. loops_in_cases outer n cases) l.next c.next (stmts_next body list (into around list) outer next l was) (choices_next body cases s sort around outer l.next c were))))

  otherwise_next : (body : Body) (other : PlainElse) (around : Around) (outer : Option ℕ) (next : ℕ) (r : Typed TypedElse) → otherwise body other around next ≡ Ok r → r.next ≡ next + length (loops_in_else outer next other)
  otherwise_next body NoElse around outer next r e = let same : next ≡ r.next = ap (λ x. x.next) (ok_same _ r e) in omega (arith, same)
  otherwise_next body (Else list) around outer next r e =
      behind (r.next ≡ next + length (loops_in outer next list)) r (stmts body list (into around list) next) _ e (λ l was done.
      ap (λ x. x.next) (sym (ok_same _ r done)) ∙ stmts_next body list (into around list) outer next l was)

-- the same in an ERROR part
pub handler_next : (body : Body) (handler : Option (List Raw.PlainStmt)) (next : ℕ) (r : Typed (Option TypedStmts)) → handler_of body handler next ≡ Ok r → r.next ≡ next + length (loops_in_else None next (else_of handler))
handler_next body None next r e = let same : next ≡ r.next = ap (λ x. x.next) (ok_same _ r e) in omega (arith, same)
handler_next body (Some list) next r e =
    let around = into (outside true) (stmts_of list) in
    behind (r.next ≡ next + length (loops_in None next (stmts_of list))) r (stmts body (stmts_of list) around next) _ e (λ l was done.
    ap (λ x. x.next) (sym (ok_same _ r done)) ∙ stmts_next body (stmts_of list) around None next l was)

pub routine_next : (rest : ℕ → List Loop) (here : List Loop) (middle past : ℕ) → middle ≡ 0 + length here → past ≡ middle + length (rest middle) → past ≡ length (here ++ rest (length here))
routine_next rest here middle past first last =
    let zero_more : (n : ℕ) → 0 + n ≡ n = λ n. omega arith in
    in_turn 0 here rest middle past first last
    ∙ zero_more (length (here ++ rest (0 + length here)))
    ∙ ap (λ n. length (here ++ rest n)) (zero_more (length here))
