-- The labels of a typed routine are numbered in text order.
use Rattle.std.proofs.Common.{◌≡◌, ℕ, zero, suc, ◌+◌, ◌==◌, Bool, true, false, List, [], ◌∷◌, ◌++◌, length, map, Option, Some, None, slice_get, refl, sym, ap, subst, ◌∙◌, if◌then◌else◌, length-append, append_assoc, arith}
use Rattle.std.specs.List.{All}
use Rattle.std.specs.Str.{str_to_ascii_lowercase}
use Rattle.std.proofs.lemmas.Bool.Decides.{Decides-eqb}
use Rattle.std.proofs.lemmas.Slice.Eq.{bytes_eq-Decides}
use Rattle.raw_trees.specs.Plain as Raw
use Rattle.raw_trees.specs.Plain.{PlainModule, PlainName, PlainRoutine, else_of, stmts_of}
use Rattle.rapid_model.specs.declared.signal_row.SignalRow.{SignalRow}
use Rattle.rapid_model.proofs.Lists.{between}
use Rattle.typed_trees.specs.Plain.{TypedLocal, TypedRoutine, TypedStmts, TypedTree}
use Rattle.typed_trees.specs.Labels.{error_part, numbers_in, numbers_in_else}
use Rattle.data_scopes.specs.Scopes.{Names}
use Rattle.stmt_types.specs.Bodies.{Body, into, outside}
use Rattle.stmt_types.specs.Labels.{is_first, label_number, labels_in, labels_in_else, labels_in_routine, names_label}
use Rattle.task_types.specs.Task.{body_of, routines_of}
use Rattle.type_laws.specs.Tasks.{IsHandler, IsRoutine, IsTyped}
use Rattle.type_laws.proofs.StatementLaws.{stmts_law}
use Rattle.name_laws.specs.Jumps.{AreApart, IsApart, LabelsApart}
use Rattle.name_laws.proofs.Jumps.{AreFirst, appended, first_append, list_done, numbered}
use Rattle.tree_typing.proofs.Rows.{all_at}
use Rattle.code_laws.specs.Orderly.{Counts, NumbersLabels}
use Rattle.accepted_cells.proofs.Lists.{all_behind, all_of, from_at}
use Rattle.accepted_cells.proofs.Routines.{IsTypedOf, modules_typed}

-- a label is not at the byte of one that stands apart
not_at : (x : ℕ) (ls : List PlainName) (k : ℕ) (l : PlainName) → slice_get ls k ≡ Some l → IsApart x (map (λ label. label.at) ls) → x ≡ l.at → ⊥
not_at x [] k l is apart same = absurd cc
not_at x (m ∷ ls) zero l is apart same = let e : m ≡ l = cc in apart.0 (same ∙ ap (λ label. label.at) (sym e))
not_at x (m ∷ ls) (suc k) l is apart same = not_at x ls k l is apart.1 same

-- the number of a first label is its place among labels that stand apart
later : (m l : PlainName) (ls : List PlainName) (k : ℕ) (b : Bool) → (if b then m.at == l.at else is_first l ls) ≡ true → slice_get ls k ≡ Some l → IsApart m.at (map (λ label. label.at) ls)
    → (is_first l ls ≡ true → label_number l.text ls ≡ k) → (if b then 0 else suc (label_number l.text ls)) ≡ suc k
later m l ls k true h is apart rest = absurd (not_at m.at ls k l is apart ((Decides-eqb m.at l.at).0 h))
later m l ls k false h is apart rest = ap suc (rest h)

placed : (ls : List PlainName) (k : ℕ) (l : PlainName) → is_first l ls ≡ true → slice_get ls k ≡ Some l → AreApart (map (λ label. label.at) ls) → label_number l.text ls ≡ k
placed [] k l h is apart = absurd cc
placed (m ∷ ls) zero l h is apart =
    let same : m ≡ l = cc in
    let named : names_label l.text m ≡ true = (bytes_eq-Decides (str_to_ascii_lowercase l.text) (str_to_ascii_lowercase m.text)).1 (ap (λ (n : PlainName). str_to_ascii_lowercase n.text) (sym same)) in
    ap (λ (b : Bool). if b then 0 else suc (label_number l.text ls)) named
placed (m ∷ ls) (suc k) l h is apart = later m l ls k (names_label l.text m) h is apart.0 (λ first. placed ls k l first is apart.1)

longer : (ls : List PlainName) (l : PlainName) → length (ls ++ l ∷ []) ≡ suc (length ls)
longer ls l = let long = length-append ls (l ∷ []) in omega (arith, long)

-- so first labels count on from those before them
counted : (labels before ls : List PlainName) → labels ≡ before ++ ls → AreFirst labels ls → AreApart (map (λ label. label.at) labels) → Counts (length before) (numbered labels ls)
counted labels before [] is first apart = tt
counted labels before (l ∷ ls) is first apart = (
  placed labels (length before) l first.0 (ap (λ x. slice_get x (length before)) is ∙ between before ls l) apart,
  subst (λ (n : ℕ). Counts n (numbered labels ls)) (longer before l)
      (counted labels (before ++ l ∷ []) ls (is ∙ sym (append_assoc before (l ∷ []) ls)) first.1 apart),
)

-- the labels of an ERROR part
handler_done : (body : Body) (handler : Option (List Raw.PlainStmt)) (next : ℕ) (h : Option TypedStmts) (past : ℕ) → IsHandler body handler next h past
    → (numbers_in_else (error_part h) ≡ numbered body.labels (labels_in_else (else_of handler))) × AreFirst body.labels (labels_in_else (else_of handler))
handler_done body None next h past (is, same) = (ap (λ x. numbers_in_else (error_part x)) is, tt)
handler_done body (Some list) next h past (ts, are, is) =
    let d = list_done body (stmts_of list) (into (outside true) (stmts_of list)) next (record { tree = ts; next = past })
    ((stmts_law body (stmts_of list) (into (outside true) (stmts_of list)) next (record { tree = ts; next = past })).1 are) in
    (ap (λ x. numbers_in_else (error_part x)) is ∙ d.all, d.first)

routine_counts : (names : Names) (locals : List (List TypedLocal)) (number k : ℕ) (r : PlainRoutine) (t : TypedRoutine) → IsRoutine names locals number k r t → LabelsApart r → NumbersLabels t
routine_counts names locals number k r t (ts, middle, h, loops, are, is_handler, is) apart =
    let body : Body = body_of names number k r in
    let labels : List PlainName = labels_in_routine r in
    let list = stmts_of r.list in
    let other = else_of r.handler in
    let d = list_done body list (into (outside false) list) 0 (record { tree = ts; next = middle }) ((stmts_law body list (into (outside false) list) 0 (record { tree = ts; next = middle })).1 are) in
    let e = handler_done body r.handler middle h loops is_handler in
    let all : numbers_in ts ++ numbers_in_else (error_part h) ≡ numbered labels labels = appended labels (labels_in list) (labels_in_else other) _ _ d.all e.0 in
    let counts : Counts 0 (numbered labels labels) = counted labels [] labels refl (first_append labels (labels_in list) (labels_in_else other) d.first e.1) apart in
    subst NumbersLabels (sym is) (subst (Counts 0) (sym all) counts)

pub labels_count : (modules : List PlainModule) (tasks : List (List ℕ)) (signals : List SignalRow) (axes : ℕ) (tree : TypedTree) → IsTyped modules tasks signals axes tree → All LabelsApart (routines_of modules) → All NumbersLabels tree.routines
labels_count modules tasks signals axes tree typed apart =
    let p = typed.data_are in
    let Of = IsTypedOf p.names p.locals in
    let same : tree.routines ≡ typed.routines = ap (λ (x : TypedTree). x.routines) typed.is_tree in
    let of_typed = all_behind Of (routines_of modules) typed.routines (modules_typed p.names p.locals 0 modules [] typed.routines typed.are_routines) in
    subst (All NumbersLabels) (sym same) (all_of NumbersLabels typed.routines (λ k t there.
    let o = from_at Of 0 (routines_of modules) typed.routines k t of_typed there in
    let e : 0 + k ≡ k = omega arith in
    let of : Of k o.x t = subst (λ n. Of n o.x t) e o.such in
    routine_counts p.names p.locals of.number k o.x t of.is (all_at LabelsApart (routines_of modules) k o.x apart o.is)))
