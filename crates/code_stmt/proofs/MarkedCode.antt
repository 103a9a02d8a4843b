-- Operations and rows of owners that are appended to others, from the last row on.
use Rattle.std.specs.Prelude.{option_to_list, slice_get}
use Rattle.std.proofs.Common.{◌≡◌, ℕ, suc, ◌+◌, ◌-◌, ◌<◌, List, [], ◌∷◌, ◌++◌, length, take, Result, Ok, Err, OnOk, refl, sym, ap, ◌∙◌, arith}
use Rattle.std.proofs.lemmas.List.{append_assoc, append-nil, length-append, length-map, map-append}
use Rattle.stack_code.specs.Compiled.{end_op, own_end, owner_row, part_code, part_start, routine_code, routine_labels, routine_size, same_own}
use Rattle.stack_code.specs.ExprLayouts.{put}
use Rattle.stack_code.specs.Placed.{Own, Placed, own_of}
use Rattle.stack_code.specs.Sizes.{stmts_size}
use Rattle.stack_code.specs.StmtLayouts.{stmts_code}
use Rattle.stack_code.specs.declared.marks.Marks.{Marks}
use Rattle.stack_code.specs.declared.op.Op.{Op}
use Rattle.stack_code.specs.declared.owner.Owner.{Owner}
use Rattle.typed_trees.specs.Plain.{TypedRoutine, TypedTree}
use Rattle.stack_code.proofs.Branches.{either}
use Rattle.code_expr.specs.Adds.{end_of}
use Rattle.code_expr.specs.Follows.{Code, Follows}
use Rattle.code_expr.proofs.Follow.{follows_as}
use Rattle.code_stmt.specs.Lays.{Lays, ops_of}
use Rattle.code_stmt.specs.Marked.{Marked, Stand, front_of, last_of, with_marked}
use Rattle.code_stmt.specs.Runs.{with_row, with_rows}
use Rattle.code_stmt.specs.declared.written.Written.{Written}
use Rattle.code_stmt.proofs.OwnerRows.{Ended, all_rows, behind, ended, none, rows_append, rows_behind}

-- what follows from three facts that hold if there is no error
pub on_ok_three : {T E P Q R S : Type 0} (r : Result T E) → (P → Q → R → S) → OnOk r P → OnOk r Q → OnOk r R → OnOk r S
on_ok_three (Ok x) follows p q r = follows p q r
on_ok_three (Err e) follows p q r = p

-- two lists together
pair : {xs ys : List Op} {rs qs : List Owner} → xs ≡ ys → rs ≡ qs → ◌≡◌ {A = List Op × List Owner} (xs, rs) (ys, qs)
pair {ys = ys} {rs = rs} e f = ap (λ zs. (zs, rs)) e ∙ ap (λ zs. (ys, zs)) f

-- rows are all but the last, and the last
front_last : (front : List Owner) (row : Owner) → front_of (front ++ row ∷ []) ≡ front
unfolding front_of
front_last [] row = refl
front_last (x ∷ []) row = refl
front_last (x ∷ y ∷ front) row = ap (λ rows. x ∷ rows) (front_last (y ∷ front) row)

last_last : (front : List Owner) (row : Owner) → last_of (front ++ row ∷ []) ≡ row ∷ []
unfolding last_of
last_last [] row = refl
last_last (x ∷ []) row = refl
last_last (x ∷ y ∷ front) row = last_last (y ∷ front) row

no_front : front_of [] ≡ []
unfolding front_of
no_front = refl

no_last : last_of [] ≡ []
unfolding last_of
no_last = refl

-- the last row and those before it, by their number
pub last_at : (rows : List Owner) → option_to_list (slice_get rows (length rows - 1)) ≡ last_of rows
unfolding last_of
last_at [] = refl
last_at (row ∷ []) = refl
last_at (row ∷ next ∷ more) =
    let count : length (row ∷ next ∷ more) - 1 ≡ suc (length (next ∷ more) - 1) = omega arith in
    ap (λ i. option_to_list (slice_get (row ∷ next ∷ more) i)) count ∙ last_at (next ∷ more)

pub front_at : (rows : List Owner) → take (length rows - 1) rows ≡ front_of rows
unfolding front_of
front_at [] = refl
front_at (row ∷ []) = refl
front_at (row ∷ next ∷ more) =
    let count : length (row ∷ next ∷ more) - 1 ≡ suc (length (next ∷ more) - 1) = omega arith in
    ap (λ i. take i (row ∷ next ∷ more)) count ∙ ap (λ rows. row ∷ rows) (front_at (next ∷ more))

-- rows that are there stay
row_stays : (rows : List Owner) (first past : ℕ) (own : Own) → 0 < length (with_row rows first past own)
unfolding with_row
row_stays [] first past own = omega arith
row_stays (row ∷ []) first past own = either (λ rows. 0 < length rows) (owner_row row.first past (own_of row) ∷ []) (row ∷ owner_row first past own ∷ []) (same_own own (own_of row)) (λ e. omega arith) (λ e. omega arith)
row_stays (row ∷ next ∷ more) first past own = omega arith

rows_stay : (rows : List Owner) (pc : ℕ) (ps : List Placed) → 0 < length rows → 0 < length (with_rows rows pc ps)
unfolding with_rows
rows_stay rows pc [] some = some
rows_stay rows pc (p ∷ ps) some = rows_stay (with_row rows pc (pc + 1) p.own) (pc + 1) ps (row_stays rows pc (pc + 1) p.own)

no_rows : (pc : ℕ) → with_rows [] pc [] ≡ []
unfolding with_rows
no_rows pc = refl

-- rows that replace the last of others, with those before it
grown_last : (front qs : List Owner) (row : Owner) (from to : ℕ) (code : List Placed → List Placed) → ((ps : List Placed) → with_rows qs to ps ≡ with_rows (row ∷ []) from (code ps)) →
    (ps : List Placed) → with_rows (front ++ qs) to ps ≡ with_rows (front ++ row ∷ []) from (code ps)
grown_last front qs row from to code same ps = by (ended qs) same
  where
    by : {qs : List Owner} → Ended qs → ((ps : List Placed) → with_rows qs to ps ≡ with_rows (row ∷ []) from (code ps)) → with_rows (front ++ qs) to ps ≡ with_rows (front ++ row ∷ []) from (code ps)
    by none same = absurd (omega (arith, ap length (sym (no_rows to) ∙ same []), rows_stay (row ∷ []) from (code []) (omega arith)))
    by (behind before last) same =
        ap (λ rows. with_rows rows to ps) (sym (append_assoc front before (last ∷ [])))
        ∙ (rows_behind (front ++ before) last to ps
        ∙ (append_assoc front before (with_rows (last ∷ []) to ps)
        ∙ (ap (λ rows. front ++ rows) (sym (rows_behind before last to ps) ∙ same ps)
        ∙ sym (rows_behind front row from (code ps)))))

rows_put : (owners qs : List Owner) (from to : ℕ) (code : List Placed → List Placed) → ((ps : List Placed) → with_rows qs to ps ≡ with_rows (last_of owners) from (code ps)) →
    (ps : List Placed) → with_rows (front_of owners ++ qs) to ps ≡ with_rows owners from (code ps)
rows_put owners qs from to code same ps = by (ended owners) same
  where
    by : {owners : List Owner} → Ended owners → ((ps : List Placed) → with_rows qs to ps ≡ with_rows (last_of owners) from (code ps)) → with_rows (front_of owners ++ qs) to ps ≡ with_rows owners from (code ps)
    by none same = ap (λ rows. with_rows (rows ++ qs) to ps) no_front ∙ (same ps ∙ ap (λ rows. with_rows rows from (code ps)) no_last)
    by (behind front row) same =
        ap (λ rows. with_rows (rows ++ qs) to ps) (front_last front row)
        ∙ grown_last front qs row from to code (λ more. same more ∙ ap (λ rows. with_rows rows from (code more)) (last_last front row)) ps

-- what was written from the end of some code on, appended to it
pub put_behind_code : (old new : List Op) (owners marked : List Owner) (a b : Written) (n : ℕ) (code : Code) → a.code.start ≡ length old → a.code.ops.items ≡ [] → a.owners.items ≡ last_of owners → Lays a b n code →
    new ≡ old ++ b.code.ops.items → marked ≡ front_of owners ++ b.owners.items → Follows (with_marked old owners) (with_marked new marked) (length old) (length new) n code
put_behind_code old new owners marked a b n code start fresh last laid put_ops put_rows =
    let from = end_of a.code in
    let to = end_of b.code in
    let here : from ≡ length old = omega (arith, start, ap length fresh) in
    let same_start : b.code.start ≡ a.code.start = ap (λ (x : ℕ × (List Op × List Owner)). x.0) (laid.laid []) in
    let there : length new ≡ to = omega (arith, start, same_start, ap length put_ops, length-append old b.code.ops.items) in
    record {
      grown = omega (arith, here, there, laid.grown);
      laid = λ ps.
          pair
          (ap (λ ops. ops ++ ops_of ps) put_ops
          ∙ (append_assoc old b.code.ops.items (ops_of ps)
          ∙ ap (λ ops. old ++ ops)
          (ap (λ (x : ℕ × (List Op × List Owner)). x.1.0) (laid.laid ps)
          ∙ (ap (λ ops. ops ++ ops_of (code from ps)) fresh ∙ ap (λ pc. ops_of (code pc ps)) here))))
          (ap (λ rows. with_rows rows (length new) ps) put_rows
          ∙ (ap (λ pc. with_rows (front_of owners ++ b.owners.items) pc ps) there
          ∙ (rows_put owners b.owners.items from to (code from) (λ more. ap (λ (x : ℕ × (List Op × List Owner)). x.1.1) (laid.laid more) ∙ ap (λ rows. with_rows rows from (code from more)) last) ps
          ∙ ap (λ pc. with_rows owners pc (code pc ps)) here)));
    }

-- a routine whose labels have their places there
pub routine_follows : {X : Type 0} {a b : List Placed → X} {i j : ℕ} (tree : TypedTree) (routine : TypedRoutine) (labels : List ℕ) → labels ≡ routine_labels tree routine i →
    Follows a b i j (routine_size tree routine) (λ pc ps. stmts_code tree routine labels pc routine.list (put (own_end routine (pc + stmts_size tree routine routine.list)) (end_op routine.kind) (part_code tree routine labels (part_start tree routine pc) routine.handler ps))) →
    Follows a b i j (routine_size tree routine) (λ pc ps. routine_code tree pc routine ps)
routine_follows {i = i} tree routine labels are h =
    follows_as (routine_size tree routine) (λ pc ps. routine_code tree pc routine ps) h refl (λ ps.
    ap (λ places. stmts_code tree routine places i routine.list (put (own_end routine (i + stmts_size tree routine routine.list)) (end_op routine.kind) (part_code tree routine places (part_start tree routine i) routine.handler ps))) are)

-- code and rows that stand for operations also stand for those of one more routine
pub stands : (tree : TypedTree) (routine : TypedRoutine) (old new : List Op) (marks marked : Marks) (placed : List Placed) → Marked tree routine old new marks marked → Stand old marks.owners.items placed →
    Stand new marked.owners.items (placed ++ routine_code tree (length placed) routine [])
unfolding with_rows
stands tree routine old new marks marked placed put stand =
    let code : ℕ → List Placed = λ pc. routine_code tree pc routine [] in
    let here : length old ≡ length placed = ap length stand.code ∙ length-map placed (λ (p : Placed). p.op) in
    record {
      code =
          sym (append-nil new)
          ∙ (ap (λ (x : List Op × List Owner). x.0) (put.laid.laid [])
          ∙ (ap (λ pc. old ++ ops_of (code pc)) here
          ∙ (ap (λ ops. ops ++ ops_of (code (length placed))) stand.code
          ∙ sym (map-append (λ (p : Placed). p.op) placed (code (length placed))))));
      owners =
          ap (λ (x : List Op × List Owner). x.1) (put.laid.laid [])
          ∙ (ap (λ pc. with_rows marks.owners.items pc (code pc)) here
          ∙ (ap (λ rows. with_rows rows (length placed) (code (length placed))) (stand.owners ∙ all_rows placed)
          ∙ (ap (λ pc. with_rows (with_rows [] 0 placed) pc (code (length placed))) (omega arith)
          ∙ (sym (rows_append [] 0 placed (code (length placed)))
          ∙ sym (all_rows (placed ++ code (length placed)))))));
    }
