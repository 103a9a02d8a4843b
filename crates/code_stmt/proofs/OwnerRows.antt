-- Rows of owners that grow by runs of operations, and by one operation at a time.
use Rattle.std.proofs.Common.{◌≡◌, ℕ, zero, suc, ◌+◌, ◌-◌, ◌==◌, true, false, List, [], ◌∷◌, ◌++◌, length, get_or, set, refl, sym, ap, ◌∙◌, arith, if◌then◌else◌}
use Rattle.std.proofs.lemmas.Bool.{eq-eqb, ne_eqb}
use Rattle.std.proofs.lemmas.List.{append_assoc, get_or_at, length_push, set_at}
use Rattle.stack_code.specs.Compiled.{owner_row, owner_rows, rows_from, same_own}
use Rattle.stack_code.specs.Placed.{Own, Placed, own_of}
use Rattle.stack_code.specs.declared.op.Op.{Op}
use Rattle.stack_code.specs.declared.owner.Owner.{Owner}
use Rattle.stack_code.proofs.Branches.{either}
use Rattle.code_expr.specs.Adds.{owned}
use Rattle.code_stmt.specs.Runs.{with_row, with_rows, with_run}

same_eqb : (n : ℕ) → (n == n) ≡ true
same_eqb n = eq-eqb n n refl

own_same : (own : Own) → same_own own own ≡ true
own_same own = rw (same_eqb own.retry, same_eqb own.next, same_eqb own.at.«module», same_eqb own.at.byte)

-- a row that is this owner's grows
grows : (row : Owner) (first past : ℕ) (own : Own) → same_own own (own_of row) ≡ true → with_row (row ∷ []) first past own ≡ owner_row row.first past (own_of row) ∷ []
unfolding with_row
grows row first past own same = ap (λ b. if b then owner_row row.first past (own_of row) ∷ [] else row ∷ owner_row first past own ∷ []) same

-- after a row that is not, there is a new one
begins : (row : Owner) (first past : ℕ) (own : Own) → same_own own (own_of row) ≡ false → with_row (row ∷ []) first past own ≡ row ∷ owner_row first past own ∷ []
unfolding with_row
begins row first past own other = ap (λ b. if b then owner_row row.first past (own_of row) ∷ [] else row ∷ owner_row first past own ∷ []) other

-- only the last row matters
row_behind : (front : List Owner) (row : Owner) (first past : ℕ) (own : Own) → with_row (front ++ row ∷ []) first past own ≡ front ++ with_row (row ∷ []) first past own
unfolding with_row
row_behind [] row first past own = refl
row_behind (x ∷ []) row first past own = refl
row_behind (x ∷ y ∷ front) row first past own = ap (λ rows. x ∷ rows) (row_behind (y ∷ front) row first past own)

-- all rows but the last, and the last
pub data Ended : List Owner → Type 0 where
  none : Ended []
  behind : (front : List Owner) (row : Owner) → Ended (front ++ row ∷ [])

pub ended : (rows : List Owner) → Ended rows
ended [] = none
ended (row ∷ rows) = with_first row (ended rows)
  where
    with_first : {rows : List Owner} (row : Owner) → Ended rows → Ended (row ∷ rows)
    with_first row none = behind [] row
    with_first row (behind front last) = behind (row ∷ front) last

-- the last of some rows, by its number
last_read : (front : List Owner) (row x : Owner) (n : ℕ) → n ≡ length (front ++ row ∷ []) - 1 → x ≡ get_or (front ++ row ∷ []) n x → x ≡ row
last_read front row x n at read = read ∙ get_or_at front row [] x n (omega (arith, at, length_push front row))

-- a last row of this owner grows
pub last_grows : (rows : List Owner) (n : ℕ) (x : Owner) (first past : ℕ) (own : Own) → n ≡ length rows - 1 → (length rows ≡ 0 → ⊥) → x ≡ get_or rows n x → same_own own (own_of x) ≡ true →
    set rows n (owner_row x.first past (own_of x)) ≡ with_row rows first past own
last_grows rows n x first past own at some read same = by (ended rows) at some read
  where
    by : {rows : List Owner} → Ended rows → n ≡ length rows - 1 → (length rows ≡ 0 → ⊥) → x ≡ get_or rows n x → set rows n (owner_row x.first past (own_of x)) ≡ with_row rows first past own
    by none at some read = absurd (some refl)
    by (behind front row) at some read =
        let last : x ≡ row = last_read front row x n at read in
        set_at front row [] (owner_row x.first past (own_of x)) n (omega (arith, at, length_push front row))
        ∙ (ap (λ (y : Owner). front ++ owner_row y.first past (own_of y) ∷ []) last
        ∙ (ap (λ rows. front ++ rows) (sym (grows row first past own (ap (λ y. same_own own (own_of y)) (sym last) ∙ same)))
        ∙ sym (row_behind front row first past own)))

-- after a last row of another owner there is a new one
pub new_begins : (rows : List Owner) (n : ℕ) (x : Owner) (first past : ℕ) (own : Own) → n ≡ length rows - 1 → (length rows ≡ 0 → ⊥) → x ≡ get_or rows n x → same_own own (own_of x) ≡ false →
    rows ++ owner_row first past own ∷ [] ≡ with_row rows first past own
new_begins rows n x first past own at some read other = by (ended rows) at some read
  where
    by : {rows : List Owner} → Ended rows → n ≡ length rows - 1 → (length rows ≡ 0 → ⊥) → x ≡ get_or rows n x → rows ++ owner_row first past own ∷ [] ≡ with_row rows first past own
    by none at some read = absurd (some refl)
    by (behind front row) at some read =
        let last : x ≡ row = last_read front row x n at read in
        append_assoc front (row ∷ []) (owner_row first past own ∷ [])
        ∙ (ap (λ rows. front ++ rows) (sym (begins row first past own (ap (λ y. same_own own (own_of y)) (sym last) ∙ other)))
        ∙ sym (row_behind front row first past own))

pub first_row : (rows : List Owner) (first past : ℕ) (own : Own) → length rows ≡ 0 → rows ++ owner_row first past own ∷ [] ≡ with_row rows first past own
unfolding with_row
first_row [] first past own empty = refl
first_row (row ∷ rows) first past own empty = absurd (omega (arith, empty))

-- two runs of one owner are one
merges : (rows : List Owner) (first middle past : ℕ) (own : Own) → with_row (with_row rows first middle own) middle past own ≡ with_row rows first past own
unfolding with_row
merges rows first middle past own = by (ended rows)
  where
    fresh : with_row (owner_row first middle own ∷ []) middle past own ≡ owner_row first past own ∷ []
    fresh = grows (owner_row first middle own) middle past own (own_same own)

    later : (front : List Owner) (row : Owner) → with_row (front ++ with_row (row ∷ []) first middle own) middle past own ≡ front ++ with_row (row ∷ []) first past own
    later front row = either (λ rows. with_row (front ++ rows) middle past own ≡ front ++ with_row (row ∷ []) first past own) (owner_row row.first middle (own_of row) ∷ []) (row ∷ owner_row first middle own ∷ []) (same_own own (own_of row))
        (λ e. row_behind front (owner_row row.first middle (own_of row)) middle past own ∙ ap (λ rows. front ++ rows) (grows (owner_row row.first middle (own_of row)) middle past own e ∙ sym (grows row first past own e)))
        (λ e. ap (λ rows. with_row rows middle past own) (sym (append_assoc front (row ∷ []) (owner_row first middle own ∷ [])))
        ∙ (row_behind (front ++ row ∷ []) (owner_row first middle own) middle past own
        ∙ (append_assoc front (row ∷ []) (with_row (owner_row first middle own ∷ []) middle past own)
        ∙ ap (λ rows. front ++ rows) (ap (λ rows. row ∷ rows) fresh ∙ sym (begins row first past own e)))))

    by : {rows : List Owner} → Ended rows → with_row (with_row rows first middle own) middle past own ≡ with_row rows first past own
    by none = fresh
    by (behind front row) =
        ap (λ rows. with_row rows middle past own) (row_behind front row first middle own)
        ∙ (later front row ∙ sym (row_behind front row first past own))

-- a run may be empty
no_run : (rows : List Owner) (first past : ℕ) (own : Own) → first ≡ past → with_run rows first past own ≡ rows
no_run rows first past own e = ap (λ b. if b then rows else with_row rows first past own) (eq-eqb first past e)

some_run : (rows : List Owner) (first past : ℕ) (own : Own) → (first ≡ past → ⊥) → with_run rows first past own ≡ with_row rows first past own
some_run rows first past own differ = ap (λ b. if b then rows else with_row rows first past own) (ne_eqb first past differ)

-- operations of one owner are a run
pub run_is_rows : (rows : List Owner) (pc : ℕ) (own : Own) (ops : List Op) (ps : List Placed) → with_rows rows pc (owned own ops ++ ps) ≡ with_rows (with_run rows pc (pc + length ops) own) (pc + length ops) ps
unfolding with_rows
run_is_rows rows pc own [] ps =
    ap (λ at. with_rows rows at ps) (omega arith) ∙ ap (λ longer. with_rows longer (pc + zero) ps) (sym (no_run rows pc (pc + zero) own (omega arith)))
run_is_rows rows pc own (op ∷ ops) ps =
    run_is_rows (with_row rows pc (pc + 1) own) (pc + 1) own ops ps
    ∙ (ap (λ longer. with_rows longer (pc + 1 + length ops) ps) (grown ops)
    ∙ ap (λ past. with_rows (with_run rows pc past own) past ps) (omega arith))
  where
    grown : (ops : List Op) → with_run (with_row rows pc (pc + 1) own) (pc + 1) (pc + 1 + length ops) own ≡ with_run rows pc (pc + 1 + length ops) own
    grown [] =
        no_run (with_row rows pc (pc + 1) own) (pc + 1) (pc + 1 + zero) own (omega arith)
        ∙ (ap (λ past. with_row rows pc past own) (omega arith) ∙ sym (some_run rows pc (pc + 1 + zero) own (λ e. omega (arith, e))))
    grown (op ∷ ops) =
        some_run (with_row rows pc (pc + 1) own) (pc + 1) (pc + 1 + suc (length ops)) own (λ e. omega (arith, e))
        ∙ (merges rows pc (pc + 1) (pc + 1 + suc (length ops)) own ∙ sym (some_run rows pc (pc + 1 + suc (length ops)) own (λ e. omega (arith, e))))

-- one list of operations after another
pub rows_append : (rows : List Owner) (pc : ℕ) (xs ys : List Placed) → with_rows rows pc (xs ++ ys) ≡ with_rows (with_rows rows pc xs) (pc + length xs) ys
unfolding with_rows
rows_append rows pc [] ys = ap (λ at. with_rows rows at ys) (omega arith)
rows_append rows pc (x ∷ xs) ys = rows_append (with_row rows pc (pc + 1) x.own) (pc + 1) xs ys ∙ ap (λ at. with_rows (with_rows rows pc (x ∷ xs)) at ys) (omega arith)

-- only the last row matters
pub rows_behind : (front : List Owner) (row : Owner) (pc : ℕ) (ps : List Placed) → with_rows (front ++ row ∷ []) pc ps ≡ front ++ with_rows (row ∷ []) pc ps
unfolding with_rows with_row
rows_behind front row pc [] = refl
rows_behind front row pc (p ∷ ps) =
    ap (λ rows. with_rows rows (pc + 1) ps) (row_behind front row pc (pc + 1) p.own)
    ∙ either (λ rows. with_rows (front ++ rows) (pc + 1) ps ≡ front ++ with_rows rows (pc + 1) ps) (owner_row row.first (pc + 1) (own_of row) ∷ []) (row ∷ owner_row pc (pc + 1) p.own ∷ []) (same_own p.own (own_of row))
    (λ e. rows_behind front (owner_row row.first (pc + 1) (own_of row)) (pc + 1) ps)
    (λ e. ap (λ rows. with_rows rows (pc + 1) ps) (sym (append_assoc front (row ∷ []) (owner_row pc (pc + 1) p.own ∷ [])))
    ∙ (rows_behind (front ++ row ∷ []) (owner_row pc (pc + 1) p.own) (pc + 1) ps
    ∙ (append_assoc front (row ∷ []) (with_rows (owner_row pc (pc + 1) p.own ∷ []) (pc + 1) ps)
    ∙ ap (λ rows. front ++ rows) (sym (rows_behind (row ∷ []) (owner_row pc (pc + 1) p.own) (pc + 1) ps)))))

-- the rows of operations are those that grow one by one
rows_grow : (first past : ℕ) (own : Own) (ps : List Placed) → rows_from first past own ps ≡ with_rows (owner_row first past own ∷ []) past ps
unfolding rows_from with_rows
rows_grow first past own [] = refl
rows_grow first past own (p ∷ ps) =
    either (λ rows. rows ≡ with_rows (with_row (owner_row first past own ∷ []) past (past + 1) p.own) (past + 1) ps) (rows_from first (past + 1) own ps) (owner_row first past own ∷ rows_from past (past + 1) p.own ps) (same_own p.own own)
    (λ e. rows_grow first (past + 1) own ps ∙ ap (λ rows. with_rows rows (past + 1) ps) (sym (grows (owner_row first past own) past (past + 1) p.own e)))
    (λ e. ap (λ rows. owner_row first past own ∷ rows) (rows_grow past (past + 1) p.own ps)
    ∙ (sym (rows_behind (owner_row first past own ∷ []) (owner_row past (past + 1) p.own) (past + 1) ps)
    ∙ ap (λ rows. with_rows rows (past + 1) ps) (sym (begins (owner_row first past own) past (past + 1) p.own e))))

pub all_rows : (ps : List Placed) → owner_rows ps ≡ with_rows [] 0 ps
unfolding with_rows with_row
all_rows [] = refl
all_rows (p ∷ ps) = rows_grow 0 1 p.own ps
