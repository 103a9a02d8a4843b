-- The meetings among the data of the modules, counted.
use Rattle.std.proofs.Common.{◌≡◌, ℕ, zero, suc, ◌+◌, ◌<◌, ◌≤◌, List, [], ◌∷◌, ◌++◌, length, Some, slice_get, if◌then◌else◌, refl, sym, ap, ◌∙◌, subst, below_more, length-append, arith}
use Rattle.rapid_model.proofs.Lists.{at_left, between}
use Rattle.data_scopes.specs.declared.data_row.DatumRow.{DatumRow}
use Rattle.data_scopes.specs.Meetings.{is_meeting, meetings_before, AreCounted}

-- a datum after others is not one of those before
count_before : (rows : List DatumRow) (row : DatumRow) (number : ℕ) → number ≤ length rows → meetings_before number (rows ++ row ∷ []) ≡ meetings_before number rows
count_before rows row zero within = refl
count_before [] row (suc number) within = absurd (omega arith)
count_before (r ∷ rows) row (suc number) within = ap (λ n. (if is_meeting (Some r) then 1 else 0) + n) (count_before rows row number (omega arith))

count_all : (rows : List DatumRow) (row : DatumRow) → meetings_before (length (rows ++ row ∷ [])) (rows ++ row ∷ []) ≡ meetings_before (length rows) rows + (if is_meeting (Some row) then 1 else 0)
count_all [] row = omega arith
count_all (r ∷ rows) row = omega (arith, count_all rows row)

-- past the end, all of them come before
pub count_past : (rows : List DatumRow) (number : ℕ) → length rows ≤ number → meetings_before number rows ≡ meetings_before (length rows) rows
count_past [] zero past = refl
count_past [] (suc number) past = refl
count_past (r ∷ rows) zero past = absurd (omega arith)
count_past (r ∷ rows) (suc number) past = ap (λ n. (if is_meeting (Some r) then 1 else 0) + n) (count_past rows number (omega arith))

-- one more datum, and the count of those before it
each_counted : (rows : List DatumRow) (before : List ℕ) (row : DatumRow) (meetings : ℕ) → AreCounted rows before meetings →
    (number : ℕ) → number < length rows + 1 → slice_get (before ++ meetings ∷ []) number ≡ Some (meetings_before number (rows ++ row ∷ []))
each_counted rows before row meetings h =
    below_more _ _
    (λ number within. at_left before (meetings ∷ []) number (omega (arith, h.as_many)) ∙ h.each number within ∙ ap Some (sym (count_before rows row number (omega arith))))
    (ap (slice_get (before ++ meetings ∷ [])) (sym h.as_many) ∙ between before [] meetings
    ∙ ap Some (h.all ∙ sym (count_before rows row (length rows) (omega arith))))

pub one_more_counted : (rows more : List DatumRow) (before counts : List ℕ) (row : DatumRow) (meetings count : ℕ) →
    more ≡ rows ++ row ∷ [] → counts ≡ before ++ meetings ∷ [] → count ≡ meetings + (if is_meeting (Some row) then 1 else 0) →
    AreCounted rows before meetings → AreCounted more counts count
one_more_counted rows more before counts row meetings count rows_is counts_is count_is h =
    subst (λ rs. AreCounted rs counts count) (sym rows_is) (subst (λ cs. AreCounted (rows ++ row ∷ []) cs count) (sym counts_is) (record {
      as_many = omega (arith, h.as_many, length-append rows (row ∷ []), length-append before (meetings ∷ []));
      each = λ number within. each_counted rows before row meetings h number (omega (arith, within, length-append rows (row ∷ [])));
      all = omega (arith, count_is, h.all, count_all rows row);
    }))
