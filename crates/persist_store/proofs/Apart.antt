-- A write leaves everything elsewhere in the rows as it is.
use Rattle.std.proofs.Common.{◌≡◌, ◌==◌, Bool, ℕ, suc, ◌+◌, ◌*◌, ◌<◌, ◌≤◌, true, false, ℤ, pos, List, [], ◌∷◌, length, map, get_or, set, slice_set, refl, sym, ap, subst, ◌∙◌, add-zero, inl, inr, ◌⊎◌, lit<, arith}
use Rattle.std.proofs.Math.Nat.{suc-mul}
use Rattle.std.proofs.lemmas.Bool.{cases_eq, eqb-true, false≢true}
use Rattle.std.proofs.lemmas.List.{get_or-set_other, get_or-set_same, length-set, same_lists}
use Rattle.std.proofs.lemmas.List.FromFn.{get_or-map-range_with_len, length-map-range_with_len}
use Rattle.std.proofs.lemmas.Nat.{mul-le}
use Rattle.std.specs.List.{range_with_len}
use Rattle.rapid_model.specs.Paths.{has_sort}
use Rattle.rapid_model.specs.Sorts.{width}
use Rattle.rapid_model.specs.declared.sort.Sort.{Sort}
use Rattle.rapid_model.specs.declared.sort.Sort.TheVariants as sorts
use Rattle.rapid_model.specs.declared.value.Value.{Value}
use Rattle.rapid_model.specs.declared.value.Value.TheVariants as values
use Rattle.rapid_model.proofs.Lists.{made_alike}
use Rattle.persist_store.specs.Rows.{Bools, IsWithin, Kind, Nums, RowsData, Texts, end_of, kind, length_in, row_of, span, spliced, value_at, window, written}
use Rattle.persist_store.specs.Stores.{PersData}
use Rattle.persist_store.specs.declared.place.Place.{Place}
use Rattle.persist_store.proofs.Splices.{get_or-window, length-spliced, window-apart}

-- a value depends only on its own part of its row

pub value_by_nums : (rows : RowsData) (nums : List ℤ) (sort : Sort) (at : ℕ) → window at (span sort) nums ≡ window at (span sort) rows.nums → value_at (record rows { nums = nums }) sort at ≡ value_at rows sort at
value_by_nums rows nums sorts.Num at same =
    let there : (xs : List ℤ) → get_or (window at 1 xs) 0 (pos 0) ≡ get_or xs at (pos 0) = λ xs. get_or-window at 1 xs 0 (pos 0) (lit< tt) ∙ ap (λ n. get_or xs n (pos 0)) (add-zero at) in
    ap values.Num (sym (there nums) ∙ ap (λ w. get_or w 0 (pos 0)) same ∙ there rows.nums)
value_by_nums rows nums sorts.RobJoint at same = ap values.Rob same
value_by_nums rows nums sorts.ExtJoint at same = ap values.Ext same
value_by_nums rows nums sorts.JointTarget at same = ap (λ axes. values.Target (record { axis = axes })) same
value_by_nums rows nums sorts.SpeedData at same = ap values.Speed same
value_by_nums rows nums _ at same = refl

-- it ends before one index, or begins at or after another
abbrev pub Clear : Sort → ℕ → ℕ → ℕ → Type 0
Clear sort at from past = (at + span sort ≤ from) ⊎ (past ≤ at)

nums_apart : (rows : RowsData) (sort : Sort) (at from : ℕ) (ys : List ℤ) → IsWithin rows sort at → from + length ys ≤ length rows.nums → (kind sort ≡ Nums → Clear sort at from (from + length ys))
    → value_at (record rows { nums = spliced rows.nums from ys }) sort at ≡ value_at rows sort at
nums_apart rows sorts.Bool at from ys there fits clear = refl
nums_apart rows sorts.Text at from ys there fits clear = refl
nums_apart rows sorts.Tasks at from ys there fits clear = refl
nums_apart rows sort at from ys there fits clear = value_by_nums rows (spliced rows.nums from ys) sort at (window-apart rows.nums at (span sort) from ys there fits (clear refl))

-- an index other than that of a value of length one
other_place : (at i : ℕ) → (at + 1 ≤ i) ⊎ (i + 1 ≤ at) → at ≡ i → ⊥
other_place at i (inl before) is = omega arith
other_place at i (inr behind) is = omega arith

bools_apart : (rows : RowsData) (sort : Sort) (at i : ℕ) (b : Bool) → (kind sort ≡ Bools → Clear sort at i (i + 1)) → value_at (record rows { bools = slice_set rows.bools i b }) sort at ≡ value_at rows sort at
bools_apart rows sorts.Bool at i b clear = ap values.Bool (get_or-set_other rows.bools i at b false (other_place at i (clear refl)))
bools_apart rows _ at i b clear = refl

texts_apart : (rows : RowsData) (sort : Sort) (at i : ℕ) (t : List ℕ) → (kind sort ≡ Texts → Clear sort at i (i + 1)) → value_at (record rows { texts = slice_set rows.texts i t }) sort at ≡ value_at rows sort at
texts_apart rows sorts.Text at i t clear = ap values.Text (get_or-set_other rows.texts i at t [] (other_place at i (clear refl)))
texts_apart rows sorts.Tasks at i t clear = ap values.Text (get_or-set_other rows.texts i at t [] (other_place at i (clear refl)))
texts_apart rows _ at i t clear = refl

joints_apart : (rows : RowsData) (sort : Sort) (at i w : ℕ) (ys : List ℤ) → IsWithin rows sort at → i + w ≤ length rows.nums → (length ys == w) ≡ true → (kind sort ≡ Nums → Clear sort at i (i + w))
    → value_at (record rows { nums = spliced rows.nums i ys }) sort at ≡ value_at rows sort at
joints_apart rows sort at i w ys there fits full clear =
    let many : length ys ≡ w = eqb-true (length ys) w full in
    nums_apart rows sort at i ys there (omega arith) (λ is. subst (λ n. Clear sort at i (i + n)) (sym many) (clear is))

-- a value elsewhere in its row, or in another row, stays the same
pub stays_apart : (rows : RowsData) (sort inner : Sort) (at i : ℕ) (value : Value) → IsWithin rows sort at → has_sort inner value ≡ true → IsWithin rows inner i → (kind sort ≡ kind inner → Clear sort at i (i + span inner))
    → value_at (written rows i value) sort at ≡ value_at rows sort at
stays_apart rows sort sorts.Num at i (values.Num n) there has fits clear = nums_apart rows sort at i (n ∷ []) there fits clear
stays_apart rows sort sorts.Bool at i (values.Bool b) there has fits clear = bools_apart rows sort at i b clear
stays_apart rows sort sorts.Text at i (values.Text t) there has fits clear = texts_apart rows sort at i t clear
stays_apart rows sort sorts.Tasks at i (values.Text t) there has fits clear = texts_apart rows sort at i t clear
stays_apart rows sort sorts.RobJoint at i (values.Rob axes) there has fits clear = joints_apart rows sort at i 6 axes there fits has clear
stays_apart rows sort sorts.ExtJoint at i (values.Ext axes) there has fits clear = joints_apart rows sort at i 6 axes there fits has clear
stays_apart rows sort sorts.JointTarget at i (values.Target joints) there has fits clear = joints_apart rows sort at i 12 joints.axis there fits has clear
stays_apart rows sort sorts.SpeedData at i (values.Speed nums) there has fits clear = joints_apart rows sort at i 4 nums there fits has clear
stays_apart rows sort _ at i _ there has fits clear = absurd (false≢true has)

-- the rows keep their lengths
pub length_in-written : (rows : RowsData) (inner : Sort) (i : ℕ) (value : Value) (k : Kind) → has_sort inner value ≡ true → IsWithin rows inner i → length_in (written rows i value) k ≡ length_in rows k
length_in-written rows inner i value Nums has fits = nums_long inner value has fits
  where
    joints_long : (ys : List ℤ) (w : ℕ) → (length ys == w) ≡ true → i + w ≤ length rows.nums → length (spliced rows.nums i ys) ≡ length rows.nums
    joints_long ys w full fits = let many : length ys ≡ w = eqb-true (length ys) w full in length-spliced rows.nums i ys (omega arith)

    nums_long : (inner : Sort) (value : Value) → has_sort inner value ≡ true → IsWithin rows inner i → length (written rows i value).nums ≡ length rows.nums
    nums_long sorts.Num (values.Num n) has fits = length-spliced rows.nums i (n ∷ []) fits
    nums_long sorts.RobJoint (values.Rob axes) has fits = joints_long axes 6 has fits
    nums_long sorts.ExtJoint (values.Ext axes) has fits = joints_long axes 6 has fits
    nums_long sorts.JointTarget (values.Target joints) has fits = joints_long joints.axis 12 has fits
    nums_long sorts.SpeedData (values.Speed nums) has fits = joints_long nums 4 has fits
    nums_long inner (values.Bool b) has fits = refl
    nums_long inner (values.Text t) has fits = refl
    nums_long _ _ has fits = absurd (false≢true has)
length_in-written rows inner i (values.Bool b) Bools has fits = length-set rows.bools i b
length_in-written rows inner i (values.Text t) Bools has fits = refl
length_in-written rows inner i _ Bools has fits = refl
length_in-written rows inner i (values.Text t) Texts has fits = length-set rows.texts i t
length_in-written rows inner i (values.Bool b) Texts has fits = refl
length_in-written rows inner i _ Texts has fits = refl

-- the elements of a persistent

-- an element ends before a later one begins, and within the persistent
pub element_end : (k n w : ℕ) → k < n → k * w + w ≤ n * w
element_end k n w less =
    let more : suc k * w ≡ k * w + w = suc-mul k w in
    let le : suc k * w ≤ n * w = mul-le (suc k) w n w (omega arith) (omega arith) in
    omega arith

pub element_within : (rows : RowsData) (place : Place) (k : ℕ) → end_of place ≤ length_in rows (kind place.sort) → k < width place.len → IsWithin rows place.sort (place.from + k * span place.sort)
element_within rows place k within less =
    let end : k * span place.sort + span place.sort ≤ width place.len * span place.sort = element_end k (width place.len) (span place.sort) less in
    omega arith

-- a persistent whose elements all stayed the same
pub row_alike : (old new : RowsData) (place : Place) → ((k : ℕ) → k < width place.len → value_at new place.sort (place.from + k * span place.sort) ≡ value_at old place.sort (place.from + k * span place.sort)) → row_of new place ≡ row_of old place
row_alike old new place each =
    ap (λ (vs : List Value). let row : PersData = record { sort = place.sort; len = place.len; values = vs } in row)
    (made_alike (λ k. value_at new place.sort (place.from + k * span place.sort)) (λ k. value_at old place.sort (place.from + k * span place.sort)) (width place.len) each)

-- and one in which one element was replaced
pub row_with : (old new : RowsData) (place : Place) (e : ℕ) → e < width place.len
    → ((k : ℕ) → k < width place.len → (k ≡ e → ⊥) → value_at new place.sort (place.from + k * span place.sort) ≡ value_at old place.sort (place.from + k * span place.sort))
    → (row_of new place).values ≡ set (row_of old place).values e (value_at new place.sort (place.from + e * span place.sort))
row_with old new place e there each =
    let f : ℕ → Value = λ k. value_at new place.sort (place.from + k * span place.sort) in
    let g : ℕ → Value = λ k. value_at old place.sort (place.from + k * span place.sort) in
    let count : ℕ = width place.len in
    let left : length (map f (range_with_len 0 count)) ≡ count = length-map-range_with_len f 0 count in
    let right : length (map g (range_with_len 0 count)) ≡ count = length-map-range_with_len g 0 count in
    let set_long : length (set (map g (range_with_len 0 count)) e (f e)) ≡ length (map g (range_with_len 0 count)) = length-set (map g (range_with_len 0 count)) e (f e) in
    same_lists (map f (range_with_len 0 count)) (set (map g (range_with_len 0 count)) e (f e)) (omega arith)
    (λ k d h. let below : k < count = subst (λ n. k < n) left h in
    get_or-map-range_with_len f 0 count k k d below (omega arith) ∙
    elim (cases_eq k e) [
      | inl same ↦ ap f same ∙ sym (ap (λ n. get_or (set (map g (range_with_len 0 count)) e (f e)) n d) same ∙ get_or-set_same (map g (range_with_len 0 count)) e (f e) d (omega arith))
      | inr other ↦ each k below other ∙ sym (get_or-set_other (map g (range_with_len 0 count)) e k (f e) d other ∙ get_or-map-range_with_len g 0 count k k d below (omega arith))
    ])
