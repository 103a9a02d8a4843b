-- Persistents appended to the rows.
use Rattle.std.proofs.Common.{◌≡◌, ℕ, suc, ◌+◌, ◌*◌, ◌<◌, ◌≤◌, true, false, ℤ, pos, List, [], ◌∷◌, ◌++◌, length, map, take, get_or, refl, sym, ap, subst, ◌∙◌, append_assoc, Option, ◌&&◌, ◌==◌, arith}
use Rattle.std.proofs.Math.Nat.{suc-mul}
use Rattle.std.proofs.Math.Seq.{drop-append_seam}
use Rattle.std.proofs.lemmas.Bool.{and_from, and_parts, eqb-true, false≢true}
use Rattle.std.proofs.lemmas.List.{append-nil, get_or_append_left, get_or-map, get_or_push, length-append, length-map, map_push, same_lists, take_all}
use Rattle.std.proofs.lemmas.List.Elements.{All-push}
use Rattle.std.proofs.lemmas.List.Folds.{list_all-append}
use Rattle.std.proofs.lemmas.List.FromFn.{map-range_with_len_more}
use Rattle.std.proofs.lemmas.List.Quantifiers.{all_pairs_push}
use Rattle.std.specs.List.{list_all, range_with_len}
use Rattle.rapid_model.specs.Paths.{has_sort}
use Rattle.rapid_model.specs.Sorts.{has_values, width}
use Rattle.rapid_model.specs.declared.pers_cell.PersCell.{PersCell}
use Rattle.rapid_model.specs.declared.sort.Sort.{Sort}
use Rattle.rapid_model.specs.declared.sort.Sort.TheVariants as sorts
use Rattle.rapid_model.specs.declared.value.Value.{Value}
use Rattle.rapid_model.specs.declared.value.Value.TheVariants as values
use Rattle.rapid_model.proofs.Lists.{made_alike}
use Rattle.persist_store.specs.Rows.{AreApart, ArePut, Bools, Extends, IsAdded, IsLaid, IsWithin, Kind, Nums, RowsData, Texts, end_of, grown, kind, length_in, row_of, span, value_at, window}
use Rattle.persist_store.specs.Stores.{PersData, first_row}
use Rattle.persist_store.specs.declared.place.Place.{Place}
use Rattle.persist_store.proofs.Apart.{element_end, element_within, row_alike, value_by_nums}
use Rattle.persist_store.proofs.Splices.{window-grown}

-- the rows grow

pub extends-none : (rows : RowsData) → Extends rows rows
extends-none rows = record { nums = ([], sym (append-nil rows.nums)); bools = ([], sym (append-nil rows.bools)); texts = ([], sym (append-nil rows.texts)) }

more_nums : (rows : RowsData) (more : List ℤ) → Extends rows (record rows { nums = rows.nums ++ more })
more_nums rows more = record { nums = (more, refl); bools = ([], sym (append-nil rows.bools)); texts = ([], sym (append-nil rows.texts)) }

extends-grown : (rows : RowsData) (value : Value) → Extends rows (grown rows value)
extends-grown rows (values.Bool b) = record { nums = ([], sym (append-nil rows.nums)); bools = (b ∷ [], refl); texts = ([], sym (append-nil rows.texts)) }
extends-grown rows (values.Text t) = record { nums = ([], sym (append-nil rows.nums)); bools = ([], sym (append-nil rows.bools)); texts = (t ∷ [], refl) }
extends-grown rows (values.Num n) = more_nums rows (n ∷ [])
extends-grown rows (values.Rob axes) = more_nums rows axes
extends-grown rows (values.Ext axes) = more_nums rows axes
extends-grown rows (values.Target joints) = more_nums rows joints.axis
extends-grown rows (values.Speed nums) = more_nums rows nums

joined : {A : Type 0} (a b c m n : List A) → b ≡ a ++ m → c ≡ b ++ n → c ≡ a ++ (m ++ n)
joined a b c m n p q = q ∙ ap (λ xs. xs ++ n) p ∙ append_assoc a m n

pub extends-more : (first second third : RowsData) → Extends first second → Extends second third → Extends first third
extends-more first second third p q = record {
  nums = (p.nums.0 ++ q.nums.0, joined first.nums second.nums third.nums p.nums.0 q.nums.0 p.nums.1 q.nums.1);
  bools = (p.bools.0 ++ q.bools.0, joined first.bools second.bools third.bools p.bools.0 q.bools.0 p.bools.1 q.bools.1);
  texts = (p.texts.0 ++ q.texts.0, joined first.texts second.texts third.texts p.texts.0 q.texts.0 p.texts.1 q.texts.1);
}

longer : {A : Type 0} (old new : List A) (more : List A) → new ≡ old ++ more → length old ≤ length new
longer old new more is = let both : length (old ++ more) ≡ length old + length more = length-append old more in let all : length new ≡ length (old ++ more) = ap length is in omega arith

pub length_in-extends : (old new : RowsData) (k : Kind) → Extends old new → length_in old k ≤ length_in new k
length_in-extends old new Nums more = longer old.nums new.nums more.nums.0 more.nums.1
length_in-extends old new Bools more = longer old.bools new.bools more.bools.0 more.bools.1
length_in-extends old new Texts more = longer old.texts new.texts more.texts.0 more.texts.1

-- and what is already there stays
item_stays : {A : Type 0} (old new more : List A) (at : ℕ) (d : A) → new ≡ old ++ more → at + 1 ≤ length old → get_or new at d ≡ get_or old at d
item_stays old new more at d is there = ap (λ xs. get_or xs at d) is ∙ get_or_append_left old more d at (omega arith)

nums_stay : (old new : RowsData) (sort : Sort) (at : ℕ) → Extends old new → at + span sort ≤ length old.nums → window at (span sort) new.nums ≡ window at (span sort) old.nums
nums_stay old new sort at more there = ap (window at (span sort)) more.nums.1 ∙ window-grown old.nums more.nums.0 at (span sort) there

pub value_stays : (old new : RowsData) (sort : Sort) (at : ℕ) → Extends old new → IsWithin old sort at → value_at new sort at ≡ value_at old sort at
value_stays old new sorts.Bool at more there = ap values.Bool (item_stays old.bools new.bools more.bools.0 at false more.bools.1 there)
value_stays old new sorts.Text at more there = ap values.Text (item_stays old.texts new.texts more.texts.0 at [] more.texts.1 there)
value_stays old new sorts.Tasks at more there = ap values.Text (item_stays old.texts new.texts more.texts.0 at [] more.texts.1 there)
value_stays old new sorts.Num at more there = value_by_nums old new.nums sorts.Num at (nums_stay old new sorts.Num at more there)
value_stays old new sorts.RobJoint at more there = ap values.Rob (nums_stay old new sorts.RobJoint at more there)
value_stays old new sorts.ExtJoint at more there = ap values.Ext (nums_stay old new sorts.ExtJoint at more there)
value_stays old new sorts.JointTarget at more there = ap (λ axes. values.Target (record { axis = axes })) (nums_stay old new sorts.JointTarget at more there)
value_stays old new sorts.SpeedData at more there = ap values.Speed (nums_stay old new sorts.SpeedData at more there)
value_stays old new _ at more there = refl

-- one more value of a type, at the end of its row

last_window : (nums ys : List ℤ) (w : ℕ) → (length ys == w) ≡ true → window (length nums) w (nums ++ ys) ≡ ys
last_window nums ys w full =
    let many : length ys ≡ w = eqb-true (length ys) w full in
    ap (take w) (drop-append_seam nums ys) ∙ take_all w ys (omega arith)

pub value-grown : (rows : RowsData) (sort : Sort) (value : Value) → has_sort sort value ≡ true → value_at (grown rows value) sort (length_in rows (kind sort)) ≡ value
value-grown rows sorts.Num (values.Num n) has = ap values.Num (get_or_push rows.nums n (pos 0) (length rows.nums) refl)
value-grown rows sorts.Bool (values.Bool b) has = ap values.Bool (get_or_push rows.bools b false (length rows.bools) refl)
value-grown rows sorts.Text (values.Text t) has = ap values.Text (get_or_push rows.texts t [] (length rows.texts) refl)
value-grown rows sorts.Tasks (values.Text t) has = ap values.Text (get_or_push rows.texts t [] (length rows.texts) refl)
value-grown rows sorts.RobJoint (values.Rob axes) has = ap values.Rob (last_window rows.nums axes 6 has)
value-grown rows sorts.ExtJoint (values.Ext axes) has = ap values.Ext (last_window rows.nums axes 6 has)
value-grown rows sorts.JointTarget (values.Target joints) has = ap (λ axes. values.Target (record { axis = axes })) (last_window rows.nums joints.axis 12 has)
value-grown rows sorts.SpeedData (values.Speed nums) has = ap values.Speed (last_window rows.nums nums 4 has)
value-grown rows _ _ has = absurd (false≢true has)

nums_grown : (nums ys : List ℤ) (w : ℕ) → (length ys == w) ≡ true → length (nums ++ ys) ≡ length nums + w
nums_grown nums ys w full = let many : length ys ≡ w = eqb-true (length ys) w full in let both : length (nums ++ ys) ≡ length nums + length ys = length-append nums ys in omega arith

pub length_in-grown : (rows : RowsData) (sort : Sort) (value : Value) → has_sort sort value ≡ true → length_in (grown rows value) (kind sort) ≡ length_in rows (kind sort) + span sort
length_in-grown rows sorts.Num (values.Num n) has = length-append rows.nums (n ∷ [])
length_in-grown rows sorts.Bool (values.Bool b) has = length-append rows.bools (b ∷ [])
length_in-grown rows sorts.Text (values.Text t) has = length-append rows.texts (t ∷ [])
length_in-grown rows sorts.Tasks (values.Text t) has = length-append rows.texts (t ∷ [])
length_in-grown rows sorts.RobJoint (values.Rob axes) has = nums_grown rows.nums axes 6 has
length_in-grown rows sorts.ExtJoint (values.Ext axes) has = nums_grown rows.nums axes 6 has
length_in-grown rows sorts.JointTarget (values.Target joints) has = nums_grown rows.nums joints.axis 12 has
length_in-grown rows sorts.SpeedData (values.Speed nums) has = nums_grown rows.nums nums 4 has
length_in-grown rows _ _ has = absurd (false≢true has)

pub sort_has_values : (sort : Sort) (value : Value) → has_sort sort value ≡ true → has_values sort ≡ true
sort_has_values sorts.Num value has = refl
sort_has_values sorts.Bool value has = refl
sort_has_values sorts.Text value has = refl
sort_has_values sorts.Tasks value has = refl
sort_has_values sorts.RobJoint value has = refl
sort_has_values sorts.ExtJoint value has = refl
sort_has_values sorts.JointTarget value has = refl
sort_has_values sorts.SpeedData value has = refl
sort_has_values sorts.IntNum _ has = absurd (false≢true has)
sort_has_values sorts.SyncIdent _ has = absurd (false≢true has)
sort_has_values sorts.ShapeData _ has = absurd (false≢true has)
sort_has_values sorts.WzTemporary _ has = absurd (false≢true has)
sort_has_values sorts.WzStationary _ has = absurd (false≢true has)

pub none_put : (rows : RowsData) (sort : Sort) → ArePut rows rows sort (length_in rows (kind sort)) []
none_put rows sort = record { grows = extends-none rows; long = omega arith; there = refl; values = refl }

pub one_put : (old rows : RowsData) (sort : Sort) (from : ℕ) (firsts : List Value) (value : Value) → ArePut old rows sort from firsts → has_sort sort value ≡ true → ArePut old (grown rows value) sort from (firsts ++ value ∷ [])
one_put old rows sort from firsts value put has =
    let count : ℕ = length firsts in
    let w : ℕ = span sort in
    let many : length (firsts ++ value ∷ []) ≡ count + 1 = length-append firsts (value ∷ []) in
    let at : ℕ → Value = λ k. value_at (grown rows value) sort (from + k * w) in
    let before : ℕ → Value = λ k. value_at rows sort (from + k * w) in
    let last : length_in rows (kind sort) ≡ from + count * w = put.long in
    let more : suc count * w ≡ count * w + w = suc-mul count w in
    let next : count + 1 ≡ suc count = omega arith in
    let long : length_in (grown rows value) (kind sort) ≡ length_in rows (kind sort) + w = length_in-grown rows sort value has in
    let olds : map at (range_with_len 0 count) ≡ map before (range_with_len 0 count) =
    made_alike at before count
    (λ k h. value_stays rows (grown rows value) sort (from + k * w) (extends-grown rows value)
    (let end : k * w + w ≤ count * w = element_end k count w h in omega arith))
    in
    let own : at count ≡ value = ap (value_at (grown rows value) sort) (sym last) ∙ value-grown rows sort value has in
    record {
      grows = extends-more old rows (grown rows value) put.grows (extends-grown rows value);
      long = long ∙ ap (λ n. n + w) last ∙ (let all : from + count * w + w ≡ from + suc count * w = omega arith in all) ∙ ap (λ n. from + n * w) (sym next ∙ sym many);
      there = ap (λ n. map at (range_with_len 0 n)) many ∙ map-range_with_len_more at 0 count count (omega arith)
          ∙ ap (λ vs. vs ++ at count ∷ []) (olds ∙ put.there) ∙ ap (λ v. firsts ++ v ∷ []) own;
      values = list_all-append (has_sort sort) firsts (value ∷ []) ∙ and_from (list_all (has_sort sort) firsts) (has_sort sort value && true) put.values (and_from (has_sort sort value) true has refl);
    }

-- one more persistent

pub added : (old new : RowsData) (row : PersCell) (place : Place) (from : ℕ) → place.sort ≡ row.sort → place.len ≡ row.len → place.from ≡ from
    → from ≡ length_in old (kind row.sort) → ArePut old new row.sort from row.first → length row.first ≡ width row.len → 0 < width row.len → IsAdded old new row place
added old new row place from sort len begins at put count some =
    let count_is : length row.first ≡ width place.len = count ∙ ap width (sym len) in
    let w : span place.sort ≡ span row.sort = ap span sort in
    let last : length_in new (kind row.sort) ≡ from + length row.first * span row.sort = put.long in
    let end : end_of place ≡ from + length row.first * span row.sort = ap (λ n. n + width place.len * span place.sort) begins ∙ ap (λ n. from + n * span place.sort) (sym count_is) ∙ ap (λ n. from + length row.first * n) w in
    let row_is : length_in new (kind place.sort) ≡ length_in new (kind row.sort) = ap (λ x. length_in new (kind x)) sort in
    record {
      sort = ap has_values sort ∙ some_values row.sort row.first put.values (omega arith);
      grows = put.grows;
      begins = begins ∙ at ∙ ap (λ x. length_in old (kind x)) (sym sort);
      ends = omega arith;
      firsts = firsts_of place.sort row.sort place.len row.len place.from from row.first sort len begins count_is put.there;
    }
  where
    some_values : (sort : Sort) (firsts : List Value) → list_all (has_sort sort) firsts ≡ true → 0 < length firsts → has_values sort ≡ true
    some_values sort [] has some = absurd (omega arith)
    some_values sort (v ∷ vs) has some = sort_has_values sort v (and_parts (has_sort sort v) (list_all (has_sort sort) vs) has).0

    firsts_of : (s t : Sort) (m n : Option ℕ) (i j : ℕ) (firsts : List Value) → s ≡ t → m ≡ n → i ≡ j → length firsts ≡ width m
        → map (λ k. value_at new t (j + k * span t)) (range_with_len 0 (length firsts)) ≡ firsts → row_of new (record { sort = s; len = m; from = i }) ≡ record { sort = t; len = n; values = firsts }
    firsts_of s t m n i j firsts sort len at count there =
        let row : Sort → Option ℕ → List Value → PersData = λ x y vs. record { sort = x; len = y; values = vs } in
        let values : map (λ k. value_at new s (i + k * span s)) (range_with_len 0 (width m)) ≡ firsts =
        ap (λ x. map (λ k. value_at new x (i + k * span x)) (range_with_len 0 (width m))) sort
        ∙ ap (λ f. map (λ k. value_at new t (f + k * span t)) (range_with_len 0 (width m))) at
        ∙ ap (λ c. map (λ k. value_at new t (j + k * span t)) (range_with_len 0 c)) (sym count) ∙ there
        in
        ap (λ x. row x m (map (λ k. value_at new s (i + k * span s)) (range_with_len 0 (width m)))) sort
        ∙ ap (λ y. row t y (map (λ k. value_at new s (i + k * span s)) (range_with_len 0 (width m)))) len ∙ ap (row t n) values

pub laid_more : (old new : RowsData) (row : PersCell) (place : Place) (places : List Place) → IsLaid old places → IsAdded old new row place → IsLaid new (places ++ place ∷ [])
laid_more old new row place places laid is = record {
  sorts = All-push (λ (p : Place). has_values p.sort ≡ true) places place laid.sorts is.sort;
  within = All-push (λ (p : Place). end_of p ≤ length_in new (kind p.sort)) places place (λ k d h. let grown : length_in old (kind (get_or places k d).sort) ≤ length_in new (kind (get_or places k d).sort) = length_in-extends old new (kind (get_or places k d).sort) is.grows in let within : end_of (get_or places k d) ≤ length_in old (kind (get_or places k d).sort) = laid.within k d h in omega arith) is.ends;
  apart = all_pairs_push AreApart places place laid.apart
      (λ k d h same. let within : end_of (get_or places k d) ≤ length_in old (kind (get_or places k d).sort) = laid.within k d h in
      let begins : place.from ≡ length_in old (kind place.sort) = is.begins in
      let row : length_in old (kind (get_or places k d).sort) ≡ length_in old (kind place.sort) = ap (length_in old) same in
      omega arith);
}

pub rows_more : (old new : RowsData) (row : PersCell) (place : Place) (places : List Place) (firsts : List PersData)
    → IsLaid old places → IsAdded old new row place → map (row_of old) places ≡ firsts → map (row_of new) (places ++ place ∷ []) ≡ firsts ++ first_row row ∷ []
rows_more old new row place places firsts laid is rows =
    map_push (row_of new) places place ∙ ap (λ rs. rs ++ row_of new place ∷ []) (stay ∙ rows) ∙ ap (λ r. firsts ++ r ∷ []) is.firsts
  where
    stay : map (row_of new) places ≡ map (row_of old) places
    stay = same_lists (map (row_of new) places) (map (row_of old) places) (length-map places (row_of new) ∙ sym (length-map places (row_of old)))
        (λ k d h. let below : k < length places = subst (λ n. k < n) (length-map places (row_of new)) h in
        let q : Place = get_or places k place in
        get_or-map (row_of new) places k place d below
        ∙ row_alike old new q (λ j lt. value_stays old new q.sort (q.from + j * span q.sort) is.grows (element_within old q j (laid.within k place below) lt))
        ∙ sym (get_or-map (row_of old) places k place d below))
