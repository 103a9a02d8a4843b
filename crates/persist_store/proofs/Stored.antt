-- A value written into the rows is put into one part of one persistent; everything else stays the same.
use Rattle.std.proofs.Common.{◌≡◌, ℕ, ◌+◌, ◌-◌, ◌*◌, ◌<◌, ◌≤◌, true, false, List, length, map, get_or, set, Option, None, Some, is_some, refl, sym, ap, subst, ◌∙◌, inl, inr, arith}
use Rattle.std.proofs.lemmas.Bool.{cases_eq, cases_order, false≢true}
use Rattle.std.proofs.lemmas.List.{get_or-map, get_or_default, get_or-set_other, get_or-set_same, length-map, length-set, same_lists}
use Rattle.std.proofs.lemmas.List.FromFn.{get_or-map-range_with_len}
use Rattle.rapid_model.specs.Paths.{fits_part, has_element, has_sort, part_sort}
use Rattle.rapid_model.specs.Sorts.{has_values, width}
use Rattle.rapid_model.specs.declared.part_name.PartName.{PartName}
use Rattle.rapid_model.specs.declared.part_name.PartName.TheVariants as parts
use Rattle.rapid_model.specs.declared.path.Path.{Path}
use Rattle.rapid_model.specs.declared.sort.Sort.{Sort}
use Rattle.rapid_model.specs.declared.value.Value.{Value}
use Rattle.rapid_model.specs.declared.value.Value.TheVariants as values
use Rattle.rapid_values.specs.Values.{part_of, put_part}
use Rattle.persist_store.specs.Rows.{IsLaid, IsWithin, RowsData, end_of, kind, length_in, offset_in, row_of, sort_in, span, spot_of, value_at, written}
use Rattle.persist_store.specs.Stores.{IsPut, IsStored, PersData, element_of, no_row, row_at, with_element}
use Rattle.persist_store.specs.declared.place.Place.{Place}
use Rattle.persist_store.specs.declared.place.Spot.{Spot}
use Rattle.persist_store.proofs.Cells.{part_at, part_fits, put_at, sort_at, sort_of_part}
use Rattle.persist_store.proofs.Elements.{counted}
use Rattle.persist_store.proofs.PartsFit.{fits_some, fitting}
use Rattle.persist_store.proofs.Apart.{element_end, element_within, length_in-written, row_alike, row_with, stays_apart}

-- the persistent with a number, and one of its elements
pub row_there : (rows : RowsData) (places : List Place) (pers : ℕ) (place : Place) → pers < length places → place ≡ get_or places pers place → row_at (map (row_of rows) places) pers ≡ row_of rows place
row_there rows places pers place there is = get_or-map (row_of rows) places pers place no_row there ∙ ap (row_of rows) (sym is)

pub element_there : (rows : RowsData) (place : Place) (index : ℕ) → has_element place.len index ≡ true → element_of (row_of rows place) index ≡ value_at rows place.sort (place.from + (index - 1) * span place.sort)
element_there rows place index there =
    get_or-map-range_with_len (λ k. value_at rows place.sort (place.from + k * span place.sort)) 0 (width place.len) (index - 1) (index - 1) (values.Bool false) (counted place.len index there) (omega arith)

-- where an element is, and a part of it

pub record Stands (rows : RowsData) (place : Place) (path : Path) : Type 0 where
  pub element : IsWithin rows place.sort (place.from + (path.index - 1) * span place.sort)
  pub part : IsWithin rows (spot_of place path).sort (spot_of place path).at
  pub values : has_values (spot_of place path).sort ≡ true

-- a part has values if the whole has
inner_values : (sort : Sort) (part : PartName) → has_values sort ≡ true → has_values (sort_in sort part) ≡ true
inner_values sort parts.Whole has = has
inner_values sort parts.Robax has = refl
inner_values sort parts.Extax has = refl
inner_values sort (parts.Axis number) has = refl
inner_values sort (parts.SpeedPart number) has = refl
inner_values sort parts.Taskname has = refl

pub stands : (rows : RowsData) (place : Place) (path : Path) (inner : Sort) → has_values place.sort ≡ true → end_of place ≤ length_in rows (kind place.sort) → has_element place.len path.index ≡ true → part_sort place.sort path.part ≡ Some inner → Stands rows place path
stands rows place path inner has within there is =
    let element : IsWithin rows place.sort (place.from + (path.index - 1) * span place.sort) = element_within rows place (path.index - 1) within (counted place.len path.index there) in
    let fits = part_fits place.sort inner path.part is in
    let within_part : offset_in place.sort path.part + span (sort_in place.sort path.part) ≤ span place.sort = fits.within in
    let row : length_in rows (kind (sort_in place.sort path.part)) ≡ length_in rows (kind place.sort) = ap (length_in rows) fits.same_row in
    record { element = element; part = omega arith; values = inner_values place.sort path.part has }

standing : (rows : RowsData) (places : List Place) (pers : ℕ) (place : Place) (path : Path) (inner : Sort)
    → IsLaid rows places → pers < length places → place ≡ get_or places pers place → has_element place.len path.index ≡ true → part_sort place.sort path.part ≡ Some inner → Stands rows place path
standing rows places pers place path inner laid there is element part =
    stands rows place path inner (subst (λ (p : Place). has_values p.sort ≡ true) (sym is) (laid.sorts pers place there))
    (subst (λ (p : Place). end_of p ≤ length_in rows (kind p.sort)) (sym is) (laid.within pers place there)) element part

-- what is read for a part is that part, and has its type
pub seen_there : (rows : RowsData) (places : List Place) (pers : ℕ) (place : Place) (path : Path) (inner : Sort)
    → IsLaid rows places → pers < length places → place ≡ get_or places pers place → has_element place.len path.index ≡ true → part_sort place.sort path.part ≡ Some inner
    → (part_of (element_of (row_at (map (row_of rows) places) pers) path.index) path.part ≡ Some (value_at rows (spot_of place path).sort (spot_of place path).at))
    × (has_sort inner (value_at rows (spot_of place path).sort (spot_of place path).at) ≡ true)
seen_there rows places pers place path inner laid there is element part =
    let stand = standing rows places pers place path inner laid there is element part in
    let sort : sort_in place.sort path.part ≡ inner = sort_of_part place.sort inner path.part part in (
      ap (λ (r : PersData). part_of (element_of r path.index) path.part) (row_there rows places pers place there is)
          ∙ ap (λ v. part_of v path.part) (element_there rows place path.index element)
          ∙ part_at rows place.sort inner path.part (place.from + (path.index - 1) * span place.sort) part stand.element,
      subst (λ (x : Sort). has_sort x (value_at rows (spot_of place path).sort (spot_of place path).at) ≡ true) sort
          (sort_at rows (spot_of place path).sort (spot_of place path).at stand.values stand.part),
    )

-- writing

module _ (rows : RowsData) (places : List Place) (pers : ℕ) (place : Place) (path : Path) (inner : Sort) (value : Value)
    (laid : IsLaid rows places) (there : pers < length places) (is : place ≡ get_or places pers place) (element : has_element place.len path.index ≡ true)
    (part : part_sort place.sort path.part ≡ Some inner) (has : has_sort inner value ≡ true) where
  abbrev e : ℕ
  e = path.index - 1

  abbrev at : ℕ
  at = place.from + e * span place.sort

  abbrev spot : Spot
  spot = spot_of place path

  abbrev after : RowsData
  after = written rows spot.at value

  within : end_of place ≤ length_in rows (kind place.sort)
  within = subst (λ (p : Place). end_of p ≤ length_in rows (kind p.sort)) (sym is) (laid.within pers place there)

  stand : Stands rows place path
  stand = standing rows places pers place path inner laid there is element part

  fits : has_sort spot.sort value ≡ true
  fits = subst (λ (x : Sort). has_sort x value ≡ true) (sym (sort_of_part place.sort inner path.part part)) has

  -- an element with another number, of the same persistent
  other_element : (k : ℕ) → k < width place.len → (k ≡ e → ⊥) → value_at after place.sort (place.from + k * span place.sort) ≡ value_at rows place.sort (place.from + k * span place.sort)
  other_element k below other =
      let own = part_fits place.sort inner path.part part in
      let room : offset_in place.sort path.part + span spot.sort ≤ span place.sort = own.within in
      stays_apart rows place.sort spot.sort (place.from + k * span place.sort) spot.at value (element_within rows place k within below) fits stand.part
      (λ _. elim (cases_order k e) [
        | inl same ↦ absurd (other same)
        | inr apart ↦ elim apart [
          | inl less ↦ let end : k * span place.sort + span place.sort ≤ e * span place.sort = element_end k e (span place.sort) less in inl (omega arith)
          | inr more ↦ let end : e * span place.sort + span place.sort ≤ k * span place.sort = element_end e k (span place.sort) more in inr (omega arith)
        ]
      ])

  -- another persistent
  other_row : (j : ℕ) → j < length places → (j ≡ pers → ⊥) → row_of after (get_or places j place) ≡ row_of rows (get_or places j place)
  other_row j below other =
      let q : Place = get_or places j place in
      let own = part_fits place.sort inner path.part part in
      let room : offset_in place.sort path.part + span spot.sort ≤ span place.sort = own.within in
      let last : e * span place.sort + span place.sort ≤ width place.len * span place.sort = element_end e (width place.len) (span place.sort) (counted place.len path.index element) in
      row_alike rows after q
      (λ k h. let inside : end_of q ≤ length_in rows (kind q.sort) = laid.within j place below in
      let end : k * span q.sort + span q.sort ≤ width q.len * span q.sort = element_end k (width q.len) (span q.sort) h in
      stays_apart rows q.sort spot.sort (q.from + k * span q.sort) spot.at value (element_within rows q k inside h) fits stand.part
      (λ same. let row : kind q.sort ≡ kind place.sort = same ∙ own.same_row in
      elim (cases_order j pers) [
        | inl eq ↦ absurd (other eq)
        | inr apart ↦ elim apart [
          | inl less ↦ let before : end_of q ≤ place.from =
              subst (λ (p : Place). kind q.sort ≡ kind p.sort → end_of q ≤ p.from) (sym is) (laid.apart j pers place less there) row in
              inl (omega arith)
          | inr more ↦ let behind : end_of place ≤ q.from =
              subst (λ (p : Place). kind p.sort ≡ kind q.sort → end_of p ≤ q.from) (sym is) (laid.apart pers j place more below) (sym row) in
              inr (omega arith)
        ]
      ]))

  abbrev olds : List PersData
  olds = map (row_of rows) places

  abbrev news : List PersData
  news = map (row_of after) places

  old_element : element_of (row_at olds pers) path.index ≡ value_at rows place.sort at
  old_element = ap (λ (r : PersData). element_of r path.index) (row_there rows places pers place there is) ∙ element_there rows place path.index element

  new_element : element_of (row_at news pers) path.index ≡ value_at after place.sort at
  new_element = ap (λ (r : PersData). element_of r path.index) (row_there after places pers place there is) ∙ element_there after place path.index element

  is_put : IsPut (row_at olds pers) (row_at news pers) path value
  is_put = record {
    part = ap (λ v. put_part v path.part value) old_element ∙ put_at rows place.sort inner path.part at value part fits stand.element ∙ ap Some (sym new_element);
    others = row_there after places pers place there is
        ∙ ap (λ (vs : List Value). let row : PersData = record { sort = place.sort; len = place.len; values = vs } in row)
        (row_with rows after place e (counted place.len path.index element) other_element)
        ∙ ap (λ v. with_element (row_of rows place) path.index v) (sym new_element)
        ∙ ap (λ (r : PersData). with_element r path.index (element_of (row_at news pers) path.index)) (sym (row_there rows places pers place there is));
  }

  pub put_there : IsStored olds news pers path value
  put_there = record { put = is_put; others = same_lists news (set olds pers (row_at news pers)) many each }
    where
      long : length news ≡ length places
      long = length-map places (row_of after)

      many : length news ≡ length (set olds pers (row_at news pers))
      many = long ∙ sym (length-set olds pers (row_at news pers) ∙ length-map places (row_of rows))

      each : (j : ℕ) (d : PersData) → j < length news → get_or news j d ≡ get_or (set olds pers (row_at news pers)) j d
      each j d h =
          let below : j < length places = subst (λ n. j < n) long h in
          let within_olds : pers < length olds = subst (λ n. pers < n) (sym (length-map places (row_of rows))) there in
          elim (cases_eq j pers) [
            | inl same ↦ ap (λ n. get_or news n d) same ∙ get_or_default news pers d no_row (subst (λ n. pers < n) (sym long) there)
                ∙ sym (ap (λ n. get_or (set olds pers (row_at news pers)) n d) same ∙ get_or-set_same olds pers (row_at news pers) d within_olds)
            | inr other ↦ get_or-map (row_of after) places j place d below ∙ other_row j below other
                ∙ sym (get_or-set_other olds pers j (row_at news pers) d other ∙ get_or-map (row_of rows) places j place d below)
          ]

  pub laid_still : IsLaid after places
  laid_still = record {
    sorts = laid.sorts;
    within = λ k d h. subst (λ n. end_of (get_or places k d) ≤ n) (sym (length_in-written rows spot.sort spot.at value (kind (get_or places k d).sort) fits stand.part)) (laid.within k d h);
    apart = laid.apart;
  }

-- a store over rows

own_row : (rows : RowsData) (places : List Place) (pers : ℕ) (place : Place) (store : List PersData)
    → map (row_of rows) places ≡ store → pers < length store → place ≡ get_or places pers place → (pers < length places) × (row_at store pers ≡ row_of rows place)
own_row rows places pers place store view there is =
    let all : length store ≡ length places = ap length (sym view) ∙ length-map places (row_of rows) in
    let within : pers < length places = omega arith in
    (within, ap (λ (s : List PersData). row_at s pers) (sym view) ∙ row_there rows places pers place within is)

type_there : (o : Option Sort) → is_some o ≡ true → (inner : Sort) × (o ≡ Some inner)
type_there None some = absurd (false≢true some)
type_there (Some inner) some = (inner, refl)

-- what is at a spot is the part of the persistent that the path names
pub record IsSeen (store : List PersData) (pers : ℕ) (path : Path) (rows : RowsData) (spot : Spot) : Type 0 where
  pub part : part_of (element_of (row_at store pers) path.index) path.part ≡ Some (value_at rows spot.sort spot.at)
  pub fits : fits_part (row_at store pers).sort path.part (value_at rows spot.sort spot.at) ≡ true
  pub within : IsWithin rows spot.sort spot.at
  pub values : has_values spot.sort ≡ true

pub seen_at : (rows : RowsData) (places : List Place) (pers : ℕ) (place : Place) (path : Path) (store : List PersData) (here : Spot)
    → map (row_of rows) places ≡ store → IsLaid rows places → pers < length store → place ≡ get_or places pers place → here ≡ spot_of place path
    → has_element place.len path.index ≡ true → is_some (part_sort (row_at store pers).sort path.part) ≡ true → IsSeen store pers path rows here
seen_at rows places pers place path store here view laid there is same element part =
    let own = own_row rows places pers place store view there is in
    let sort : (row_at store pers).sort ≡ place.sort = ap (λ (r : PersData). r.sort) own.1 in
    let inner = type_there (part_sort place.sort path.part) (subst (λ (x : Sort). is_some (part_sort x path.part) ≡ true) sort part) in
    let value : Value = value_at rows (spot_of place path).sort (spot_of place path).at in
    let seen = seen_there rows places pers place path inner.0 laid own.0 is element inner.1 in
    let stand = standing rows places pers place path inner.0 laid own.0 is element inner.1 in
    subst (λ (s : Spot). IsSeen store pers path rows s) (sym same)
    (record {
      part = ap (λ (s : List PersData). part_of (element_of (row_at s pers) path.index) path.part) (sym view) ∙ seen.0;
      fits = ap (λ (x : Sort). fits_part x path.part value) sort ∙ (fits_some place.sort inner.0 path.part value inner.1 ∙ seen.1);
      within = stand.part;
      values = stand.values;
    })

-- a value that fits the part is written at the spot
pub record IsWritten (store : List PersData) (pers : ℕ) (path : Path) (rows : RowsData) (places : List Place) (spot : Spot) (value : Value) : Type 0 where
  pub within : IsWithin rows spot.sort spot.at
  pub sort : has_sort spot.sort value ≡ true
  pub laid : IsLaid (written rows spot.at value) places
  pub stored : IsStored store (map (row_of (written rows spot.at value)) places) pers path value

pub written_at : (rows : RowsData) (places : List Place) (pers : ℕ) (place : Place) (path : Path) (store : List PersData) (here : Spot) (value : Value)
    → map (row_of rows) places ≡ store → IsLaid rows places → pers < length store → place ≡ get_or places pers place → here ≡ spot_of place path
    → has_element place.len path.index ≡ true → fits_part (row_at store pers).sort path.part value ≡ true → IsWritten store pers path rows places here value
written_at rows places pers place path store here value view laid there is same element suits =
    let own = own_row rows places pers place store view there is in
    let sort : (row_at store pers).sort ≡ place.sort = ap (λ (r : PersData). r.sort) own.1 in
    let inner = fitting place.sort path.part value (subst (λ (x : Sort). fits_part x path.part value ≡ true) sort suits) in
    let stand = standing rows places pers place path inner.0 laid own.0 is element inner.1 in
    subst (λ (s : Spot). IsWritten store pers path rows places s value) (sym same)
    (record {
      within = stand.part;
      sort = fits rows places pers place path inner.0 value laid own.0 is element inner.1 inner.2;
      laid = laid_still rows places pers place path inner.0 value laid own.0 is element inner.1 inner.2;
      stored = subst (λ (s : List PersData). IsStored s (map (row_of (written rows (spot_of place path).at value)) places) pers path value) view
          (put_there rows places pers place path inner.0 value laid own.0 is element inner.1 inner.2);
    })
