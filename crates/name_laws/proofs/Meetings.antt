-- Each meeting's number is that of its name.
use Rattle.std.proofs.Common.{◌≡◌, ◌⊎◌, inl, inr, ℕ, zero, suc, ◌+◌, ◌<◌, Bool, true, false, List, [], ◌∷◌, ◌++◌, get_or, length, Option, Some, None, slice_get, refl, sym, ap, subst, ◌∙◌, if◌then◌else◌, arith}
use Rattle.std.proofs.Math.Logic.{⊎_elim, ⊎_map}
use Rattle.std.proofs.lemmas.Option.{slice_get_within, slice_get-get_or}
use Rattle.rapid_model.specs.declared.sort.Sort.{Sort}
use Rattle.rapid_model.specs.declared.sort.Sort.TheVariants as sorts
use Rattle.typed_trees.specs.Plain.{TypedSlot}
use Rattle.data_scopes.specs.declared.data_row.DatumRow.{DatumRow}
use Rattle.data_scopes.specs.Meetings.{is_meeting, meetings_before}
use Rattle.data_scopes.specs.Sorts.{same_sort}
use Rattle.task_types.specs.Task.{meeting_names}
use Rattle.decl_types.specs.Data.{sort_in}
use Rattle.name_laws.specs.Meetings.{IsMeeting}

-- the rows of the tree and those of the names have the same types
abbrev pub AreAlike : List TypedSlot → List DatumRow → Type 0
AreAlike slots rows = (k : ℕ) (row : TypedSlot) → slice_get slots k ≡ Some row → row.sort ≡ sort_in (slice_get rows k)

-- an element of a list with one more is one before, or it is the last
pub record IsLast {A : Type 0} (xs : List A) (y : A) (k : ℕ) (x : A) : Type 0 where
  pub at_end : k ≡ length xs
  pub is_it : y ≡ x

pub last_or : {A : Type 0} (xs : List A) (y : A) (k : ℕ) (x : A) → slice_get (xs ++ y ∷ []) k ≡ Some x → (slice_get xs k ≡ Some x) ⊎ IsLast xs y k x
last_or [] y zero x is = inr (record { at_end = refl; is_it = cc })
last_or [] y (suc k) x is = absurd (cc)
last_or (z ∷ xs) y zero x is = inl is
last_or (z ∷ xs) y (suc k) x is = ⊎_map (λ h. h) (λ h. record { at_end = ap suc h.at_end; is_it = h.is_it }) (last_or xs y k x is)

pub alike_more : (slots : List TypedSlot) (rows : List DatumRow) (slot : TypedSlot) → AreAlike slots rows → slot.sort ≡ sort_in (slice_get rows (length slots)) → AreAlike (slots ++ slot ∷ []) rows
alike_more slots rows slot alike is k row here =
    ⊎_elim (λ before. alike k row before) (λ last. ap (λ x. x.sort) (sym last.is_it) ∙ is ∙ ap (λ n. sort_in (slice_get rows n)) (sym last.at_end)) (last_or slots slot k row here)

is_meeting_sort : (sort : Sort) → same_sort sort sorts.SyncIdent ≡ true → sort ≡ sorts.SyncIdent
is_meeting_sort sorts.Num is = absurd (cc)
is_meeting_sort sorts.Bool is = absurd (cc)
is_meeting_sort sorts.Text is = absurd (cc)
is_meeting_sort sorts.RobJoint is = absurd (cc)
is_meeting_sort sorts.ExtJoint is = absurd (cc)
is_meeting_sort sorts.JointTarget is = absurd (cc)
is_meeting_sort sorts.SpeedData is = absurd (cc)
is_meeting_sort sorts.Tasks is = absurd (cc)
is_meeting_sort sorts.IntNum is = absurd (cc)
is_meeting_sort sorts.SyncIdent is = refl
is_meeting_sort sorts.ShapeData is = absurd (cc)
is_meeting_sort sorts.WzTemporary is = absurd (cc)
is_meeting_sort sorts.WzStationary is = absurd (cc)

-- this many meetings before, and the first one of the rest is one or not
number_by : (b : Bool) (name : List ℕ) (names : List (List ℕ)) (n : ℕ) (x : Option (List ℕ)) → slice_get names n ≡ x → slice_get (if b then name ∷ names else names) ((if b then 1 else 0) + n) ≡ x
number_by true name names n x is = let e : 1 + n ≡ suc n = omega arith in ap (slice_get (name ∷ names)) e ∙ is
number_by false name names n x is = let e : 0 + n ≡ n = omega arith in ap (slice_get names) e ∙ is

first_by : (b : Bool) (name : List ℕ) (names : List (List ℕ)) → b ≡ true → slice_get (if b then name ∷ names else names) 0 ≡ Some name
first_by true name names is = refl
first_by false name names is = absurd (cc)

pub meeting_there : (slots : List TypedSlot) (rows : List DatumRow) (k : ℕ) (row : TypedSlot) → AreAlike slots rows → length slots ≡ length rows → slice_get slots k ≡ Some row → is_meeting (slice_get rows k) ≡ true →
    slice_get (meeting_names slots) (meetings_before k rows) ≡ Some row.name
meeting_there [] rows k row alike long is meets = absurd (cc)
meeting_there (s ∷ slots) [] k row alike long is meets = absurd (omega (arith, long))
meeting_there (s ∷ slots) (r ∷ rows) zero row alike long is meets =
    let one : s.sort ≡ r.sort = alike zero s refl in
    let here : same_sort s.sort sorts.SyncIdent ≡ true = ap (λ t. same_sort t sorts.SyncIdent) one ∙ meets in
    let same : s ≡ row = cc in
    first_by (same_sort s.sort sorts.SyncIdent) s.name (meeting_names slots) here ∙ ap (λ x. Some x.name) same
meeting_there (s ∷ slots) (r ∷ rows) (suc k) row alike long is meets =
    let one : s.sort ≡ r.sort = alike zero s refl in
    let rest : slice_get (meeting_names slots) (meetings_before k rows) ≡ Some row.name =
    meeting_there slots rows k row (λ n x here. alike (suc n) x here) (omega (arith, long)) is meets in
    subst (λ t. slice_get (if same_sort s.sort sorts.SyncIdent then s.name ∷ meeting_names slots else meeting_names slots) ((if same_sort t sorts.SyncIdent then 1 else 0) + meetings_before k rows) ≡ Some row.name) one
    (number_by (same_sort s.sort sorts.SyncIdent) s.name (meeting_names slots) (meetings_before k rows) (Some row.name) rest)

-- a meeting among the rows of the names is one among those of the tree
meeting_of : (slots : List TypedSlot) (rows : List DatumRow) (k : ℕ) (o : Option DatumRow) → slice_get rows k ≡ o → AreAlike slots rows → length slots ≡ length rows → is_meeting o ≡ true → IsMeeting slots (meeting_names slots) rows k
meeting_of slots rows k None is alike long meets = absurd (cc)
meeting_of slots rows k (Some r) is alike long meets =
    let within : k < length slots = omega (arith, long, slice_get_within rows k r is) in
    let spare : TypedSlot = record { name = []; variable = false; sort = sorts.Num; len = None; first = [] } in
    let row = get_or slots k spare in
    let there : slice_get slots k ≡ Some row = slice_get-get_or slots k spare within in
    record {
      row = row;
      has_row = there;
      is_one = alike k row there ∙ ap sort_in is ∙ is_meeting_sort r.sort meets;
      has_name = meeting_there slots rows k row alike long there (ap is_meeting is ∙ meets);
    }

pub meeting_known : (slots : List TypedSlot) (rows : List DatumRow) (k : ℕ) → AreAlike slots rows → length slots ≡ length rows → is_meeting (slice_get rows k) ≡ true → IsMeeting slots (meeting_names slots) rows k
meeting_known slots rows k alike long meets = meeting_of slots rows k (slice_get rows k) refl alike long meets
