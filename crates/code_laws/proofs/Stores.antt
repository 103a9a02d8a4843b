-- The outcome of stores in the innermost frame, in any order.
use Rattle.std.proofs.Common.{◌≡◌, refl, sym, ap, ◌∙◌, subst, ℕ, zero, suc, ◌+◌, Bool, ℤ, List, [], ◌∷◌, length, Option, None, Some, slice_get, slice_set, arith}
use Rattle.std.specs.Prelude.{⊤}
use Rattle.std.specs.Option.{option_and_then}
use Rattle.rapid_model.specs.Fits.{Fitting}
use Rattle.rapid_model.specs.declared.answer.Answer.{Answer}
use Rattle.rapid_model.specs.declared.part_name.PartName.TheVariants as parts
use Rattle.rapid_model.specs.declared.value.Value.{Value}
use Rattle.rapid_model.specs.declared.value.Value.TheVariants as values
use Rattle.typed_trees.specs.declared.datum.Datum.{Datum}
use Rattle.typed_trees.specs.declared.datum.Datum.TheVariants as datums
use Rattle.typed_trees.specs.declared.datum.Lvalue.{Lvalue}
use Rattle.typed_trees.specs.declared.datum.Root.{Root}
use Rattle.typed_trees.specs.declared.datum.Root.TheVariants as roots
use Rattle.rapid_meaning.specs.Answering.{Outcome, Gave, Misfits, Run, joined, performed}
use Rattle.rapid_meaning.specs.Data.{Data, Frame, frame_at}
use Rattle.rapid_meaning.specs.Doings.{Doing, Act, Raises, ◌>>=◌, ◌>>◌, after}
use Rattle.rapid_meaning.specs.Loops.{direction}
use Rattle.rapid_meaning.specs.Places.{at_root, put_in, write_value, writes_at}
use Rattle.rapid_meaning.proofs.Composing.{performed_after}
use Rattle.rapid_meaning.proofs.Turns.{frame_found, own_read, put_there, set_here, set_there, then_performed}
use Rattle.stack_code.specs.Steps.{counter_at}
use Rattle.code_laws.proofs.Located.{Alike, own_of, place_at}

-- what follows if there is a value
abbrev on_plain : {A : Type 0} → Option Datum → Outcome A → Outcome A
on_plain (Some (datums.Plain v)) o = o
on_plain _ o = Misfits

plain_misfits : {A : Type 0} (x : Option Datum) → on_plain {A = A} x Misfits ≡ Misfits
plain_misfits (Some (datums.Plain v)) = refl
plain_misfits _ = refl

plain_swap : {A : Type 0} (x y : Option Datum) (o : Outcome A) → on_plain x (on_plain y o) ≡ on_plain y (on_plain x o)
plain_swap (Some (datums.Plain v)) y o = refl
plain_swap _ y o = sym (plain_misfits y)

plain_round : {A : Type 0} (x y z : Option Datum) (o : Outcome A) → on_plain x (on_plain y (on_plain z o)) ≡ on_plain z (on_plain y (on_plain x o))
plain_round x y z o = plain_swap x y (on_plain z o) ∙ (ap (on_plain y) (plain_swap x z o) ∙ plain_swap y z (on_plain x o))

-- what follows must agree only if there is a value
plain_under : {A : Type 0} (x : Option Datum) (o p : Outcome A) → ((v : Value) → x ≡ Some (datums.Plain v) → o ≡ p) → on_plain x o ≡ on_plain x p
plain_under (Some (datums.Plain v)) o p e = e v refl
plain_under _ o p e = refl

plain_joined : {A B : Type 0} (x : Option Datum) (o : Outcome A) (f : A → Data → List Answer → Outcome B) (h : ℕ → Data → List Answer → Outcome B)
    → joined (on_plain x o) f h ≡ on_plain x (joined o f h)
plain_joined (Some (datums.Plain v)) o f h = refl
plain_joined _ o f h = refl

set_swap : (xs : List Datum) (i j : ℕ) (a b : Datum) → (i ≡ j → ⊥) → slice_set (slice_set xs i a) j b ≡ slice_set (slice_set xs j b) i a
set_swap [] i j a b other = refl
set_swap (x ∷ xs) zero zero a b other = absurd (other refl)
set_swap (x ∷ xs) zero (suc j) a b other = refl
set_swap (x ∷ xs) (suc i) zero a b other = refl
set_swap (x ∷ xs) (suc i) (suc j) a b other = ap (λ (ys : List Datum). x ∷ ys) (set_swap xs i j a b (λ e. other (ap suc e)))

-- data whose innermost frame has these values
abbrev topped : Data → Frame → List Frame → List Datum → Data
topped d frame below xs = record d { frames = record frame { values = xs } ∷ below }

-- one store
stores : (by : Bool → Fitting) (run : Run) (d : Data) (frame : Frame) (below : List Frame) (xs : List Datum) (at : ℕ) (n : ℤ) (left : List Answer)
    → performed by run (write_value (at_root (roots.Frame (length below) at)) (values.Num n)) (topped d frame below xs) left
    ≡ on_plain (slice_get xs at) (Gave tt (topped d frame below (slice_set xs at (datums.Plain (values.Num n)))) left)
unfolding performed
stores by run d frame below xs at n left =
    ap (λ (o : Option Datum). performed by run (writes_at root e (option_and_then (put_in parts.Whole new) o)) e left)
    (ap (option_and_then (λ (f : Frame). slice_get f.values at)) (frame_found (record frame { values = xs }) below))
    ∙ by_datum (slice_get xs at)
  where
    root : Root
    root = roots.Frame (length below) at

    new : Datum
    new = datums.Plain (values.Num n)

    e : Data
    e = topped d frame below xs

    by_datum : (o : Option Datum) → performed by run (writes_at root e (option_and_then (put_in parts.Whole new) o)) e left
        ≡ on_plain o (Gave tt (topped d frame below (slice_set xs at new)) left)
    by_datum None = refl
    by_datum (Some (datums.Plain v)) = ap (λ (fs : List Frame). Gave tt (record d { frames = fs }) left) (put_there (record frame { values = xs }) below at new)
    by_datum (Some x) = refl

-- a store, and what follows it
stores_then : {B : Type 0} (by : Bool → Fitting) (run : Run) (m : Doing B) (d : Data) (frame : Frame) (below : List Frame) (xs : List Datum) (at : ℕ) (n : ℤ) (left : List Answer)
    → performed by run (write_value (at_root (roots.Frame (length below) at)) (values.Num n) >> m) (topped d frame below xs) left
    ≡ on_plain (slice_get xs at) (performed by run m (topped d frame below (slice_set xs at (datums.Plain (values.Num n)))) left)
stores_then {B} by run m d frame below xs at n left =
    performed_after by run (write_value (at_root (roots.Frame (length below) at)) (values.Num n)) (λ _. m) Raises (topped d frame below xs) left
    ∙ (ap (λ (o : Outcome ⊤). joined o gave raised) (stores by run d frame below xs at n left)
    ∙ plain_joined (slice_get xs at) (Gave tt (topped d frame below (slice_set xs at (datums.Plain (values.Num n)))) left) gave raised)
  where
    gave : ⊤ → Data → List Answer → Outcome B
    gave _ e rest = performed by run m e rest

    raised : ℕ → Data → List Answer → Outcome B
    raised k e rest = performed by run (Raises k) e rest

-- without frames there is no datum to write
stores_nothing : {B : Type 0} (by : Bool → Fitting) (run : Run) (m : Doing B) (d : Data) (number at : ℕ) (n : ℤ) (left : List Answer)
    → performed by run (write_value (at_root (roots.Frame number at)) (values.Num n) >> m) (record d { frames = [] }) left ≡ Misfits
unfolding performed after frame_at
stores_nothing by run m d number at n left = refl

-- the three data of a FOR, whose variable is at a place of the innermost frame

abbrev pub store_own : ℕ → ℕ → ℤ → Act
store_own count at n = write_value (own_of count at) (values.Num n)

-- the variable first, the step last
abbrev pub stores_up : ℕ → ℕ → ℤ → ℤ → ℤ → Act
stores_up count k from to by = store_own count k from >> (store_own count (k + 1) to >> store_own count (k + 2) by)

abbrev pub stores_down : ℕ → ℕ → ℤ → ℤ → ℤ → Act
stores_down count k from to by = store_own count (k + 2) by >> (store_own count (k + 1) to >> store_own count k from)

-- the last value, the variable, and then a step that is computed from them
abbrev pub stores_found : ℕ → ℕ → ℤ → ℤ → Act
stores_found count k from to = store_own count (k + 1) to >> (store_own count k from >> (place_at (k + 2) >>= λ r.
    counter_at k >>= λ m. counter_at (k + 1) >>= λ n. write_value r (values.Num (direction m n))))

-- the values with all three
abbrev all_set : List Datum → ℕ → ℤ → ℤ → ℤ → List Datum
all_set xs k from to by = slice_set (slice_set (slice_set xs k (datums.Plain (values.Num from))) (k + 1) (datums.Plain (values.Num to))) (k + 2) (datums.Plain (values.Num by))

-- all three exist
abbrev all_stored : Data → Frame → List Frame → List Datum → ℕ → ℤ → ℤ → ℤ → List Answer → Outcome ⊤
all_stored d frame below xs k from to by left =
    on_plain (slice_get xs k) (on_plain (slice_get xs (k + 1)) (on_plain (slice_get xs (k + 2)) (Gave tt (topped d frame below (all_set xs k from to by)) left)))

same_gets : (x y : Option Datum) (o p : Outcome ⊤) → x ≡ y → o ≡ p → on_plain x o ≡ on_plain y p
same_gets x y o p e h = ap (λ (z : Option Datum). on_plain z o) e ∙ ap (on_plain y) h

up_stored : (by : Bool → Fitting) (run : Run) (d : Data) (frame : Frame) (below : List Frame) (xs : List Datum) (k : ℕ) (from to step : ℤ) (left : List Answer)
    → performed by run (stores_up (suc (length below)) k from to step) (topped d frame below xs) left ≡ all_stored d frame below xs k from to step left
up_stored by run d frame below xs k from to step left =
    stores_then by run (store_own c (k + 1) to >> store_own c (k + 2) step) d frame below xs k from left
    ∙ ap (on_plain (slice_get xs k))
    (stores_then by run (store_own c (k + 2) step) d frame below ys (k + 1) to left
    ∙ same_gets (slice_get ys (k + 1)) (slice_get xs (k + 1)) _ _ (set_there xs k (k + 1) (datums.Plain (values.Num from)) (λ e. absurd (omega (arith, e))))
    (stores by run d frame below zs (k + 2) step left
    ∙ ap (λ (x : Option Datum). on_plain x (Gave tt (topped d frame below (all_set xs k from to step)) left))
    (set_there ys (k + 1) (k + 2) (datums.Plain (values.Num to)) (λ e. absurd (omega (arith, e)))
    ∙ set_there xs k (k + 2) (datums.Plain (values.Num from)) (λ e. absurd (omega (arith, e))))))
  where
    c : ℕ
    c = suc (length below)

    ys : List Datum
    ys = slice_set xs k (datums.Plain (values.Num from))

    zs : List Datum
    zs = slice_set ys (k + 1) (datums.Plain (values.Num to))

down_set : (xs : List Datum) (k : ℕ) (x y z : Datum) → slice_set (slice_set (slice_set xs (k + 2) z) (k + 1) y) k x ≡ slice_set (slice_set (slice_set xs k x) (k + 1) y) (k + 2) z
down_set xs k x y z =
    ap (λ (ys : List Datum). slice_set ys k x) (set_swap xs (k + 2) (k + 1) z y (λ e. absurd (omega (arith, e))))
    ∙ (set_swap (slice_set xs (k + 1) y) (k + 2) k z x (λ e. absurd (omega (arith, e)))
    ∙ ap (λ (ys : List Datum). slice_set ys (k + 2) z) (set_swap xs (k + 1) k y x (λ e. absurd (omega (arith, e)))))

down_stored : (by : Bool → Fitting) (run : Run) (d : Data) (frame : Frame) (below : List Frame) (xs : List Datum) (k : ℕ) (from to step : ℤ) (left : List Answer)
    → performed by run (stores_down (suc (length below)) k from to step) (topped d frame below xs) left ≡ all_stored d frame below xs k from to step left
down_stored by run d frame below xs k from to step left =
    stores_then by run (store_own c (k + 1) to >> store_own c k from) d frame below xs (k + 2) step left
    ∙ (ap (on_plain (slice_get xs (k + 2)))
    (stores_then by run (store_own c k from) d frame below ys (k + 1) to left
    ∙ same_gets (slice_get ys (k + 1)) (slice_get xs (k + 1)) _ _ (set_there xs (k + 2) (k + 1) (datums.Plain (values.Num step)) (λ e. absurd (omega (arith, e))))
    (stores by run d frame below zs k from left
    ∙ same_gets (slice_get zs k) (slice_get xs k) _ _
    (set_there ys (k + 1) k (datums.Plain (values.Num to)) (λ e. absurd (omega (arith, e)))
    ∙ set_there xs (k + 2) k (datums.Plain (values.Num step)) (λ e. absurd (omega (arith, e))))
    (ap (λ (vs : List Datum). Gave tt (topped d frame below vs) left)
    (down_set xs k (datums.Plain (values.Num from)) (datums.Plain (values.Num to)) (datums.Plain (values.Num step))))))
    ∙ plain_round (slice_get xs (k + 2)) (slice_get xs (k + 1)) (slice_get xs k) (Gave tt (topped d frame below (all_set xs k from to step)) left))
  where
    c : ℕ
    c = suc (length below)

    ys : List Datum
    ys = slice_set xs (k + 2) (datums.Plain (values.Num step))

    zs : List Datum
    zs = slice_set ys (k + 1) (datums.Plain (values.Num to))

-- the step is computed from what was stored just before
step_found : (by : Bool → Fitting) (run : Run) (d : Data) (frame : Frame) (below : List Frame) (xs : List Datum) (k : ℕ) (from to : ℤ) (left : List Answer)
    → slice_get xs k ≡ Some (datums.Plain (values.Num from)) → slice_get xs (k + 1) ≡ Some (datums.Plain (values.Num to))
    → performed by run (place_at (k + 2) >>= λ r. counter_at k >>= λ m. counter_at (k + 1) >>= λ n. write_value r (values.Num (direction m n))) (topped d frame below xs) left
    ≡ on_plain (slice_get xs (k + 2)) (Gave tt (topped d frame below (slice_set xs (k + 2) (datums.Plain (values.Num (direction from to))))) left)
unfolding performed after
step_found by run d frame below xs k from to left variable last =
    then_performed by run (counter_at k) (λ m. counter_at (k + 1) >>= λ n. write_value r (values.Num (direction m n))) e from left
    (own_read k e (record frame { values = xs }) below from refl variable)
    ∙ (then_performed by run (counter_at (k + 1)) (λ n. write_value r (values.Num (direction from n))) e to left
    (own_read (k + 1) e (record frame { values = xs }) below to refl last)
    ∙ stores by run d frame below xs (k + 2) (direction from to) left)
  where
    e : Data
    e = topped d frame below xs

    r : Lvalue
    r = at_root (roots.Frame (length below) (k + 2))

found_set : (xs : List Datum) (k : ℕ) (x y z : Datum) → slice_set (slice_set (slice_set xs (k + 1) y) k x) (k + 2) z ≡ slice_set (slice_set (slice_set xs k x) (k + 1) y) (k + 2) z
found_set xs k x y z = ap (λ (ys : List Datum). slice_set ys (k + 2) z) (set_swap xs (k + 1) k y x (λ e. absurd (omega (arith, e))))

found_stored : (by : Bool → Fitting) (run : Run) (d : Data) (frame : Frame) (below : List Frame) (xs : List Datum) (k : ℕ) (from to : ℤ) (left : List Answer)
    → performed by run (stores_found (suc (length below)) k from to) (topped d frame below xs) left ≡ all_stored d frame below xs k from to (direction from to) left
found_stored by run d frame below xs k from to left =
    stores_then by run (store_own c k from >> tail) d frame below xs (k + 1) to left
    ∙ (plain_under (slice_get xs (k + 1)) _ _ (λ v last.
    stores_then by run tail d frame below ys k from left
    ∙ (ap (λ (x : Option Datum). on_plain x (performed by run tail (topped d frame below zs) left)) (set_there xs (k + 1) k to_datum (λ e. absurd (omega (arith, e))))
    ∙ plain_under (slice_get xs k) _ _ (λ w variable.
    step_found by run d frame below zs k from to left
    (set_here ys k from_datum (datums.Plain w) (set_there xs (k + 1) k to_datum (λ e. absurd (omega (arith, e))) ∙ variable))
    (set_there ys k (k + 1) from_datum (λ e. absurd (omega (arith, e))) ∙ set_here xs (k + 1) to_datum (datums.Plain v) last)
    ∙ same_gets (slice_get zs (k + 2)) (slice_get xs (k + 2)) _ _
    (set_there ys k (k + 2) from_datum (λ e. absurd (omega (arith, e))) ∙ set_there xs (k + 1) (k + 2) to_datum (λ e. absurd (omega (arith, e))))
    (ap (λ (vs : List Datum). Gave tt (topped d frame below vs) left) (found_set xs k from_datum to_datum (datums.Plain (values.Num (direction from to))))))))
    ∙ plain_swap (slice_get xs (k + 1)) (slice_get xs k) (on_plain (slice_get xs (k + 2)) (Gave tt (topped d frame below (all_set xs k from to (direction from to))) left)))
  where
    c : ℕ
    c = suc (length below)

    from_datum : Datum
    from_datum = datums.Plain (values.Num from)

    to_datum : Datum
    to_datum = datums.Plain (values.Num to)

    ys : List Datum
    ys = slice_set xs (k + 1) to_datum

    zs : List Datum
    zs = slice_set ys k from_datum

    tail : Act
    tail = place_at (k + 2) >>= λ r. counter_at k >>= λ m. counter_at (k + 1) >>= λ n. write_value r (values.Num (direction m n))

-- in any data with this many frames

pub down_alike : (by : Bool → Fitting) (run : Run) (count k : ℕ) (from to step : ℤ) → Alike by run count (stores_down count k from to step) (stores_up count k from to step)
down_alike by run count k from to step = record { same = λ d left is. subst (λ (n : ℕ). performed by run (stores_down n k from to step) d left ≡ performed by run (stores_up n k from to step) d left) is (by_frames d d.frames left) }
  where
    by_frames : (d : Data) (frames : List Frame) (left : List Answer)
        → performed by run (stores_down (length frames) k from to step) (record d { frames = frames }) left ≡ performed by run (stores_up (length frames) k from to step) (record d { frames = frames }) left
    by_frames d [] left =
        stores_nothing by run (store_own 0 (k + 1) to >> store_own 0 k from) d 0 (k + 2) step left
        ∙ sym (stores_nothing by run (store_own 0 (k + 1) to >> store_own 0 (k + 2) step) d 0 k from left)
    by_frames d (frame ∷ below) left = down_stored by run d frame below frame.values k from to step left ∙ sym (up_stored by run d frame below frame.values k from to step left)

pub found_alike : (by : Bool → Fitting) (run : Run) (count k : ℕ) (from to : ℤ) → Alike by run count (stores_found count k from to) (stores_up count k from to (direction from to))
found_alike by run count k from to = record { same = λ d left is. subst (λ (n : ℕ). performed by run (stores_found n k from to) d left ≡ performed by run (stores_up n k from to (direction from to)) d left) is (by_frames d d.frames left) }
  where
    by_frames : (d : Data) (frames : List Frame) (left : List Answer)
        → performed by run (stores_found (length frames) k from to) (record d { frames = frames }) left
        ≡ performed by run (stores_up (length frames) k from to (direction from to)) (record d { frames = frames }) left
    by_frames d [] left =
        stores_nothing by run (store_own 0 k from >> (place_at (k + 2) >>= λ r. counter_at k >>= λ m. counter_at (k + 1) >>= λ n. write_value r (values.Num (direction m n)))) d 0 (k + 1) to left
        ∙ sym (stores_nothing by run (store_own 0 (k + 1) to >> store_own 0 (k + 2) (direction from to)) d 0 k from left)
    by_frames d (frame ∷ below) left = found_stored by run d frame below frame.values k from to left ∙ sym (up_stored by run d frame below frame.values k from to (direction from to) left)
