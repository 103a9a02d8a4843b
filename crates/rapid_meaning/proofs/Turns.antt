-- A FOR iterates as often as its closed form says.
use Rattle.std.proofs.Common.{◌≡◌, ◌⊎◌, inl, inr, refl, ap, ◌∙◌, ℕ, zero, suc, ◌+◌, ◌/◌, ◌<◌, ◌≤◌, Bool, true, false, ℤ, pos, negsuc, ◌+ℤ◌, ◌-ℤ◌, ◌≤ℤ◌, int_lt, nat_abs, List, [], ◌∷◌, ◌++◌, length, Option, Some, None, slice_get, slice_set, if◌then◌else◌, arith, append_assoc}
use Rattle.std.specs.Prelude.{⊤, IsTrue}
use Rattle.std.specs.Int.Signed.{◌<ℤ◌}
use Rattle.std.specs.Option.{option_and_then}
use Rattle.std.proofs.Math.Nat.{add-div_right, div-eq_of_lt}
use Rattle.std.proofs.lemmas.Bool.{eq-eqb}
use Rattle.std.proofs.lemmas.Bool.Decides.{nat_tests}
use Rattle.std.proofs.lemmas.Int.{ints}
use Rattle.rapid_num.specs.Arithmetic.{num_of, sum_of}
use Rattle.rapid_num.specs.Range.{greatest, is_num}
use Rattle.rapid_model.specs.Fits.{Fitting}
use Rattle.rapid_model.specs.declared.answer.Answer.{Answer}
use Rattle.rapid_model.specs.declared.answer.Answer.TheVariants.{Go}
use Rattle.rapid_model.specs.declared.part_name.PartName.TheVariants as parts
use Rattle.rapid_model.specs.declared.request.Request.TheVariants.{Look}
use Rattle.rapid_model.specs.declared.value.Value.TheVariants as values
use Rattle.typed_trees.specs.Plain as trees
use Rattle.typed_trees.specs.Plain.{TypedExpr, TypedRoutine, TypedStmt, TypedStmts, TypedTree}
use Rattle.typed_trees.specs.declared.datum.Datum.{Datum}
use Rattle.typed_trees.specs.declared.datum.Datum.TheVariants as datums
use Rattle.typed_trees.specs.declared.datum.Root.{Root}
use Rattle.typed_trees.specs.declared.datum.Root.TheVariants as roots
use Rattle.rapid_meaning.specs.Answering.{Outcome, Asking, Gave, Run, fitting_of, joined, performed}
use Rattle.rapid_meaning.specs.Data.{Data, Frame, datum_at, frame_at, put_at, put_in_frame, with_datum, with_frame, with_seen}
use Rattle.rapid_meaning.specs.Doings.{Doing, Gives, Raises, Reads, ◌>>=◌, after, goes_to}
use Rattle.rapid_meaning.specs.Flows.{Flow, Normal, Rest, Turn, Where}
use Rattle.rapid_meaning.specs.Layouts.{local_start}
use Rattle.rapid_meaning.specs.Looks.{place_of}
use Rattle.rapid_meaning.specs.Loops.{counted, counter, counter_place, counts_on, has_passed, set_counter, turn_due}
use Rattle.rapid_meaning.specs.Places.{at_root, own_place, put_in, read_value, write_value, writes_at}
use Rattle.rapid_meaning.specs.Runs.{deep}
use Rattle.rapid_meaning.specs.Statements.{and_then, turned}
use Rattle.rapid_meaning.specs.Turns.{Counts, Ends, EndsNormally, steps_past, turn_by_turn, turns}
use Rattle.rapid_meaning.specs.Values.{num_in}
use Rattle.rapid_meaning.proofs.Composing.{Comes, comes_after, goes_as, performed_after}
use Rattle.rapid_meaning.proofs.ConstantsAgree.{read_comes}

-- ---- the three data of a FOR

pub set_here : {A : Type 0} (xs : List A) (k : ℕ) (v x : A) → slice_get xs k ≡ Some x → slice_get (slice_set xs k v) k ≡ Some v
set_here [] k v x e = absurd cc
set_here (y ∷ xs) zero v x e = refl
set_here (y ∷ xs) (suc k) v x e = set_here xs k v x e

pub set_there : {A : Type 0} (xs : List A) (k j : ℕ) (v : A) → (k ≡ j → ⊥) → slice_get (slice_set xs k v) j ≡ slice_get xs j
set_there [] k j v other = refl
set_there (y ∷ xs) zero zero v other = absurd (other refl)
set_there (y ∷ xs) zero (suc j) v other = refl
set_there (y ∷ xs) (suc k) zero v other = refl
set_there (y ∷ xs) (suc k) (suc j) v other = set_there xs k j v (λ e. other (ap suc e))

pub frame_found : (frame : Frame) (below : List Frame) → frame_at (frame ∷ below) (length below) ≡ Some frame
unfolding frame_at
frame_found frame below = ap (λ (b : Bool). if b then Some frame else frame_at below (length below)) (eq-eqb (length below) (length below) refl)

-- a num of the innermost frame
own_num : (d : Data) (frame : Frame) (below : List Frame) (at : ℕ) (n : ℤ) → d.frames ≡ frame ∷ below → slice_get frame.values at ≡ Some (datums.Plain (values.Num n))
    → datum_at (roots.Frame (length below) at) d ≡ Some (datums.Plain (values.Num n))
own_num d frame below at n is there =
    ap (λ (fs : List Frame). option_and_then (λ (f : Frame). slice_get f.values at) (frame_at fs (length below))) is
    ∙ ap (option_and_then (λ (f : Frame). slice_get f.values at)) (frame_found frame below) ∙ there

own_comes : (at : ℕ) (d : Data) (frame : Frame) (below : List Frame) → d.frames ≡ frame ∷ below
    → Comes (Reads (λ e. Gives (own_place at e.frames))) d (at_root (roots.Frame (length below) at))
unfolding performed
own_comes at d frame below is = λ by run left. ap (λ (fs : List Frame). Gave (own_place at fs) d left) is

-- a datum of the innermost frame that is a num
pub own_read : (at : ℕ) (d : Data) (frame : Frame) (below : List Frame) (n : ℤ) → d.frames ≡ frame ∷ below → slice_get frame.values at ≡ Some (datums.Plain (values.Num n))
    → Comes (Reads (λ e. Gives (own_place at e.frames)) >>= λ p. read_value p >>= num_in) d n
unfolding performed
own_read at d frame below n is there =
    let root : Root = roots.Frame (length below) at in
    comes_after (Reads (λ e. Gives (own_place at e.frames))) (λ q. after (read_value q) (λ v. num_in v) Raises) Raises d (at_root root) n (own_comes at d frame below is)
    (comes_after (read_value (at_root root)) (λ v. num_in v) Raises d (values.Num n) n (read_comes d root parts.Whole (values.Num n) (values.Num n) (own_num d frame below at n is there) refl)
    (λ by run left. refl))

counter_comes : (routine : TypedRoutine) (local which : ℕ) (d : Data) (frame : Frame) (below : List Frame) (n : ℤ) → d.frames ≡ frame ∷ below
    → slice_get frame.values (local_start routine local + which) ≡ Some (datums.Plain (values.Num n)) → Comes (counter routine local which) d n
counter_comes routine local which d frame below n is there = own_read (local_start routine local + which) d frame below n is there

-- what follows a doing that gives a value
pub then_performed : {A B : Type 0} (by : Bool → Fitting) (run : Run) (m : Doing A) (next : A → Doing B) (d : Data) (v : A) (left : List Answer) → Comes m d v
    → performed by run (after m next Raises) d left ≡ performed by run (next v) d left
unfolding performed
then_performed {A} by run m next d v left comes =
    performed_after by run m next Raises d left
    ∙ ap (λ (o : Outcome A). joined o (λ x e rest. performed by run (next x) e rest) (λ n e rest. performed by run (Raises n) e rest)) (comes by run left)

-- the data with another value of the variable
pub put_there : (frame : Frame) (below : List Frame) (at : ℕ) (new : Datum)
    → put_in_frame (frame ∷ below) (length below) at new (frame_at (frame ∷ below) (length below)) ≡ with_datum frame at new ∷ below
unfolding with_frame
put_there frame below at new =
    ap (put_in_frame (frame ∷ below) (length below) at new) (frame_found frame below)
    ∙ ap (λ (b : Bool). if b then with_datum frame at new ∷ below else frame ∷ with_frame below (length below) (with_datum frame at new)) (eq-eqb (length below) (length below) refl)

abbrev with_variable : TypedRoutine → ℕ → ℤ → List Frame → Data → Data
with_variable routine local n below d = put_at (roots.Frame (length below) (local_start routine local + 0)) (datums.Plain (values.Num n)) d

variable_set : (by : Bool → Fitting) (run : Run) (routine : TypedRoutine) (local : ℕ) (d : Data) (frame : Frame) (below : List Frame) (old n : ℤ) (left : List Answer)
    → d.frames ≡ frame ∷ below → slice_get frame.values (local_start routine local + 0) ≡ Some (datums.Plain (values.Num old))
    → performed by run (set_counter routine local 0 n) d left ≡ Gave tt (with_variable routine local n below d) left
unfolding performed
variable_set by run routine local d frame below old n left is there =
    let at : ℕ = local_start routine local + 0 in
    let root : Root = roots.Frame (length below) at in
    then_performed by run (counter_place routine local 0) (λ p. write_value p (values.Num n)) d (at_root root) left (own_comes at d frame below is)
    ∙ ap (λ (o : Option Datum). performed by run (writes_at root d (option_and_then (put_in parts.Whole (datums.Plain (values.Num n))) o)) d left) (own_num d frame below at old is there)

counts_set : (routine : TypedRoutine) (local : ℕ) (d : Data) (old n last step : ℤ) (c : Counts routine local d old last step) → Counts routine local (with_variable routine local n c.below d) n last step
counts_set routine local d old n last step c =
    let at : ℕ = local_start routine local + 0 in
    record {
      frame = with_datum c.frame at (datums.Plain (values.Num n));
      below = c.below;
      frames =
          ap (λ (fs : List Frame). put_in_frame fs (length c.below) at (datums.Plain (values.Num n)) (frame_at fs (length c.below))) c.frames
          ∙ put_there c.frame c.below at (datums.Plain (values.Num n));
      has_variable = set_here c.frame.values at (datums.Plain (values.Num n)) (datums.Plain (values.Num old)) c.has_variable;
      has_last = set_there c.frame.values at (local_start routine local + 1) (datums.Plain (values.Num n)) (λ e. absurd (omega (arith, e))) ∙ c.has_last;
      has_step = set_there c.frame.values at (local_start routine local + 2) (datums.Plain (values.Num n)) (λ e. absurd (omega (arith, e))) ∙ c.has_step;
    }

-- a Look that is answered Go leaves them unchanged
abbrev looked_at : Where → TypedStmt → ℕ → ℕ → Data → Data
looked_at w s byte seen d = record d { place = place_of w byte; frames = with_seen seen d.frames }

counts_looked : (w : Where) (s : TypedStmt) (local byte seen : ℕ) (d : Data) (v last step : ℤ) → Counts w.routine local d v last step → Counts w.routine local (looked_at w s byte seen d) v last step
counts_looked w s local byte seen d v last step c = record {
  frame = record c.frame { seen = seen };
  below = c.below;
  frames = ap (with_seen seen) c.frames;
  has_variable = c.has_variable;
  has_last = c.has_last;
  has_step = c.has_step;
}

-- ---- what a FOR does

due_as : (by : Bool → Fitting) (run : Run) (w : Where) (s : TypedStmt) (local : ℕ) (d : Data) (v last step : ℤ) (left : List Answer) → Counts w.routine local d v last step
    → performed by run (turn_due w.routine local (Turn w s)) d left ≡ performed by run (if has_passed v last step then Gives Normal else goes_to (Turn w s)) d left
due_as by run w s local d v last step left c =
    then_performed by run (counter w.routine local 0)
    (λ x. after (counter w.routine local 1) (λ y. after (counter w.routine local 2) (λ z. if has_passed x y z then Gives Normal else goes_to (Turn w s)) Raises) Raises) d v left
    (counter_comes w.routine local 0 d c.frame c.below v c.frames c.has_variable)
    ∙ then_performed by run (counter w.routine local 1) (λ y. after (counter w.routine local 2) (λ z. if has_passed v y z then Gives Normal else goes_to (Turn w s)) Raises) d last left
    (counter_comes w.routine local 1 d c.frame c.below last c.frames c.has_last)
    ∙ then_performed by run (counter w.routine local 2) (λ z. if has_passed v last z then Gives Normal else goes_to (Turn w s)) d step left
    (counter_comes w.routine local 2 d c.frame c.below step c.frames c.has_step)

on_as : (by : Bool → Fitting) (run : Run) (w : Where) (s : TypedStmt) (local : ℕ) (d : Data) (v last step : ℤ) (left : List Answer) → Counts w.routine local d v last step
    → performed by run (counts_on w.routine local (Turn w s)) d left ≡ performed by run (counted w.routine local (Turn w s) (sum_of v step)) d left
on_as by run w s local d v last step left c =
    then_performed by run (counter w.routine local 0) (λ x. after (counter w.routine local 2) (λ z. counted w.routine local (Turn w s) (sum_of x z)) Raises) d v left
    (counter_comes w.routine local 0 d c.frame c.below v c.frames c.has_variable)
    ∙ then_performed by run (counter w.routine local 2) (λ z. counted w.routine local (Turn w s) (sum_of v z)) d step left (counter_comes w.routine local 2 d c.frame c.below step c.frames c.has_step)

counted_as : (by : Bool → Fitting) (run : Run) (w : Where) (s : TypedStmt) (local : ℕ) (d : Data) (v n last step : ℤ) (left : List Answer) (c : Counts w.routine local d v last step)
    → performed by run (counted w.routine local (Turn w s) (Some n)) d left ≡ performed by run (turn_due w.routine local (Turn w s)) (with_variable w.routine local n c.below d) left
unfolding performed
counted_as by run w s local d v n last step left c =
    performed_after by run (set_counter w.routine local 0 n) (λ _. turn_due w.routine local (Turn w s)) Raises d left
    ∙ ap (λ (o : Outcome ⊤). joined o (λ _ e rest. performed by run (turn_due w.routine local (Turn w s)) e rest) (λ x e rest. performed by run (Raises x) e rest))
    (variable_set by run w.routine local d c.frame c.below v n left c.frames c.has_variable)

-- after the Look of an iteration its list ends normally, and then the step is added to the variable
record Turned (tree : TypedTree) (w : Where) (s : TypedStmt) (local n : ℕ) (d : Data) (answers more : List Answer) (v last step : ℤ) : Type 0 where
  after : Data
  counts : Counts w.routine local after v last step
  goes : performed (fitting_of tree) (deep tree n) (turned w (Turn w s) s) d (answers ++ more) ≡ performed (fitting_of tree) (deep tree n) (counts_on w.routine local (Turn w s)) after more

turned_goes : (tree : TypedTree) (w : Where) (at local : ℕ) (e f : TypedExpr) (g : Option TypedExpr) (list : TypedStmts) (answers : List Answer) (so_many n : ℕ) (d : Data) (more : List Answer)
    (v last step : ℤ) → EndsNormally tree w local list answers so_many → so_many ≤ n → Counts w.routine local d v last step
    → Turned tree w (trees.For at local e f g list) local n d answers more v last step
unfolding performed
turned_goes tree w at local e f g list answers so_many n d more v last step normally enough c =
    let s : TypedStmt = trees.For at local e f g list in
    let ends : Ends tree w local list n d answers more v last step = normally.always n d more v last step enough c in
    record {
      after = ends.after;
      counts = ends.counts;
      goes =
          performed_after (fitting_of tree) (deep tree n) (goes_to (Rest w list list)) (and_then (counts_on w.routine local (Turn w s))) Raises d (answers ++ more)
          ∙ ap (λ (o : Outcome Flow). joined o (λ flow x rest. performed (fitting_of tree) (deep tree n) (and_then (counts_on w.routine local (Turn w s)) flow) x rest)
          (λ m x rest. performed (fitting_of tree) (deep tree n) (Raises m) x rest)) (goes_as (fitting_of tree) (deep tree n) (Rest w list list) d (answers ++ more) ∙ ends.ends);
    }

turn_goes : (tree : TypedTree) (w : Where) (at local : ℕ) (e f : TypedExpr) (g : Option TypedExpr) (list : TypedStmts) (n seen : ℕ) (d : Data) (more : List Answer)
    → deep tree (suc n) (Turn w (trees.For at local e f g list)) d (Go seen ∷ more)
    ≡ performed (fitting_of tree) (deep tree n) (turned w (Turn w (trees.For at local e f g list)) (trees.For at local e f g list)) (looked_at w (trees.For at local e f g list) at seen d) more
unfolding performed after deep
turn_goes tree w at local e f g list n seen d more = refl

-- ---- the closed form

not_below : (n : ℕ) → int_lt (pos n) (pos 0) ≡ false
not_below n = grind (arith, ints)

passed_up : (v last : ℤ) (n : ℕ) → has_passed v last (pos n) ≡ int_lt last v
passed_up v last n = ap (λ (b : Bool). if b then int_lt v last else int_lt last v) (not_below n)

below_of : (a b : ℤ) → int_lt a b ≡ true → a <ℤ b
below_of a b h = grind (arith, ints)

not_above_of : (a b : ℤ) → int_lt a b ≡ false → b ≤ℤ a
not_above_of a b h = grind (arith, ints)

-- there is no iteration if the first value is past the last
abbrev unless : Bool → Option ℕ → Option ℕ
unless b count = if b then Some 0 else count

-- no iteration: the first value is past the last
none_passed : (v last step : ℤ) → turns v last step ≡ Some 0 → has_passed v last step ≡ true
none_passed v last (pos zero) e = passed_up v last zero ∙ by (int_lt last v) e
  where
    by : (b : Bool) → unless b None ≡ Some 0 → b ≡ true
    by true is = refl
    by false is = cc
none_passed v last (pos (suc n)) e = passed_up v last (suc n) ∙ by (int_lt last v) e
  where
    by : (b : Bool) → unless b (Some (steps_past v last (suc n))) ≡ Some 0 → b ≡ true
    by true is = refl
    by false is = let one : steps_past v last (suc n) ≡ 0 = cc in absurd (omega (arith, one))
none_passed v last (negsuc n) e = by (int_lt v last) e
  where
    by : (b : Bool) → unless b (Some (steps_past last v (suc n))) ≡ Some 0 → b ≡ true
    by true is = refl
    by false is = let one : steps_past last v (suc n) ≡ 0 = cc in absurd (omega (arith, one))

-- an iteration and how many follow: none if the variable leaves the range of num, else those from the next value
abbrev Followed : ℤ → ℤ → ℤ → ℕ → Type 0
Followed v last step count = ((sum_of v step ≡ None) × (count ≡ 0)) ⊎ ((sum_of v step ≡ Some (v +ℤ step)) × IsTrue (is_num (v +ℤ step)) × (turns (v +ℤ step) last step ≡ Some count))

size_of : (n : ℤ) → IsTrue (is_num n) → nat_abs n ≤ greatest
size_of n h = grind (arith, nat_tests)

past_size : (n : ℤ) → is_num n ≡ false → greatest < nat_abs n
past_size n h = grind (arith, nat_tests)

-- steps past a value: one, or more than one
one_step : (gap step : ℕ) → gap < step → gap / step + 1 ≡ 1
one_step gap step less = ap (λ (q : ℕ). q + 1) (div-eq_of_lt less)

one_less : (gap next step : ℕ) → 0 < step → gap ≡ next + step → gap / step ≡ next / step + 1
one_less gap next step some is = ap (λ (n : ℕ). n / step) is ∙ add-div_right next some

followed_up : (v last : ℤ) (n count : ℕ) → v ≤ℤ last → IsTrue (is_num v) → IsTrue (is_num last) → steps_past v last (suc n) ≡ suc count → Followed v last (pos (suc n)) count
followed_up v last n count up in_range last_in is = by (is_num (v +ℤ pos (suc n))) refl
  where
    later : (b : Bool) → int_lt last (v +ℤ pos (suc n)) ≡ b → (if b then Some 0 else Some (steps_past (v +ℤ pos (suc n)) last (suc n))) ≡ Some count
    later true t =
        let past : last <ℤ (v +ℤ pos (suc n)) = below_of last (v +ℤ pos (suc n)) t in
        let less : nat_abs (last -ℤ v) < suc n = omega (arith, ints, past, up) in
        let one : nat_abs (last -ℤ v) / suc n + 1 ≡ 1 = one_step (nat_abs (last -ℤ v)) (suc n) less in
        let none : 0 ≡ count = omega (arith, one, is) in
        ap Some none
    later false t =
        let within : (v +ℤ pos (suc n)) ≤ℤ last = not_above_of last (v +ℤ pos (suc n)) t in
        let gap : nat_abs (last -ℤ v) ≡ nat_abs (last -ℤ (v +ℤ pos (suc n))) + suc n = omega (arith, ints, within, up) in
        let less : nat_abs (last -ℤ v) / suc n ≡ nat_abs (last -ℤ (v +ℤ pos (suc n))) / suc n + 1 = one_less (nat_abs (last -ℤ v)) (nat_abs (last -ℤ (v +ℤ pos (suc n)))) (suc n) (omega arith) gap in
        let same : steps_past (v +ℤ pos (suc n)) last (suc n) ≡ count = omega (arith, less, is) in
        ap Some same

    by : (b : Bool) → is_num (v +ℤ pos (suc n)) ≡ b → Followed v last (pos (suc n)) count
    by true t = inr (ap (λ (b : Bool). if b then Some (v +ℤ pos (suc n)) else None) t, t, later (int_lt last (v +ℤ pos (suc n))) refl)
    by false t =
        let out : greatest < nat_abs (v +ℤ pos (suc n)) = past_size (v +ℤ pos (suc n)) t in
        let v_in : nat_abs v ≤ greatest = size_of v in_range in
        let l_in : nat_abs last ≤ greatest = size_of last last_in in
        let less : nat_abs (last -ℤ v) < suc n = omega (arith, ints, out, v_in, l_in, up) in
        let one : nat_abs (last -ℤ v) / suc n + 1 ≡ 1 = one_step (nat_abs (last -ℤ v)) (suc n) less in
        inl (ap (λ (b : Bool). if b then Some (v +ℤ pos (suc n)) else None) t, omega (arith, one, is))

followed_down : (v last : ℤ) (n count : ℕ) → last ≤ℤ v → IsTrue (is_num v) → IsTrue (is_num last) → steps_past last v (suc n) ≡ suc count → Followed v last (negsuc n) count
followed_down v last n count down in_range last_in is = by (is_num (v +ℤ negsuc n)) refl
  where
    later : (b : Bool) → int_lt (v +ℤ negsuc n) last ≡ b → unless b (Some (steps_past last (v +ℤ negsuc n) (suc n))) ≡ Some count
    later true t =
        let past : (v +ℤ negsuc n) <ℤ last = below_of (v +ℤ negsuc n) last t in
        let less : nat_abs (v -ℤ last) < suc n = omega (arith, ints, past, down) in
        let one : nat_abs (v -ℤ last) / suc n + 1 ≡ 1 = one_step (nat_abs (v -ℤ last)) (suc n) less in
        let none : 0 ≡ count = omega (arith, one, is) in
        ap Some none
    later false t =
        let within : last ≤ℤ (v +ℤ negsuc n) = not_above_of (v +ℤ negsuc n) last t in
        let gap : nat_abs (v -ℤ last) ≡ nat_abs ((v +ℤ negsuc n) -ℤ last) + suc n = omega (arith, ints, within, down) in
        let less : nat_abs (v -ℤ last) / suc n ≡ nat_abs ((v +ℤ negsuc n) -ℤ last) / suc n + 1 = one_less (nat_abs (v -ℤ last)) (nat_abs ((v +ℤ negsuc n) -ℤ last)) (suc n) (omega arith) gap in
        let same : steps_past last (v +ℤ negsuc n) (suc n) ≡ count = omega (arith, less, is) in
        ap Some same

    by : (b : Bool) → is_num (v +ℤ negsuc n) ≡ b → Followed v last (negsuc n) count
    by true t = inr (ap (λ (b : Bool). if b then Some (v +ℤ negsuc n) else None) t, t, later (int_lt (v +ℤ negsuc n) last) refl)
    by false t =
        let out : greatest < nat_abs (v +ℤ negsuc n) = past_size (v +ℤ negsuc n) t in
        let v_in : nat_abs v ≤ greatest = size_of v in_range in
        let l_in : nat_abs last ≤ greatest = size_of last last_in in
        let less : nat_abs (v -ℤ last) < suc n = omega (arith, ints, out, v_in, l_in, down) in
        let one : nat_abs (v -ℤ last) / suc n + 1 ≡ 1 = one_step (nat_abs (v -ℤ last)) (suc n) less in
        inl (ap (λ (b : Bool). if b then Some (v +ℤ negsuc n) else None) t, omega (arith, one, is))

-- an iteration is due, and this many follow it
some_turn : (v last step : ℤ) (count : ℕ) → IsTrue (is_num v) → IsTrue (is_num last) → turns v last step ≡ Some (suc count) → (has_passed v last step ≡ false) × Followed v last step count
some_turn v last (pos zero) count in_range last_in e = by (int_lt last v) e
  where
    by : (b : Bool) → unless b None ≡ Some (suc count) → (has_passed v last (pos zero) ≡ false) × Followed v last (pos zero) count
    by true is = let none : 0 ≡ suc count = cc in absurd (omega (arith, none))
    by false is = absurd cc
some_turn v last (pos (suc n)) count in_range last_in e = by (int_lt last v) refl e
  where
    by : (b : Bool) → int_lt last v ≡ b → unless b (Some (steps_past v last (suc n))) ≡ Some (suc count)
        → (has_passed v last (pos (suc n)) ≡ false) × Followed v last (pos (suc n)) count
    by true t is = let none : 0 ≡ suc count = cc in absurd (omega (arith, none))
    by false t is = (passed_up v last (suc n) ∙ t, followed_up v last n count (not_above_of last v t) in_range last_in cc)
some_turn v last (negsuc n) count in_range last_in e = by (int_lt v last) refl e
  where
    by : (b : Bool) → int_lt v last ≡ b → unless b (Some (steps_past last v (suc n))) ≡ Some (suc count)
        → (has_passed v last (negsuc n) ≡ false) × Followed v last (negsuc n) count
    by true t is = let none : 0 ≡ suc count = cc in absurd (omega (arith, none))
    by false t is = (t, followed_down v last n count (not_above_of v last t) in_range last_in cc)

-- for ever: the step is zero, and the variable stays
always_turn : (v last step : ℤ) → IsTrue (is_num v) → turns v last step ≡ None → (has_passed v last step ≡ false) × (sum_of v step ≡ Some v)
always_turn v last (pos zero) in_range e = by (int_lt last v) refl e
  where
    by : (b : Bool) → int_lt last v ≡ b → unless b None ≡ None → (has_passed v last (pos zero) ≡ false) × (sum_of v (pos zero) ≡ Some v)
    by true t is = absurd cc
    by false t is =
        let same : v +ℤ pos zero ≡ v = omega (arith, ints) in
        (passed_up v last zero ∙ t, ap num_of same ∙ ap (λ (b : Bool). if b then Some v else None) in_range)
always_turn v last (pos (suc n)) in_range e = by (int_lt last v) e
  where
    by : (b : Bool) → unless b (Some (steps_past v last (suc n))) ≡ None → (has_passed v last (pos (suc n)) ≡ false) × (sum_of v (pos (suc n)) ≡ Some v)
    by true is = absurd cc
    by false is = absurd cc
always_turn v last (negsuc n) in_range e = by (int_lt v last) e
  where
    by : (b : Bool) → unless b (Some (steps_past last v (suc n))) ≡ None → (has_passed v last (negsuc n) ≡ false) × (sum_of v (negsuc n) ≡ Some v)
    by true is = absurd cc
    by false is = absurd cc

-- ---- iteration by iteration

abbrev DoneWith : TypedTree → Where → TypedStmt → ℕ → ℕ → Data → List Answer → List Answer → Type 0
DoneWith tree w s local n d answers left = (later : Data) × (performed (fitting_of tree) (deep tree n) (turn_due w.routine local (Turn w s)) d answers ≡ Gave Normal later left)

-- an iteration is done, and the step is added to the variable
one_turn : (tree : TypedTree) (w : Where) (at local : ℕ) (e f : TypedExpr) (g : Option TypedExpr) (list : TypedStmts) (answers : List Answer) (so_many seen n : ℕ) (d : Data) (more : List Answer)
    (v last step : ℤ) → EndsNormally tree w local list answers so_many → so_many ≤ n → Counts w.routine local d v last step → has_passed v last step ≡ false
    → (later : Data) × Counts w.routine local later v last step
    × (performed (fitting_of tree) (deep tree (suc n)) (turn_due w.routine local (Turn w (trees.For at local e f g list))) d (Go seen ∷ (answers ++ more))
    ≡ performed (fitting_of tree) (deep tree n) (counted w.routine local (Turn w (trees.For at local e f g list)) (sum_of v step)) later more)
one_turn tree w at local e f g list answers so_many seen n d more v last step normally enough c due =
    let s : TypedStmt = trees.For at local e f g list in
    let x : Data = looked_at w s at seen d in
    let t : Turned tree w s local n x answers more v last step =
    turned_goes tree w at local e f g list answers so_many n x more v last step normally enough (counts_looked w s local at seen d v last step c) in (
      t.after,
      t.counts,
      due_as (fitting_of tree) (deep tree (suc n)) w s local d v last step (Go seen ∷ (answers ++ more)) c
          ∙ ap (λ (b : Bool). performed (fitting_of tree) (deep tree (suc n)) (if b then Gives Normal else goes_to (Turn w s)) d (Go seen ∷ (answers ++ more))) due
          ∙ goes_as (fitting_of tree) (deep tree (suc n)) (Turn w s) d (Go seen ∷ (answers ++ more))
          ∙ turn_goes tree w at local e f g list n seen d (answers ++ more) ∙ t.goes ∙ on_as (fitting_of tree) (deep tree n) w s local t.after v last step more t.counts,
    )

done_at_once : (tree : TypedTree) (w : Where) (s : TypedStmt) (local n : ℕ) (d : Data) (left : List Answer) (v last step : ℤ) → Counts w.routine local d v last step → has_passed v last step ≡ true
    → DoneWith tree w s local n d left left
unfolding performed
done_at_once tree w s local n d left v last step c past = (
  d,
  due_as (fitting_of tree) (deep tree n) w s local d v last step left c
      ∙ ap (λ (b : Bool). performed (fitting_of tree) (deep tree n) (if b then Gives Normal else goes_to (Turn w s)) d left) past,
)

regroup : (seen : ℕ) (answers more left : List Answer) → (Go seen ∷ (answers ++ more)) ++ left ≡ Go seen ∷ (answers ++ (more ++ left))
regroup seen answers more left = ap (λ (x : List Answer). Go seen ∷ x) (append_assoc answers more left)

pub done : (tree : TypedTree) (w : Where) (at local : ℕ) (e f : TypedExpr) (g : Option TypedExpr) (list : TypedStmts) (answers : List Answer) (so_many seen : ℕ) (first last step : ℤ) (count n : ℕ)
    (d : Data) (left : List Answer) → EndsNormally tree w local list answers so_many → Counts w.routine local d first last step → IsTrue (is_num first) → IsTrue (is_num last)
    → turns first last step ≡ Some count → so_many + count < n → DoneWith tree w (trees.For at local e f g list) local n d (turn_by_turn seen answers count ++ left) left
unfolding turn_by_turn performed
done tree w at local e f g list answers so_many seen first last step zero n d left normally c first_in last_in so_often enough =
    done_at_once tree w (trees.For at local e f g list) local n d left first last step c (none_passed first last step so_often)
done tree w at local e f g list answers so_many seen first last step (suc count) zero d left normally c first_in last_in so_often enough = absurd (omega (arith, enough))
done tree w at local e f g list answers so_many seen first last step (suc count) (suc n) d left normally c first_in last_in so_often enough =
    let s : TypedStmt = trees.For at local e f g list in
    let more : List Answer = turn_by_turn seen answers count ++ left in
    let due : (has_passed first last step ≡ false) × Followed first last step count = some_turn first last step count first_in last_in so_often in
    let t = one_turn tree w at local e f g list answers so_many seen n d more first last step normally (omega (arith, enough)) c due.0 in
    let here : performed (fitting_of tree) (deep tree (suc n)) (turn_due w.routine local (Turn w s)) d (turn_by_turn seen answers (suc count) ++ left) ≡ performed (fitting_of tree) (deep tree n) (counted w.routine local (Turn w s) (sum_of first step)) t.0 more =
    ap (λ (x : List Answer). performed (fitting_of tree) (deep tree (suc n)) (turn_due w.routine local (Turn w s)) d x) (regroup seen answers (turn_by_turn seen answers count) left) ∙ t.2 in
    elim due.1 [
      | inl over ↦
          let none : more ≡ left = ap (λ (k : ℕ). turn_by_turn seen answers k ++ left) over.1 in
          (t.0, here ∙ ap (λ (o : Option ℤ). performed (fitting_of tree) (deep tree n) (counted w.routine local (Turn w s) o) t.0 more) over.0 ∙ ap (λ (x : List Answer). Gave Normal t.0 x) none)
      | inr on ↦
          let next : Data = with_variable w.routine local (first +ℤ step) t.1.below t.0 in
          let rest : DoneWith tree w s local n next more left =
          done tree w at local e f g list answers so_many seen (first +ℤ step) last step count n next left normally (counts_set w.routine local t.0 first (first +ℤ step) last step t.1) on.1 last_in on.2
          (omega (arith, enough)) in (
            rest.0,
            here ∙ ap (λ (o : Option ℤ). performed (fitting_of tree) (deep tree n) (counted w.routine local (Turn w s) o) t.0 more) on.0
                ∙ counted_as (fitting_of tree) (deep tree n) w s local t.0 first (first +ℤ step) last step more t.1 ∙ rest.1,
          )
    ]

turn_looks : (tree : TypedTree) (w : Where) (at local : ℕ) (e f : TypedExpr) (g : Option TypedExpr) (list : TypedStmts) (n : ℕ) (d : Data)
    → deep tree (suc n) (Turn w (trees.For at local e f g list)) d [] ≡ Asking Look (record d { place = place_of w at })
unfolding performed after deep
turn_looks tree w at local e f g list n d = refl

pub for_ever : (tree : TypedTree) (w : Where) (at local : ℕ) (e f : TypedExpr) (g : Option TypedExpr) (list : TypedStmts) (answers : List Answer) (so_many seen : ℕ) (first last step : ℤ) (count n : ℕ)
    (d : Data) → EndsNormally tree w local list answers so_many → Counts w.routine local d first last step → IsTrue (is_num first) → IsTrue (is_num last)
    → turns first last step ≡ None → so_many + count < n
    → (later : Data) × (performed (fitting_of tree) (deep tree n) (turn_due w.routine local (Turn w (trees.For at local e f g list))) d (turn_by_turn seen answers count) ≡ Asking Look later)
unfolding turn_by_turn
for_ever tree w at local e f g list answers so_many seen first last step count zero d normally c first_in last_in always enough = absurd (omega (arith, enough))
for_ever tree w at local e f g list answers so_many seen first last step zero (suc n) d normally c first_in last_in always enough =
    let s : TypedStmt = trees.For at local e f g list in
    let due : (has_passed first last step ≡ false) × (sum_of first step ≡ Some first) = always_turn first last step first_in always in (
      record d { place = place_of w at },
      due_as (fitting_of tree) (deep tree (suc n)) w s local d first last step [] c
          ∙ ap (λ (b : Bool). performed (fitting_of tree) (deep tree (suc n)) (if b then Gives Normal else goes_to (Turn w s)) d []) due.0
          ∙ goes_as (fitting_of tree) (deep tree (suc n)) (Turn w s) d [] ∙ turn_looks tree w at local e f g list n d,
    )
for_ever tree w at local e f g list answers so_many seen first last step (suc count) (suc n) d normally c first_in last_in always enough =
    let s : TypedStmt = trees.For at local e f g list in
    let more : List Answer = turn_by_turn seen answers count in
    let due : (has_passed first last step ≡ false) × (sum_of first step ≡ Some first) = always_turn first last step first_in always in
    let t = one_turn tree w at local e f g list answers so_many seen n d more first last step normally (omega (arith, enough)) c due.0 in
    let next : Data = with_variable w.routine local first t.1.below t.0 in
    let rest = for_ever tree w at local e f g list answers so_many seen first last step count n next normally (counts_set w.routine local t.0 first first last step t.1) first_in last_in always
    (omega (arith, enough)) in (
      rest.0,
      t.2 ∙ ap (λ (o : Option ℤ). performed (fitting_of tree) (deep tree n) (counted w.routine local (Turn w s) o) t.0 more) due.1
          ∙ counted_as (fitting_of tree) (deep tree n) w s local t.0 first first last step more t.1 ∙ rest.1,
    )
