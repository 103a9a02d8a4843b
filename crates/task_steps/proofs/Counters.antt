-- The data of a FOR.
use Rattle.std.proofs.Common.{◌≡◌, refl, sym, ap, subst, ◌∙◌, arith, ℕ, zero, suc, ◌+◌, ◌-◌, ℤ, length, Bool, Option, None, Some, if◌then◌else◌}
use Rattle.std.specs.Prelude.{IsSome}
use Rattle.std.specs.Option.{option_and_then}
use Rattle.rapid_num.specs.Arithmetic.{sum_of}
use Rattle.rapid_model.specs.declared.part_name.PartName.TheVariants as parts
use Rattle.rapid_model.specs.declared.value.Value.{Value}
use Rattle.rapid_model.specs.declared.value.Value.TheVariants as values
use Rattle.machine_stacks.specs.Forms.{as_num, as_value}
use Rattle.typed_trees.specs.declared.datum.Datum.{Datum}
use Rattle.typed_trees.specs.declared.datum.Datum.TheVariants as datums
use Rattle.typed_trees.specs.declared.datum.Lvalue.{Lvalue}
use Rattle.typed_trees.specs.declared.datum.Root.TheVariants as roots
use Rattle.rapid_meaning.specs.Data.{Data, datum_at, put_at}
use Rattle.rapid_meaning.specs.Doings.{Doing, Gives, Raises, Misfit, ◌>>=◌, ◌>>◌, after, or_misfit}
use Rattle.rapid_meaning.specs.Loops.{has_passed}
use Rattle.rapid_meaning.specs.Places.{at_root, own_place, part_in, put_in, read_value, write_value, writes_at}
use Rattle.rapid_meaning.specs.Values.{num_in, value_in}
use Rattle.rapid_meaning.proofs.Follows.{after_after}
use Rattle.rapid_meaning.proofs.Wholes.{whole_in}
use Rattle.stack_code.specs.CodeData.{CodeData}
use Rattle.stack_code.specs.Confs.{Conf}
use Rattle.stack_code.specs.Steps.{Here, act, counter_at, jumps, set_counter_at, stepped, to_next}
use Rattle.stack_code.specs.declared.op.Op.TheVariants as ops
use Rattle.task_steps.specs.Alike.{Alike}
use Rattle.task_steps.specs.Own.{own_num_in}
use Rattle.task_steps.proofs.Along.{alike_is, alike_then}
use Rattle.task_steps.proofs.Readings.{nothing_at, own_missing, own_there, reads_now, writes_now}

-- what it gives follows
pub after_gives : {A B : Type 0} (v : A) (f : A → Doing B) → (Gives v >>= f) ≡ f v
unfolding after
after_gives v f = refl

-- the num that a datum is
held_is : (x : Datum) → (value_in x >>= num_in) ≡ or_misfit (as_num x)
unfolding after
held_is (datums.Plain (values.Num n)) = refl
held_is x = refl

-- what is done with a place among the data of the frame
abbrev reading : (ℤ → Doing Conf) → Lvalue → Doing Conf
reading next p = Gives p >>= (λ q. read_value q >>= num_in) >>= next

abbrev reading_datum : (ℤ → Doing Conf) → Option Datum → Doing Conf
reading_datum next o = or_misfit (option_and_then (part_in parts.Whole) o) >>= value_in >>= num_in >>= next

-- what the frame has there
counter_at_place : (code : CodeData) (d : Data) (k at : ℕ) (o : Option Datum) (next : ℤ → Doing Conf) → own_place at d.frames ≡ at_root (roots.Frame k at) → datum_at (roots.Frame k at) d ≡ o
    → Alike code (counter_at at >>= next) d (reading_datum next o) d
unfolding after
counter_at_place code d k at o next place there =
    alike_then code _ _ _ d d d (reads_now code (λ (e : Data). reading next (own_place at e.frames)) d)
    (alike_then code _ _ _ d d d (alike_is code _ _ d (ap (reading next) place))
    (alike_then code _ _ _ d d d (reads_now code (λ (e : Data). reading_datum next (datum_at (roots.Frame k at) e)) d) (alike_is code _ _ d (ap (reading_datum next) there))))

-- there is no frame
counter_missing : (code : CodeData) (d : Data) (at : ℕ) (next : ℤ → Doing Conf) → length d.frames ≡ 0 → Alike code (counter_at at >>= next) d Misfit d
unfolding after
counter_missing code d at next none = counter_at_place code d 0 at None next (own_missing d.frames at none) (nothing_at d at none)

counter_reads : (code : CodeData) (d : Data) (k at : ℕ) (o : Option Datum) (next : ℤ → Doing Conf) → length d.frames ≡ suc k → datum_at (roots.Frame k at) d ≡ o
    → Alike code (counter_at at >>= next) d (reading_datum next o) d
counter_reads code d k at o next some there = counter_at_place code d k at o next (own_there d.frames k at some) there

counter_none : (code : CodeData) (d : Data) (k at : ℕ) (next : ℤ → Doing Conf) → length d.frames ≡ suc k → datum_at (roots.Frame k at) d ≡ None → Alike code (counter_at at >>= next) d Misfit d
unfolding after
counter_none code d k at next some none = counter_reads code d k at None next some none

counter_there : (code : CodeData) (d : Data) (k at : ℕ) (x : Datum) (o : Option ℤ) (next : ℤ → Doing Conf) → length d.frames ≡ suc k → datum_at (roots.Frame k at) d ≡ Some x
    → (value_in x >>= num_in) ≡ or_misfit o → Alike code (counter_at at >>= next) d (or_misfit o >>= next) d
counter_there code d k at x o next some there is =
    alike_then code _ _ _ d d d (counter_reads code d k at (Some x) next some there)
    (alike_is code _ _ d
    (ap (λ (y : Option Datum). or_misfit y >>= value_in >>= num_in >>= next) (whole_in x)
    ∙ ap (λ (m : Doing ℤ). m >>= next) (ap (λ (m : Doing Value). m >>= num_in) (after_gives x value_in) ∙ is)))

counter_num : (code : CodeData) (d : Data) (k at : ℕ) (o : Option ℤ) (next : ℤ → Doing Conf) → length d.frames ≡ suc k → o ≡ option_and_then as_num (datum_at (roots.Frame k at) d)
    → Alike code (counter_at at >>= next) d (or_misfit o >>= next) d
unfolding after
counter_num code d k at o next some is = by (datum_at (roots.Frame k at) d) refl is
  where
    by : (x : Option Datum) → datum_at (roots.Frame k at) d ≡ x → o ≡ option_and_then as_num x → Alike code (counter_at at >>= next) d (or_misfit o >>= next) d
    by None there is = rw is (counter_none code d k at next some there)
    by (Some x) there is = counter_there code d k at x o next some there (held_is x ∙ ap or_misfit (sym is))

-- what the innermost frame has, if there is one
pub counter_own : (code : CodeData) (d : Data) (at : ℕ) (o : Option ℤ) (next : ℤ → Doing Conf) → o ≡ own_num_in at d → Alike code (counter_at at >>= next) d (or_misfit o >>= next) d
unfolding after
counter_own code d at o next is = by (length d.frames) refl
  where
    place : (k : ℕ) → length d.frames - 1 ≡ k → o ≡ option_and_then as_num (datum_at (roots.Frame k at) d)
    place k last = is ∙ ap (λ (j : ℕ). option_and_then as_num (datum_at (roots.Frame j at) d)) last

    by : (n : ℕ) → length d.frames ≡ n → Alike code (counter_at at >>= next) d (or_misfit o >>= next) d
    by zero none =
        let missing : o ≡ None = place 0 (omega (arith, none)) ∙ ap (λ (x : Option Datum). option_and_then as_num x) (nothing_at d at none) in
        rw missing (counter_missing code d at next none)
    by (suc k) some = counter_num code d k at o next some (place k (omega (arith, some)))

-- a counter that was read
pub counted_some : (code : CodeData) (d : Data) (at : ℕ) (o : Option ℤ) (v : ℤ) (next : ℤ → Doing Conf)
    → ((more : ℤ → Doing Conf) → Alike code (counter_at at >>= more) d (or_misfit o >>= more) d) → o ≡ Some v → Alike code (counter_at at >>= next) d (next v) d
unfolding after
counted_some code d at o v next reads is = alike_then code _ _ _ d d d (reads next) (alike_is code _ _ d (ap (λ (x : Option ℤ). or_misfit x >>= next) is))

pub counted_none : (code : CodeData) (d : Data) (at : ℕ) (o : Option ℤ) (next : ℤ → Doing Conf)
    → ((more : ℤ → Doing Conf) → Alike code (counter_at at >>= more) d (or_misfit o >>= more) d) → o ≡ None → Alike code (counter_at at >>= next) d Misfit d
unfolding after
counted_none code d at o next reads is = alike_then code _ _ _ d d d (reads next) (alike_is code _ _ d (ap (λ (x : Option ℤ). or_misfit x >>= next) is))

-- a Turn reads three, one after the other
abbrev turned : Here → ℕ → Bool → Doing Conf
turned h to b = if b then jumps h to h.conf.stack else to_next h h.conf.stack

abbrev with_step : Here → ℕ → ℤ → ℤ → ℤ → Doing Conf
with_step h to variable last step = turned h to (has_passed variable last step)

abbrev with_last : Here → ℕ → ℕ → ℤ → ℤ → Doing Conf
with_last h at to variable last = counter_at (at + 2) >>= with_step h to variable last

abbrev with_variable : Here → ℕ → ℕ → ℤ → Doing Conf
with_variable h at to variable = counter_at (at + 1) >>= with_last h at to variable

turn_step : (h : Here) (at to : ℕ) (variable last : ℤ) → (counter_at (at + 2) >>= λ step. Gives (has_passed variable last step)) >>= turned h to ≡ with_last h at to variable last
unfolding after
turn_step h at to variable last = after_after (counter_at (at + 2)) (λ step. Gives (has_passed variable last step)) Raises (turned h to) Raises

turn_last : (h : Here) (at to : ℕ) (variable : ℤ)
    → (counter_at (at + 1) >>= λ last. counter_at (at + 2) >>= λ step. Gives (has_passed variable last step)) >>= turned h to ≡ with_variable h at to variable
unfolding after
turn_last h at to variable =
    after_after (counter_at (at + 1)) (λ last. counter_at (at + 2) >>= λ step. Gives (has_passed variable last step)) Raises (turned h to) Raises
    ∙ λ i. after (counter_at (at + 1)) (λ last. turn_step h at to variable last i) Raises

turn_reads : (h : Here) (at to : ℕ) → act h (ops.Turn at to) ≡ counter_at at >>= with_variable h at to
unfolding after
turn_reads h at to =
    after_after (counter_at at) (λ variable. counter_at (at + 1) >>= λ last. counter_at (at + 2) >>= λ step. Gives (has_passed variable last step)) Raises (turned h to) Raises
    ∙ λ i. after (counter_at at) (λ variable. turn_last h at to variable i) Raises

abbrev pub Reading : CodeData → Data → ℕ → Option ℤ → Type 0
Reading code d at o = (more : ℤ → Doing Conf) → Alike code (counter_at at >>= more) d (or_misfit o >>= more) d

pub turn_first : (code : CodeData) (h : Here) (d : Data) (at to : ℕ) (o : Option ℤ) → Reading code d at o → o ≡ None → Alike code (act h (ops.Turn at to)) d Misfit d
turn_first code h d at to o reads is =
    alike_then code _ _ _ d d d (alike_is code _ _ d (turn_reads h at to)) (counted_none code d at o (with_variable h at to) reads is)

pub turn_second : (code : CodeData) (h : Here) (d : Data) (at to : ℕ) (o p : Option ℤ) (v : ℤ) → Reading code d at o → o ≡ Some v → Reading code d (at + 1) p → p ≡ None
    → Alike code (act h (ops.Turn at to)) d Misfit d
turn_second code h d at to o p v first is second none =
    alike_then code _ _ _ d d d (alike_is code _ _ d (turn_reads h at to))
    (alike_then code _ _ _ d d d (counted_some code d at o v (with_variable h at to) first is) (counted_none code d (at + 1) p (with_last h at to v) second none))

pub turn_third : (code : CodeData) (h : Here) (d : Data) (at to : ℕ) (o p q : Option ℤ) (v w : ℤ) → Reading code d at o → o ≡ Some v → Reading code d (at + 1) p → p ≡ Some w
    → Reading code d (at + 2) q → q ≡ None → Alike code (act h (ops.Turn at to)) d Misfit d
turn_third code h d at to o p q v w first is second its third none =
    alike_then code _ _ _ d d d (alike_is code _ _ d (turn_reads h at to))
    (alike_then code _ _ _ d d d (counted_some code d at o v (with_variable h at to) first is)
    (alike_then code _ _ _ d d d (counted_some code d (at + 1) p w (with_last h at to v) second its) (counted_none code d (at + 2) q (with_step h to v w) third none)))

pub turn_all : (code : CodeData) (h : Here) (d : Data) (at to : ℕ) (o p q : Option ℤ) (v w x : ℤ) (b : Bool) → Reading code d at o → o ≡ Some v → Reading code d (at + 1) p → p ≡ Some w
    → Reading code d (at + 2) q → q ≡ Some x → has_passed v w x ≡ b → Alike code (act h (ops.Turn at to)) d (if b then jumps h to h.conf.stack else to_next h h.conf.stack) d
turn_all code h d at to o p q v w x b first is second its third last so =
    alike_then code _ _ _ d d d (alike_is code _ _ d (turn_reads h at to))
    (alike_then code _ _ _ d d d (counted_some code d at o v (with_variable h at to) first is)
    (alike_then code _ _ _ d d d (counted_some code d (at + 1) p w (with_last h at to v) second its)
    (alike_then code _ _ _ d d d (counted_some code d (at + 2) q x (with_step h to v w) third last) (alike_is code _ _ d (ap (turned h to) so)))))

-- a Step reads two, and takes the first on
pub step_first : (code : CodeData) (h : Here) (d : Data) (at to : ℕ) (o : Option ℤ) → Reading code d at o → o ≡ None → Alike code (act h (ops.Step at to)) d Misfit d
step_first code h d at to o reads is = counted_none code d at o (λ variable. counter_at (at + 2) >>= λ step. stepped h at to (sum_of variable step)) reads is

pub step_second : (code : CodeData) (h : Here) (d : Data) (at to : ℕ) (o p : Option ℤ) (v : ℤ) → Reading code d at o → o ≡ Some v → Reading code d (at + 2) p → p ≡ None
    → Alike code (act h (ops.Step at to)) d Misfit d
step_second code h d at to o p v first is second none =
    alike_then code _ _ _ d d d (counted_some code d at o v (λ variable. counter_at (at + 2) >>= λ step. stepped h at to (sum_of variable step)) first is)
    (counted_none code d (at + 2) p (λ step. stepped h at to (sum_of v step)) second none)

pub step_all : (code : CodeData) (h : Here) (d : Data) (at to : ℕ) (o p : Option ℤ) (v w : ℤ) → Reading code d at o → o ≡ Some v → Reading code d (at + 2) p → p ≡ Some w
    → Alike code (act h (ops.Step at to)) d (stepped h at to (sum_of v w)) d
step_all code h d at to o p v w first is second its =
    alike_then code _ _ _ d d d (counted_some code d at o v (λ variable. counter_at (at + 2) >>= λ step. stepped h at to (sum_of variable step)) first is)
    (counted_some code d (at + 2) p w (λ step. stepped h at to (sum_of v step)) second its)

-- a num over a value
put_over : (x : Datum) (v : Value) (n : ℤ) → as_value x ≡ Some v → put_in parts.Whole (datums.Plain (values.Num n)) x ≡ Some (datums.Plain (values.Num n))
put_over (datums.Plain w) v n e = refl
put_over (datums.Mark m) v n e = cc
put_over (datums.Shape s) v n e = cc
put_over (datums.Place p) v n e = cc

-- the variable is written
abbrev writing : ℤ → Doing Conf → Lvalue → Doing Conf
writing n m p = Gives p >>= (λ q. write_value q (values.Num n)) >> m

abbrev writing_datum : ℕ → ℕ → Data → Doing Conf → Option Datum → Doing Conf
writing_datum k at d m o = writes_at (roots.Frame k at) d o >> m

abbrev put_whole : ℤ → Option Datum → Option Datum
put_whole n o = option_and_then (put_in parts.Whole (datums.Plain (values.Num n))) o

set_at_place : (code : CodeData) (d : Data) (k at : ℕ) (n : ℤ) (o : Option Datum) (m : Doing Conf) → own_place at d.frames ≡ at_root (roots.Frame k at)
    → put_whole n (datum_at (roots.Frame k at) d) ≡ o → Alike code (set_counter_at at n >> m) d (writing_datum k at d m o) d
unfolding after
set_at_place code d k at n o m place there =
    alike_then code _ _ _ d d d (reads_now code (λ (e : Data). writing n m (own_place at e.frames)) d)
    (alike_then code _ _ _ d d d (alike_is code _ _ d (ap (writing n m) place))
    (alike_then code _ _ _ d d d (reads_now code (λ (e : Data). writing_datum k at e m (put_whole n (datum_at (roots.Frame k at) e))) d) (alike_is code _ _ d (ap (writing_datum k at d m) there))))

set_reads : (code : CodeData) (d : Data) (k at : ℕ) (n : ℤ) (o : Option Datum) (m : Doing Conf) → length d.frames ≡ suc k → put_whole n (datum_at (roots.Frame k at) d) ≡ o
    → Alike code (set_counter_at at n >> m) d (writing_datum k at d m o) d
set_reads code d k at n o m some there = set_at_place code d k at n o m (own_there d.frames k at some) there

set_there : (code : CodeData) (d : Data) (k at : ℕ) (n : ℤ) (x y : Datum) (m : Doing Conf) → length d.frames ≡ suc k → datum_at (roots.Frame k at) d ≡ Some x
    → put_in parts.Whole (datums.Plain (values.Num n)) x ≡ Some y → Alike code (set_counter_at at n >> m) d m (put_at (roots.Frame k at) y d)
unfolding after
set_there code d k at n x y m some there put =
    alike_then code _ _ _ d d (put_at (roots.Frame k at) y d) (set_reads code d k at n (Some y) m some (ap (put_whole n) there ∙ put))
    (writes_now code (put_at (roots.Frame k at) y d) m d)

-- over a num
set_num : (code : CodeData) (d : Data) (k at : ℕ) (n : ℤ) (m : Doing Conf) → length d.frames ≡ suc k → IsSome (option_and_then as_num (datum_at (roots.Frame k at) d))
    → Alike code (set_counter_at at n >> m) d m (put_at (roots.Frame k at) (datums.Plain (values.Num n)) d)
set_num code d k at n m some is = by (datum_at (roots.Frame k at) d) refl is
  where
    by : (o : Option Datum) → datum_at (roots.Frame k at) d ≡ o → IsSome (option_and_then as_num o) → Alike code (set_counter_at at n >> m) d m (put_at (roots.Frame k at) (datums.Plain (values.Num n)) d)
    by None there is = absurd cc
    by (Some (datums.Plain v)) there is = set_there code d k at n (datums.Plain v) (datums.Plain (values.Num n)) m some there (put_over (datums.Plain v) v n refl)
    by (Some (datums.Mark j)) there is = absurd cc
    by (Some (datums.Shape s)) there is = absurd cc
    by (Some (datums.Place p)) there is = absurd cc

-- over the num of the innermost frame
pub set_own : (code : CodeData) (d : Data) (at : ℕ) (n : ℤ) (m : Doing Conf) → IsSome (own_num_in at d)
    → Alike code (set_counter_at at n >> m) d m (put_at (roots.Frame (length d.frames - 1) at) (datums.Plain (values.Num n)) d)
set_own code d at n m there = by (length d.frames) refl
  where
    by : (k : ℕ) → length d.frames ≡ k → Alike code (set_counter_at at n >> m) d m (put_at (roots.Frame (length d.frames - 1) at) (datums.Plain (values.Num n)) d)
    by zero none =
        let last : length d.frames - 1 ≡ 0 = omega (arith, none) in
        let missing : own_num_in at d ≡ None = ap (λ (j : ℕ). option_and_then as_num (datum_at (roots.Frame j at) d)) last ∙ ap (λ (x : Option Datum). option_and_then as_num x) (nothing_at d at none) in
        absurd (cc (missing, there))
    by (suc k) some =
        let last : k ≡ length d.frames - 1 = omega (arith, some) in
        let P : ℕ → Type 0 = λ j. IsSome (option_and_then as_num (datum_at (roots.Frame j at) d)) → Alike code (set_counter_at at n >> m) d m (put_at (roots.Frame j at) (datums.Plain (values.Num n)) d) in
        subst P last (set_num code d k at n m some) there
