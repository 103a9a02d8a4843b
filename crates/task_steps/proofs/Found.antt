-- What is there, by its form.
use Rattle.std.proofs.Common.{◌≡◌, ◌≢◌, refl, ap, ℕ, ◌<◌, ℤ, List, [], ◌∷◌, drop, Bool, true, false, Option, None, Some, slice_get}
use Rattle.std.specs.Prelude.{IfSome, is_some}
use Rattle.std.specs.Option.{option_and_then, option_map}
use Rattle.rapid_model.specs.declared.value.Value.TheVariants as values
use Rattle.typed_trees.specs.declared.datum.Datum.{Datum}
use Rattle.typed_trees.specs.declared.datum.Datum.TheVariants as datums
use Rattle.typed_trees.specs.declared.datum.Lvalue.{Lvalue}
use Rattle.rapid_meaning.specs.Data.{Frame, frame_at, values_in}
use Rattle.rapid_meaning.specs.Doings.{Doing, after}
use Rattle.rapid_meaning.specs.Places.{place_in}
use Rattle.stack_code.specs.Confs.{Conf}
use Rattle.stack_code.specs.Operands.{on_place, on_truth}
use Rattle.machine_stacks.specs.Forms.{as_bool, as_num}
use Rattle.task_steps.specs.Alike.{popped}
use Rattle.task_steps.proofs.Elements.{at_few}

pub num_found : (o : Option Datum) (r : Option ℤ) → r ≡ option_and_then as_num o → IfSome r (λ n. o ≡ Some (datums.Plain (values.Num n)))
num_found o None e = tt
num_found o (Some n) e = by o e
  where
    by : (o : Option Datum) → Some n ≡ option_and_then as_num o → o ≡ Some (datums.Plain (values.Num n))
    by None e = cc
    by (Some (datums.Plain (values.Num m))) e = let same : m ≡ n = cc in ap (λ (k : ℤ). Some (datums.Plain (values.Num k))) same
    by (Some x) e = cc

pub place_found : (o : Option Datum) (r : Option Lvalue) → r ≡ option_and_then place_in o → IfSome r (λ place. o ≡ Some (datums.Place place))
place_found o None e = tt
place_found o (Some place) e = by o e
  where
    by : (o : Option Datum) → Some place ≡ option_and_then place_in o → o ≡ Some (datums.Place place)
    by None e = cc
    by (Some (datums.Place p)) e = let same : p ≡ place = cc in ap (λ (q : Lvalue). Some (datums.Place q)) same
    by (Some x) e = cc

-- the operand on top

pub some_top : {A : Type 0} (f : Datum → Option A) (xs : List Datum) (r : Option A) → r ≡ option_and_then f (slice_get xs 0) → IfSome r (λ x. xs ≢ [])
some_top f xs None e = tt
some_top f [] (Some x) e = cc
some_top f (y ∷ xs) (Some x) e = λ none. cc

pub truth_popped : (xs : List Datum) (r : Option Bool) (next : Bool → List Datum → Doing Conf) → r ≡ option_and_then as_bool (slice_get xs 0) → on_truth xs next ≡ popped r (drop 1 xs) next
unfolding after
truth_popped [] r next e = rw e refl
truth_popped (datums.Plain (values.Bool b) ∷ rest) r next e = rw e refl
truth_popped (x ∷ rest) r next e = rw e refl

pub place_popped : (xs : List Datum) (r : Option Lvalue) (next : Lvalue → List Datum → Doing Conf) → r ≡ option_and_then place_in (slice_get xs 0) → on_place xs next ≡ popped r (drop 1 xs) next
place_popped [] r next e = rw e refl
place_popped (datums.Place p ∷ rest) r next e = rw e refl
place_popped (x ∷ rest) r next e = rw e refl

-- an element is there, or not

pub there_is : {A : Type 0} (o : Option A) (k : ℕ) (t : Bool) → t ≡ is_some o → t ≡ true → Some k ≡ option_map (λ x. k) o
there_is None k t is so = cc
there_is (Some x) k t is so = refl

pub there_is-not : {A : Type 0} (o : Option A) (k : ℕ) (t : Bool) → t ≡ is_some o → t ≡ false → None ≡ option_map (λ x. k) o
there_is-not None k t is so = refl
there_is-not (Some x) k t is so = cc

pub few_there : (frames : List Frame) (k at : ℕ) (t : Bool) → t ≡ is_some (option_and_then (λ f. slice_get f.values at) (frame_at frames k)) → t ≡ true → at < values_in frames
few_there frames k at t is so = by (option_and_then (λ f. slice_get f.values at) (frame_at frames k)) refl is
  where
    by : (o : Option Datum) → option_and_then (λ f. slice_get f.values at) (frame_at frames k) ≡ o → t ≡ is_some o → at < values_in frames
    by None there is = absurd cc
    by (Some x) there is = at_few frames k at x there
