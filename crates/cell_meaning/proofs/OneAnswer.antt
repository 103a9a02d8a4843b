-- The cell has one answer to a request.
use Rattle.std.proofs.Common.{◌≡◌, ◌⊎◌, inl, inr, ℕ, zero, suc, ◌<◌, Bool, true, List, Option, Some, None, refl, sym, ◌∙◌, ap, arith}
use Rattle.std.specs.Prelude.{IsTrue, nat_lt}
use Rattle.std.proofs.lemmas.Bool.{cases_lt, ltb-true, lt-ltb, false≢true}
use Rattle.rapid_num.specs.declared.joints.Joints.{Joints}
use Rattle.rapid_model.specs.CellData.{CellData}
use Rattle.rapid_model.specs.declared.answer.Answer.{Answer}
use Rattle.rapid_model.specs.declared.answer.Answer.TheVariants as answers
use Rattle.rapid_model.specs.declared.event.Event.{Event}
use Rattle.rapid_model.specs.declared.request.Request.{Request}
use Rattle.rapid_model.specs.declared.request.Request.TheVariants as requests
use Rattle.rapid_model.specs.declared.zone_name.ZoneName.{ZoneName}
use Rattle.rapid_model.specs.declared.zone_name.ZoneName.TheVariants.{Own, Cell}
use Rattle.world_zones.specs.Touched.{comes_before, IsTouched, IsFirstTouched}
use Rattle.world_zones.specs.Zones.{ZonesData}
use Rattle.cell_meaning.specs.Answers.{answer_after, IsMoveAnswer, IsAnswer}
use Rattle.cell_meaning.specs.Motion.{arm_after}
use Rattle.cell_meaning.specs.Stored.{signals_after}
use Rattle.cell_meaning.specs.Zones.{zones_after}

-- of two names one comes before the other, or they are equal
by_number : (m n : ℕ) → (nat_lt m n ≡ true) ⊎ (m ≡ n) ⊎ (nat_lt n m ≡ true)
by_number m n = elim (cases_lt m n) [
  | inl lt ↦ inl (lt-ltb m n lt)
  | inr ge ↦ elim (cases_lt n m) [
    | inl lt ↦ inr (inr (lt-ltb n m lt))
    | inr le ↦ inr (inl (omega arith))
  ]
]

in_order : (a b : ZoneName) → IsTrue (comes_before a b) ⊎ (a ≡ b) ⊎ IsTrue (comes_before b a)
in_order (Own m) (Own n) = elim (by_number m n) [
  | inl lt ↦ inl lt
  | inr (inl same) ↦ inr (inl (ap (λ (k : ℕ). Own k) same))
  | inr (inr gt) ↦ inr (inr gt)
]
in_order (Own m) (Cell n) = inl refl
in_order (Cell m) (Own n) = inr (inr refl)
in_order (Cell m) (Cell n) = elim (by_number m n) [
  | inl lt ↦ inl lt
  | inr (inl same) ↦ inr (inl (ap (λ (k : ℕ). Cell k) same))
  | inr (inr gt) ↦ inr (inr gt)
]

-- only one zone is the first that is touched
one_first : (zones : ZonesData) (task : ℕ) (signals : List Bool) (p q : Joints) (a b : ZoneName) → IsFirstTouched zones task signals p q a → IsFirstTouched zones task signals p q b → a ≡ b
one_first zones task signals p q a b first second = elim (in_order a b) [
  | inl before ↦ absurd (second.first a before first.touched)
  | inr (inl same) ↦ same
  | inr (inr after) ↦ absurd (first.first b after second.touched)
]

one_move : (cell : CellData) (history : List Event) (task : ℕ) (to : Joints) (from : Option Joints) (a b : Answer) → IsMoveAnswer cell history task to from a → IsMoveAnswer cell history task to from b → a ≡ b
one_move cell history task to None a b x y = x ∙ sym y
one_move cell history task to (Some from) answers.Given answers.Given x y = refl
one_move cell history task to (Some from) answers.Given (answers.Stopped name) x y = absurd (x name y.touched)
one_move cell history task to (Some from) answers.Given _ x y = absurd y
one_move cell history task to (Some from) (answers.Stopped name) answers.Given x y = absurd (y name x.touched)
one_move cell history task to (Some from) (answers.Stopped name) (answers.Stopped other) x y =
    ap (λ (z : ZoneName). answers.Stopped z) (one_first (zones_after cell history) task (signals_after cell history) from to name other x y)
one_move cell history task to (Some from) (answers.Stopped name) _ x y = absurd y
one_move cell history task to (Some from) _ b x y = absurd x

pub one_answer : (cell : CellData) (history : List Event) (actor : ℕ) (request : Request) (a b : Answer) → IsAnswer cell history actor request a → IsAnswer cell history actor request b → a ≡ b
one_answer cell history actor (requests.Setpoint to) a b x y = one_move cell history actor to (arm_after cell history actor) a b x y
one_answer cell history actor _ a b x y = x ∙ sym y

-- if no zone is the first that is touched, none is touched: own zones by number, and then those of the cell
earlier_own : (zones : ZonesData) (task : ℕ) (signals : List Bool) (p q : Joints) (k : ℕ) → ((m : ℕ) → m < k → ¬ IsTouched zones task signals p q (Own m))
    → (other : ZoneName) → IsTrue (comes_before other (Own k)) → ¬ IsTouched zones task signals p q other
earlier_own zones task signals p q k none (Own m) before touched = none m (ltb-true m k before) touched
earlier_own zones task signals p q k none (Cell m) before touched = absurd (false≢true before)

none_own : (zones : ZonesData) (task : ℕ) (signals : List Bool) (p q : Joints) → ((name : ZoneName) → ¬ IsFirstTouched zones task signals p q name)
    → (bound k : ℕ) → k < bound → ¬ IsTouched zones task signals p q (Own k)
none_own zones task signals p q none zero k lt touched = absurd (omega arith)
none_own zones task signals p q none (suc bound) k lt touched =
    none (Own k) (record { touched = touched; first = earlier_own zones task signals p q k (λ m below. none_own zones task signals p q none bound m (omega arith)) })

earlier_of_cell : (zones : ZonesData) (task : ℕ) (signals : List Bool) (p q : Joints) (k : ℕ) → ((m : ℕ) → ¬ IsTouched zones task signals p q (Own m))
    → ((m : ℕ) → m < k → ¬ IsTouched zones task signals p q (Cell m)) → (other : ZoneName) → IsTrue (comes_before other (Cell k)) → ¬ IsTouched zones task signals p q other
earlier_of_cell zones task signals p q k own none (Own m) before touched = own m touched
earlier_of_cell zones task signals p q k own none (Cell m) before touched = none m (ltb-true m k before) touched

none_of_cell : (zones : ZonesData) (task : ℕ) (signals : List Bool) (p q : Joints) → ((name : ZoneName) → ¬ IsFirstTouched zones task signals p q name)
    → (bound k : ℕ) → k < bound → ¬ IsTouched zones task signals p q (Cell k)
none_of_cell zones task signals p q none zero k lt touched = absurd (omega arith)
none_of_cell zones task signals p q none (suc bound) k lt touched =
    none (Cell k) (record {
      touched = touched;
      first = earlier_of_cell zones task signals p q k (λ m. none_own zones task signals p q none (suc m) m (omega arith)) (λ m below. none_of_cell zones task signals p q none bound m (omega arith));
    })

none_touched : (zones : ZonesData) (task : ℕ) (signals : List Bool) (p q : Joints) → ((name : ZoneName) → ¬ IsFirstTouched zones task signals p q name) → (name : ZoneName) → ¬ IsTouched zones task signals p q name
none_touched zones task signals p q none (Own k) touched = none_own zones task signals p q none (suc k) k (omega arith) touched
none_touched zones task signals p q none (Cell k) touched = none_of_cell zones task signals p q none (suc k) k (omega arith) touched

some_move : (cell : CellData) (history : List Event) (task : ℕ) (to : Joints) (from : Option Joints) → ((answer : Answer) → IsMoveAnswer cell history task to from answer → ⊥) → ⊥
some_move cell history task to None never = never answers.Ok refl
some_move cell history task to (Some from) never =
    never answers.Given (none_touched (zones_after cell history) task (signals_after cell history) from to (λ name first. never (answers.Stopped name) first))

-- it cannot be that the cell has none
pub some_answer : (cell : CellData) (history : List Event) (actor : ℕ) (request : Request) → ((answer : Answer) → IsAnswer cell history actor request answer → ⊥) → ⊥
some_answer cell history actor (requests.Setpoint to) never = some_move cell history actor to (arm_after cell history actor) never
some_answer cell history actor request never = never (answer_after cell history actor request) refl
