-- What the boards say, in terms of the looks back over a history.
use Rattle.std.proofs.Common.{◌≡◌, inl, inr, ℕ, zero, suc, ◌+◌, ◌-◌, ◌≤◌, ◌<◌, Bool, true, false, not, ◌||◌, nat_lt, length, Option, Some, refl, sym, ◌∙◌, ap, subst, arith}
use Rattle.std.specs.Prelude.{◌↔◌, IsTrue}
use Rattle.std.specs.List.{list_all, range_with_len}
use Rattle.std.specs.Option.{option_and_then}
use Rattle.std.proofs.lemmas.Bool.{and_parts, cases_eq, ltb-true, lt-ltb, false≢true, and_from}
use Rattle.std.proofs.lemmas.Option.{slice_get-get_or}
use Rattle.rapid_model.specs.declared.path.Path.{Path}
use Rattle.rapid_model.specs.declared.value.Value.{Value}
use Rattle.rapid_model.specs.declared.value.Value.TheVariants as values
use Rattle.rapid_values.specs.Values.{part_of}
use Rattle.persist_store.specs.Stores.{PersData, element_of}
use Rattle.sync_tasks.specs.Meetings.{MeetingsData, Meets, stand_at, arrivals, is_listed, come}
use Rattle.cell_meaning.specs.Meetings.{meets}
use Rattle.cell_meaning.specs.Stored.{value_at}

-- a test of all numbers from one number on
each_number : (p : ℕ → Bool) (from count : ℕ) → list_all p (range_with_len from count) ≡ true → (k : ℕ) → from ≤ k → k < from + count → p k ≡ true
each_number p from zero all k low high = absurd (omega arith)
each_number p from (suc count) all k low high =
    let parts = and_parts (p from) (list_all p (range_with_len (from + 1) count)) all in
    elim (cases_eq k from) [
      | inl same ↦ subst (λ (j : ℕ). p j ≡ true) (sym same) parts.0
      | inr other ↦ each_number p (from + 1) count parts.1 k (omega (arith, other)) (omega arith)
    ]

all_numbers : (p : ℕ → Bool) (from count : ℕ) → ((k : ℕ) → from ≤ k → k < from + count → p k ≡ true) → list_all p (range_with_len from count) ≡ true
all_numbers p from zero each = refl
all_numbers p from (suc count) each =
    and_from (p from) (list_all p (range_with_len (from + 1) count)) (each from (omega arith) (omega arith))
    (all_numbers p (from + 1) count (λ k low high. each k (omega arith) (omega arith)))

-- an arrival meets the others exactly if the board says so
abbrev has_come : MeetingsData → ℕ → ℕ → ℕ → ℕ → Bool
has_come m task meeting tasks k = not (is_listed tasks k) || nat_lt (stand_at m task meeting).passed (arrivals (stand_at (come m task meeting) k meeting))

listed_came : (listed came : Bool) → (not listed || came) ≡ true → listed ≡ true → came ≡ true
listed_came true came h is = h
listed_came false came h is = absurd (false≢true is)

came_if_listed : (listed came : Bool) → (listed ≡ true → came ≡ true) → (not listed || came) ≡ true
came_if_listed true came h = h refl
came_if_listed false came h = refl

pub meets_decides : (m : MeetingsData) (task meeting tasks : ℕ) → IsTrue (meets m task meeting tasks) ↔ Meets m task meeting tasks
meets_decides m task meeting tasks = (there, back)
  where
    there : IsTrue (meets m task meeting tasks) → Meets m task meeting tasks
    there all = record {
      all = λ k lt listed.
          ltb-true (stand_at m task meeting).passed (arrivals (stand_at (come m task meeting) k meeting))
          (listed_came (is_listed tasks k) (nat_lt (stand_at m task meeting).passed (arrivals (stand_at (come m task meeting) k meeting)))
          (each_number (has_come m task meeting tasks) 0 m.tasks all k (omega arith) (omega arith)) listed);
    }

    back : Meets m task meeting tasks → IsTrue (meets m task meeting tasks)
    back each =
        all_numbers (has_come m task meeting tasks) 0 m.tasks
        (λ k low high. came_if_listed (is_listed tasks k) (nat_lt (stand_at m task meeting).passed (arrivals (stand_at (come m task meeting) k meeting)))
        (λ listed. lt-ltb (stand_at m task meeting).passed (arrivals (stand_at (come m task meeting) k meeting)) (each.all k (omega arith) listed)))

-- the part of a persistent's element that a path names
pub kept_value : (row : PersData) (path : Path) (value : Value) → path.index - 1 < length row.values → part_of (element_of row path.index) path.part ≡ Some value → value_at row.values path ≡ Some value
kept_value row path value within is =
    ap (λ (o : Option Value). option_and_then (λ v. part_of v path.part) o) (slice_get-get_or row.values (path.index - 1) (values.Bool false) within) ∙ is
