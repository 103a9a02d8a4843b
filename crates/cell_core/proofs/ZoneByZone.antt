-- Signals that all zones of an arm set, one zone after the other.
use Rattle.std.proofs.Common.{◌≡◌, ◌+◌, ◌≤◌, ℕ, zero, suc, Bool, true, false, List, [], ◌∷◌, ◌++◌, length, set, Option, None, Some, refl, sym, ◌∙◌, ap, arith}
use Rattle.std.specs.Prelude.{filter_map, option_to_list, if◌then◌else◌, slice_index_or}
use Rattle.std.specs.List.{cons_option, range_with_len}
use Rattle.std.proofs.lemmas.List.Sums.{fold-append}
use Rattle.rapid_num.specs.declared.joints.Joints.{Joints}
use Rattle.rapid_model.specs.Truths.{same_truth}
use Rattle.rapid_model.specs.declared.watched.Watched.TheVariants as watched
use Rattle.world_zones.specs.declared.own_zone.OwnZone.{OwnZone}
use Rattle.world_zones.specs.Outputs.{output_at}
use Rattle.world_zones.specs.Zones.{zone_at}
use Rattle.cell_meaning.specs.Outputs.{output_of, with_outputs}
use Rattle.cell_core.specs.Changes.{changed_outputs}
use Rattle.cell_core.proofs.OutputChanges.{changed-append}

-- what this many zones of an arm set, by number
abbrev pub first_outputs : List (Option OwnZone) → Joints → ℕ → List (ℕ × Bool)
first_outputs zones at count = filter_map (λ number. output_at at (zone_at zones number)) (range_with_len 1 count)

one_more : (f : ℕ → Option (ℕ × Bool)) (first count : ℕ) → filter_map f (range_with_len first (suc count)) ≡ filter_map f (range_with_len first count) ++ option_to_list (f (first + count))
one_more f first zero = let here : first + 0 ≡ first = omega arith in by (f first) refl ∙ ap (λ (n : ℕ). option_to_list (f n)) (sym here)
  where
    by : (o : Option (ℕ × Bool)) → f first ≡ o → cons_option (f first) [] ≡ option_to_list (f first)
    by None is = ap (λ (o : Option (ℕ × Bool)). cons_option o []) is ∙ sym (ap option_to_list is)
    by (Some x) is = ap (λ (o : Option (ℕ × Bool)). cons_option o []) is ∙ sym (ap option_to_list is)
one_more f first (suc count) =
    let next : (first + 1) + count ≡ first + suc count = omega arith in
    ap (λ (os : List (ℕ × Bool)). cons_option (f first) os) (one_more f (first + 1) count ∙ ap (λ (n : ℕ). filter_map f (range_with_len (first + 1) count) ++ option_to_list (f n)) next)
    ∙ in_front (f first) (filter_map f (range_with_len (first + 1) count)) (option_to_list (f (first + suc count)))
  where
    in_front : (o : Option (ℕ × Bool)) (os ps : List (ℕ × Bool)) → cons_option o (os ++ ps) ≡ cons_option o os ++ ps
    in_front None os ps = refl
    in_front (Some x) os ps = refl

next_outputs : (zones : List (Option OwnZone)) (at : Joints) (count : ℕ) → first_outputs zones at (count + 1) ≡ first_outputs zones at count ++ output_of zones (count + 1) at
next_outputs zones at count =
    let more : count + 1 ≡ suc count = omega arith in
    let next : 1 + count ≡ count + 1 = omega arith in
    ap (first_outputs zones at) more ∙ one_more (λ number. output_at at (zone_at zones number)) 1 count ∙ ap (λ (n : ℕ). first_outputs zones at count ++ output_of zones n at) next

-- one more zone sets its signal
pub signals_more : (signals : List Bool) (zones : List (Option OwnZone)) (at : Joints) (count : ℕ)
    → with_outputs (with_outputs signals (first_outputs zones at count)) (output_of zones (count + 1) at) ≡ with_outputs signals (first_outputs zones at (count + 1))
signals_more signals zones at count =
    sym (fold-append (λ (values : List Bool) (o : ℕ × Bool). set values o.0 o.1) signals (first_outputs zones at count) (output_of zones (count + 1) at))
    ∙ ap (λ (os : List (ℕ × Bool)). with_outputs signals os) (sym (next_outputs zones at count))

pub changed_more : (signals : List Bool) (zones : List (Option OwnZone)) (at : Joints) (count : ℕ)
    → changed_outputs signals (first_outputs zones at count) ++ changed_outputs (with_outputs signals (first_outputs zones at count)) (output_of zones (count + 1) at)
    ≡ changed_outputs signals (first_outputs zones at (count + 1))
changed_more signals zones at count =
    sym (changed-append signals (first_outputs zones at count) (output_of zones (count + 1) at))
    ∙ ap (λ (os : List (ℕ × Bool)). changed_outputs signals os) (sym (next_outputs zones at count))

-- which is at most one change
pub one_changed : (signals : List Bool) (o : Option (ℕ × Bool)) → length (changed_outputs signals (option_to_list o)) ≤ 1
one_changed signals None = omega arith
one_changed signals (Some x) = by (same_truth (slice_index_or signals x.0 false) x.1)
  where
    by : (b : Bool) → length (if b then [] else watched.Signal x.0 x.1 ∷ []) ≤ 1
    by true = omega arith
    by false = omega arith
