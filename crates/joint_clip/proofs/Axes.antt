-- One axis more, in a loop over the axes.
use Rattle.std.proofs.Common.{◌≡◌, ◌<◌, ◌≤◌, ◌+◌, ℕ, zero, suc, List, length, replicate, Option, Some, None, subst, ap, ◌∙◌, arith, ℤ, pos}
use Rattle.std.specs.Prelude.{slice_get}
use Rattle.std.specs.List.{slice_index_or}
use Rattle.std.proofs.lemmas.Option.{slice_get_within, slice_get-get_or}
use borrow.Author.Count.{below_more}
use Rattle.rapid_num.specs.declared.joints.Joints.{Joints}
use Rattle.rapid_num.specs.declared.shape.Bound.{Bound}
use Rattle.joint_clip.specs.declared.part.Part.{Part}
use Rattle.joint_clip.specs.Touches.{Names, IsWithin, LiesInside, way_at, point_at}
use Rattle.joint_clip.specs.Parts.{IsIn, IsPartWhere}
use Rattle.joint_clip.proofs.Parts.{same_where, cut_twice, none_where}

-- each of the first axes that is named is within its bounds
abbrev pub WithinFirst : ℕ → List (Option Bound) → (ℕ → ℤ) → ℕ → Type 0
WithinFirst axes bounds point m = (axis : ℕ) → axis < axes → (bound : Bound) → Names bounds axis bound → IsWithin bound (point axis) m

-- an axis has one pair of bounds
pub same_bound : (bounds : List (Option Bound)) (axis : ℕ) (a b : Bound) → Names bounds axis a → Names bounds axis b → a ≡ b
same_bound bounds axis a b one two = cc

pub not_named : (bounds : List (Option Bound)) (axis : ℕ) (a : Bound) → slice_get bounds axis ≡ Some None → Names bounds axis a → ⊥
not_named bounds axis a none named = cc

within_more : (axes : ℕ) (bounds : List (Option Bound)) (point : ℕ → ℤ) (m : ℕ) (bound : Bound) → Names bounds axes bound → WithinFirst axes bounds point m → IsWithin bound (point axes) m → WithinFirst (axes + 1) bounds point m
within_more axes bounds point m bound named below here =
    below_more (λ axis. (b : Bound) → Names bounds axis b → IsWithin b (point axis) m) axes below
    (λ b other. subst (λ (x : Bound). IsWithin x (point axes) m) (same_bound bounds axes bound b named other) here)

within_skip : (axes : ℕ) (bounds : List (Option Bound)) (point : ℕ → ℤ) (m : ℕ) → slice_get bounds axes ≡ Some None → WithinFirst axes bounds point m → WithinFirst (axes + 1) bounds point m
within_skip axes bounds point m none below =
    below_more (λ axis. (b : Bound) → Names bounds axis b → IsWithin b (point axis) m) axes below
    (λ b named. absurd (not_named bounds axes b none named))

within_less : (axes : ℕ) (bounds : List (Option Bound)) (point : ℕ → ℤ) (m : ℕ) → WithinFirst (axes + 1) bounds point m → WithinFirst axes bounds point m
within_less axes bounds point m first axis below = first axis (omega arith)

pub within_none : (bounds : List (Option Bound)) (point : ℕ → ℤ) (m : ℕ) → WithinFirst 0 bounds point m
within_none bounds point m axis below = absurd (omega arith)

pub inside-first : (axes : ℕ) (bounds : List (Option Bound)) (point : ℕ → ℤ) (m : ℕ) → length bounds ≤ axes → WithinFirst axes bounds point m → LiesInside bounds point m
inside-first axes bounds point m all first axis bound named =
    let within : axis < length bounds = slice_get_within bounds axis (Some bound) named in
    first axis (omega arith) bound named

pub first-inside : (axes : ℕ) (bounds : List (Option Bound)) (point : ℕ → ℤ) (m : ℕ) → LiesInside bounds point m → WithinFirst axes bounds point m
first-inside axes bounds point m lies axis below bound named = lies axis bound named

-- a cut by the bounds of the next axis
pub cut_by_axis : (axes : ℕ) (bounds : List (Option Bound)) (p q : Joints) (bound : Bound) (from to : ℤ) (part : Part) (left : Option Part)
    → Names bounds axes bound → from ≡ slice_index_or p.axis axes (pos 0) → to ≡ slice_index_or q.axis axes (pos 0)
    → IsPartWhere (Some part) (λ k m. WithinFirst axes bounds (point_at p q k m) m)
    → IsPartWhere left (λ k m. IsIn part k m × IsWithin bound (way_at from to k m) m)
    → IsPartWhere left (λ k m. WithinFirst (axes + 1) bounds (point_at p q k m) m)
cut_by_axis axes bounds p q bound from to part left named start end before cut =
    same_where left _ _
    (λ k m some way h. within_more axes bounds (point_at p q k m) m bound named h.0 (rw (start, end) at h.1))
    (λ k m some way h. (within_less axes bounds (point_at p q k m) m h, rw (start, end) (h axes (omega arith) bound named)))
    (cut_twice part left _ _ before cut)

pub skip_axis : (axes : ℕ) (bounds : List (Option Bound)) (p q : Joints) (part : Option Part) → slice_get bounds axes ≡ Some None
    → IsPartWhere part (λ k m. WithinFirst axes bounds (point_at p q k m) m) → IsPartWhere part (λ k m. WithinFirst (axes + 1) bounds (point_at p q k m) m)
skip_axis axes bounds p q part none before =
    same_where part _ _
    (λ k m some way h. within_skip axes bounds (point_at p q k m) m none h)
    (λ k m some way h. within_less axes bounds (point_at p q k m) m h)
    before

-- after the last axis, and once nothing is left before it
pub after_axes : (axes : ℕ) (bounds : List (Option Bound)) (p q : Joints) (part : Option Part) → length bounds ≤ axes
    → IsPartWhere part (λ k m. WithinFirst axes bounds (point_at p q k m) m) → IsPartWhere part (λ k m. LiesInside bounds (point_at p q k m) m)
after_axes axes bounds p q part all cut =
    same_where part _ _
    (λ k m some way h. inside-first axes bounds (point_at p q k m) m all h)
    (λ k m some way h. first-inside axes bounds (point_at p q k m) m h)
    cut

pub nothing_left : (axes : ℕ) (bounds : List (Option Bound)) (p q : Joints)
    → IsPartWhere None (λ k m. WithinFirst axes bounds (point_at p q k m) m) → IsPartWhere None (λ k m. LiesInside bounds (point_at p q k m) m)
nothing_left axes bounds p q none =
    none_where _ _ (λ k m some way h. first-inside axes bounds (point_at p q k m) m h) none

-- an item read from a list is there
pub element_at : (bounds : List (Option Bound)) (axis : ℕ) (other here : Option Bound) → axis < length bounds → slice_index_or bounds axis other ≡ here → slice_get bounds axis ≡ Some here
element_at bounds axis other here inside read = slice_get-get_or bounds axis other inside ∙ ap Some read

-- if no axis has bounds, none is named
pub none_named : (n axis : ℕ) (b : Bound) → Names (replicate n None) axis b → ⊥
none_named zero axis b named = cc
none_named (suc n) zero b named = cc
none_named (suc n) (suc axis) b named = none_named n axis b named
