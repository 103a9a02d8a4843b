-- The bounds of one axis more.
use Rattle.std.proofs.Common.{◌≡◌, ◌<◌, ◌≤◌, ◌+◌, ℕ, zero, suc, List, [], ◌∷◌, length, take, get_or, Option, refl, ap, sym, ◌∙◌, arith, ℤ}
use Rattle.std.proofs.Math.ListN.{set}
use Rattle.std.proofs.lemmas.List.{take_all, take_more, take_more_set}
use Rattle.rapid_num.specs.declared.shape.Bound.{Bound}
use Rattle.joint_clip.specs.Shapes.{bound_of, bounds_of}

length-bounds_of : (lows highs : List ℤ) → length lows ≡ length highs → length (bounds_of lows highs) ≡ length lows
length-bounds_of [] highs same = refl
length-bounds_of (low ∷ lows) [] same = absurd (omega arith)
length-bounds_of (low ∷ lows) (high ∷ highs) same = ap suc (length-bounds_of lows highs (omega arith))

get_or-bounds_of : (lows highs : List ℤ) (axis : ℕ) (low high : ℤ) (other : Option Bound) → axis < length lows → axis < length highs → get_or (bounds_of lows highs) axis other ≡ bound_of (get_or lows axis low) (get_or highs axis high)
get_or-bounds_of [] highs axis low high other one two = absurd (omega arith)
get_or-bounds_of (l ∷ lows) [] axis low high other one two = absurd (omega arith)
get_or-bounds_of (l ∷ lows) (h ∷ highs) zero low high other one two = refl
get_or-bounds_of (l ∷ lows) (h ∷ highs) (suc axis) low high other one two = get_or-bounds_of lows highs axis low high other (omega arith) (omega arith)

-- the bounds of the next axis are stored
pub bounds_more : (lows highs : List ℤ) (bounds : List (Option Bound)) (axis : ℕ) (low high : ℤ) → length lows ≡ length highs → axis < length lows → axis < length bounds
    → take axis bounds ≡ take axis (bounds_of lows highs)
    → take (axis + 1) (set bounds axis (bound_of (get_or lows axis low) (get_or highs axis high))) ≡ take (axis + 1) (bounds_of lows highs)
bounds_more lows highs bounds axis low high same one two so_far =
    let here = bound_of (get_or lows axis low) (get_or highs axis high) in
    let stored = take_more_set bounds axis here two in
    let wanted = take_more (bounds_of lows highs) axis here (omega (arith, length-bounds_of lows highs same)) in
    let read = get_or-bounds_of lows highs axis low high here one (omega arith) in
    cc (stored, wanted, read, so_far)

pub bounds_all : (lows highs : List ℤ) (bounds : List (Option Bound)) (axis : ℕ) → length lows ≡ length highs → length lows ≤ axis → length bounds ≡ length lows
    → take axis bounds ≡ take axis (bounds_of lows highs) → bounds ≡ bounds_of lows highs
bounds_all lows highs bounds axis same all long so_far =
    sym (take_all axis bounds (omega arith)) ∙ so_far ∙ take_all axis (bounds_of lows highs) (omega (arith, length-bounds_of lows highs same))
