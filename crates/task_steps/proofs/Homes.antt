-- The bounds of the axes, one by one.
use Rattle.std.proofs.Common.{◌≡◌, refl, ap, ◌∙◌, ℕ, ◌+◌, ◌<◌, ◌≤◌, ℤ, List, [], ◌∷◌, ◌++◌, length, get_or, take, drop, Option, None, Some, append_assoc}
use Rattle.std.proofs.Math.ListN.{set}
use Rattle.std.specs.Option.{option_and_then, option_map}
use Rattle.std.proofs.lemmas.List.{append-nil, drop_all, drop_more, take_all, take_more_set}
use Rattle.rapid_meaning.specs.Zones.{on_axes}

-- the bounds from an axis on, after those that are there
abbrev pub behind : List ℤ → Option (List ℤ) → Option (List ℤ)
behind front more = option_map (λ rest. front ++ rest) more

moved : (front : List ℤ) (b : ℤ) (o : Option (List ℤ)) → behind (front ++ b ∷ []) o ≡ behind front (option_map (λ (bs : List ℤ). b ∷ bs) o)
moved front b None = refl
moved front b (Some rest) = ap (λ (x : List ℤ). Some x) (append_assoc front (b ∷ []) rest)

-- the bound of the next axis
axes_more : (bound : ℤ → ℤ → Option ℤ) (ms ds : List ℤ) (axis : ℕ) (m d : ℤ) → axis < length ms → axis < length ds
    → on_axes bound (drop axis ms) (drop axis ds) ≡ option_and_then (λ b. option_map (λ bs. b ∷ bs) (on_axes bound (drop (axis + 1) ms) (drop (axis + 1) ds))) (bound (get_or ms axis m) (get_or ds axis d))
unfolding on_axes
axes_more bound ms ds axis m d one two =
    rw (drop_more ms axis m one, drop_more ds axis d two) refl

-- a bound that is there is appended
pub bound_more : (bound : ℤ → ℤ → Option ℤ) (ms ds bounds : List ℤ) (axis : ℕ) (m d b : ℤ) (all : Option (List ℤ)) → axis < length ms → axis < length ds → axis < length bounds
    → bound (get_or ms axis m) (get_or ds axis d) ≡ Some b → behind (take axis bounds) (on_axes bound (drop axis ms) (drop axis ds)) ≡ all
    → behind (take (axis + 1) (set bounds axis b)) (on_axes bound (drop (axis + 1) ms) (drop (axis + 1) ds)) ≡ all
bound_more bound ms ds bounds axis m d b all one two three there so_far =
    let more : Option (List ℤ) = on_axes bound (drop (axis + 1) ms) (drop (axis + 1) ds) in
    let before : behind (take axis bounds) (option_map (λ (bs : List ℤ). b ∷ bs) more) ≡ all = rw (axes_more bound ms ds axis m d one two, there) at so_far in
    rw (take_more_set bounds axis b three) (moved (take axis bounds) b more ∙ before)

-- if one is missing there are none
pub bound_missing : (bound : ℤ → ℤ → Option ℤ) (ms ds front : List ℤ) (axis : ℕ) (m d : ℤ) (all : Option (List ℤ)) → axis < length ms → axis < length ds
    → bound (get_or ms axis m) (get_or ds axis d) ≡ None → behind front (on_axes bound (drop axis ms) (drop axis ds)) ≡ all → None ≡ all
bound_missing bound ms ds front axis m d all one two none so_far = rw (axes_more bound ms ds axis m d one two, none) at so_far

-- all are there
pub bounds_all : (bound : ℤ → ℤ → Option ℤ) (ms ds bounds : List ℤ) (axis : ℕ) (all : Option (List ℤ)) → length ms ≤ axis → length bounds ≤ axis
    → behind (take axis bounds) (on_axes bound (drop axis ms) (drop axis ds)) ≡ all → Some bounds ≡ all
unfolding on_axes
bounds_all bound ms ds bounds axis all past full so_far =
    let before : Some (take axis bounds ++ []) ≡ all = rw (drop_all axis ms past) at so_far in
    rw (append-nil (take axis bounds), take_all axis bounds full) at before

-- none are there yet
pub bounds_none : (o : Option (List ℤ)) → behind [] o ≡ o
bounds_none None = refl
bounds_none (Some rest) = refl
