-- How many values the frames have.
use Rattle.std.proofs.Common.{◌≡◌, refl, sym, ap, ◌∙◌, arith, ℕ, suc, ◌+◌, ◌==◌, ◌≤◌, List, [], ◌∷◌, length, Bool, true, false, Option, None, Some, if◌then◌else◌}
use Rattle.std.proofs.lemmas.List.{length-set}
use Rattle.std.proofs.lemmas.List.Sums.{sum_by-cons}
use Rattle.typed_trees.specs.declared.datum.Datum.{Datum}
use Rattle.rapid_meaning.specs.Data.{Frame, below_first, frame_at, put_in_frame, values_in, with_datum, with_frame}

pub values_more : (frame : Frame) (below : List Frame) → values_in (frame ∷ below) ≡ length frame.values + values_in below
values_more frame below = sum_by-cons (λ (f : Frame). length f.values) frame below

-- one frame less
pub fewer_values : (frames : List Frame) → values_in (below_first frames) ≤ values_in frames
fewer_values [] = omega arith
fewer_values (frame ∷ below) = omega (arith, values_more frame below)

-- another datum at a place of one
values_if : (b : Bool) (frame f g : Frame) (below : List Frame) (k : ℕ) → (if b then Some frame else frame_at below k) ≡ Some f → length g.values ≡ length f.values
    → (frame_at below k ≡ Some f → values_in (with_frame below k g) ≡ values_in below) → values_in (if b then g ∷ below else frame ∷ with_frame below k g) ≡ values_in (frame ∷ below)
values_if true frame f g below k is same more =
    let own : frame ≡ f = cc in
    let long : length g.values ≡ length frame.values = same ∙ ap (λ (x : Frame). length x.values) (sym own) in
    values_more g below ∙ (ap (λ (n : ℕ). n + values_in below) long ∙ sym (values_more frame below))
values_if false frame f g below k is same more =
    values_more frame (with_frame below k g) ∙ (ap (λ (n : ℕ). length frame.values + n) (more is) ∙ sym (values_more frame below))

values_with : (frames : List Frame) (k : ℕ) (f g : Frame) → frame_at frames k ≡ Some f → length g.values ≡ length f.values → values_in (with_frame frames k g) ≡ values_in frames
unfolding frame_at with_frame
values_with [] k f g there same = cc
values_with (frame ∷ below) k f g there same = values_if (length below == k) frame f g below k there same (λ is. values_with below k f g is same)

pub put_values : (frames : List Frame) (k at : ℕ) (new : Datum) → values_in (put_in_frame frames k at new (frame_at frames k)) ≡ values_in frames
put_values frames k at new = by (frame_at frames k) refl
  where
    by : (o : Option Frame) → frame_at frames k ≡ o → values_in (put_in_frame frames k at new o) ≡ values_in frames
    by None is = refl
    by (Some f) is = values_with frames k f (with_datum f at new) is (length-set f.values at new)

-- as many frames
count_if : (b : Bool) (frame g : Frame) (below : List Frame) (k : ℕ) → length (with_frame below k g) ≡ length below → length (if b then g ∷ below else frame ∷ with_frame below k g) ≡ suc (length below)
count_if true frame g below k more = refl
count_if false frame g below k more = ap suc more

count_with : (frames : List Frame) (k : ℕ) (g : Frame) → length (with_frame frames k g) ≡ length frames
unfolding with_frame
count_with [] k g = refl
count_with (frame ∷ below) k g = count_if (length below == k) frame g below k (count_with below k g)

pub put_count : (frames : List Frame) (k at : ℕ) (new : Datum) → length (put_in_frame frames k at new (frame_at frames k)) ≡ length frames
put_count frames k at new = by (frame_at frames k)
  where
    by : (o : Option Frame) → length (put_in_frame frames k at new o) ≡ length frames
    by None = refl
    by (Some f) = count_with frames k (with_datum f at new)
