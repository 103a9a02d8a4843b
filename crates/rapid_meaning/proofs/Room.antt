-- The frames of a task keep to their limits, and each part of a program leaves as many frames as it found.
use Rattle.std.proofs.Common.{◌≡◌, refl, sym, ap, ◌∙◌, ℕ, suc, ◌+◌, ◌<◌, ◌≤◌, ◌==◌, Bool, true, false, List, [], ◌∷◌, length, Option, None, Some, if◌then◌else◌, arith}
use Rattle.std.specs.Prelude.{nat_lt, nat_le}
use Rattle.std.proofs.lemmas.Bool.{and_parts}
use Rattle.std.proofs.lemmas.Bool.Decides.{nat_tests}
use Rattle.std.proofs.lemmas.List.{length-set}
use Rattle.std.proofs.lemmas.List.Sums.{sum_by-cons}
use Rattle.rapid_limits.specs.declared.TheConstants.{MOST_FRAMES, MOST_FRAME_VALUES}
use Rattle.typed_trees.specs.declared.datum.Datum.{Datum}
use Rattle.typed_trees.specs.declared.datum.Root.{Root}
use Rattle.typed_trees.specs.declared.datum.Root.TheVariants as roots
use Rattle.rapid_meaning.specs.Data.{Data, Frame, below_first, frame_at, put_at, put_in_frame, values_in, with_datum, with_frame, with_seen}
use Rattle.rapid_meaning.specs.Frames.{has_room}

-- this many frames, and, if they are limited, within the limits on frames and on their values
pub record HasRoom (limited : Bool) (count : ℕ) (frames : List Frame) : Type 0 where
  pub counted : length frames ≡ count
  pub few : limited ≡ true → length frames ≤ MOST_FRAMES
  pub small : limited ≡ true → values_in frames ≤ MOST_FRAME_VALUES

pub no_frames : HasRoom true 0 []
no_frames = record { counted = refl; few = λ _. omega arith; small = λ _. omega arith }

-- any number of frames, if they are not limited
pub any_room : (frames : List Frame) (count : ℕ) → length frames ≡ count → HasRoom false count frames
any_room frames count e = record { counted = e; few = λ is. absurd cc; small = λ is. absurd cc }

-- the same number of frames and of values
record AsBefore (frames later : List Frame) : Type 0 where
  frames_same : length later ≡ length frames
  values_same : values_in later ≡ values_in frames

still_room : {limited : Bool} {count : ℕ} (frames later : List Frame) → AsBefore frames later → HasRoom limited count frames → HasRoom limited count later
still_room frames later same room = record {
  counted = same.frames_same ∙ room.counted;
  few = λ is. omega (arith, same.frames_same, room.few is);
  small = λ is. omega (arith, same.values_same, room.small is);
}

pub values_more : (frame : Frame) (below : List Frame) → values_in (frame ∷ below) ≡ length frame.values + values_in below
values_more frame below = sum_by-cons (λ (f : Frame). length f.values) frame below

replaced : (frames : List Frame) (number : ℕ) (old new : Frame) → frame_at frames number ≡ Some old → length new.values ≡ length old.values → AsBefore frames (with_frame frames number new)
unfolding frame_at with_frame
replaced [] number old new there same = absurd cc
replaced (frame ∷ below) number old new there same = by (length below == number) (λ is. replaced below number old new is same) there
  where
    by : (b : Bool) → (frame_at below number ≡ Some old → AsBefore below (with_frame below number new)) → (if b then Some frame else frame_at below number) ≡ Some old
        → AsBefore (frame ∷ below) (if b then new ∷ below else frame ∷ with_frame below number new)
    by true later is =
        let one : frame ≡ old = cc in
        let sizes : length new.values ≡ length frame.values = same ∙ ap (λ (f : Frame). length f.values) (sym one) in
        record { frames_same = refl; values_same = values_more new below ∙ ap (λ (n : ℕ). n + values_in below) sizes ∙ sym (values_more frame below) }
    by false later is =
        let rest : AsBefore below (with_frame below number new) = later is in
        record {
          frames_same = ap suc rest.frames_same;
          values_same = values_more frame (with_frame below number new) ∙ ap (λ (n : ℕ). length frame.values + n) rest.values_same ∙ sym (values_more frame below);
        }

put_keeps : (limited : Bool) (count : ℕ) (root : Root) (new : Datum) (d : Data) → HasRoom limited count d.frames → HasRoom limited count (put_at root new d).frames
put_keeps limited count (roots.Slot slot) new d room = room
put_keeps limited count (roots.Frame frame at) new d room = by (frame_at d.frames frame) refl
  where
    by : (o : Option Frame) → frame_at d.frames frame ≡ o → HasRoom limited count (put_in_frame d.frames frame at new o)
    by None is = room
    by (Some f) is = still_room d.frames (with_frame d.frames frame (with_datum f at new)) (replaced d.frames frame f (with_datum f at new) is (length-set f.values at new)) room
put_keeps limited count (roots.Pers pers index) new d room = room

pub put_room : {limited : Bool} {count : ℕ} (root : Root) (new : Datum) (d : Data) → HasRoom limited count d.frames → HasRoom limited count (put_at root new d).frames
put_room {limited} {count} root new d room = put_keeps limited count root new d room

pub seen_room : {limited : Bool} {count : ℕ} (seen : ℕ) (frames : List Frame) → HasRoom limited count frames → HasRoom limited count (with_seen seen frames)
seen_room seen [] room = room
seen_room seen (frame ∷ below) room = still_room (frame ∷ below) (record frame { seen = seen } ∷ below) (record { frames_same = refl; values_same = refl }) room

pub left_room : {limited : Bool} {count : ℕ} (frames : List Frame) → HasRoom limited (suc count) frames → HasRoom limited count (below_first frames)
left_room [] room = absurd (omega (arith, room.counted))
left_room (frame ∷ below) room = record {
  counted = let n : suc (length below) ≡ suc _ = room.counted in omega (arith, n);
  few = λ is. let n : suc (length below) ≤ MOST_FRAMES = room.few is in omega (arith, n);
  small = λ is. omega (arith, room.small is, values_more frame below);
}

pub entered_room : {limited : Bool} {count : ℕ} (frames : List Frame) (frame : Frame) → HasRoom limited count frames → has_room frames frame ≡ true → HasRoom limited (suc count) (frame ∷ frames)
entered_room frames frame room is =
    let parts = and_parts (nat_lt (length frames) MOST_FRAMES) (nat_le (values_in frames + length frame.values) MOST_FRAME_VALUES) is in
    let few : length frames < MOST_FRAMES = below (length frames) parts.0 in
    let small : values_in frames + length frame.values ≤ MOST_FRAME_VALUES = at_most (values_in frames + length frame.values) parts.1 in
    record { counted = ap suc room.counted; few = λ _. omega (arith, few); small = λ _. omega (arith, small, values_more frame frames) }
  where
    below : (n : ℕ) → nat_lt n MOST_FRAMES ≡ true → n < MOST_FRAMES
    below n h = grind (arith, nat_tests)

    at_most : (n : ℕ) → nat_le n MOST_FRAME_VALUES ≡ true → n ≤ MOST_FRAME_VALUES
    at_most n h = grind (arith, nat_tests)
