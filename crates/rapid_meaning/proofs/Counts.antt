-- The counts that the frames of a task keep from the Looks of their statements.
use Rattle.std.proofs.Common.{◌≡◌, refl, sym, ap, ◌∙◌, ℕ, ◌+◌, ◌==◌, Bool, true, false, List, [], ◌∷◌, length, map, drop, Option, None, Some, if◌then◌else◌}
use Rattle.std.proofs.lemmas.List.{drop-drop}
use Rattle.std.specs.Prelude.{⊤}
use Rattle.rapid_model.specs.declared.answer.Answer.{Answer}
use Rattle.rapid_model.specs.declared.answer.Answer.TheVariants.{Go}
use Rattle.rapid_model.specs.declared.request.Request.{Request}
use Rattle.rapid_model.specs.declared.request.Request.TheVariants.{End, Look}
use Rattle.typed_trees.specs.declared.datum.Datum.{Datum}
use Rattle.typed_trees.specs.declared.datum.Root.{Root}
use Rattle.typed_trees.specs.declared.datum.Root.TheVariants as roots
use Rattle.rapid_meaning.specs.Data.{Data, Frame, below_first, frame_at, put_at, put_in_frame, with_datum, with_frame, with_seen}

-- the counts of the frames, innermost first
abbrev pub counts : List Frame → List ℕ
counts frames = map (λ (f : Frame). f.seen) frames

-- the first list is the second one without some of its first elements
pub record IsLeft (xs ys : List ℕ) : Type 0 where
  pub fewer : ℕ
  pub is : xs ≡ drop fewer ys

pub all_left : (xs : List ℕ) → IsLeft xs xs
all_left xs = record { fewer = 0; is = refl }

pub left_of_left : (xs ys zs : List ℕ) → IsLeft xs ys → IsLeft ys zs → IsLeft xs zs
left_of_left xs ys zs first second = record {
  fewer = second.fewer + first.fewer;
  is = first.is ∙ ap (drop first.fewer) second.is ∙ drop-drop first.fewer second.fewer zs;
}

-- the counts after the answer to a request: a Look that may go on sets that of the innermost frame
abbrev pub found : Request → Answer → List ℕ → List ℕ
found Look (Go seen) (old ∷ below) = seen ∷ below
found _ _ before = before

-- the counts at a request, by those after the answer before it: a Look may be that of a new frame, nothing follows an
-- End, and any other request comes from a frame that was there
abbrev pub AreKept : Request → List ℕ → List ℕ → Type 0
AreKept Look here before = IsLeft (drop 1 here) before
AreKept (End fate) here before = ⊤
AreKept _ here before = IsLeft here before

pub kept_self : (request : Request) (here : List ℕ) → AreKept request here here
kept_self Look here = record { fewer = 1; is = refl }
kept_self (End fate) here = tt
kept_self _ here = all_left here

pub kept_further : (request : Request) (here xs ys : List ℕ) → AreKept request here xs → IsLeft xs ys → AreKept request here ys
kept_further Look here xs ys kept left = left_of_left (drop 1 here) xs ys kept left
kept_further (End fate) here xs ys kept left = tt
kept_further _ here xs ys kept left = left_of_left here xs ys kept left

-- a Look that may go on
pub seen_counts : (seen : ℕ) (frames : List Frame) → counts (with_seen seen frames) ≡ found Look (Go seen) (counts frames)
seen_counts seen [] = refl
seen_counts seen (frame ∷ below) = refl

-- a frame is left
pub below_counts : (frames : List Frame) → IsLeft (counts (below_first frames)) (counts frames)
below_counts [] = all_left []
below_counts (frame ∷ below) = record { fewer = 1; is = refl }

-- a datum is written
replaced : (frames : List Frame) (number : ℕ) (old new : Frame) → frame_at frames number ≡ Some old → new.seen ≡ old.seen → counts (with_frame frames number new) ≡ counts frames
unfolding frame_at with_frame
replaced [] number old new there same = absurd cc
replaced (frame ∷ below) number old new there same = by (length below == number) (λ is. replaced below number old new is same) there
  where
    by : (b : Bool) → (frame_at below number ≡ Some old → counts (with_frame below number new) ≡ counts below) → (if b then Some frame else frame_at below number) ≡ Some old
        → counts (if b then new ∷ below else frame ∷ with_frame below number new) ≡ counts (frame ∷ below)
    by true later is = let one : frame ≡ old = cc in ap (λ (n : ℕ). n ∷ counts below) (same ∙ ap (λ (f : Frame). f.seen) (sym one))
    by false later is = ap (λ (ns : List ℕ). frame.seen ∷ ns) (later is)

pub put_counts : (root : Root) (new : Datum) (d : Data) → counts (put_at root new d).frames ≡ counts d.frames
put_counts (roots.Slot slot) new d = refl
put_counts (roots.Frame frame at) new d = by (frame_at d.frames frame) refl
  where
    by : (o : Option Frame) → frame_at d.frames frame ≡ o → counts (put_in_frame d.frames frame at new o) ≡ counts d.frames
    by None is = refl
    by (Some f) is = replaced d.frames frame f (with_datum f at new) is refl
put_counts (roots.Pers pers index) new d = refl
