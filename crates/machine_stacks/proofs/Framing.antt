-- Frames whose values stand one after the other.
use Rattle.std.proofs.Common.{◌≡◌, ℕ, suc, ◌+◌, ◌-◌, ◌≤◌, List, [], ◌∷◌, ◌++◌, length, reverse, take, drop, refl, sym, ap, subst, ◌∙◌, arith}
use Rattle.std.proofs.lemmas.List.{length-take-le, length-drop, length-append, length-reverse, reverse-append}
use Rattle.std.proofs.lemmas.List.Sums.{sum_by-cons}
use Rattle.std.proofs.Math.Seq.{take-append_seam, drop-append_seam}
use Rattle.typed_trees.specs.declared.datum.Datum.{Datum}
use Rattle.rapid_meaning.specs.Data.{Frame, values_in}
use Rattle.machine_stacks.specs.Cuts.{IsCut}
use Rattle.machine_stacks.specs.FrameStack.{FrameStack, bases_of, frames_in}
use Rattle.machine_stacks.specs.declared.mark.Mark.{Mark}

pub length-frames_in : (values : List Datum) (marks : List Mark) → length (frames_in values marks) ≡ length marks
length-frames_in values [] = refl
length-frames_in values (mark ∷ marks) = ap (λ n. suc n) (length-frames_in (take mark.base values) marks)

-- all together have as many values as stand in the list
pub values_in-frames_in : (values : List Datum) (marks : List Mark) → IsCut (length values) (bases_of marks) → values_in (frames_in values marks) ≡ length values
values_in-frames_in values [] h = sym h
values_in-frames_in values (mark ∷ marks) h =
    let base : ℕ = mark.base in
    let len : length (take base values) ≡ base = length-take-le base values h.0 in
    let below : values_in (frames_in (take base values) marks) ≡ length (take base values) = values_in-frames_in (take base values) marks (rw len h.1) in
    let first : Frame = record { values = drop base values; seen = mark.seen } in
    let parts : values_in (first ∷ frames_in (take base values) marks) ≡ length (drop base values) + values_in (frames_in (take base values) marks) =
    sum_by-cons (λ (f : Frame). length f.values) first (frames_in (take base values) marks) in
    let own : length (drop base values) ≡ length values - base = length-drop base values in
    let within : base ≤ length values = h.0 in
    omega arith

-- a frame's arguments and its own values
pub length-frame : (top own : List Datum) (args : ℕ) → args ≤ length top → length (reverse (take args top) ++ own) ≡ args + length own
length-frame top own args h =
    let len : length (reverse (take args top)) ≡ args = length-reverse (take args top) ∙ length-take-le args top h in
    let all : length (reverse (take args top) ++ own) ≡ length (reverse (take args top)) + length own = length-append (reverse (take args top)) own in
    omega arith

-- one more frame, whose values stand after those of the others
pub frames_in-more : (values own all : List Datum) (marks : List Mark) (base : ℕ) → base ≡ length values → all ≡ values ++ own
    → frames_in all (reverse (marks ++ record { base = base; seen = 0 } ∷ [])) ≡ record { values = own; seen = 0 } ∷ frames_in values (reverse marks)
frames_in-more values own all marks base b a =
    let mark : Mark = record { base = base; seen = 0 } in
    let last : reverse (marks ++ mark ∷ []) ≡ mark ∷ reverse marks = reverse-append marks (mark ∷ []) in
    let above : drop base all ≡ own = rw (a, b) (drop-append_seam values own) in
    let below : take base all ≡ values = rw (a, b) (take-append_seam values own) in
    ap (frames_in all) last ∙ rw (above, below) refl

pub cut-more : (values own all : List Datum) (marks : List Mark) (base : ℕ) → base ≡ length values → all ≡ values ++ own → IsCut (length values) (bases_of (reverse marks))
    → IsCut (length all) (bases_of (reverse (marks ++ record { base = base; seen = 0 } ∷ [])))
cut-more values own all marks base b a h =
    let mark : Mark = record { base = base; seen = 0 } in
    let last : reverse (marks ++ mark ∷ []) ≡ mark ∷ reverse marks = reverse-append marks (mark ∷ []) in
    let len : length all ≡ length values + length own = ap length a ∙ length-append values own in
    let P : List Mark → Type 0 = λ ms. IsCut (length all) (bases_of ms) in
    subst P (sym last) (omega arith, rw b h)

abbrev pub frames_of : List Frame → ℕ → ℕ → FrameStack
frames_of frames room depth = record { frames = frames; room = room; depth = depth }

pub same_frames : (a b : List Frame) (m n d e : ℕ) → a ≡ b → m ≡ n → d ≡ e → frames_of a m d ≡ frames_of b n e
same_frames a b m n d e frames room depth = ap (λ fs. frames_of fs m d) frames ∙ ap (λ r. frames_of b r d) room ∙ ap (λ k. frames_of b n k) depth
