-- Where the values of frames stand, and what is read and written there.
use Rattle.std.proofs.Common.{◌≡◌, ◌≢◌, ℕ, zero, suc, ◌+◌, ◌-◌, ◌<◌, ◌≤◌, ◌==◌, nat_lt, Bool, true, false, List, [], ◌∷◌, ◌++◌, length, reverse, take, drop, get_or, slice_get, slice_set, Option, None, Some, IfSome, if◌then◌else◌, refl, sym, ap, subst, ◌∙◌, zero-add, inl, inr, arith}
use Rattle.std.proofs.lemmas.Bool.{ltb-true, ne_eqb}
use Rattle.std.proofs.lemmas.Bool.Decides.{leb_tells, eqb_tells}
use Rattle.std.proofs.lemmas.List.{length-take-le, length-drop, length-reverse, reverse-reverse, length-append, length-set, drop-set-lt, drop-set-add, take-set-le, set_past, get_or_append_left}
use Rattle.std.proofs.lemmas.Option.{get_or_from_slice_get, none-some, slice_get-get_or, slice_get_past, slice_get_within}
use Rattle.std.proofs.lemmas.Grind.{reverse_onto}
use Rattle.std.proofs.Math.Seq.{take-set-lt, get_or-append_seam}
use Rattle.std.specs.Prelude.{is_some}
use Rattle.std.specs.Option.{option_and_then, option_map_or}
use Rattle.typed_trees.specs.declared.datum.Datum.{Datum}
use Rattle.rapid_meaning.specs.Data.{Frame, frame_at, put_in_frame, with_datum, with_frame}
use Rattle.machine_stacks.specs.Cuts.{IsCut}
use Rattle.machine_stacks.specs.FrameStack.{bases_of, end_of, frames_in, index_behind, index_in, written}
use Rattle.machine_stacks.specs.declared.mark.Mark.{Mark}
use Rattle.machine_stacks.proofs.Framing.{length-frames_in}

-- an index chosen by a test

chosen : (t : Bool) (q p : ℕ) → (if t then Some q else None) ≡ Some p → (t ≡ true) × (q ≡ p)
chosen true q p e = (refl, cc)
chosen false q p e = absurd cc

behind_within : (base len at p : ℕ) → index_behind base len at ≡ Some p → (base ≤ p) × (p < len)
behind_within base len at p e =
    let parts : (nat_lt at (len - base) ≡ true) × (base + at ≡ p) = chosen (nat_lt at (len - base)) (base + at) p e in
    let below : at < len - base = ltb-true at (len - base) parts.0 in
    (omega arith, omega arith)

either : (t : Bool) (p q : Option ℕ) (len : ℕ) → ((x : ℕ) → p ≡ Some x → x < len) → ((x : ℕ) → q ≡ Some x → x < len) → (x : ℕ) → (if t then p else q) ≡ Some x → x < len
either true p q len f g x e = f x e
either false p q len f g x e = g x e

-- an index is within the list
pub index_within : (len : ℕ) (marks : List Mark) (frame at : ℕ) → IsCut len (bases_of marks) → (p : ℕ) → index_in len marks frame at ≡ Some p → p < len
unfolding index_in
index_within len [] frame at h p e = absurd cc
index_within len (mark ∷ marks) frame at h p e =
    either (length marks == frame) (index_behind mark.base len at) (index_in mark.base marks frame at) len (λ x d. (behind_within mark.base len at x d).1)
    (λ x d. let below : x < mark.base = index_within mark.base marks frame at h.1 x d in let within : mark.base ≤ len = h.0 in omega arith) p e

pub if_within : (o q : Option ℕ) (n len : ℕ) → o ≡ q → n ≡ len → ((p : ℕ) → q ≡ Some p → p < len) → IfSome o (λ p. p < n)
if_within None q n len e d h = tt
if_within (Some p) q n len e d h = let below : p < len = h p (sym e) in omega arith

-- reading

slice_get-drop : (n i : ℕ) (xs : List Datum) → slice_get (drop n xs) i ≡ slice_get xs (n + i)
slice_get-drop zero i xs = ap (slice_get xs) (sym (zero-add i))
slice_get-drop (suc n) i [] = refl
slice_get-drop (suc n) i (x ∷ xs) = let e : suc (n + i) ≡ suc n + i = omega arith in slice_get-drop n i xs ∙ ap (slice_get (x ∷ xs)) e

slice_get-take : (n i : ℕ) (xs : List Datum) → i < n → slice_get (take n xs) i ≡ slice_get xs i
slice_get-take zero i xs h = absurd (omega arith)
slice_get-take (suc n) i [] h = refl
slice_get-take (suc n) zero (x ∷ xs) h = refl
slice_get-take (suc n) (suc i) (x ∷ xs) h = slice_get-take n i xs (omega arith)

read_behind : (values : List Datum) (base at : ℕ) → slice_get (drop base values) at ≡ option_and_then (slice_get values) (index_behind base (length values) at)
read_behind values base at =
    elim (leb_tells (suc at) (length values - base)) [
      | inl holds ↦ rw holds.0 (slice_get-drop base at values)
      | inr past ↦ let len : length (drop base values) ≤ at = let d : length (drop base values) ≡ length values - base = length-drop base values in let p : length values - base < suc at = past.1 in omega arith in
          rw past.0 (slice_get_past (drop base values) at len)
    ]

read_below : (base : ℕ) (values : List Datum) (o : Option ℕ) → ((p : ℕ) → o ≡ Some p → p < base) → option_and_then (slice_get (take base values)) o ≡ option_and_then (slice_get values) o
read_below base values None h = refl
read_below base values (Some p) h = slice_get-take base p values (h p refl)

read_either : (t : Bool) (values : List Datum) (at : ℕ) (f : Frame) (o : Option Frame) (p q : Option ℕ)
    → option_and_then (λ (g : Frame). slice_get g.values at) (Some f) ≡ option_and_then (slice_get values) p
    → option_and_then (λ (g : Frame). slice_get g.values at) o ≡ option_and_then (slice_get values) q
    → option_and_then (λ (g : Frame). slice_get g.values at) (if t then Some f else o) ≡ option_and_then (slice_get values) (if t then p else q)
read_either true values at f o p q here there = here
read_either false values at f o p q here there = there

-- what a frame holds at an index stands there in the list
pub read : (values : List Datum) (marks : List Mark) (frame at : ℕ)
    → IsCut (length values) (bases_of marks) → option_and_then (λ (f : Frame). slice_get f.values at) (frame_at (frames_in values marks) frame) ≡ option_and_then (slice_get values) (index_in (length values) marks frame at)
unfolding frame_at index_in
read values [] frame at h = refl
read values (mark ∷ marks) frame at h =
    let base : ℕ = mark.base in
    let len : length (take base values) ≡ base = length-take-le base values h.0 in
    let below : option_and_then (λ (f : Frame). slice_get f.values at) (frame_at (frames_in (take base values) marks) frame) ≡ option_and_then (slice_get (take base values)) (index_in base marks frame at) =
    rw len at (read (take base values) marks frame at (rw len h.1)) in
    rw (length-frames_in (take base values) marks)
    (read_either (length marks == frame) values at (record { values = drop base values; seen = mark.seen }) (frame_at (frames_in (take base values) marks) frame)
    (index_behind base (length values) at) (index_in base marks frame at) (read_behind values base at)
    (below ∙ read_below base values (index_in base marks frame at) (index_within base marks frame at h.1)))

-- writing

-- a value is read wherever there is an index

some_there : (xs : List Datum) (p : ℕ) → p < length xs → true ≡ is_some (slice_get xs p)
some_there [] p h = absurd (omega (arith, h))
some_there (x ∷ xs) zero h = refl
some_there (x ∷ xs) (suc p) h = some_there xs p (omega (arith, h))

pub is_read : (values : List Datum) (o : Option ℕ) → ((p : ℕ) → o ≡ Some p → p < length values) → is_some o ≡ is_some (option_and_then (slice_get values) o)
is_read values None within = refl
is_read values (Some p) within = some_there values p (within p refl)

pub length-written : (o : Option ℕ) (new : Datum) (values : List Datum) → length (written o new values) ≡ length values
length-written None new values = refl
length-written (Some p) new values = length-set values p new

-- the values of a frame and those below, once a datum is written from its base on
written_behind : (values : List Datum) (base at : ℕ) (new : Datum)
    → (drop base (written (index_behind base (length values) at) new values) ≡ slice_set (drop base values) at new) × (take base (written (index_behind base (length values) at) new values) ≡ take base values)
written_behind values base at new =
    elim (leb_tells (suc at) (length values - base)) [
      | inl holds ↦ rw holds.0 (drop-set-add base values at new, take-set-le base values (base + at) new (omega arith))
      | inr past ↦ let len : length (drop base values) ≤ at = let d : length (drop base values) ≡ length values - base = length-drop base values in let p : length values - base < suc at = past.1 in omega arith in
          rw past.0 (sym (set_past (drop base values) at new len), refl)
    ]

-- the same, once it is written below the base
written_below : (values : List Datum) (base : ℕ) (new : Datum) (o : Option ℕ) → ((p : ℕ) → o ≡ Some p → p < base)
    → (drop base (written o new values) ≡ drop base values) × (take base (written o new values) ≡ written o new (take base values))
written_below values base new None h = (refl, refl)
written_below values base new (Some p) h = (drop-set-lt base values p new (h p refl), take-set-lt base values p new (h p refl))

with_first : (f : Frame) (below : List Frame) (frame : ℕ) (g : Frame) → (length below == frame) ≡ true → with_frame (f ∷ below) frame g ≡ g ∷ below
unfolding with_frame
with_first f below frame g e = rw e refl

put_first : (f : Frame) (below : List Frame) (frame at : ℕ) (new : Datum) → (length below == frame) ≡ true → put_in_frame (f ∷ below) frame at new (frame_at (f ∷ below) frame) ≡ with_datum f at new ∷ below
unfolding frame_at
put_first f below frame at new e = rw e (with_first f below frame (with_datum f at new) e)

put_later_by : (f : Frame) (below : List Frame) (frame at : ℕ) (new : Datum) (o : Option Frame) → (length below == frame) ≡ false → put_in_frame (f ∷ below) frame at new o ≡ f ∷ put_in_frame below frame at new o
unfolding with_frame
put_later_by f below frame at new None e = refl
put_later_by f below frame at new (Some g) e = rw e refl

put_later : (f : Frame) (below : List Frame) (frame at : ℕ) (new : Datum) → (length below == frame) ≡ false
    → put_in_frame (f ∷ below) frame at new (frame_at (f ∷ below) frame) ≡ f ∷ put_in_frame below frame at new (frame_at below frame)
unfolding frame_at
put_later f below frame at new e = rw e (put_later_by f below frame at new (frame_at below frame) e)

index_first : (len : ℕ) (mark : Mark) (marks : List Mark) (frame at : ℕ) → (length marks == frame) ≡ true → index_in len (mark ∷ marks) frame at ≡ index_behind mark.base len at
unfolding index_in
index_first len mark marks frame at e = rw e refl

index_later : (len : ℕ) (mark : Mark) (marks : List Mark) (frame at : ℕ) → (length marks == frame) ≡ false → index_in len (mark ∷ marks) frame at ≡ index_in mark.base marks frame at
unfolding index_in
index_later len mark marks frame at e = rw e refl

-- frames with the same marks, of two lists that agree from the last mark on and whose beginnings have known frames
frames_of_parts : (values : List Datum) (mark : Mark) (marks : List Mark) (own : List Datum) (below : List Frame)
    → drop mark.base values ≡ own → frames_in (take mark.base values) marks ≡ below → frames_in values (mark ∷ marks) ≡ record { values = own; seen = mark.seen } ∷ below
frames_of_parts values mark marks own below e d = rw (e, d) refl

-- a datum written at the index of a frame's value is what that frame holds there, and nothing else changes
pub write : (values : List Datum) (marks : List Mark) (frame at : ℕ) (new : Datum) → IsCut (length values) (bases_of marks)
    → frames_in (written (index_in (length values) marks frame at) new values) marks ≡ put_in_frame (frames_in values marks) frame at new (frame_at (frames_in values marks) frame)
unfolding frame_at index_in
write values [] frame at new h = refl
write values (mark ∷ marks) frame at new h =
    let base : ℕ = mark.base in
    let f : Frame = record { values = drop base values; seen = mark.seen } in
    let len : length (take base values) ≡ base = length-take-le base values h.0 in
    let rest : List Frame = frames_in (take base values) marks in
    let count : length rest ≡ length marks = length-frames_in (take base values) marks in
    elim (eqb_tells (length marks) frame) [
      | inl holds ↦
          let parts = written_behind values base at new in
          let t : (length rest == frame) ≡ true = ap (λ n. n == frame) count ∙ holds.0 in
          ap (λ o. frames_in (written o new values) (mark ∷ marks)) (index_first (length values) mark marks frame at holds.0)
          ∙ frames_of_parts (written (index_behind base (length values) at) new values) mark marks (slice_set (drop base values) at new) rest parts.0 (ap (λ vs. frames_in vs marks) parts.1)
          ∙ sym (put_first f rest frame at new t)
      | inr fails ↦
          let o : Option ℕ = index_in base marks frame at in
          let parts = written_below values base new o (index_within base marks frame at h.1) in
          let t : (length rest == frame) ≡ false = ap (λ n. n == frame) count ∙ fails.0 in
          let below : frames_in (written o new (take base values)) marks ≡ put_in_frame rest frame at new (frame_at rest frame) = rw len at (write (take base values) marks frame at new (rw len h.1)) in
          ap (λ o. frames_in (written o new values) (mark ∷ marks)) (index_later (length values) mark marks frame at fails.0)
          ∙ frames_of_parts (written o new values) mark marks (drop base values) (put_in_frame rest frame at new (frame_at rest frame)) parts.0 (ap (λ vs. frames_in vs marks) parts.1 ∙ below)
          ∙ sym (put_later f rest frame at new t)
    ]

-- indexes by the marks from the first frame on

pub behind : (base len at : ℕ) → at < len - base → index_behind base len at ≡ Some (base + at)
behind base len at h = elim (leb_tells (suc at) (len - base)) [ inl holds ↦ rw holds.0 refl | inr fails ↦ absurd (omega arith) ]

pub past : (base len at : ℕ) → len - base ≤ at → index_behind base len at ≡ None
past base len at h = elim (leb_tells (suc at) (len - base)) [ inl holds ↦ absurd (omega arith) | inr fails ↦ rw fails.0 refl ]

pub no_index : (len : ℕ) (marks : List Mark) (frame at : ℕ) → length marks ≤ frame → index_in len marks frame at ≡ None
unfolding index_in
no_index len [] frame at h = refl
no_index len (mark ∷ marks) frame at h =
    let past : suc (length marks) ≤ frame = h in
    let t : (length marks == frame) ≡ false = ne_eqb (length marks) frame (λ e. omega arith) in
    rw t (no_index mark.base marks frame at (omega arith))

end_of-append : (len : ℕ) (marks : List Mark) (mark : Mark) (next : ℕ) → next ≤ length marks → end_of len (marks ++ mark ∷ []) next ≡ end_of mark.base marks next
end_of-append len [] mark zero h = refl
end_of-append len [] mark (suc next) h = absurd (omega arith)
end_of-append len (first ∷ marks) mark zero h = refl
end_of-append len (first ∷ marks) mark (suc next) h = end_of-append len marks mark next (omega arith)

-- where the values of a frame stand, by the marks from the first on
abbrev pub Stands : ℕ → List Mark → List Mark → ℕ → ℕ → Mark → Type 0
Stands len innermost marks frame at d =
    (index_in len innermost frame at ≡ index_behind (get_or marks frame d).base (end_of len marks (frame + 1)) at) × ((get_or marks frame d).base ≤ end_of len marks (frame + 1))

-- with one more frame, the innermost
stands_more : (len : ℕ) (mark : Mark) (marks outer : List Mark) (frame at : ℕ) (d : Mark)
    → length outer ≡ length marks → IsCut len (bases_of (mark ∷ marks)) → frame < suc (length marks) → (frame < length marks → Stands mark.base marks outer frame at d)
    → Stands len (mark ∷ marks) (outer ++ mark ∷ []) frame at d
stands_more len mark marks outer frame at d count h k below =
    let all : List Mark = outer ++ mark ∷ [] in
    let end : ℕ = end_of len all (frame + 1) in
    let Q : Mark → ℕ → Type 0 = λ m e. (index_in len (mark ∷ marks) frame at ≡ index_behind m.base e at) × (m.base ≤ e) in
    elim (eqb_tells (length marks) frame) [
      | inl holds ↦
          let index : frame ≡ length outer = let same : length marks ≡ frame = holds.1 in omega arith in
          let own : get_or all frame d ≡ mark = rw index (get_or-append_seam outer mark [] d) in
          let long : length all ≡ length outer + 1 = length-append outer (mark ∷ []) in
          let none : slice_get all (frame + 1) ≡ None = slice_get_past all (frame + 1) (omega arith) in
          let last : end ≡ len = ap (λ o. option_map_or (λ (m : Mark). m.base) o len) none in
          subst (λ m. Q m end) (sym own) (subst (λ e. Q mark e) (sym last) (index_first len mark marks frame at holds.0, h.0))
      | inr fails ↦
          let b : frame < length marks = let other : length marks ≢ frame = fails.1 in omega arith in
          let outside : Stands mark.base marks outer frame at d = below b in
          let own : get_or all frame d ≡ get_or outer frame d = get_or_append_left outer (mark ∷ []) d frame (omega arith) in
          let last : end ≡ end_of mark.base outer (frame + 1) = end_of-append len outer mark (frame + 1) (omega arith) in
          subst (λ m. Q m end) (sym own) (subst (λ e. Q (get_or outer frame d) e) (sym last) (index_later len mark marks frame at fails.0 ∙ outside.0, outside.1))
    ]

pub stands : (len : ℕ) (marks : List Mark) (frame at : ℕ) (d : Mark) → IsCut len (bases_of marks) → frame < length marks → Stands len marks (reverse marks) frame at d
stands len [] frame at d h k = absurd (omega arith)
stands len (mark ∷ marks) frame at d h k =
    let P : List Mark → Type 0 = λ ms. Stands len (mark ∷ marks) ms frame at d in
    subst P (sym (reverse_onto marks mark [])) (stands_more len mark marks (reverse marks) frame at d (length-reverse marks) h k (λ b. stands mark.base marks frame at d h.1 b))

pub stands_at : (len : ℕ) (marks : List Mark) (frame at : ℕ) (d : Mark) → IsCut len (bases_of (reverse marks)) → frame < length marks → Stands len (reverse marks) marks frame at d
stands_at len marks frame at d h k =
    let P : List Mark → Type 0 = λ ms. Stands len (reverse marks) ms frame at d in
    subst P (reverse-reverse marks) (stands len (reverse marks) frame at d h (omega (arith, length-reverse marks)))

-- the innermost frame ends with the values

pub innermost : (len : ℕ) (marks : List Mark) (at : ℕ) (mark : Mark) → IsCut len (bases_of (reverse marks)) → slice_get marks (length marks - 1) ≡ Some mark
    → (index_in len (reverse marks) (length marks - 1) at ≡ index_behind mark.base len at) × (mark.base ≤ len)
innermost len marks at mark h there =
    let frame : ℕ = length marks - 1 in
    let within : frame < length marks = slice_get_within marks frame mark there in
    let s : Stands len (reverse marks) marks frame at mark = stands_at len marks frame at mark h within in
    let own : get_or marks frame mark ≡ mark = get_or_from_slice_get marks frame mark mark there in
    let none : slice_get marks (frame + 1) ≡ None = slice_get_past marks (frame + 1) (omega arith) in
    let last : end_of len marks (frame + 1) ≡ len = ap (λ o. option_map_or (λ (m : Mark). m.base) o len) none in
    let Q : Mark → ℕ → Type 0 = λ m e. (index_in len (reverse marks) frame at ≡ index_behind m.base e at) × (m.base ≤ e) in
    subst (λ m. Q m len) own (subst (λ e. Q (get_or marks frame mark) e) last s)

pub no_innermost : (len : ℕ) (marks : List Mark) (at : ℕ) → slice_get marks (length marks - 1) ≡ None → index_in len (reverse marks) (length marks - 1) at ≡ None
no_innermost len [] at none = no_index len (reverse []) 0 at (omega (arith, length-reverse {A = Mark} []))
no_innermost len (mark ∷ marks) at none =
    let frame : ℕ = length (mark ∷ marks) - 1 in
    let there : slice_get (mark ∷ marks) frame ≡ Some (get_or (mark ∷ marks) frame mark) = slice_get-get_or (mark ∷ marks) frame mark (omega arith) in
    absurd (none-some (get_or (mark ∷ marks) frame mark) (sym none ∙ there))
