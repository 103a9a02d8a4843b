-- Operands of routines that lie one after the other.
use Rattle.std.proofs.Common.{◌≡◌, ◌≢◌, ℕ, suc, ◌+◌, ◌-◌, ◌<◌, ◌≤◌, List, [], ◌∷◌, ◌++◌, length, reverse, take, drop, sum_by, slice_get, slice_set, Some, refl, sym, ap, ◌∙◌, arith}
use Rattle.std.proofs.lemmas.List.{drop_all, drop_more, set_split, take-set-le, take-append-drop, drop-append-le, take-append-le, length-take-le, length-drop, length-reverse, reverse-append, reverse-reverse}
use Rattle.std.proofs.lemmas.List.Sums.{sum_by-cons}
use Rattle.std.proofs.lemmas.Option.{get_or_from_slice_get}
use Rattle.std.proofs.Math.Seq.{take-append_seam, drop-append_seam}
use Rattle.typed_trees.specs.declared.datum.Datum.{Datum}
use Rattle.machine_stacks.specs.Cuts.{IsCut}
use Rattle.machine_stacks.specs.OperandStack.{OperandStack, stacked}
use Rattle.machine_stacks.specs.Words.{DataRow}

-- all together are as many as stand in the list
pub total-stacked : (items : List Datum) (bases : List ℕ) → IsCut (length items) bases → sum_by length (stacked items bases) ≡ length items
total-stacked items [] h = sym h
total-stacked items (base ∷ bases) h =
    let len : length (take base items) ≡ base = length-take-le base items h.0 in
    let below : sum_by length (stacked (take base items) bases) ≡ length (take base items) = total-stacked (take base items) bases (rw len h.1) in
    let parts : sum_by length (reverse (drop base items) ∷ stacked (take base items) bases) ≡ length (reverse (drop base items)) + sum_by length (stacked (take base items) bases) =
    sum_by-cons length (reverse (drop base items)) (stacked (take base items) bases) in
    let top : length (reverse (drop base items)) ≡ length items - base = length-reverse (drop base items) ∙ length-drop base items in
    let within : base ≤ length items = h.0 in
    omega arith

pub total-operands : (items : List Datum) (base : ℕ) (bases : List ℕ)
    → IsCut (length items) (base ∷ bases) → length (reverse (drop base items)) + sum_by length (stacked (take base items) bases) ≡ length items
total-operands items base bases h = sym (sum_by-cons length (reverse (drop base items)) (stacked (take base items) bases)) ∙ total-stacked items (base ∷ bases) h

pub length-stacked : (items : List Datum) (bases : List ℕ) → length (stacked items bases) ≡ length bases
length-stacked items [] = refl
length-stacked items (base ∷ bases) = ap (λ n. suc n) (length-stacked (take base items) bases)

-- what lies from a base up to an index, and from there on
split_behind : (items : List Datum) (base at : ℕ) → base ≤ at → at ≤ length items → drop base items ≡ drop base (take at items) ++ drop at items
split_behind items base at h k =
    let len : length (take at items) ≡ at = length-take-le at items k in
    let below : base ≤ length (take at items) = omega arith in
    ap (drop base) (sym (take-append-drop at items)) ∙ drop-append-le base (take at items) (drop at items) below

-- the part from the index on is what is taken from the top
pub top_taken : (items : List Datum) (base at count : ℕ) → base ≤ at → at + count ≡ length items → take count (reverse (drop base items)) ≡ reverse (drop at items)
top_taken items base at count h k =
    let len : length (reverse (drop at items)) ≡ count = let a : length (reverse (drop at items)) ≡ length items - at = length-reverse (drop at items) ∙ length-drop at items in omega arith in
    ap (λ xs. take count (reverse xs)) (split_behind items base at h (omega arith))
    ∙ ap (take count) (reverse-append (drop base (take at items)) (drop at items))
    ∙ rw (← len) (take-append_seam (reverse (drop at items)) (reverse (drop base (take at items))))

-- and the other part is what is left
pub top_left : (items : List Datum) (base at count : ℕ) → base ≤ at → at + count ≡ length items → drop count (reverse (drop base items)) ≡ reverse (drop base (take at items))
top_left items base at count h k =
    let len : length (reverse (drop at items)) ≡ count = let a : length (reverse (drop at items)) ≡ length items - at = length-reverse (drop at items) ∙ length-drop at items in omega arith in
    ap (λ xs. drop count (reverse xs)) (split_behind items base at h (omega arith))
    ∙ ap (drop count) (reverse-append (drop base (take at items)) (drop at items))
    ∙ rw (← len) (drop-append_seam (reverse (drop at items)) (reverse (drop base (take at items))))

-- what lies below a base does not depend on what lies above it
pub below_kept : (items : List Datum) (base at : ℕ) → base ≤ at → at ≤ length items → take base (take at items) ≡ take base items
below_kept items base at h k =
    let len : length (take at items) ≡ at = length-take-le at items k in
    let below : base ≤ length (take at items) = omega arith in
    sym (take-append-le base (take at items) (drop at items) below) ∙ ap (take base) (take-append-drop at items)

-- what is moved away, in the order in which it was pushed
pub moved_away : (items : List Datum) (base at count : ℕ) → base ≤ at → at + count ≡ length items → drop at items ≡ reverse (take count (reverse (drop base items)))
moved_away items base at count h k = sym (ap reverse (top_taken items base at count h k) ∙ reverse-reverse (drop at items))

abbrev pub stack_of : List Datum → List (List Datum) → ℕ → ℕ → OperandStack
stack_of top below room depth = record { top = top; below = below; room = room; depth = depth }

-- the operands in a row of data
abbrev pub stack_in : DataRow → ℕ → List ℕ → ℕ → OperandStack
stack_in row base bases depth = stack_of (reverse (drop base row.items)) (stacked (take base row.items) bases) row.room depth

pub same_stack : (a b : List Datum) (x y : List (List Datum)) (m n depth : ℕ) → a ≡ b → x ≡ y → m ≡ n → stack_of a x m depth ≡ stack_of b y n depth
same_stack a b x y m n depth top below room =
    ap (λ t. stack_of t x m depth) top ∙ ap (λ u. stack_of b u m depth) below ∙ ap (λ r. stack_of b y r depth) room

-- an operand that is there lies from the base on
top_within : (items : List Datum) (base : ℕ) → reverse (drop base items) ≢ [] → base < length items
top_within items base some = by (drop base items) (length-drop base items) some
  where
    by : (above : List Datum) → length above ≡ length items - base → reverse above ≢ [] → base < length items
    by [] n some = absurd (some refl)
    by (x ∷ above) n some = omega (arith, n)

-- one operand fewer
pub stack_dropped : (items : List Datum) (bases : List ℕ) (base at room depth : ℕ) → reverse (drop base items) ≢ [] → at ≡ length items - 1
    → stack_of (reverse (drop base (take at items))) (stacked (take base (take at items)) bases) room depth ≡ stack_of (drop 1 (reverse (drop base items))) (stacked (take base items) bases) room depth
stack_dropped items bases base at room depth some is =
    let within = top_within items base some in
    let last : at + 1 ≡ length items = omega (arith, is, within) in
    same_stack _ _ _ _ _ _ _ (sym (top_left items base at 1 (omega arith) last)) (ap (λ xs. stacked xs bases) (below_kept items base at (omega arith) (omega arith))) refl

-- another operand on top
pub stack_set : (items : List Datum) (bases : List ℕ) (base at room depth : ℕ) (x : Datum) → reverse (drop base items) ≢ [] → at ≡ length items - 1
    → stack_of (reverse (drop base (slice_set items at x))) (stacked (take base (slice_set items at x)) bases) room depth ≡ stack_of (x ∷ drop 1 (reverse (drop base items))) (stacked (take base items) bases) room depth
stack_set items bases base at room depth x some is =
    let within = top_within items base some in
    let last : at + 1 ≡ length items = omega (arith, is, within) in
    let len : length (take at items) ≡ at = length-take-le at items (omega arith) in
    let below : base ≤ length (take at items) = omega arith in
    let split : slice_set items at x ≡ take at items ++ x ∷ [] = set_split items at x (omega arith) ∙ ap (λ xs. take at items ++ x ∷ xs) (drop_all (suc at) items (omega arith)) in
    let top : reverse (drop base (slice_set items at x)) ≡ x ∷ drop 1 (reverse (drop base items)) =
    ap (λ xs. reverse (drop base xs)) split
    ∙ ap reverse (drop-append-le base (take at items) (x ∷ []) below)
    ∙ reverse-append (drop base (take at items)) (x ∷ [])
    ∙ ap (λ xs. x ∷ xs) (sym (top_left items base at 1 (omega arith) last)) in
    same_stack _ _ _ _ _ _ _ top (ap (λ xs. stacked xs bases) (take-set-le base items at x (omega arith))) refl

-- an operand taken off the top
pub stack_popped : (items : List Datum) (bases : List ℕ) (base at room depth : ℕ) (x : Datum) → reverse (drop base items) ≢ [] → at ≡ length items - 1 → slice_get items at ≡ Some x
    → stack_of (reverse (drop base items)) (stacked (take base items) bases) room depth ≡ stack_of (x ∷ reverse (drop base (take at items))) (stacked (take base (take at items)) bases) room depth
stack_popped items bases base at room depth x some is there =
    let within = top_within items base some in
    let last : at + 1 ≡ length items = omega (arith, is, within) in
    let len : length (take at items) ≡ at = length-take-le at items (omega arith) in
    let below : base ≤ length (take at items) = omega arith in
    let first : drop at items ≡ x ∷ [] =
    drop_more items at x (omega arith) ∙ ap (λ (y : Datum). y ∷ drop (at + 1) items) (get_or_from_slice_get items at x x there) ∙ ap (λ (xs : List Datum). x ∷ xs) (drop_all (at + 1) items (omega arith)) in
    let split : items ≡ take at items ++ x ∷ [] = sym (take-append-drop at items) ∙ ap (λ xs. take at items ++ xs) first in
    let top : reverse (drop base items) ≡ x ∷ reverse (drop base (take at items)) =
    ap (λ xs. reverse (drop base xs)) split
    ∙ ap reverse (drop-append-le base (take at items) (x ∷ []) below)
    ∙ reverse-append (drop base (take at items)) (x ∷ []) in
    same_stack _ _ _ _ _ _ _ top (ap (λ xs. stacked xs bases) (sym (below_kept items base at (omega arith) (omega arith)))) refl
