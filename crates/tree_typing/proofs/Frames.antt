-- The data of a routine at its call, and those of the modules at the start of the task.
use Rattle.std.proofs.Common.{◌≡◌, refl, sym, subst, ℕ, zero, suc, ◌*◌, Bool, true, false, Option, List, [], ◌∷◌, ◌++◌, length, map, replicate, flat_map, All, IsTrue, arith}
use Rattle.std.proofs.lemmas.Grind.{flat_map-append}
use Rattle.rapid_model.specs.Sorts.{width}
use Rattle.rapid_model.specs.declared.sort.Sort.{Sort}
use Rattle.typed_trees.specs.Plain.{TypedLocal, TypedRoutine, TypedSlot, TypedTree}
use Rattle.typed_trees.specs.declared.datum.Datum.{Datum}
use Rattle.typed_trees.specs.declared.datum.Datum.TheVariants.{Plain}
use Rattle.rapid_meaning.specs.Data.{Frame, below_first}
use Rattle.rapid_meaning.specs.Frames.{first_values}
use Rattle.rapid_meaning.specs.Values.{whole}
use Rattle.tree_typing.specs.Kinds.{Cell, Holds, Kind, Counts, cells_of, fixed_cells, kind_in, kind_of, local_cells, local_kind, slot_kind}
use Rattle.tree_typing.specs.States.{AreFrames, AreInCells}
use Rattle.tree_typing.specs.WellTyped.{AreFirst, is_datum_of}
use Rattle.tree_typing.proofs.Rows.{all_first}

pub in_both : (tree : TypedTree) (frames : List (List Cell)) (cs ds : List Cell) (xs ys : List Datum) → AreInCells tree frames cs xs → AreInCells tree frames ds ys
    → AreInCells tree frames (cs ++ ds) (xs ++ ys)
in_both tree frames [] ds [] ys first second = second
in_both tree frames [] ds (x ∷ xs) ys first second = absurd first
in_both tree frames (c ∷ cs) ds [] ys first second = absurd first
in_both tree frames (c ∷ cs) ds (x ∷ xs) ys first second = (first.0, in_both tree frames cs ds xs ys first.1 second)

in_repeated : (tree : TypedTree) (frames : List (List Cell)) (n : ℕ) (sort : Sort) (xs : List Datum) → length xs ≡ n → All (λ x. IsTrue (is_datum_of sort x)) xs
    → AreInCells tree frames (replicate n (Holds sort)) xs
in_repeated tree frames zero sort [] many all = tt
in_repeated tree frames zero sort (x ∷ xs) many all = absurd (omega (arith, many))
in_repeated tree frames (suc n) sort [] many all = absurd (omega (arith, many))
in_repeated tree frames (suc n) sort (x ∷ xs) many all =
    let both : IsTrue (is_datum_of sort x) × All (λ y. IsTrue (is_datum_of sort y)) xs = all_first (λ y. IsTrue (is_datum_of sort y)) x xs all in
    (both.0, in_repeated tree frames n sort xs (omega (arith, many)) both.1)

-- each datum of a constant in its place
in_fixed : (tree : TypedTree) (frames : List (List Cell)) (n : ℕ) (sort : Sort) (xs : List Datum) → length xs ≡ n → All (λ x. IsTrue (is_datum_of sort x)) xs
    → AreInCells tree frames (fixed_cells sort n xs) xs
in_fixed tree frames zero sort [] many all = tt
in_fixed tree frames zero sort (x ∷ xs) many all = absurd (omega (arith, many))
in_fixed tree frames (suc n) sort [] many all = absurd (omega (arith, many))
in_fixed tree frames (suc n) sort (x ∷ xs) many all =
    let both : IsTrue (is_datum_of sort x) × All (λ y. IsTrue (is_datum_of sort y)) xs = all_first (λ y. IsTrue (is_datum_of sort y)) x xs all in
    ((refl, both.0), in_fixed tree frames n sort xs (omega (arith, many)) both.1)

row_in : (tree : TypedTree) (frames : List (List Cell)) (variable : Bool) (sort : Sort) (len : Option ℕ) (first : List Datum) → AreFirst sort len first
    → AreInCells tree frames (cells_of (kind_in variable sort len first)) first
row_in tree frames true sort len first is = in_repeated tree frames (width len) sort first is.0 is.1
row_in tree frames false sort len first is = in_fixed tree frames (width len) sort first is.0 is.1

locals_in : (tree : TypedTree) (frames : List (List Cell)) (locals : List TypedLocal) → All (λ (row : TypedLocal). AreFirst row.sort row.len row.first) locals
    → AreInCells tree frames (flat_map cells_of (map local_kind locals)) (flat_map (λ (row : TypedLocal). row.first) locals)
locals_in tree frames [] all = tt
locals_in tree frames (row ∷ rows) all =
    let both : AreFirst row.sort row.len row.first × All (λ (r : TypedLocal). AreFirst r.sort r.len r.first) rows = all_first (λ (r : TypedLocal). AreFirst r.sort r.len r.first) row rows all in
    in_both tree frames (cells_of (local_kind row)) (flat_map cells_of (map local_kind rows)) row.first (flat_map (λ (r : TypedLocal). r.first) rows)
    (row_in tree frames row.variable row.sort row.len row.first both.0) (locals_in tree frames rows both.1)

pub slots_in : (tree : TypedTree) (frames : List (List Cell)) (slots : List TypedSlot) → All (λ (row : TypedSlot). AreFirst row.sort row.len row.first) slots
    → AreInCells tree frames (flat_map cells_of (map slot_kind slots)) (flat_map (λ (row : TypedSlot). row.first) slots)
slots_in tree frames [] all = tt
slots_in tree frames (row ∷ rows) all =
    let both : AreFirst row.sort row.len row.first × All (λ (r : TypedSlot). AreFirst r.sort r.len r.first) rows = all_first (λ (r : TypedSlot). AreFirst r.sort r.len r.first) row rows all in
    in_both tree frames (cells_of (slot_kind row)) (flat_map cells_of (map slot_kind rows)) row.first (flat_map (λ (r : TypedSlot). r.first) rows)
    (row_in tree frames row.variable row.sort row.len row.first both.0) (slots_in tree frames rows both.1)

loops_in : (tree : TypedTree) (frames : List (List Cell)) (n : ℕ) → AreInCells tree frames (flat_map cells_of (replicate n Counts)) (replicate (3 * n) (Plain (whole 0)))
loops_in tree frames zero = tt
loops_in tree frames (suc n) =
    let more : suc (suc (suc (3 * n))) ≡ 3 * suc n = omega arith in
    subst (λ (k : ℕ). AreInCells tree frames (flat_map cells_of (replicate (suc n) Counts)) (replicate k (Plain (whole 0)))) more (refl, (refl, (refl, loops_in tree frames n)))

-- a frame has its routine's places
pub frame_in : (tree : TypedTree) (frames : List (List Cell)) (routine : TypedRoutine) (args : List Datum) → All (λ (row : TypedLocal). AreFirst row.sort row.len row.first) routine.locals
    → AreInCells tree frames (flat_map cells_of (map kind_of routine.params)) args → AreInCells tree frames (local_cells routine) (args ++ first_values routine)
frame_in tree frames routine args all are =
    let own : List Kind = map local_kind routine.locals in
    let loops : List Kind = replicate routine.loops Counts in
    subst (λ (cells : List Cell). AreInCells tree frames cells (args ++ first_values routine)) (sym (flat_map-append cells_of (map kind_of routine.params) (own ++ loops)))
    (subst (λ (cells : List Cell). AreInCells tree frames (flat_map cells_of (map kind_of routine.params) ++ cells) (args ++ first_values routine)) (sym (flat_map-append cells_of own loops))
    (in_both tree frames (flat_map cells_of (map kind_of routine.params)) (flat_map cells_of own ++ flat_map cells_of loops) args (first_values routine) are
    (in_both tree frames (flat_map cells_of own) (flat_map cells_of loops) (flat_map (λ (row : TypedLocal). row.first) routine.locals) (replicate (3 * routine.loops) (Plain (whole 0)))
    (locals_in tree frames routine.locals all) (loops_in tree frames routine.loops))))

pub frames_below : (tree : TypedTree) (cells : List Cell) (frames : List (List Cell)) (fs : List Frame) → AreFrames tree (cells ∷ frames) fs → AreFrames tree frames (below_first fs)
frames_below tree cells frames [] are = absurd are
frames_below tree cells frames (f ∷ fs) are = are.1
