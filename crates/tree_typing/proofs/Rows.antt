-- Rows, and the places that they take.
use Rattle.std.proofs.Common.{◌≡◌, refl, sym, ap, ◌∙◌, subst, ℕ, zero, suc, ◌+◌, ◌<◌, Bool, true, false, List, [], ◌∷◌, ◌++◌, length, map, take, drop, replicate, flat_map, sum, All, Option, Some, None, slice_get, arith}
use Rattle.std.specs.Option.{option_and_then}
use Rattle.std.proofs.lemmas.List.{length-replicate}
use Rattle.std.proofs.lemmas.List.Sums.{sum_by-cons}
use Rattle.rapid_model.specs.Sorts.{width}
use Rattle.rapid_model.specs.declared.sort.Sort.{Sort}
use Rattle.rapid_model.specs.declared.sort.Sort.TheVariants as sorts
use Rattle.rapid_model.specs.declared.mode.Mode.{Mode}
use Rattle.rapid_model.specs.declared.mode.Mode.TheVariants as modes
use Rattle.rapid_model.proofs.Lists.{at_left}
use Rattle.typed_trees.specs.Plain.{TypedLocal, TypedParam, TypedRoutine, TypedSlot, TypedTree}
use Rattle.typed_trees.specs.declared.expr.TreeRoot.TheVariants as tree_roots
use Rattle.rapid_meaning.specs.Layouts.{length_at, local_start, slot_start}
use Rattle.tree_typing.specs.Expressions.{IsOwn}
use Rattle.typed_trees.specs.declared.datum.Datum.{Datum}
use Rattle.tree_typing.specs.Kinds.{Cell, Holds, Fixes, Kind, Owns, Keeps, Refers, Counts, cells_of, fixed_cells, kind_by, kind_in, kind_of, kinds_of, local_cells, local_kind, slot_cells, slot_kind}
use Rattle.tree_typing.specs.States.{HasType}

pub all_first : {A : Type 0} (P : A → Type 0) (x : A) (xs : List A) → All P (x ∷ xs) → P x × All P xs
all_first P x xs all = (all 0 x (omega arith), λ k d few. all (suc k) d (omega (arith, few)))

pub all_at : {A : Type 0} (P : A → Type 0) (xs : List A) (k : ℕ) (x : A) → All P xs → slice_get xs k ≡ Some x → P x
all_at P [] k x all e = absurd cc
all_at P (y ∷ ys) zero x all e = let same : y ≡ x = cc in subst P same (all_first P y ys all).0
all_at P (y ∷ ys) (suc k) x all e = all_at P ys k x (all_first P y ys all).1 e

pub at_right : {A : Type 0} (xs ys : List A) (k : ℕ) → slice_get (xs ++ ys) (length xs + k) ≡ slice_get ys k
at_right [] ys k = let same : 0 + k ≡ k = omega arith in ap (slice_get ys) same
at_right (x ∷ xs) ys k = let same : suc (length xs) + k ≡ suc (length xs + k) = omega arith in ap (slice_get (x ∷ (xs ++ ys))) same ∙ at_right xs ys k

pub at_repeated : {A : Type 0} (n k : ℕ) (x : A) → k < n → slice_get (replicate n x) k ≡ Some x
at_repeated zero k x few = absurd (omega (arith, few))
at_repeated (suc n) zero x few = refl
at_repeated (suc n) (suc k) x few = at_repeated n k x (omega (arith, few))

past_first : {A : Type 0} (xs : List A) (k : ℕ) → slice_get (drop 1 xs) k ≡ slice_get xs (suc k)
past_first [] k = refl
past_first (x ∷ xs) k = refl

pub at_fixed : (sort : Sort) (n k : ℕ) (first : List Datum) → k < n → slice_get (fixed_cells sort n first) k ≡ Some (Fixes sort (slice_get first k))
at_fixed sort zero k first few = absurd (omega (arith, few))
at_fixed sort (suc n) zero first few = refl
at_fixed sort (suc n) (suc k) first few = at_fixed sort n k (drop 1 first) (omega (arith, few)) ∙ ap (λ (o : Option Datum). Some (Fixes sort o)) (past_first first k)

-- each row takes the places after those of the rows before it
flat_at : {A B : Type 0} (f : A → List B) (xs : List A) (row k : ℕ) (x : A) → slice_get xs row ≡ Some x → k < length (f x)
    → slice_get (flat_map f xs) (sum (take row (map (λ y. length (f y)) xs)) + k) ≡ slice_get (f x) k
flat_at f [] row k x e few = absurd cc
flat_at f (y ∷ ys) zero k x e few =
    let same : y ≡ x = cc in
    let start : 0 + k ≡ k = omega arith in
    let within : k < length (f y) = subst (λ (z : _). k < length (f z)) (sym same) few in
    ap (slice_get (f y ++ flat_map f ys)) start ∙ at_left (f y) (flat_map f ys) k within ∙ ap (λ (z : _). slice_get (f z) k) same
flat_at f (y ∷ ys) (suc row) k x e few =
    let more : ℕ = sum (take row (map (λ z. length (f z)) ys)) in
    let start : sum (length (f y) ∷ take row (map (λ z. length (f z)) ys)) ≡ length (f y) + more = sum_by-cons (λ n. n) (length (f y)) (take row (map (λ z. length (f z)) ys)) in
    let place : sum (length (f y) ∷ take row (map (λ z. length (f z)) ys)) + k ≡ length (f y) + (more + k) = omega (arith, start) in
    ap (slice_get (f y ++ flat_map f ys)) place ∙ at_right (f y) (flat_map f ys) (more + k) ∙ flat_at f ys row k x e few

abbrev pub cell_count : Kind → ℕ
cell_count kind = length (cells_of kind)

pub fixed_count : (sort : Sort) (n : ℕ) (first : List Datum) → n ≡ length (fixed_cells sort n first)
fixed_count sort zero first = refl
fixed_count sort (suc n) first = ap suc (fixed_count sort n (drop 1 first))

owned_count : (variable : Bool) (sort : Sort) (len : Option ℕ) (first : List Datum) → width len ≡ cell_count (kind_in variable sort len first)
owned_count true sort len first = sym (length-replicate (width len) (Holds sort))
owned_count false sort len first = fixed_count sort (width len) first

param_count : (mode : Mode) (sort : Sort) → 1 ≡ cell_count (kind_by mode sort)
param_count modes.Value sort = refl
param_count modes.Inout sort = refl
param_count modes.Var sort = refl
param_count modes.Pers sort = refl

loop_counts : (loops : ℕ) → replicate loops 3 ≡ map cell_count (replicate loops Counts)
loop_counts zero = refl
loop_counts (suc n) = ap (λ (l : List ℕ). 3 ∷ l) (loop_counts n)

own_counts : (locals : List TypedLocal) (loops : ℕ)
    → map width (map (λ row. row.len) locals) ++ replicate loops 3 ≡ map cell_count (map local_kind locals ++ replicate loops Counts)
own_counts [] loops = loop_counts loops
own_counts (row ∷ rows) loops =
    ap (λ (n : ℕ). n ∷ (map width (map (λ r. r.len) rows) ++ replicate loops 3)) (owned_count row.variable row.sort row.len row.first)
    ∙ ap (λ (l : List ℕ). cell_count (local_kind row) ∷ l) (own_counts rows loops)

row_counts : (params : List TypedParam) (locals : List TypedLocal) (loops : ℕ)
    → map width (replicate (length params) None ++ map (λ row. row.len) locals) ++ replicate loops 3
    ≡ map cell_count (map kind_of params ++ (map local_kind locals ++ replicate loops Counts))
row_counts [] locals loops = own_counts locals loops
row_counts (p ∷ ps) locals loops =
    ap (λ (n : ℕ). n ∷ (map width (replicate (length ps) None ++ map (λ row. row.len) locals) ++ replicate loops 3)) (param_count p.mode p.sort)
    ∙ ap (λ (l : List ℕ). cell_count (kind_of p) ∷ l) (row_counts ps locals loops)

-- a place of a row of a routine
pub local_row : (routine : TypedRoutine) (row k : ℕ) (kind : Kind) (cell : Cell) → slice_get (kinds_of routine) row ≡ Some kind → slice_get (cells_of kind) k ≡ Some cell → k < cell_count kind
    → slice_get (local_cells routine) (local_start routine row + k) ≡ Some cell
local_row routine row k kind cell e at few =
    ap (λ (l : List ℕ). slice_get (local_cells routine) (sum (take row l) + k)) (row_counts routine.params routine.locals routine.loops)
    ∙ flat_at cells_of (kinds_of routine) row k kind e few ∙ at

slot_counts : (slots : List TypedSlot) → map (λ row. width row.len) slots ≡ map cell_count (map slot_kind slots)
slot_counts [] = refl
slot_counts (row ∷ rows) =
    ap (λ (n : ℕ). n ∷ map (λ r. width r.len) rows) (owned_count row.variable row.sort row.len row.first) ∙ ap (λ (l : List ℕ). cell_count (slot_kind row) ∷ l) (slot_counts rows)

slot_there : (slots : List TypedSlot) (row : ℕ) (s : TypedSlot) → slice_get slots row ≡ Some s → slice_get (map slot_kind slots) row ≡ Some (slot_kind s)
slot_there [] row s e = absurd cc
slot_there (x ∷ xs) zero s e = let same : x ≡ s = cc in ap (λ (y : TypedSlot). Some (slot_kind y)) same
slot_there (x ∷ xs) (suc row) s e = slot_there xs row s e

-- a place of a row of the modules
pub slot_row : (tree : TypedTree) (row k : ℕ) (s : TypedSlot) (cell : Cell) → slice_get tree.slots row ≡ Some s → slice_get (cells_of (slot_kind s)) k ≡ Some cell → k < cell_count (slot_kind s)
    → slice_get (slot_cells tree) (slot_start tree row + k) ≡ Some cell
slot_row tree row k s cell e at few =
    ap (λ (l : List ℕ). slice_get (slot_cells tree) (sum (take row l) + k)) (slot_counts tree.slots)
    ∙ flat_at cells_of (map slot_kind tree.slots) row k (slot_kind s) (slot_there tree.slots row s e) few ∙ at

-- a place of a row of data
pub record OwnCell (written : Bool) (kind : Kind) (k : ℕ) (sort : Sort) : Type 0 where
  pub cell : Cell
  pub there : slice_get (cells_of kind) k ≡ Some cell
  pub has : HasType written cell sort
  pub few : k < cell_count kind

pub own_cell : (written : Bool) (kind : Kind) (k : ℕ) (sort : Sort) (len : Option ℕ) → IsOwn written kind sort len → k < width len → OwnCell written kind k sort
own_cell written (Owns own n) k sort len is few =
    let same : width n ≡ width len = ap width is.1 in
    let many = length-replicate (width n) (Holds own) in
    record { cell = Holds own; there = at_repeated (width n) k (Holds own) (omega (arith, few, same)); has = is.0; few = omega (arith, few, same, many) }
own_cell written (Keeps own n first) k sort len is few =
    let same : width n ≡ width len = ap width is.1 in
    let many = fixed_count own (width n) first in
    record { cell = Fixes own (slice_get first k); there = at_fixed own (width n) k first (omega (arith, few, same)); has = (is.2, is.0); few = omega (arith, few, same, many) }
own_cell written (Refers own) k sort len is few = absurd is
own_cell written Counts k sort len is few =
    let one : width len ≡ 1 = ap width is.1 in
    record { cell = Holds sorts.Num; there = at_repeated 3 k (Holds sorts.Num) (omega (arith, few, one)); has = sym is.0; few = omega (arith, few, one) }

-- the length of an array of a routine
loop_len : (written : Bool) (loops row : ℕ) (kind : Kind) (sort : Sort) (len : Option ℕ) → slice_get (replicate loops Counts) row ≡ Some kind → IsOwn written kind sort len → len ≡ None
loop_len written zero row kind sort len e own = absurd cc
loop_len written (suc n) zero kind sort len e own = let same : kind ≡ Counts = cc in (subst (λ (x : Kind). IsOwn written x sort len) same own).1
loop_len written (suc n) (suc row) kind sort len e own = loop_len written n row kind sort len e own

row_len : (written variable : Bool) (own sort : Sort) (n len : Option ℕ) (first : List Datum) → IsOwn written (kind_in variable own n first) sort len → n ≡ len
row_len written true own sort n len first is = is.1
row_len written false own sort n len first is = is.1

own_len : (written : Bool) (locals : List TypedLocal) (loops row : ℕ) (kind : Kind) (sort : Sort) (len : Option ℕ)
    → slice_get (map local_kind locals ++ replicate loops Counts) row ≡ Some kind → IsOwn written kind sort len
    → option_and_then (λ l. l) (slice_get (map (λ r. r.len) locals) row) ≡ len
own_len written [] loops row kind sort len e own = sym (loop_len written loops row kind sort len e own)
own_len written (x ∷ xs) loops zero kind sort len e own =
    let same : kind ≡ local_kind x = cc in row_len written x.variable x.sort sort x.len len x.first (subst (λ (y : Kind). IsOwn written y sort len) same own)
own_len written (x ∷ xs) loops (suc row) kind sort len e own = own_len written xs loops row kind sort len e own

param_len : (written : Bool) (mode : Mode) (sort own : Sort) (len : Option ℕ) → IsOwn written (kind_by mode own) sort len → None ≡ len
param_len written modes.Value sort own len is = is.1
param_len written modes.Inout sort own len is = absurd is
param_len written modes.Var sort own len is = absurd is
param_len written modes.Pers sort own len is = absurd is

any_len : (written : Bool) (params : List TypedParam) (locals : List TypedLocal) (loops row : ℕ) (kind : Kind) (sort : Sort) (len : Option ℕ)
    → slice_get (map kind_of params ++ (map local_kind locals ++ replicate loops Counts)) row ≡ Some kind → IsOwn written kind sort len
    → option_and_then (λ l. l) (slice_get (replicate (length params) None ++ map (λ r. r.len) locals) row) ≡ len
any_len written [] locals loops row kind sort len e own = own_len written locals loops row kind sort len e own
any_len written (p ∷ ps) locals loops zero kind sort len e own =
    let same : kind ≡ kind_of p = cc in param_len written p.mode sort p.sort len (subst (λ (y : Kind). IsOwn written y sort len) same own)
any_len written (p ∷ ps) locals loops (suc row) kind sort len e own = any_len written ps locals loops row kind sort len e own

pub local_len : (tree : TypedTree) (routine : TypedRoutine) (written : Bool) (row : ℕ) (kind : Kind) (sort : Sort) (len : Option ℕ) → slice_get (kinds_of routine) row ≡ Some kind
    → IsOwn written kind sort len → length_at tree routine (tree_roots.Local row) ≡ len
local_len tree routine written row kind sort len e own = any_len written routine.params routine.locals routine.loops row kind sort len e own

pub slot_len : (written : Bool) (slot : TypedSlot) (sort : Sort) (len : Option ℕ) → IsOwn written (slot_kind slot) sort len → slot.len ≡ len
slot_len written slot sort len is = row_len written slot.variable slot.sort sort slot.len len slot.first is
