-- Rows of owners, made from laid out operations.
use Rattle.std.proofs.Common.{arith, ◌≡◌, refl, sym, subst, ◌∙◌, ap, eqb-true, ℕ, zero, suc, ◌+◌, ◌<◌, ◌==◌, ◌&&◌, length, true, List, [], ◌∷◌, map, Option, None, Some, slice_get}
use Rattle.std.proofs.lemmas.Bool.{and_parts}
use Rattle.std.proofs.lemmas.List.{length-map}
use Rattle.std.proofs.lemmas.Option.{slice_get-map}
use Rattle.std.specs.Option.{option_map, option_and_then}
use Rattle.typed_trees.specs.Plain.{TypedTree}
use Rattle.stack_code.specs.Compiled.{compiled, owner_row, owner_rows, placed_in, rows_from, same_own}
use Rattle.stack_code.specs.Placed.{Own, Placed, beside, own_of, owner_at}
use Rattle.stack_code.specs.declared.op.Op.{Op}
use Rattle.stack_code.specs.declared.owner.Owner.{Owner}
use Rattle.stack_code.proofs.Branches.{either}
use Rattle.task_code.specs.Owners.{Tiles}
use Rattle.task_code.proofs.Tiling.{chosen, passed}

same_is : (a b : Own) → same_own a b ≡ true → a ≡ b
same_is a b same =
    let last = and_parts (a.retry == b.retry && a.next == b.next && a.at.«module» == b.at.«module») (a.at.byte == b.at.byte) same in
    let place = and_parts (a.retry == b.retry && a.next == b.next) (a.at.«module» == b.at.«module») last.0 in
    let first = and_parts (a.retry == b.retry) (a.next == b.next) place.0 in
    let retry : a.retry ≡ b.retry = eqb-true _ _ first.0 in
    let next : a.next ≡ b.next = eqb-true _ _ first.1 in
    let number : a.at.«module» ≡ b.at.«module» = eqb-true _ _ place.1 in
    let byte : a.at.byte ≡ b.at.byte = eqb-true _ _ last.1 in
    built a.retry b.retry a.next b.next a.at.«module» b.at.«module» a.at.byte b.at.byte retry next number byte
  where
    own : ℕ → ℕ → ℕ → ℕ → Own
    own retry next number byte = record { retry = retry; next = next; at = record { «module» = number; byte = byte } }

    built : (r s n m p q x y : ℕ) → r ≡ s → n ≡ m → p ≡ q → x ≡ y → own r n p x ≡ own s m q y
    built r s n m p q x y e f g h = ap (λ k. own k n p x) e ∙ (ap (λ k. own s k p x) f ∙ (ap (λ k. own s m k x) g ∙ ap (λ k. own s m q k) h))

-- the rows tile as many operations as there are
rows_tile : (first past : ℕ) (own : Own) (ps : List Placed) → first < past → Tiles first (past + length ps) (rows_from first past own ps)
unfolding rows_from
rows_tile first past own [] below = (refl, below, omega arith)
rows_tile first past own (p ∷ ps) below =
    let moved : past + 1 + length ps ≡ past + suc (length ps) = omega arith in
    either (λ rows. Tiles first (past + suc (length ps)) rows) (rows_from first (past + 1) own ps) (owner_row first past own ∷ rows_from past (past + 1) p.own ps) (same_own p.own own)
    (λ e. subst (λ n. Tiles first n (rows_from first (past + 1) own ps)) moved (rows_tile first (past + 1) own ps (omega arith)))
    (λ e. (refl, below, subst (λ n. Tiles past n (rows_from past (past + 1) p.own ps)) moved (rows_tile past (past + 1) p.own ps (omega arith))))

pub all_tile : (ps : List Placed) → Tiles 0 (length ps) (owner_rows ps)
all_tile [] = refl
all_tile (p ∷ ps) = subst (λ n. Tiles 0 n (rows_from 0 1 p.own ps)) (omega arith) (rows_tile 0 1 p.own ps (omega arith))

-- the owners of a compiled tree tile its operations
pub tiled : (tree : TypedTree) → Tiles 0 (length (compiled tree).ops) (compiled tree).owners
tiled tree = subst (λ n. Tiles 0 n (compiled tree).owners) (sym (length-map (placed_in tree) (λ (p : Placed). p.op))) (all_tile (placed_in tree))

abbrev named_own : List Owner → ℕ → Option Own
named_own owners pc = option_map own_of (owner_at owners pc)

-- a place before the end of the row that is being made belongs to that row
named_first : (first past pc : ℕ) (own : Own) (ps : List Placed) → pc < past → named_own (rows_from first past own ps) pc ≡ Some own
unfolding rows_from owner_at
named_first first past pc own [] below = ap (option_map own_of) (chosen pc past (owner_row first past own) None below)
named_first first past pc own (p ∷ ps) below =
    either (λ rows. named_own rows pc ≡ Some own) (rows_from first (past + 1) own ps) (owner_row first past own ∷ rows_from past (past + 1) p.own ps) (same_own p.own own)
    (λ e. named_first first (past + 1) pc own ps (omega arith))
    (λ e. ap (option_map own_of) (chosen pc past (owner_row first past own) _ below))

-- any later place belongs to the owner of the operation there
named_rest : (first past k : ℕ) (own : Own) (ps : List Placed) (p : Placed) → slice_get ps k ≡ Some p → named_own (rows_from first past own ps) (past + k) ≡ Some p.own
unfolding rows_from owner_at
named_rest first past k own [] p there = cc
named_rest first past zero own (q ∷ ps) p there =
    let same : q ≡ p = cc in
    either (λ rows. named_own rows (past + zero) ≡ Some q.own) (rows_from first (past + 1) own ps) (owner_row first past own ∷ rows_from past (past + 1) q.own ps) (same_own q.own own)
    (λ e. named_first first (past + 1) (past + zero) own ps (omega arith) ∙ ap Some (sym (same_is q.own own e)))
    (λ e. ap (option_map own_of) (passed (past + zero) past (owner_row first past own) _ (omega arith)) ∙ named_first past (past + 1) (past + zero) q.own ps (omega arith))
    ∙ ap (λ (x : Placed). Some x.own) same
named_rest first past (suc k) own (q ∷ ps) p there =
    let moved : past + 1 + k ≡ past + suc k = omega arith in
    either (λ rows. named_own rows (past + suc k) ≡ Some p.own) (rows_from first (past + 1) own ps) (owner_row first past own ∷ rows_from past (past + 1) q.own ps) (same_own q.own own)
    (λ e. subst (λ n. named_own (rows_from first (past + 1) own ps) n ≡ Some p.own) moved (named_rest first (past + 1) k own ps p there))
    (λ e. ap (option_map own_of) (passed (past + suc k) past (owner_row first past own) _ (omega arith))
    ∙ subst (λ n. named_own (rows_from past (past + 1) q.own ps) n ≡ Some p.own) moved (named_rest past (past + 1) k q.own ps p there))

named_all : (ps : List Placed) (k : ℕ) (p : Placed) → slice_get ps k ≡ Some p → named_own (owner_rows ps) k ≡ Some p.own
named_all [] k p there = cc
named_all (q ∷ ps) zero p there =
    let e : q ≡ p = cc in
    named_first 0 1 0 q.own ps (omega arith) ∙ ap (λ (x : Placed). Some x.own) e
named_all (q ∷ ps) (suc k) p there = subst (λ n. named_own (rows_from 0 1 q.own ps) n ≡ Some p.own) (omega arith) (named_rest 0 1 k q.own ps p there)

-- the operation at a place, with the owner that is found there
abbrev found : Option Op → Option Owner → Option Placed
found op owner = option_and_then (λ o. option_map (λ w. beside w o) owner) op

joined : (owner : Option Owner) (p : Placed) → option_map own_of owner ≡ Some p.own → found (Some p.op) owner ≡ Some p
joined None p e = cc
joined (Some owner) p e =
    let same : own_of owner ≡ p.own = cc in
    ap (λ (own : Own). Some (record { own = own; op = p.op })) same

pub placed_there : (ps : List Placed) (pc : ℕ) → found (slice_get (map (λ (p : Placed). p.op) ps) pc) (owner_at (owner_rows ps) pc) ≡ slice_get ps pc
placed_there ps pc = ap (λ op. found op (owner_at (owner_rows ps) pc)) (slice_get-map (λ (p : Placed). p.op) ps pc) ∙ by (slice_get ps pc) refl
  where
    by : (there : Option Placed) → slice_get ps pc ≡ there → found (option_map (λ (p : Placed). p.op) there) (owner_at (owner_rows ps) pc) ≡ there
    by None e = refl
    by (Some p) e = joined (owner_at (owner_rows ps) pc) p (named_all ps pc p e)
