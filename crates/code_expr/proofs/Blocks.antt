-- Blocks and the operations appended to them.
use Rattle.std.proofs.Common.{◌≡◌, ℕ, ◌+◌, List, [], ◌∷◌, ◌++◌, length, map, refl, sym, ap, ◌∙◌, arith}
use Rattle.std.proofs.lemmas.List.{append-nil}
use Rattle.stack_code.specs.Placed.{Own, Placed}
use Rattle.stack_code.specs.declared.op.Op.{Op}
use Rattle.code_expr.specs.Adds.{Adds, end_of, owned}
use Rattle.code_expr.specs.Follows.{Code}
use Rattle.code_expr.specs.declared.block.Block.{Block}

pub ops_owned : (own : Own) (ops : List Op) → map (λ (p : Placed). p.op) (owned own ops) ≡ ops
ops_owned own [] = refl
ops_owned own (op ∷ ops) = ap (λ more. op ∷ more) (ops_owned own ops)

-- the operations of a block that was empty
pub fresh_block : (own : Own) (a b : Block) (n : ℕ) (code : Code) → a.ops.items ≡ [] → Adds own a b n code → b.ops.items ≡ map (λ (p : Placed). p.op) (code a.start [])
fresh_block own a b n code none h =
    let all : owned own b.ops.items ++ [] ≡ owned own a.ops.items ++ code (end_of a) [] = ap (λ (x : ℕ × List Placed). x.1) (h.laid []) in
    let here : end_of a ≡ a.start = omega (arith, ap length none) in
    sym (ops_owned own b.ops.items)
    ∙ ap (map (λ (p : Placed). p.op))
    (sym (append-nil (owned own b.ops.items))
    ∙ (all
    ∙ (ap (λ ops. owned own ops ++ code (end_of a) []) none ∙ ap (λ pc. code pc []) here)))
