-- An operation of the current statement, at a place.
use Rattle.std.proofs.Common.{◌≡◌, subst, ℕ, List, Some}
use Rattle.typed_trees.specs.declared.datum.Datum.{Datum}
use Rattle.rapid_meaning.specs.Doings.{Doing}
use Rattle.stack_code.specs.Confs.{Conf}
use Rattle.stack_code.specs.Placed.{placed_at}
use Rattle.stack_code.specs.declared.op.Op.{Op}
use Rattle.code_laws.proofs.Sim.{Sim}
use Rattle.code_laws.proofs.Spots.{Spot, failing, standing}

-- it is here
abbrev pub OpAt : Spot → ℕ → Op → Type 0
OpAt s pc op = placed_at s.target.code pc ≡ Some (record { own = s.own; op = op })

-- what leads to one place leads to an equal one
pub ends_at : {A : Type 0} (s : Spot) (x : Doing Conf) (m : Doing A) (left : A → List Datum) (a b : ℕ) → a ≡ b
    → Sim s.target s.run x m (λ v. standing s a (left v)) (failing s) → Sim s.target s.run x m (λ v. standing s b (left v)) (failing s)
ends_at s x m left a b e sim = subst (λ (pc : ℕ). Sim s.target s.run x m (λ v. standing s pc (left v)) (failing s)) e sim
