-- Code that goes on is at an operation.
use Rattle.std.proofs.Common.{◌≡◌, refl, sym, ap, ◌∙◌, arith, ℕ, zero, suc, ◌<◌, ◌≤◌, List, [], ◌∷◌, length, Option, None, Some, get_or, slice_get}
use Rattle.std.proofs.lemmas.Option.{slice_get_read}
use Rattle.std.specs.Option.{option_and_then, option_map}
use Rattle.rapid_meaning.specs.Data.{Data}
use Rattle.rapid_meaning.specs.Doings.{Gives}
use Rattle.stack_code.specs.CodeData.{CodeData}
use Rattle.stack_code.specs.Confs.{Conf}
use Rattle.stack_code.specs.Placed.{beside, own_of, owner_at}
use Rattle.stack_code.specs.Steps.{act, act_at, step}
use Rattle.stack_code.specs.declared.op.Op.{Op}
use Rattle.stack_code.specs.declared.owner.Owner.{Owner}
use Rattle.task_code.specs.Leads.{Runs}
use Rattle.task_code.proofs.Leading.{runs_misfit, runs_step}
use Rattle.task_steps.specs.Doing.{here_of}
use Rattle.task_steps.specs.Points.{Point, conf_in, no_own, own_at}
use Rattle.task_code.specs.Owners.{Tiles, resumed}
use Rattle.task_code.specs.declared.how.How.{How}
use Rattle.task_code.specs.declared.how.How.TheVariants.{Retry, Next}
use Rattle.task_code.proofs.Tiling.{passed}
use Rattle.std.specs.Option.{unwrap_or}

-- an element that is there is within its list
there_within : {A : Type 0} (xs : List A) (k : ℕ) (x : A) → slice_get xs k ≡ Some x → k < length xs
there_within [] k x e = cc
there_within (y ∷ ys) zero x e = omega arith
there_within (y ∷ ys) (suc k) x e = let below = there_within ys k x e in omega (arith, below)

some_op : (code : CodeData) (c : Conf) (d : Data) (op : Option Op) (owner : Option Owner) → Runs code (act_at code c (option_and_then (λ o. option_map (λ w. beside w o) owner) op)) d
    → (o : Op) × (w : Owner) × (op ≡ Some o) × (owner ≡ Some w)
some_op code c d None owner run = absurd (runs_misfit code d run)
some_op code c d (Some o) None run = absurd (runs_misfit code d run)
some_op code c d (Some o) (Some w) run = (o, w, refl, refl)

-- the operation there, and its owner
pub stands_at : (code : CodeData) (c : Conf) (d : Data) → Runs code (step code c) d → (o : Op) × (w : Owner) × (slice_get code.ops c.pc ≡ Some o) × (owner_at code.owners c.pc ≡ Some w)
stands_at code c d run = some_op code c d (slice_get code.ops c.pc) (owner_at code.owners c.pc) run

pub runs_within : (code : CodeData) (c : Conf) (d : Data) → Runs code (step code c) d → c.pc < length code.ops
runs_within code c d run = let it = stands_at code c d run in there_within code.ops c.pc it.0 it.2

pub gives_within : (code : CodeData) (c : Conf) (d : Data) → Runs code (Gives c) d → c.pc < length code.ops
gives_within code c d run = let next = runs_step code c d run in runs_within code c d next.0

-- a step is what the operation there does
pub step_is : (code : CodeData) (p : Point) (o : Op) (w : Owner) → slice_get code.ops p.pc ≡ Some o → owner_at code.owners p.pc ≡ Some w → step code (conf_in code p) ≡ act (here_of code p) o
step_is code p o w there owned = rw (there, owned) refl

-- the operation read there
pub step_reads : (code : CodeData) (p : Point) (d : Data) (xs : List Op) (pc : ℕ) (o : Op) → Runs code (step code (conf_in code p)) d → xs ≡ code.ops → pc ≡ p.pc → o ≡ get_or xs pc o
    → step code (conf_in code p) ≡ act (here_of code p) o
step_reads code p d xs pc o run all place read =
    let it = stands_at code (conf_in code p) d run in
    let within : p.pc < length code.ops = runs_within code (conf_in code p) d run in
    let here : o ≡ get_or code.ops p.pc o = read ∙ (ap (λ (ys : List Op). get_or ys pc o) all ∙ ap (λ (k : ℕ). get_or code.ops k o) place) in
    step_is code p o it.1 (slice_get_read code.ops (length code.ops) p.pc o refl within here) it.3

-- where a statement is resumed, by an owner that is there
pub resumed_there : (how : How) (o : Option Owner) (to : ℕ) → option_map (λ owner. resumed how (own_of owner)) o ≡ Some to → to ≡ resumed how (unwrap_or (option_map own_of o) no_own)
resumed_there how None to e = cc
resumed_there how (Some owner) to e = let same : resumed how (own_of owner) ≡ to = cc in sym same

pub resumed_nowhere : (how : How) → resumed how no_own ≡ 0
resumed_nowhere Retry = refl
resumed_nowhere Next = refl

-- a place without an operation has no owner
tiles_rise : (from count : ℕ) (xs : List Owner) → Tiles from count xs → from ≤ count
tiles_rise from count [] t = omega arith
tiles_rise from count (o ∷ more) t = let rest = tiles_rise o.past count more t.2 in let here = t.1 in omega (arith, rest, here)

none_behind : (from count pc : ℕ) (xs : List Owner) → Tiles from count xs → count ≤ pc → owner_at xs pc ≡ None
unfolding owner_at
none_behind from count pc [] t above = refl
none_behind from count pc (o ∷ more) t above =
    let end = tiles_rise o.past count more t.2 in
    passed pc o.past o (owner_at more pc) (omega (arith, end)) ∙ none_behind o.past count pc more t.2 above

pub own_is : (code : CodeData) (pc : ℕ) (owner : Owner) → owner_at code.owners pc ≡ Some owner → own_at code pc ≡ own_of owner
own_is code pc owner there = ap (λ (o : Option Owner). unwrap_or (option_map own_of o) no_own) there

pub own_none : (code : CodeData) (pc : ℕ) → Tiles 0 (length code.ops) code.owners → length code.ops ≤ pc → own_at code pc ≡ no_own
own_none code pc tiled behind = ap (λ (o : Option Owner). unwrap_or (option_map own_of o) no_own) (none_behind 0 (length code.ops) pc code.owners tiled behind)
