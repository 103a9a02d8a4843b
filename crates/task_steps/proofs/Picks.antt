-- Predefined functions, and the value of a signal.
use Rattle.std.proofs.Common.{◌≡◌, refl, sym, ap, subst, List, ◌∷◌, [], Option, Some}
use Rattle.rapid_model.specs.declared.function.Function.{Function}
use Rattle.rapid_model.specs.declared.function.Function.TheVariants as functions
use Rattle.rapid_model.specs.declared.value.Value.{Value}
use Rattle.typed_trees.specs.declared.datum.Datum.{Datum}
use Rattle.typed_trees.specs.declared.datum.Datum.TheVariants as datums
use Rattle.typed_trees.specs.declared.datum.Datum.TheVariants.{Plain}
use Rattle.rapid_meaning.specs.Doings.{Doing, Gives}
use Rattle.rapid_meaning.specs.Values.{bit_in}
use Rattle.stack_code.specs.Functions.{of_value}
use Rattle.stack_code.specs.CodeData.{CodeData}
use Rattle.stack_code.specs.Confs.{Conf, conf}
use Rattle.stack_code.specs.Operands.{on_value}
use Rattle.stack_code.specs.Steps.{Here, act, does, pushes}
use Rattle.stack_code.specs.declared.op.Op.TheVariants as ops
use Rattle.task_steps.specs.Alike.{popped, with_stack}
use Rattle.task_steps.specs.Doing.{came, here_of}
use Rattle.task_steps.specs.Seen.{Seen}
use Rattle.task_steps.specs.declared.steps.done.Done.{Done}

-- every predefined function but NumToStr takes one value
pub takes_one : (h : Here) (f : Function) → (f ≡ functions.NumToStr → ⊥) → act h (ops.Func f) ≡ on_value h.conf.stack (λ value rest. pushes h rest Plain (of_value f value))
takes_one h functions.NumToStr other = absurd (other refl)
takes_one h f other = refl

-- a value that was popped lay on top
pub lay_on_top : (c : Conf) (stack rest : List Datum) (v : Value) → ((next : Value → List Datum → Doing Conf) → on_value stack next ≡ popped (Some v) rest next) → stack ≡ Plain v ∷ rest
lay_on_top c stack rest v on = by stack (on (λ w more. Gives (conf c.pc (Plain w ∷ more) c.frame c.saved)))
  where
    by : (stack : List Datum) → on_value stack (λ w more. Gives (conf c.pc (Plain w ∷ more) c.frame c.saved)) ≡ Gives (conf c.pc (Plain v ∷ rest) c.frame c.saved) → stack ≡ Plain v ∷ rest
    by [] e = cc
    by (datums.Plain w ∷ more) e =
        let same : conf c.pc (Plain w ∷ more) c.frame c.saved ≡ conf c.pc (Plain v ∷ rest) c.frame c.saved = cc in ap (λ (d : Conf). d.stack) same
    by (datums.Mark n ∷ more) e = cc
    by (datums.Shape s ∷ more) e = cc
    by (datums.Place p ∷ more) e = cc

-- a num that is tested stays
pub stays : (code : CodeData) (s t : Seen) (v : Value) (done : Option Done) → t ≡ with_stack t.conf.stack s → s.conf.stack ≡ Plain v ∷ t.conf.stack
    → ((h : Here) → does (record h { conf = record h.conf { stack = Plain v ∷ h.conf.stack } }) (Plain v ∷ h.conf.stack) (bit_in v) ≡ came h done)
    → does (here_of code s.conf) s.conf.stack (bit_in v) ≡ came (here_of code t.conf) done
stays code s t v done same top finish =
    let stands : does (here_of code s.conf) s.conf.stack (bit_in v) ≡ came (here_of code (with_stack t.conf.stack s).conf) done =
    subst (λ (stack : List Datum). does (here_of code (record s.conf { stack = stack })) stack (bit_in v) ≡ came (here_of code (with_stack t.conf.stack s).conf) done) (sym top)
    (finish (here_of code (with_stack t.conf.stack s).conf)) in
    subst (λ (u : Seen). does (here_of code s.conf) s.conf.stack (bit_in v) ≡ came (here_of code u.conf) done) (sym same) stands
