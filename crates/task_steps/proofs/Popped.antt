-- What an operation does with operands that it has popped.
use Rattle.std.proofs.Common.{◌≡◌, refl, sym, ap, ◌∙◌, subst, ℕ, List, ◌∷◌, Option}
use Rattle.rapid_num.specs.declared.shape.Shape.{Shape}
use Rattle.rapid_model.specs.declared.value.Value.{Value}
use Rattle.machine_stacks.specs.Forms.{as_mark, as_shape, as_value}
use Rattle.typed_trees.specs.declared.datum.Datum.{Datum}
use Rattle.typed_trees.specs.declared.datum.Datum.TheVariants as datums
use Rattle.stack_code.specs.Operands.{on_mark, on_shape, on_value}
use Rattle.rapid_meaning.specs.Doings.{Doing}
use Rattle.stack_code.specs.CodeData.{CodeData}
use Rattle.stack_code.specs.Confs.{Conf}
use Rattle.stack_code.specs.Steps.{Here}
use Rattle.task_steps.specs.Alike.{popped, with_stack}
use Rattle.task_steps.specs.Doing.{came, gone, here_of}
use Rattle.task_steps.specs.Seen.{Seen}
use Rattle.task_steps.specs.declared.steps.done.Done.{Done}
use Rattle.task_steps.specs.declared.steps.way.Way.{Way}

-- one operand after another
pub with_more : (s0 s1 s2 : Seen) → s1 ≡ with_stack s1.conf.stack s0 → s2 ≡ with_stack s2.conf.stack s1 → s2 ≡ with_stack s2.conf.stack s0
with_more s0 s1 s2 first second = second ∙ ap (λ (s : Seen). with_stack s2.conf.stack s) first

-- what is done with the operands that are left, if it looks at none of those before
pub ends_at : (code : CodeData) (s0 s : Seen) (K : Here → List Datum → Doing Conf) (done : Option Done) → s ≡ with_stack s.conf.stack s0
    → ((h : Here) → K h h.conf.stack ≡ came h done) → ((h : Here) (stack rest : List Datum) → K (record h { conf = record h.conf { stack = stack } }) rest ≡ K h rest)
    → K (here_of code s0.conf) s.conf.stack ≡ came (here_of code s.conf) done
ends_at code s0 s K done same finish stable =
    let stands : K (here_of code s0.conf) s.conf.stack ≡ came (here_of code (with_stack s.conf.stack s0).conf) done =
    sym (stable (here_of code s0.conf) s.conf.stack s.conf.stack) ∙ finish (here_of code (with_stack s.conf.stack s0).conf) in
    subst (λ (t : Seen). K (here_of code s0.conf) s.conf.stack ≡ came (here_of code t.conf) done) (sym same) stands

-- the same if what is done looks at the code
pub ends_here : (code : CodeData) (s0 s : Seen) (K : Here → List Datum → Doing Conf) (done : Option Done) → s ≡ with_stack s.conf.stack s0
    → K (here_of code s.conf) s.conf.stack ≡ came (here_of code s.conf) done → ((h : Here) (stack rest : List Datum) → K (record h { conf = record h.conf { stack = stack } }) rest ≡ K h rest)
    → K (here_of code s0.conf) s.conf.stack ≡ came (here_of code s.conf) done
ends_here code s0 s K _ same finish stable =
    sym (stable (here_of code s0.conf) s.conf.stack s.conf.stack) ∙ ap (λ (t : Seen). K (here_of code t.conf) s.conf.stack) (sym same) ∙ finish

-- and how the machine goes on then
pub goes_at : (code : CodeData) (s0 s : Seen) (K : Here → List Datum → Doing Conf) (way : Option Way) → s ≡ with_stack s.conf.stack s0
    → ((t : Seen) → K (here_of code t.conf) t.conf.stack ≡ gone code way t) → ((h : Here) (stack rest : List Datum) → K (record h { conf = record h.conf { stack = stack } }) rest ≡ K h rest)
    → K (here_of code s0.conf) s.conf.stack ≡ gone code way s
goes_at code s0 s K way same finish stable =
    let stands : K (here_of code s0.conf) s.conf.stack ≡ gone code way (with_stack s.conf.stack s0) =
    sym (stable (here_of code s0.conf) s.conf.stack s.conf.stack) ∙ finish (with_stack s.conf.stack s0) in
    subst (λ (t : Seen). K (here_of code s0.conf) s.conf.stack ≡ gone code way t) (sym same) stands

-- an operand of each form, on top
pub value_on : (x : Datum) (rest : List Datum) (next : Value → List Datum → Doing Conf) → on_value (x ∷ rest) next ≡ popped (as_value x) rest next
value_on (datums.Plain v) rest next = refl
value_on (datums.Mark n) rest next = refl
value_on (datums.Shape s) rest next = refl
value_on (datums.Place p) rest next = refl

pub mark_on : (x : Datum) (rest : List Datum) (next : ℕ → List Datum → Doing Conf) → on_mark (x ∷ rest) next ≡ popped (as_mark x) rest next
mark_on (datums.Plain v) rest next = refl
mark_on (datums.Mark n) rest next = refl
mark_on (datums.Shape s) rest next = refl
mark_on (datums.Place p) rest next = refl

pub shape_on : (x : Datum) (rest : List Datum) (next : Option Shape → List Datum → Doing Conf) → on_shape (x ∷ rest) next ≡ popped (as_shape x) rest next
shape_on (datums.Plain v) rest next = refl
shape_on (datums.Mark n) rest next = refl
shape_on (datums.Shape s) rest next = refl
shape_on (datums.Place p) rest next = refl
