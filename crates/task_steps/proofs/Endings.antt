-- Ends of routines and of ERROR parts.
use Rattle.std.proofs.Common.{◌≡◌, refl, sym, subst, ◌+◌, List, [], ◌∷◌, Option, None}
use Rattle.rapid_model.specs.declared.fate.Fate.TheVariants as fates
use Rattle.rapid_model.specs.declared.request.Request.TheVariants.{Leave}
use Rattle.rapid_model.specs.declared.value.Value.{Value}
use Rattle.typed_trees.specs.declared.datum.Datum.{Datum}
use Rattle.rapid_meaning.specs.Answering.{performed}
use Rattle.rapid_meaning.specs.Data.{Data}
use Rattle.rapid_meaning.specs.Doings.{Doing, Gives, Ends, Misfit, after}
use Rattle.rapid_meaning.specs.Flows.{Way}
use Rattle.stack_code.specs.CodeData.{CodeData}
use Rattle.stack_code.specs.Confs.{Conf}
use Rattle.stack_code.specs.Raising.{returned, with_result}
use Rattle.task_steps.specs.Alike.{Alike}
use Rattle.task_steps.specs.Doing.{effect, here_of}
use Rattle.task_steps.specs.Points.{Point, Waiting, Started, Called, Trapped, conf_in, saved_in}
use Rattle.task_steps.specs.declared.steps.done.Done.TheVariants as dones
use Rattle.task_steps.specs.declared.requests.pending.Pending.TheVariants as pendings
use Rattle.task_steps.proofs.Errors.{left_data}

pub back_started : (code : CodeData) (saved below : List Waiting) (d e : Data) (v : Option Value) → saved ≡ Started ∷ below → e ≡ left_data d
    → Alike code (returned (saved_in code saved) v) d (Ends fates.Done) e
unfolding performed after saved_in
back_started code saved below d e v is moved = rw (is, moved) (record { same = λ left. refl })

-- a routine that was called waits outside a move
pub back_called : (code : CodeData) (saved : List Waiting) (p : Point) (d e : Data) (v : Option Value) → saved ≡ Called p.pc p.stack p.frame ∷ p.saved → p.way ≡ None → e ≡ left_data d
    → Alike code (returned (saved_in code saved) v) d (Gives (conf_in code (record p { pc = p.pc + 1; stack = with_result v p.stack }))) e
unfolding performed after saved_in
back_called code saved p d e v is outside moved =
    let left : Doing Conf = returned (saved_in code (Called p.pc p.stack p.frame ∷ p.saved)) v in
    let next : Option Way → Point = λ way. record p { pc = p.pc + 1; stack = with_result v p.stack; way = way } in
    let stands : Alike code left d (Gives (conf_in code (next None))) (left_data d) = record { same = λ left. refl } in
    let there : Alike code left d (Gives (conf_in code (next p.way))) (left_data d) =
    subst (λ (way : Option Way). Alike code left d (Gives (conf_in code (next way))) (left_data d)) (sym outside) stands in
    rw (is, moved) there

pub back_trapped : (code : CodeData) (saved : List Waiting) (p : Point) (d e : Data) (v : Option Value) → saved ≡ Trapped p.pc p.frame p.way ∷ p.saved → p.stack ≡ [] → e ≡ left_data d
    → Alike code (returned (saved_in code saved) v) d (effect (here_of code p) (dones.Ask Leave pendings.Left)) e
unfolding performed after saved_in
back_trapped code saved p d e v is empty moved =
    let left : Doing Conf = returned (saved_in code (Trapped p.pc p.frame p.way ∷ p.saved)) v in
    let stands : Alike code left d (effect (here_of code (record p { stack = [] })) (dones.Ask Leave pendings.Left)) (left_data d) = record { same = λ left. refl } in
    let there : Alike code left d (effect (here_of code p) (dones.Ask Leave pendings.Left)) (left_data d) =
    subst (λ (stack : List Datum). Alike code left d (effect (here_of code (record p { stack = stack })) (dones.Ask Leave pendings.Left)) (left_data d)) (sym empty) stands in
    rw (is, moved) there

pub back_none : (code : CodeData) (saved : List Waiting) (d e : Data) (v : Option Value) → saved ≡ [] → e ≡ left_data d → Alike code (returned (saved_in code saved) v) d Misfit e
unfolding performed after saved_in
back_none code saved d e v is moved = rw (is, moved) (record { same = λ left. refl })
