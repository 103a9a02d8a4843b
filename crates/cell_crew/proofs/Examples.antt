-- The definitions on a task that looks and ends, and a machine of it that counts the answers it got.
use Rattle.std.proofs.Common.{◌≡◌, ℕ, zero, suc, List, [], ◌∷◌, length, Option, Some, refl}
use Rattle.rapid_model.specs.declared.answer.Answer.{Answer}
use Rattle.rapid_model.specs.declared.answer.Answer.TheVariants as answers
use Rattle.rapid_model.specs.declared.event.Event.{Event}
use Rattle.rapid_model.specs.declared.fate.Fate.TheVariants as fates
use Rattle.rapid_model.specs.declared.request.Request.{Request}
use Rattle.rapid_model.specs.declared.request.Request.TheVariants.{Look, End}
use Rattle.cell_core.specs.Serving.{event_of}
use Rattle.cell_crew.specs.Crew.{answers_before_end}
use Rattle.cell_crew.specs.UnderWay.{UnderWay}

looked : Event
looked = event_of 0 Look (answers.Go 0)

told : Event
told = event_of 0 (End fates.Done) answers.Ok

counts : ℕ → List Answer → Type 0
counts m got = m ≡ length got

due : ℕ → Option Request
due zero = Some Look
due (suc m) = Some (End fates.Done)

the_end_is_left_out : answers_before_end (looked ∷ told ∷ []) ≡ answers.Go 0 ∷ []
unfolding looked told
the_end_is_left_out = refl

-- after its Look the machine has asked its End, and stays so when that is answered
under_way : UnderWay counts due 1 (looked ∷ [])
unfolding looked counts due
under_way = record { stands = refl; asked = refl }

has_ended : UnderWay counts due 1 (looked ∷ told ∷ [])
unfolding looked told counts due
has_ended = record { stands = refl; asked = refl }
