-- Interrupts on worked examples.
use Rattle.std.proofs.Common.{◌≡◌, true, false, List, [], ◌∷◌, ◌++◌, refl}
use Rattle.std.specs.Prelude.{pos}
use Rattle.rapid_model.specs.declared.answer.Answer.{Answer}
use Rattle.rapid_model.specs.declared.answer.Answer.TheVariants as answers
use Rattle.rapid_model.specs.declared.event.Event.{Event}
use Rattle.rapid_model.specs.declared.request.Request.{Request}
use Rattle.rapid_model.specs.declared.request.Request.TheVariants as requests
use Rattle.rapid_model.specs.declared.value.Value.TheVariants as values
use Rattle.rapid_model.specs.declared.watched.Watched.TheVariants as watched
use Rattle.cell_meaning.specs.Answers.{answer_after}
use Rattle.cell_meaning.proofs.ExampleCell.{cell, second, cleared, written}
use Rattle.cell_meaning.proofs.MoreEvents.{event}

-- what the cell answers to task A
abbrev to_a : List Event → Request → Answer
to_a history request = answer_after cell history 0 request

abbrev connected : Event
connected = event 0 (requests.Connect 0 7) (answers.Number 1)

-- once, as the output is cleared
abbrev ordered : Event
ordered = event 0 (requests.Order 1 (watched.Signal 1 false) true) answers.Ok

abbrev both : List Event
both = connected ∷ ordered ∷ []

first_number : to_a [] (requests.Connect 0 7) ≡ answers.Number 1
first_number = refl

next_number : to_a (connected ∷ []) (requests.Connect 0 8) ≡ answers.Number 2
next_number = refl

is_connected : to_a (connected ∷ []) (requests.Connect 1 8) ≡ answers.Already
is_connected = refl

not_connected : to_a [] (requests.Order 1 (watched.Pers 0) false) ≡ answers.Unknown
not_connected = refl

one_order : to_a both (requests.Order 1 (watched.Pers 0) false) ≡ answers.Already
one_order = refl

fires : to_a (both ++ cleared ∷ []) requests.Look ≡ answers.Trap 1 7
fires = refl

-- only for the task that ordered it
not_of_b : answer_after cell (both ++ cleared ∷ []) 1 requests.Look ≡ answers.Go 0
not_of_b = refl

-- writing the same value fires nothing
no_change : to_a (both ++ event 1 (requests.WriteS 1 true) answers.Ok ∷ []) requests.Look ≡ answers.Go 0
no_change = refl

-- nor does an interrupt that sleeps, nor is it queued
asleep : to_a (both ++ event 0 (requests.Sleep 1) answers.Ok ∷ cleared ∷ event 0 (requests.Watch 1) answers.Ok ∷ []) requests.Look ≡ answers.Go 1
asleep = refl

-- disabled interrupts are held back, not lost
disabled : to_a (both ++ event 0 requests.Disable answers.Ok ∷ cleared ∷ []) requests.Look ≡ answers.Go 1
disabled = refl

enabled_later : to_a (both ++ event 0 requests.Disable answers.Ok ∷ cleared ∷ event 0 requests.Enable answers.Ok ∷ []) requests.Look ≡ answers.Trap 1 7
enabled_later = refl

-- the trap takes the number off the queue, and the Single order has ended
in_trap : to_a (both ++ cleared ∷ event 0 requests.Look (answers.Trap 1 7) ∷ []) requests.Look ≡ answers.Go 1
in_trap = refl

order_ended : to_a (both ++ cleared ∷ []) (requests.Order 1 (watched.Pers 0) false) ≡ answers.Ok
order_ended = refl

-- a deleted number no longer waits
deleted : to_a (both ++ cleared ∷ event 0 (requests.Delete 1) answers.Ok ∷ []) requests.Look ≡ answers.Go 1
deleted = refl

persistent_fires : to_a (connected ∷ event 0 (requests.Order 1 (watched.Pers 0) false) answers.Ok ∷ written ∷ []) requests.Look ≡ answers.Trap 1 7
persistent_fires = refl

-- what fired before it is disabled waits, and so does what fired before it sleeps
queued_first : to_a (both ++ cleared ∷ event 0 requests.Disable answers.Ok ∷ event 0 requests.Enable answers.Ok ∷ []) requests.Look ≡ answers.Trap 1 7
queued_first = refl

still_queued : to_a (both ++ cleared ∷ event 0 (requests.Sleep 1) answers.Ok ∷ []) requests.Look ≡ answers.Trap 1 7
still_queued = refl

-- the least free number, not the one after the greatest
abbrev three : List Event
three = connected ∷ event 0 (requests.Connect 0 8) (answers.Number 2) ∷ event 0 (requests.Connect 0 9) (answers.Number 3) ∷ []

least_number : to_a (three ++ event 0 (requests.Delete 2) answers.Ok ∷ []) (requests.Connect 0 10) ≡ answers.Number 2
least_number = refl

-- the end of a trap that disabled interrupts enables none
abbrev twice : List Event
twice = connected ∷ event 0 (requests.Order 1 (watched.Pers 0) false) answers.Ok ∷ written ∷ event 0 requests.Look (answers.Trap 1 7) ∷ event 1 (requests.WriteP 0 second (values.Num (pos 4000))) answers.Ok ∷ []

trap_ended : to_a (twice ++ event 0 requests.Leave answers.Ok ∷ []) requests.Look ≡ answers.Trap 1 7
trap_ended = refl

disabled_in_trap : to_a (twice ++ event 0 requests.Disable answers.Ok ∷ event 0 requests.Leave answers.Ok ∷ []) requests.Look ≡ answers.Go 2
disabled_in_trap = refl
