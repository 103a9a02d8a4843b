-- The definitions on worked examples: stored values, changes, arms and fates.
use Rattle.std.proofs.Common.{◌≡◌, true, false, List, [], ◌∷◌, ◌++◌, refl}
use Rattle.std.specs.Prelude.{pos}
use Rattle.rapid_model.specs.declared.answer.Answer.TheVariants as answers
use Rattle.rapid_model.specs.declared.event.Event.{Event}
use Rattle.rapid_model.specs.declared.fate.Fate.TheVariants as fates
use Rattle.rapid_model.specs.declared.request.Request.TheVariants as requests
use Rattle.rapid_model.specs.declared.value.Value.TheVariants as values
use Rattle.rapid_model.specs.declared.watched.Watched.TheVariants as watched
use Rattle.rapid_model.specs.declared.zone_name.ZoneName.TheVariants as zones
use Rattle.cell_meaning.specs.Answers.{answer_after}
use Rattle.cell_meaning.specs.Changes.{changes_of, is_change, changes_by_others}
use Rattle.cell_meaning.specs.Counted.{counted}
use Rattle.cell_meaning.specs.Fates.{is_spent, fates_after}
use Rattle.cell_meaning.specs.Stored.{signal_after, persistent_after}
use Rattle.cell_meaning.proofs.ExampleCell.{joints_at, cell, second, cleared, written, went}
use Rattle.cell_meaning.proofs.MoreEvents.{event}

signal_written : signal_after cell (cleared ∷ []) 1 ≡ false
signal_written = refl

-- a refused write changes nothing
signal_tied : signal_after cell (event 1 (requests.WriteS 1 false) answers.Tied ∷ []) 1 ≡ true
signal_tied = refl

signal_fed : signal_after cell (event 2 (requests.Input 0) answers.Ok ∷ []) 0 ≡ true
signal_fed = refl

element_written : persistent_after cell (written ∷ []) 0 ≡ values.Num (pos 1000) ∷ values.Num (pos 3000) ∷ []
element_written = refl

element_read : answer_after cell (written ∷ []) 0 (requests.ReadP 0 second) ≡ answers.Val (values.Num (pos 3000))
element_read = refl

-- a write of another value is a change, a write of the same value is not
what_changed : changes_of cell [] cleared ≡ watched.Signal 1 false ∷ []
what_changed = refl

which_persistent : changes_of cell [] written ≡ watched.Pers 0 ∷ []
which_persistent = refl

another_value : is_change cell [] cleared ≡ true
another_value = refl

same_value : is_change cell (cleared ∷ []) cleared ≡ false
same_value = refl

same_element : is_change cell (written ∷ []) written ≡ false
same_element = refl

-- an actor sees only the changes of others
two_changes : answer_after cell (cleared ∷ cleared ∷ written ∷ []) 0 requests.Look ≡ answers.Go 2
two_changes = refl

no_own_change : changes_by_others cell (cleared ∷ written ∷ []) 1 ≡ 0
no_own_change = refl

moves : answer_after cell (went ∷ []) 0 requests.Position ≡ answers.At (joints_at (pos 1000))
moves = refl

-- an arm stopped by a zone has not moved
stopped : answer_after cell (event 0 (requests.Setpoint (joints_at (pos 1000))) (answers.Stopped (zones.Cell 0)) ∷ []) 0 requests.Position ≡ answers.At (joints_at (pos 0))
stopped = refl

not_counted : counted (event 2 (requests.Input 0) answers.Ok ∷ event 0 (requests.End fates.Done) answers.Ok ∷ cleared ∷ []) ≡ 1
not_counted = refl

-- one task has ended, and the four steps are counted
abbrev four : List Event
four = event 0 (requests.End fates.Exit) answers.Ok ∷ cleared ∷ cleared ∷ cleared ∷ cleared ∷ []

spent : is_spent cell four ≡ true
spent = refl

one_is_cut : fates_after cell four 2 ≡ fates.Exit ∷ fates.Cut ∷ []
one_is_cut = refl

-- where the last task ends after the last step, the run is not spent
abbrev ended_last : List Event
ended_last = four ++ event 1 (requests.End fates.Done) answers.Ok ∷ []

not_spent : is_spent cell ended_last ≡ false
not_spent = refl

both_ended : fates_after cell ended_last 2 ≡ fates.Exit ∷ fates.Done ∷ []
both_ended = refl

-- a held task is Cut if no step is left, and Held if one is
held_is_cut : fates_after cell (cleared ∷ cleared ∷ cleared ∷ event 0 (requests.Hold 3) answers.Ok ∷ []) 1 ≡ fates.Cut ∷ []
held_is_cut = refl

held_is_held : fates_after cell (cleared ∷ cleared ∷ event 0 (requests.Hold 2) answers.Ok ∷ []) 1 ≡ fates.Held ∷ []
held_is_held = refl
