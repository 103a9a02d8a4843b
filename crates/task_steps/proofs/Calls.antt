-- Routines that are entered.
use Rattle.std.proofs.Common.{◌≡◌, refl, sym, ap, ◌∙◌, ℕ, ◌<◌, ◌≤◌, List, [], ◌∷◌, length, reverse, take, drop, Bool, true, false, Option, None, Some, slice_get, if◌then◌else◌, le-leb}
use Rattle.std.proofs.lemmas.Bool.{lt-leb}
use Rattle.rapid_model.specs.declared.answer.Answer.TheVariants as answers
use Rattle.rapid_model.specs.declared.fate.Fault.TheVariants.{DepthLimit}
use Rattle.typed_trees.specs.declared.datum.Datum.{Datum}
use Rattle.rapid_meaning.specs.Answering.{performed}
use Rattle.rapid_meaning.specs.Data.{Data, with_seen}
use Rattle.rapid_meaning.specs.Doings.{Doing, Gives, Misfit, Writes, ◌>>◌, after, done, fault}
use Rattle.rapid_meaning.specs.Frames.{has_room}
use Rattle.stack_code.specs.CodeData.{CodeData}
use Rattle.stack_code.specs.Confs.{Conf, Saved, Called, Trapped, begun, conf}
use Rattle.stack_code.specs.Entering.{enter, entered, frame_in}
use Rattle.stack_code.specs.Steps.{Here, calls, looked, to_next}
use Rattle.stack_code.specs.declared.routine_row.RoutineRow.{RoutineRow}
use Rattle.task_steps.specs.Alike.{Alike}
use Rattle.task_steps.specs.Points.{Point, Waiting, conf_in, fresh, point, saved_in}
use Rattle.task_steps.proofs.Along.{alike_is, alike_then}
use Rattle.task_steps.proofs.Readings.{reads_now, writes_now}

-- a routine that is entered, with and without room
abbrev entering : CodeData → ℕ → RoutineRow → List Datum → List Saved → Data → Bool → Doing Conf
entering code routine row args saved d room =
    (if room then Writes (record d { frames = frame_in code row args ∷ d.frames }) done else fault DepthLimit) >> Gives (conf row.entry [] (begun routine) saved)

enters_by : (code : CodeData) (routine : ℕ) (row : RoutineRow) (args : List Datum) (saved : List Saved) (d : Data) (room : Bool) → has_room d.frames (frame_in code row args) ≡ room
    → Alike code (entered code routine row args saved) d (entering code routine row args saved d room) d
unfolding after
enters_by code routine row args saved d room is =
    alike_then code _ _ _ d d d (reads_now code (λ (e : Data). entering code routine row args saved e (has_room e.frames (frame_in code row args))) d)
    (alike_is code _ _ d (ap (entering code routine row args saved d) is))

-- it begins if its frame has room
pub enter_stands : (code : CodeData) (routine : ℕ) (row : RoutineRow) (args : List Datum) (saved : List Waiting) (d e : Data) (p : Point)
    → has_room d.frames (frame_in code row args) ≡ true → p ≡ point row.entry [] (fresh routine) saved → e ≡ record d { frames = frame_in code row args ∷ d.frames }
    → Alike code (entered code routine row args (saved_in code saved)) d (Gives (conf_in code p)) e
unfolding after
enter_stands code routine row args saved d e p room here moved =
    rw (here, moved) (alike_then code _ _ _ d d _ (enters_by code routine row args (saved_in code saved) d true room)
    (writes_now code (record d { frames = frame_in code row args ∷ d.frames }) (Gives (conf row.entry [] (begun routine) (saved_in code saved))) d))

-- else it is a fault
pub enter_floods : (code : CodeData) (routine : ℕ) (row : RoutineRow) (args : List Datum) (saved : List Saved) (d : Data)
    → has_room d.frames (frame_in code row args) ≡ false → Alike code (entered code routine row args saved) d (fault DepthLimit) d
unfolding after
enter_floods code routine row args saved d room = enters_by code routine row args saved d false room

-- by the routine's number
pub enter_by : (code : CodeData) (routine : ℕ) (row : RoutineRow) (args : List Datum) (saved : List Saved) → slice_get code.routines routine ≡ Some row
    → enter code routine args saved ≡ entered code routine row args saved
unfolding after
enter_by code routine row args saved there = rw there refl

pub enter_none : (code : CodeData) (routine : ℕ) (args : List Datum) (saved : List Saved) → slice_get code.routines routine ≡ None → enter code routine args saved ≡ Misfit
unfolding after
enter_none code routine args saved there = rw there refl

-- a call of a routine that has its arguments
pub call_by : (h : Here) (routine : ℕ) (row : RoutineRow) → slice_get h.code.routines routine ≡ Some row → row.args ≤ length h.conf.stack
    → calls h routine ≡ entered h.code routine row (reverse (take row.args h.conf.stack)) (Called h.conf.pc h.own (drop row.args h.conf.stack) h.conf.frame ∷ h.conf.saved)
unfolding after
call_by h routine row there enough = let all = le-leb row.args (length h.conf.stack) enough in rw (there, all) refl

pub call_lacks : (h : Here) (routine : ℕ) (row : RoutineRow) → slice_get h.code.routines routine ≡ Some row → length h.conf.stack < row.args → calls h routine ≡ Misfit
unfolding after
call_lacks h routine row there few = let all = lt-leb row.args (length h.conf.stack) few in rw (there, all) refl

pub call_none : (h : Here) (routine : ℕ) → slice_get h.code.routines routine ≡ None → calls h routine ≡ Misfit
unfolding after
call_none h routine there = rw there refl

-- the answers to a Look
pub look_goes : (code : CodeData) (h : Here) (seen : ℕ) (d : Data) → Alike code (looked h (answers.Go seen)) d (to_next h h.conf.stack) (record d { frames = with_seen seen d.frames })
unfolding performed after
look_goes code h seen d = record { same = λ left. refl }

pub look_traps : (code : CodeData) (h : Here) (number trap : ℕ) (d : Data)
    → Alike code (looked h (answers.Trap number trap)) d (enter h.code trap [] (Trapped h.conf.pc h.conf.frame h.conf.way ∷ h.conf.saved)) (record d { trapped = true })
unfolding performed after
look_traps code h number trap d = record { same = λ left. refl }

-- the row that was read from the code
pub rows_of : (code read : CodeData) (rows : List RoutineRow) → read ≡ code → rows ≡ read.routines → (k : ℕ) (o : Option RoutineRow) → slice_get rows k ≡ o → slice_get code.routines k ≡ o
rows_of code read rows same all k o is = ap (λ (x : CodeData). slice_get x.routines k) (sym same) ∙ (ap (λ (xs : List RoutineRow). slice_get xs k) (sym all) ∙ is)
