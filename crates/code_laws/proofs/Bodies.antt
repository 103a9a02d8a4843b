-- A routine that is running: where its statements lead, and where its errors go.
use Rattle.std.proofs.Common.{ℕ, List, [], Option, None, Some}
use Rattle.typed_trees.specs.Plain.{TypedTree}
use Rattle.rapid_meaning.specs.Answering.{Run}
use Rattle.rapid_meaning.specs.Doings.{Doing, Gives, Misfit}
use Rattle.rapid_meaning.specs.Flows.{Flow, Normal, Jumps, Returns, Retries, Skips, Way, Where}
use Rattle.stack_code.specs.Confs.{Conf, Failed, Running, Saved, behind_part, conf}
use Rattle.stack_code.specs.Placed.{Own}
use Rattle.stack_code.specs.Raising.{raised_out, returned}
use Rattle.stack_code.specs.StmtLayouts.{label_at}
use Rattle.code_laws.proofs.Sim.{Target}
use Rattle.code_laws.proofs.Spots.{Spot}

-- the places of its labels, the place of its statements, its frame, and what is saved below it
pub record Body : Type 0 where
  pub labels : List ℕ
  pub stands : Where
  pub frame : Running
  pub saved : List Saved

-- the operations of one of its statements
abbrev pub spot_of : Target → TypedTree → Run → Body → Own → Spot
spot_of t tree run b own = record { target = t; run = run; tree = tree; routine = b.stands.routine; own = own; frame = b.frame; saved = b.saved }

-- at a place, without operands
abbrev pub begins : Body → ℕ → Doing Conf
begins b pc = Gives (conf pc [] b.frame b.saved)

-- the same, in a move or outside one
abbrev pub begins_in : Body → ℕ → Option Way → Doing Conf
begins_in b pc way = Gives (record (conf pc [] b.frame b.saved) { way = way })

-- from an ERROR part to a place of the statement that failed
abbrev pub resumed : (Own → ℕ) → Body → Option Failed → Doing Conf
resumed place b None = Misfit
resumed place b (Some failed) = Gives (conf (place failed.own) [] (behind_part b.frame) b.saved)

-- where the end of a statement or a list leads: to the place after it, to a label, out of the routine, or, from an
-- ERROR part, to the statement that failed or to the place after that
abbrev pub lands : Body → ℕ → Flow → Doing Conf
lands b behind Normal = begins b behind
lands b behind (Jumps label) = begins b (label_at b.labels label)
lands b behind (Returns v) = returned b.saved v
lands b behind Retries = resumed (λ own. own.retry) b b.frame.failed
lands b behind Skips = resumed (λ own. own.next) b b.frame.failed

-- an error leaves the routine
abbrev pub leaving : Target → Body → ℕ → Doing Conf
leaving t b error = raised_out t.code b.saved error
