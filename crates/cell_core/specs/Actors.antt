-- What an actor's own events amount to.
use Rattle.std.specs.Prelude.{ℕ, ◌+◌, Bool, false, List, Option, None, option_map, slice_index_or, if◌then◌else◌}
use Rattle.std.specs.Option.{option_or}
use Rattle.rapid_num.specs.declared.joints.Joints.{Joints}
use Rattle.rapid_model.specs.Own.{fate_of, is_hold, is_leave, is_trap}
use Rattle.rapid_model.specs.declared.answer.Answer.{Answer}
use Rattle.rapid_model.specs.declared.request.Request.{Request}
use Rattle.rapid_model.specs.Truths.{one_if}
use Rattle.cell_meaning.specs.Motion.{moved, is_given}
use Rattle.cell_meaning.specs.Rising.{seen_with}
use Rattle.cell_core.specs.declared.actor.Actor.{Actor}

-- before its first event, with its arm at the start, if it has one
abbrev pub before : Option Joints → Actor
before arm = record { arm = arm; end = None; held = false; seen = 0; given = 0; begun = 0; left = 0; events = 0; made = 0 }

-- after one more event of its own, which may have changed something that tasks wait for
abbrev pub actor_with : Actor → Bool → Request → Answer → Actor
actor_with actor changes request answer = record {
  arm = option_map (λ position. moved position request answer) actor.arm;
  end = option_or actor.end (fate_of request);
  held = is_hold request;
  seen = seen_with actor.seen request;
  given = actor.given + one_if (is_given request answer);
  begun = actor.begun + one_if (is_trap answer);
  left = actor.left + one_if (is_leave request);
  events = actor.events + 1;
  made = actor.made + one_if changes;
}

-- the actor with this number
abbrev pub actor_at : List Actor → ℕ → Actor
actor_at actors number = slice_index_or actors number (before None)
