use Rattle.std.proofs.Common.{refl, rules}
use Rattle.history_text.specs.Named.{view_names}
use Rattle.history_text.proofs.OneLine.{event_there, no_event_again, no_event_fits, no_event_read}
use Rattle.history_text.proofs.one_line.read_event.Goals as goal

pub returns-in_default : goal.returns-in_default
returns-in_default c = (refl, λ first. no_event_read (view_names c.args.names.now) c.args.text.now c.requires (search rules))

pub returns-then-not-event_fits : goal.returns-then-not-event_fits
returns-then-not-event_fits c = (refl, λ first. no_event_fits (view_names c.args.names.now) c.args.text.now c.in-Some.event c.requires (search rules) (search rules))

pub returns-in_default-after_event : goal.returns-in_default-after_event
returns-in_default-after_event c = (refl, λ first. no_event_again (view_names c.args.names.now) c.args.text.now c.in-Some.event c.requires (search rules) (search rules))

pub returns : goal.returns
returns c = record {
  first = search rules;
  event = c.in-Some.event;
  begins = event_there (view_names c.args.names.now) c.args.text.now c.in-Some.event c.in-Some-after_event.more.now c.event_is_in_range.ensures (search rules) (search rules);
  added = search rules;
}
