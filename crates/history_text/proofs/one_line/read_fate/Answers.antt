use Rattle.std.proofs.Common.{rules}
use Rattle.history_text.specs.Named.{view_names}
use Rattle.history_text.proofs.OneLine.{fate_there, no_fate_again, no_fate_read, task_there}
use Rattle.history_text.proofs.one_line.read_fate.Goals as goal

pub returns-in_default-fate_line_at-clause-none : goal.returns-in_default-fate_line_at-clause-none
returns-in_default-fate_line_at-clause-none c = no_fate_read (view_names c.args.names.now) c.args.done c.in-Some.row.now c.args.text.now (task_there _ _ _ c.in-Some.ensures.lookup.3.0 c.in-Some.ensures.lookup.1) (search rules)

pub returns-in_default-after_fate-clause-none : goal.returns-in_default-after_fate-clause-none
returns-in_default-after_fate-clause-none c = no_fate_again (view_names c.args.names.now) c.args.done c.in-Some.row.now c.args.text.now c.in-Some-fate_line_at.fate (task_there _ _ _ c.in-Some.ensures.lookup.3.0 c.in-Some.ensures.lookup.1) (search rules) (search rules)

pub returns-clause-some : goal.returns-clause-some
returns-clause-some c =
    fate_there (view_names c.args.names.now) c.args.done c.in-Some.row.now c.args.text.now c.in-Some-fate_line_at.fate c.in-Some-after_fate.more.now (task_there _ _ _ c.in-Some.ensures.lookup.3.0 c.in-Some.ensures.lookup.1) c.fate_is_in_range.ensures (search rules)
