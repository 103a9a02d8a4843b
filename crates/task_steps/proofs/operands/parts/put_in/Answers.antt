use Rattle.std.proofs.Common.{◌≡◌, sym, ap, ◌∙◌, Some}
use Rattle.std.specs.Option.{option_map}
use Rattle.rapid_values.specs.Values.{put_part}
use Rattle.typed_trees.specs.declared.datum.Datum.TheVariants as datums
use Rattle.task_steps.proofs.Storings.{put_plain}
use Rattle.task_steps.proofs.operands.parts.put_in.Goals as goal

pub returns-in-Some : goal.returns-in-Some
returns-in-Some c =
    let new = c.in-Some-Some.new.now in
    let old = c.in-Some-Some.old.now in
    let whole = put_plain c.args.new.now c.args.old.now new old c.args.name (sym c.in-Some-Some.ensures) (sym c.in-Some-Some.ensures') in
    let put : put_part old c.args.name new ≡ Some c.in-Some.value = cc in
    rw c.of_value.ensures (sym (whole ∙ ap (option_map datums.Plain) put))
