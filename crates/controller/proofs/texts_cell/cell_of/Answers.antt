use Rattle.std.proofs.Common.{Some, ◌∙◌}
use Rattle.std.proofs.lemmas.List.{length-map}
use Rattle.typed_trees.specs.Views.{view_tree}
use Rattle.controller.specs.Accepted.{ActionReads}
use Rattle.cell_loading.specs.Loaded.{file_names, made_of, reads_in}
use Rattle.controller.proofs.Accepting.{checked_has_script}
use Rattle.cell_loading.proofs.Checking.{checks_told}
use Rattle.controller.proofs.Exits.{check_refused}
use Rattle.sink_lines.proofs.Gains.{gained_none}
use Rattle.controller.proofs.texts_cell.cell_of.Goals as goal

pub returns-in-Ok-clause-script : goal.returns-in-Ok-clause-script
returns-in-Ok-clause-script g c =
    checked_has_script c.args.script.now (reads_in c.args.modules.now) (made_of c.in-Ok.accepted) c.steps.ensures.limits c.requires.spelled c.in-Ok.ensures.gives
    (length-map c.in-Ok.accepted.trees.items view_tree ∙ c.in-Ok.ensures.one_each)

pub returns-in-Err-clause-refused : goal.returns-in-Err-clause-refused
returns-in-Err-clause-refused g c = λ gave held.
    check_refused (file_names c.args.command.now.script.now c.args.files.now) (ActionReads (Some c.args.command.now.action) gave c.args.command.now.history.now) c.args.script.now (reads_in c.args.modules.now) c.in-Err.refused _ _ _ c.in-Err.ensures.gives (record {
      refused_is = c.refuse_file.ensures.refused;
      status = c.refuse_file.ensures.status;
      history = c.refuse_file.ensures.history;
      fates = c.refuse_file.ensures.fates;
      printed = gained_none _;
      calls = gained_none _;
      told = c.refuse_file.ensures.told;
    })

pub returns-in-Err-clause-causes : goal.returns-in-Err-clause-causes
returns-in-Err-clause-causes g c = λ old new.
    checks_told old new c.args.script.now (reads_in c.args.modules.now) c.refuse_file.result.refused c.in-Err.refused c.in-Err.ensures.gives c.refuse_file.ensures.refused
