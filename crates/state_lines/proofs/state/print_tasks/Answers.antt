use Rattle.std.proofs.Common.{List, ap, subst, sym, ◌∙◌}
use Rattle.std.specs.Prelude.{All, Option, Result, ⊤}
use Rattle.state_text.specs.StateLines.{SourcesData, tasks_lines}
use Rattle.outside.specs.declared.failed.Failed.{Failed}
use Rattle.state_lines.specs.Sources.{sources_in, view_modules}
use Rattle.cell_loading.specs.Loaded.{AreShort, IsWithin, bytes_of}
use Rattle.cell_loading.specs.declared.module_texts.ModuleTexts.{ModuleTexts}
use Rattle.run_lines.proofs.PrintingList.{writes_same}
use Rattle.state_lines.proofs.PrintingState.{modules_seen, no_sources, script_short, texts_short, trees_in, wrote_nothing}
use Rattle.state_lines.proofs.state.print_tasks.Goals as goal

pub print_each-requires-clause-files : goal.print_each-requires-clause-files
print_each-requires-clause-files g c = script_short c.in-Some.modules.script c.as_slice-tasks.result.now c.steps-steps.ensures.limits (c.as_slice-tasks.ensures ∙ c.tasks.ensures)

pub print_each-requires-clause-texts : goal.print_each-requires-clause-texts
print_each-requires-clause-texts g c = texts_short c.args.modules.now c.in-Some.modules c.as_slice.result.now c.in-Some.is c.requires c.as_slice.ensures.value

pub returns-in-Some : goal.returns-in-Some
returns-in-Some g c =
    writes_same _ _ _ _
    (ap (λ (sources : List SourcesData). tasks_lines c.args.names.now.tasks.now (trees_in c.args.trees.now) sources c.args.states.now)
    (modules_seen c.args.modules.now c.in-Some.modules c.as_slice-tasks.result.now c.as_slice.result.now c.in-Some.is (c.as_slice-tasks.ensures ∙ c.tasks.ensures) c.as_slice.ensures.value)) c.print_each.ensures

pub returns-in-None : goal.returns-in-None
returns-in-None g c =
    wrote_nothing _ _
    (ap (λ (modules : Option ModuleTexts). tasks_lines c.args.names.now.tasks.now (trees_in c.args.trees.now) (view_modules modules) c.args.states.now) c.in-None.is
    ∙ no_sources c.args.names.now.tasks.now (trees_in c.args.trees.now) c.args.states.now)
