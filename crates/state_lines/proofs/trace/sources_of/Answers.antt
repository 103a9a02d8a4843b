use Rattle.std.proofs.Common.{List, ap, sym, ◌∙◌}
use Rattle.std.specs.Prelude.{Option, slice_index_or}
use Rattle.state_text.specs.StateLines.{SourcesData}
use Rattle.state_text.specs.TraceLines.{no_sources}
use Rattle.state_lines.specs.Sources.{view_modules}
use Rattle.cell_loading.specs.declared.module_texts.ModuleTexts.{ModuleTexts}
use Rattle.state_lines.proofs.PrintingState.{modules_seen, script_short, texts_short}
use Rattle.state_lines.proofs.trace.sources_of.Goals as goal

pub sources_at-requires-clause-files : goal.sources_at-requires-clause-files
sources_at-requires-clause-files c = script_short c.in-Some.modules.script c.as_slice-tasks.result.now c.steps-steps.ensures.limits (c.as_slice-tasks.ensures ∙ c.tasks.ensures)

pub sources_at-requires-clause-texts : goal.sources_at-requires-clause-texts
sources_at-requires-clause-texts c = texts_short c.args.modules.now c.in-Some.modules c.as_slice.result.now c.in-Some.is c.requires c.as_slice.ensures.value

pub returns-in-Some-clause-sources : goal.returns-in-Some-clause-sources
returns-in-Some-clause-sources c =
    c.sources_at.ensures.sources
    ∙ ap (λ (all : List SourcesData). slice_index_or all c.args.actor no_sources)
    (modules_seen c.args.modules.now c.in-Some.modules c.as_slice-tasks.result.now c.as_slice.result.now c.in-Some.is (c.as_slice-tasks.ensures ∙ c.tasks.ensures) c.as_slice.ensures.value)

pub returns-in-None-clause-sources : goal.returns-in-None-clause-sources
returns-in-None-clause-sources c = ap (λ (modules : Option ModuleTexts). slice_index_or (view_modules modules) c.args.actor no_sources) (sym c.in-None.is)
