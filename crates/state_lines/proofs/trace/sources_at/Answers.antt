use Rattle.std.proofs.Common.{◌≡◌, ◌-◌, ap, arith, subst, sym, ◌∙◌}
use Rattle.std.specs.Prelude.{All, List, ℕ, Vec, slice_index_or}
use Rattle.std.specs.declared.alloc.Global.{Global}
use Rattle.std.proofs.lemmas.List.Elements.{All-take}
use Rattle.state_text.specs.TraceLines.{no_sources}
use Rattle.state_lines.specs.Sources.{sources_in}
use Rattle.cell_loading.specs.Loaded.{IsWithin, bytes_of}
use Rattle.state_lines.proofs.PrintingState.{files_short, within_later}
use Rattle.state_lines.proofs.PrintingTrace.{sources_here, sources_later, sources_past}
use Rattle.state_lines.proofs.trace.sources_at.Goals as goal

pub loop-k-init : goal.loop-k-init
loop-k-init c = record {
  later = omega arith;
  within = c.requires.texts;
  same =
      let all : c.args.number ≡ c.args.number - 0 = omega arith in
      ap (λ (n : ℕ). slice_index_or (sources_in c.args.tasks.now (bytes_of c.args.texts.now)) n no_sources) all;
}

pub loop-k-preserved : goal.loop-k-preserved
loop-k-preserved c = record {
  later = let apart = c.if-k-number.false in omega (arith, c.loop-k.invariant.later, apart);
  within = within_later c.loop-k.rest.now c.after_first-rest.result.now c.len-own.result c.after_first-rest.ensures c.loop-k.invariant.within;
  same =
      c.loop-k.invariant.same
      ∙ sources_later c.args.tasks.now c.loop-k.rest.now c.after_first-rest.result.now c.loop-k.k c.args.number c.len-own.result _ (omega arith)
      (let apart = c.if-k-number.false in omega (arith, c.loop-k.invariant.later, apart)) c.index-tasks-k.is c.len-own.ensures c.after_first-rest.ensures;
}

pub returns-then-k-number-clause-sources : goal.returns-then-k-number-clause-sources
returns-then-k-number-clause-sources c =
    sources_here c.args.tasks.now c.loop-k.rest.now c.first_of.result.now c.loop-k.k c.args.number c.len-own.result _ c.as_slice.result.now (omega arith) c.if-k-number.true c.index-tasks-k.is c.len-own.ensures
    c.as_slice.ensures c.first_of.ensures
    ∙ sym c.loop-k.invariant.same

pub returns-then-k-number-clause-files : goal.returns-then-k-number-clause-files
returns-then-k-number-clause-files c = files_short c.args.tasks.now c.loop-k.k _ c.as_slice.result.now (omega arith) c.index-tasks-k.is c.as_slice.ensures c.requires.files

pub returns-then-k-number-clause-texts : goal.returns-then-k-number-clause-texts
returns-then-k-number-clause-texts c =
    subst (λ (texts : List (Vec ℕ Global)). All IsWithin texts) (sym c.first_of.ensures) (All-take IsWithin c.len-own.result c.loop-k.rest.now c.loop-k.invariant.within)

pub returns-clause-sources : goal.returns-clause-sources
returns-clause-sources c = sym (c.loop-k.invariant.same ∙ sources_past c.args.tasks.now c.loop-k.rest.now c.loop-k.k _ (omega arith))
