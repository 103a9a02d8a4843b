use Rattle.std.proofs.Common.{◌≡◌, ◌+◌, ◌++◌, ℕ, Bool, List, Option, length, length-append, ◌∙◌, ap, arith}
use Rattle.std.specs.Prelude.{option_to_list}
use Rattle.rapid_limits.specs.declared.TheConstants.{MOST_ZONES}
use Rattle.rapid_model.specs.declared.watched.Watched.{Watched}
use Rattle.world_zones.specs.Zones.{arm_at}
use Rattle.cell_meaning.specs.Outputs.{output_of, with_outputs}
use Rattle.cell_meaning.proofs.OutputLists.{length-with_outputs}
use Rattle.cell_core.specs.Changes.{changed_outputs, outputs_change}
use Rattle.cell_core.proofs.ZoneByZone.{changed_more, first_outputs, one_changed, signals_more}
use Rattle.cell_core.proofs.outputs.set_all.Goals as goal

pub loop-index-preserved : goal.loop-index-preserved
loop-index-preserved c =
    let zones = arm_at c.args.zones.now c.args.actor in
    let at = c.args.at.now in
    let next = output_of zones (c.loop-index.index + 1) at in
    let so_far = first_outputs zones at c.loop-index.index in
    let added = changed_outputs c.loop-index.signals (option_to_list c.output-output.result) in
    record {
      signals = c.set.ensures.signals
          ∙ ap (λ (o : Option (ℕ × Bool)). with_outputs c.loop-index.signals (option_to_list o)) c.output-output.ensures
          ∙ ap (λ (signals : List Bool). with_outputs signals next) c.loop-index.invariant.signals
          ∙ signals_more c.args.signals.now zones at c.loop-index.index;
      changed = c.set.ensures.changed
          ∙ ap (λ (o : Option (ℕ × Bool)). c.loop-index.changed ++ changed_outputs c.loop-index.signals (option_to_list o)) c.output-output.ensures
          ∙ ap (λ (signals : List Bool). c.loop-index.changed ++ changed_outputs signals next) c.loop-index.invariant.signals
          ∙ ap (λ (changes : List Watched). changes ++ changed_outputs (with_outputs c.args.signals.now so_far) next) c.loop-index.invariant.changed
          ∙ changed_more c.args.signals.now zones at c.loop-index.index;
      few = omega (arith, ap length c.set.ensures.changed, length-append c.loop-index.changed added, one_changed c.loop-index.signals c.output-output.result, c.loop-index.invariant.few);
      count = ap length c.set.ensures.signals ∙ length-with_outputs c.loop-index.signals (option_to_list c.output-output.result) ∙ c.loop-index.invariant.count;
    }

pub returns-clause-change : goal.returns-clause-change
returns-clause-change c =
    let ended : c.loop-index.index ≡ MOST_ZONES = omega (arith, c.loop-index-test.false, c.loop-index.auto.index-end) in
    c.of_outputs.ensures
    ∙ ap outputs_change (c.loop-index.invariant.changed ∙ ap (λ (n : ℕ). changed_outputs c.args.signals.now (first_outputs (arm_at c.args.zones.now c.args.actor) c.args.at.now n)) ended)
