use Rattle.std.proofs.Common.{◌∙◌, sym, ap, map}
use Rattle.stack_code.specs.Firsts.{in_full}
use Rattle.machine_stacks.specs.Starts.{index_of}
use Rattle.task_steps.proofs.routines.loaded.LoadedCode.new.Goals as goal

pub invariant_of-result : goal.invariant_of-result
invariant_of-result c = record {
  values = ap in_full c.in-Ok.ensures ∙ c.firsts.ensures;
  indexes = ap (λ runs. map (index_of runs) c.in-Ok-starts_of.starts.items) (sym c.deref.ensures.value) ∙ c.in-Ok-starts_of.ensures.indexes ∙ ap (λ rows. map (λ row. row.first) rows) c.routines.ensures;
  named = rw (c.deref-2.ensures.value, c.marks.ensures.owners, c.ops.ensures) at c.in-Ok-owner_numbers.ensures;
}
