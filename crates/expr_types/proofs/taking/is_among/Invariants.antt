use Rattle.std.proofs.Common.{◌≡◌, map, drop}
use Rattle.rapid_model.specs.Names.{is_among}
use Rattle.rapid_builtins.specs.declared.instruction_option.InstructionOption.{InstructionOption}
use Rattle.expr_types.proofs.taking.is_among.Given as goal

abbrev pub invariant-loop-option : goal.invariant-loop-option
invariant-loop-option l =
    is_among l.name (map (λ (o : InstructionOption). o.name.now) (drop l.option-index l.options))
    ≡ is_among l.name (map (λ (o : InstructionOption). o.name.now) l.options)
