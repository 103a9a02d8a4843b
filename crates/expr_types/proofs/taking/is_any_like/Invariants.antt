use Rattle.std.proofs.Common.{◌≡◌, map, drop}
use Rattle.std.specs.List.{list_any}
use Rattle.rapid_builtins.specs.declared.instruction_option.InstructionOption.{InstructionOption}
use Rattle.expr_types.specs.Calls.{is_like}
use Rattle.expr_types.proofs.taking.is_any_like.Given as goal

abbrev pub invariant-loop-option : goal.invariant-loop-option
invariant-loop-option l =
    list_any (is_like l.name) (map (λ (o : InstructionOption). o.name.now) (drop l.option-index l.options))
    ≡ list_any (is_like l.name) (map (λ (o : InstructionOption). o.name.now) l.options)
