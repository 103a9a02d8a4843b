use Rattle.std.proofs.Common.{◌≡◌, ◌++◌, length, take}
use Rattle.std.specs.Prelude.{flat_map}
use Rattle.stack_code.specs.Firsts.{in_full}
use Rattle.code_compiler.proofs.firsts.add_locals.Given as goal

abbrev pub invariant-loop-local : goal.invariant-loop-local
invariant-loop-local l = record {
  firsts : in_full l.firsts.items ≡ in_full l.initial.firsts.items ++ flat_map (λ row. row.first) (take l.local-index l.locals);
  count : l.count ≡ length (flat_map (λ row. row.first) (take l.local-index l.locals));
}
