-- How contracts see calls and places.
use Rattle.std.specs.Prelude.{List, map, Option, option_map}
use Rattle.rapid_builtins.specs.Calls.{row_of}
use Rattle.rapid_builtins.specs.declared.instruction_option.InstructionOption.{InstructionOption}
use Rattle.rapid_builtins.specs.declared.need.Need.{Need}
use Rattle.typed_trees.specs.declared.expr.Expr.{Expr}
use Rattle.typed_trees.specs.Plain.{TypedHeld, held_of, steps_of}
use Rattle.typed_trees.specs.Views.{view_expr, view_step}
use Rattle.named_data.specs.Data.{NamedPart}
use Rattle.expr_types.specs.declared.called.Called.{Called}
use Rattle.expr_types.specs.declared.needs.Needs.{Needs}
use Rattle.expr_types.specs.declared.needs.Needs.TheVariants.{Predefined, Params}
use Rattle.expr_types.specs.declared.place_part.PlacePart.{PlacePart}
use Rattle.expr_types.specs.declared.signature.Signature.{Signature}
use Rattle.expr_types.specs.declared.taking.Taking.{Taking}
use Rattle.expr_types.specs.declared.typed_chain.TypedChain.{TypedChain}
use Rattle.expr_types.specs.Calls
use Rattle.expr_types.specs.Calls.{need_of, with_zone}
use Rattle.expr_types.specs.Typing

abbrev pub view_needs : Needs → List Need
view_needs (Predefined needs zone) = map (with_zone zone) needs.now
view_needs (Params params) = map need_of params.now

abbrev pub view_signature : Signature → Calls.Signature
view_signature s = record { needs = view_needs s.needs; options = map row_of s.options.now; choice = s.choice; arm = s.arm }

abbrev pub view_called : Called → Calls.Called
view_called c = record { callee = c.callee; signature = view_signature c.signature; sort = c.sort }

abbrev pub view_taking : Taking → Calls.Taking
view_taking t = record {
  needs = view_needs t.needs;
  options = map row_of t.options.now;
  choice = t.choice;
  before = map (λ (o : InstructionOption). o.name.now) t.before.items;
}

abbrev pub view_held : Option Expr → TypedHeld
view_held index = held_of (option_map view_expr index)

abbrev pub view_part : PlacePart → NamedPart
view_part p = record { source = p.source; array = p.array; index = view_held p.index; part = p.part; sort = p.sort }

abbrev pub view_chain : TypedChain → Typing.TypedRest
view_chain c = record { steps = steps_of (map view_step c.steps.items); sort = c.sort }
