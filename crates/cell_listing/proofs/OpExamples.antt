-- Operations as text, worked by hand.
use Rattle.std.proofs.Common.{◌≡◌, refl, true, false, pos, [], ◌∷◌}
use Rattle.std.specs.Prelude.{codes, map}
use Rattle.std.specs.Fmt.{digits}
use Rattle.rapid_model.specs.declared.function.Function.TheVariants as functions
use Rattle.rapid_model.specs.declared.part_name.PartName.TheVariants as parts
use Rattle.rapid_model.specs.declared.sort.Sort.TheVariants as sorts
use Rattle.rapid_model.specs.declared.value.Value.{Value}
use Rattle.rapid_model.specs.declared.value.Value.TheVariants as values
use Rattle.rapid_model.specs.declared.operator.Operator.TheVariants as operators
use Rattle.stack_code.specs.declared.op.Op.{Op}
use Rattle.stack_code.specs.declared.op.Op.TheVariants as ops
use Rattle.stack_code.specs.declared.order_on.OrderOn.TheVariants as orders
use Rattle.stack_code.specs.declared.tail_kind.TailKind.TheVariants as tails
use Rattle.typed_trees.specs.declared.datum.Datum.TheVariants.{Plain}
use Rattle.cell_listing.specs.OpListing.{op_text}

abbrev push : Value → Op
push v = ops.Push (Plain v)

-- IF a > 2.5 TPWrite "a"\Num:=a; and after it the end of the routine
listing : map op_text (ops.Look ∷ ops.Slot 0 ∷ ops.Load ∷ push (values.Num (pos 2_500)) ∷ ops.Binary operators.Greater ∷ ops.JumpFalse 11 ∷ ops.Look ∷ push (values.Text (codes "a")) ∷ ops.Slot 0 ∷ ops.Load ∷ ops.Say tails.Num ∷ ops.Back ∷ [])
    ≡ codes "Look" ∷ codes "Slot 0" ∷ codes "Load" ∷ codes "Push 2.5" ∷ codes "Binary Greater" ∷ codes "JumpFalse 11" ∷ codes "Look" ∷ codes "Push \"a\"" ∷ codes "Slot 0" ∷ codes "Load" ∷ codes "Say Num" ∷ codes "Back" ∷ []
unfolding digits
listing = refl

forms : map op_text (ops.Part (parts.Axis 6) ∷ ops.Index 12 ∷ ops.Pack sorts.JointTarget ∷ ops.Func functions.NumToStr ∷ ops.Turn 0 26 ∷ ops.Order (orders.Signal 3) true ∷ ops.Order (orders.Pers 2) false ∷ ops.Shape true false ∷ push (values.Bool true) ∷ [])
    ≡ codes "Part .extax.eax_a" ∷ codes "Index 12" ∷ codes "Pack jointtarget" ∷ codes "Func NumToStr" ∷ codes "Turn 0 26" ∷ codes "Order D3 TRUE" ∷ codes "Order P2 FALSE" ∷ codes "Shape TRUE FALSE" ∷ codes "Push TRUE" ∷ []
unfolding digits
forms = refl
