use Rattle.name_laws.proofs.RoutineJumps.{jumps_right}
use Rattle.text_order.proofs.Labels.{routines_apart}
use Rattle.text_order.proofs.laws.accepted_jumps_have_one_label.Goals as goal

pub returns : goal.returns
returns c = record {
  lands = λ levels modules tasks signals axes tree spelled is routine t row. (jumps_right modules tasks signals axes tree is routine t row).lands;
  once = λ levels modules tasks signals axes tree spelled is routine t row. (jumps_right modules tasks signals axes tree is routine t row).once (routines_apart levels modules spelled);
  in_text_order = λ levels modules tasks signals axes tree spelled is routine t row. (jumps_right modules tasks signals axes tree is routine t row).in_text_order (routines_apart levels modules spelled);
}
