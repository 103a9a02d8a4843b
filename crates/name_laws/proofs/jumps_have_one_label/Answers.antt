use Rattle.name_laws.proofs.RoutineJumps.{jumps_right}
use Rattle.name_laws.proofs.jumps_have_one_label.Goals as goal

pub returns : goal.returns
returns c = record {
  lands = λ modules tasks signals axes tree is routine t row. (jumps_right modules tasks signals axes tree is routine t row).lands;
  once = λ modules tasks signals axes tree is apart routine t row. (jumps_right modules tasks signals axes tree is routine t row).once apart;
  in_text_order = λ modules tasks signals axes tree is apart routine t row. (jumps_right modules tasks signals axes tree is routine t row).in_text_order apart;
}
