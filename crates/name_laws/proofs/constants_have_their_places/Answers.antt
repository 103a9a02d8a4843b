use Rattle.name_laws.proofs.Constants.{constants_kept}
use Rattle.name_laws.proofs.ConstMeans.{consts_are}
use Rattle.name_laws.proofs.constants_have_their_places.Goals as goal

pub returns : goal.returns
returns c = record {
  places = λ modules signals axes names named spot name k means. constants_kept modules signals axes names named spot name k means;
  which = λ modules tasks signals axes tree names p is named held spot name k means. consts_are modules tasks signals axes tree names p is named held spot name k means;
}
