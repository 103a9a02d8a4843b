use Rattle.std.proofs.Common.{Some}
use Rattle.data_scopes.proofs.Keeping.{set_same, set_other}
use Rattle.data_scopes.proofs.laws.kept_by_number.Goals as goal

pub returns : goal.returns
returns c = record {
  same = λ names constant value within. set_same names.kept constant (Some value) within;
  others = λ names constant other value apart. set_other names.kept constant other (Some value) apart;
}
