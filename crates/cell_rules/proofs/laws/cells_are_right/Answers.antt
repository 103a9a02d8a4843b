use Rattle.cell_rules.proofs.Right.{made_right, refused_right}
use Rattle.cell_rules.proofs.laws.cells_are_right.Goals as goal

pub returns : goal.returns
returns c = record {
  made = λ script trees indexed sound cell numbered. made_right script trees indexed sound cell numbered;
  refused = λ script trees indexed sound broken. refused_right script trees indexed sound broken;
}
