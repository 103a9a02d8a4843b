use Rattle.accepted_cells.proofs.Fits.{fits_task}
use Rattle.accepted_cells.proofs.laws.accepted_code_fits_its_task.Goals as goal

pub returns : goal.returns
returns c = λ script made task tree accepted there. fits_task script made task tree accepted there
