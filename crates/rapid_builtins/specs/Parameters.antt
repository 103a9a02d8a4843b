-- What an argument for a parameter of a routine must be.
use Rattle.rapid_model.specs.declared.mode.Mode.{Mode}
use Rattle.rapid_model.specs.declared.mode.Mode.TheVariants as modes
use Rattle.rapid_model.specs.declared.sort.Sort.{Sort}
use Rattle.rapid_builtins.specs.declared.need.Need.{Need}
use Rattle.rapid_builtins.specs.declared.need.Need.TheVariants as needs

abbrev pub parameter_need : Mode → Sort → Need
parameter_need modes.Value sort = needs.Value sort
parameter_need modes.Inout sort = needs.VarOrPers sort
parameter_need modes.Var sort = needs.Var sort
parameter_need modes.Pers sort = needs.Pers sort
