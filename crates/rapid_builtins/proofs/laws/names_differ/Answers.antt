use Rattle.std.proofs.Common.{◌++◌, refl}
use Rattle.std.proofs.lemmas.List.Elements.{Contains-append_left, Contains-append_right}
use Rattle.rapid_builtins.specs.Names.{instruction_rows, function_rows, type_rows, data_rows}
use Rattle.rapid_builtins.proofs.Rows.{row_found}
use Rattle.rapid_builtins.proofs.laws.names_differ.Goals as goal

pub returns : goal.returns
returns c = record {
  differ = refl;
  instructions = λ name x h. row_found instruction_rows name x refl h;
  functions = λ name x h. row_found function_rows name x refl h;
  types = λ name x h. row_found (type_rows ++ data_rows) name x refl (Contains-append_left type_rows data_rows (name, x) h);
  data_objects = λ name x h. row_found (type_rows ++ data_rows) name x refl (Contains-append_right type_rows data_rows (name, x) h);
}
