-- How contracts see the data of a task's modules.
use Rattle.std.specs.Prelude.{map}
use Rattle.typed_trees.specs.Views.{view_slot, view_pers, view_local}
use Rattle.constant_meaning.specs.Constants.{items_of}
use Rattle.decl_types.specs.declared.progress.Progress.{Progress}
use Rattle.decl_types.specs.Data

abbrev pub view_progress : Progress → Data.Progress
view_progress p = record {
  names = p.scopes;
  consts = p.consts;
  known = map items_of p.known.items;
  slots = map view_slot p.slots.items;
  pers = map view_pers p.pers.items;
  locals = map (λ rows. map view_local rows.items) p.locals.items;
  values = p.values;
}
