-- How the contracts of the parser see the body of a routine.
use Rattle.std.specs.Prelude.{map, option_map}
use Rattle.raw_trees.specs.Views.{view_datum, view_list}
use Rattle.module_parser.specs.declared.body.Body.{Body}
use Rattle.module_parser.specs.Grammar.{Body as PlainBody}

abbrev pub view_body : Body → PlainBody
view_body b = (map view_datum b.locals.items, (view_list b.list, option_map view_list b.handler))
