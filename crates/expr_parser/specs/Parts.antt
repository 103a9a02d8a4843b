-- How contracts see lists of trees, and what follows a name in a place.
use Rattle.std.specs.Prelude.{List, Option, map, option_map, Vec}
use Rattle.std.specs.declared.alloc.Global.{Global}
use Rattle.raw_trees.specs.declared.raw_expr.RawExpr.{RawExpr}
use Rattle.raw_trees.specs.declared.raw_expr.RawArg.{RawArg}
use Rattle.raw_trees.specs.declared.raw_name.RawName.{RawName}
use Rattle.raw_trees.specs.Views.{view_arg, view_expr, view_name}
use Rattle.raw_trees.specs.Plain.{PlainName, PlainExpr, PlainArg}

-- the view of an optional index and components
abbrev pub view_parts : Option RawExpr × Vec RawName Global → Option PlainExpr × List PlainName
view_parts x = (option_map view_expr x.0, map view_name x.1.items)

abbrev pub view_exprs : Vec RawExpr Global → List PlainExpr
view_exprs v = map view_expr v.items

abbrev pub view_args : Vec RawArg Global → List PlainArg
view_args v = map view_arg v.items
