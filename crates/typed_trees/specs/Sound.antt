-- Sound declarations of a tree's persistents.
use Rattle.std.specs.Prelude.{Bool, ◌&&◌, List}
use Rattle.std.specs.List.{list_all}
use Rattle.rapid_limits.specs.declared.TheConstants.{LONGEST_ARRAY}
use Rattle.rapid_model.specs.Limits.{is_within, holds_where_there}
use Rattle.rapid_model.specs.Sorts.{has_values, are_values_of}
use Rattle.rapid_model.specs.declared.value.Value.{Value}
use Rattle.typed_trees.specs.Plain.{TypedPers, TypedTree}

-- a value of the type for each element
abbrev pub fits : TypedPers → List Value → Bool
fits row values = are_values_of row.sort row.len values

-- a persistent has a type with values, and at most 1000 elements; the values that its declaration gives, if any, fit
abbrev pub is_sound : TypedPers → Bool
is_sound row = has_values row.sort && holds_where_there (is_within 1 LONGEST_ARRAY) row.len && holds_where_there (fits row) row.first

abbrev pub has_sound_pers : TypedTree → Bool
has_sound_pers tree = list_all is_sound tree.pers
