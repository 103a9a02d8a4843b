-- Values of a type with lists of full length.
use Rattle.std.proofs.Common.{◌≡◌, true, List, [], ◌∷◌, refl}
use Rattle.std.specs.List.{list_all}
use Rattle.std.proofs.lemmas.Bool.{and_from, and_parts}
use Rattle.rapid_model.specs.Lengths.{is_full}
use Rattle.rapid_model.specs.Paths.{has_sort}
use Rattle.rapid_model.specs.Sorts.{is_value_of}
use Rattle.rapid_model.specs.declared.sort.Sort.{Sort}
use Rattle.rapid_model.specs.declared.value.Value.{Value}

pub all_have_sort : (sort : Sort) (vs : List Value) → list_all (is_value_of sort) vs ≡ true → list_all is_full vs ≡ true → list_all (has_sort sort) vs ≡ true
all_have_sort sort [] h k = refl
all_have_sort sort (v ∷ vs) h k =
    let a = and_parts (is_value_of sort v) (list_all (is_value_of sort) vs) h in
    let b = and_parts (is_full v) (list_all is_full vs) k in
    and_from (has_sort sort v) (list_all (has_sort sort) vs) (and_from (is_value_of sort v) (is_full v) a.0 b.0) (all_have_sort sort vs a.1 b.1)
