-- What is wanted of an expression, as a fact about its type.
use Rattle.std.proofs.Common.{◌≡◌, inl, inr, true, false, refl}
use Rattle.rapid_model.specs.declared.operator.Operator.{Operator}
use Rattle.rapid_model.specs.declared.operator.Operator.TheVariants as operators
use Rattle.rapid_model.specs.declared.sort.Sort.{Sort}
use Rattle.rapid_model.specs.declared.sort.Sort.TheVariants as sorts
use Rattle.named_data.specs.declared.wanted.Wanted.{Wanted}
use Rattle.named_data.specs.declared.wanted.Wanted.TheVariants.{Any, Brackets, Is, Same, Fits, Nothing, Reference, ReferenceTo, Meeting}
use Rattle.named_data.specs.Wants.{comes_to, fits, inside, needed_components, needed_sort, suits}
use Rattle.named_data.specs.Data.{is_empty}
use Rattle.cell_assembly.proofs.SoundInfo.{same_sort_is}
use Rattle.tree_typing.specs.Operations.{Operates}

-- what is wanted, as far as it fixes the type
abbrev pub IsWanted : Wanted → Sort → Type 0
IsWanted (Is wanted) sort = sort ≡ wanted
IsWanted (Same wanted) sort = sort ≡ wanted
IsWanted (Fits operator) sort = suits operator sort ≡ true
IsWanted Nothing sort = ⊥
IsWanted _ sort = Unit {0}

pub is_wanted : (want : Wanted) (sort : Sort) → fits want sort ≡ true → IsWanted want sort
is_wanted (Is wanted) sort e = same_sort_is sort wanted e
is_wanted (Same wanted) sort e = same_sort_is sort wanted e
is_wanted (Fits operator) sort e = e
is_wanted Nothing sort e = absurd cc
is_wanted _ sort e = tt

pub wanted_inside : (want : Wanted) (sort : Sort) → IsWanted (inside want) sort → IsWanted want sort
wanted_inside (Is wanted) sort h = h
wanted_inside (Same wanted) sort h = h
wanted_inside (Fits operator) sort h = h
wanted_inside Nothing sort h = h
wanted_inside Any sort h = tt
wanted_inside (Brackets taken) sort h = tt
wanted_inside Reference sort h = tt
wanted_inside (ReferenceTo wanted) sort h = tt
wanted_inside Meeting sort h = tt

-- an aggregate has the type that is wanted
pub wanted_brackets : (want : Wanted) → is_empty (needed_components want) ≡ false → IsWanted want (needed_sort want)
wanted_brackets (Is wanted) e = refl
wanted_brackets (Same wanted) e = absurd cc
wanted_brackets (Fits operator) e = absurd cc
wanted_brackets Nothing e = absurd cc
wanted_brackets _ e = tt

-- operators between operands that suit them
pub operates : (o : Operator) (left : Sort) → suits o left ≡ true → Operates o left (comes_to o left)
operates operators.Equal left e = (e, refl)
operates operators.NotEqual left e = (e, refl)
operates operators.And left e = (same_sort_is left sorts.Bool e, refl)
operates operators.Or left e = (same_sort_is left sorts.Bool e, refl)
operates operators.Xor left e = (same_sort_is left sorts.Bool e, refl)
operates operators.Less left e = (same_sort_is left sorts.Num e, refl)
operates operators.Greater left e = (same_sort_is left sorts.Num e, refl)
operates operators.LessEqual left e = (same_sort_is left sorts.Num e, refl)
operates operators.GreaterEqual left e = (same_sort_is left sorts.Num e, refl)
operates operators.Add sorts.Num e = (inl refl, refl)
operates operators.Add sorts.Text e = (inr refl, refl)
operates operators.Add _ e = absurd cc
operates operators.Sub left e = (same_sort_is left sorts.Num e, refl)
operates operators.Mul left e = (same_sort_is left sorts.Num e, refl)
operates operators.Div left e = (same_sort_is left sorts.Num e, refl)
operates operators.IntDiv left e = (same_sort_is left sorts.Num e, refl)
operates operators.Mod left e = (same_sort_is left sorts.Num e, refl)
