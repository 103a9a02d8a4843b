-- The types of operands (RAPID Overview, expressions).
use Rattle.std.specs.Prelude.{◌≡◌, ◌⊎◌, IsTrue}
use Rattle.rapid_model.specs.declared.sort.Sort.{Sort}
use Rattle.rapid_model.specs.declared.sort.Sort.TheVariants as sorts
use Rattle.rapid_model.specs.Sorts.{is_compared}
use Rattle.rapid_model.specs.declared.operator.Operator.{Operator}
use Rattle.rapid_model.specs.declared.operator.Operator.TheVariants as operators

-- an operator takes operands of the first type and gives a value of the second type
abbrev pub Operates : Operator → Sort → Sort → Type 0
Operates operators.Equal left sort = IsTrue (is_compared left) × (sort ≡ sorts.Bool)
Operates operators.NotEqual left sort = IsTrue (is_compared left) × (sort ≡ sorts.Bool)
Operates operators.And left sort = (left ≡ sorts.Bool) × (sort ≡ sorts.Bool)
Operates operators.Or left sort = (left ≡ sorts.Bool) × (sort ≡ sorts.Bool)
Operates operators.Xor left sort = (left ≡ sorts.Bool) × (sort ≡ sorts.Bool)
Operates operators.Less left sort = (left ≡ sorts.Num) × (sort ≡ sorts.Bool)
Operates operators.Greater left sort = (left ≡ sorts.Num) × (sort ≡ sorts.Bool)
Operates operators.LessEqual left sort = (left ≡ sorts.Num) × (sort ≡ sorts.Bool)
Operates operators.GreaterEqual left sort = (left ≡ sorts.Num) × (sort ≡ sorts.Bool)
Operates operators.Add left sort = ((left ≡ sorts.Num) ⊎ (left ≡ sorts.Text)) × (sort ≡ left)
Operates operators.Sub left sort = (left ≡ sorts.Num) × (sort ≡ sorts.Num)
Operates operators.Mul left sort = (left ≡ sorts.Num) × (sort ≡ sorts.Num)
Operates operators.Div left sort = (left ≡ sorts.Num) × (sort ≡ sorts.Num)
Operates operators.IntDiv left sort = (left ≡ sorts.Num) × (sort ≡ sorts.Num)
Operates operators.Mod left sort = (left ≡ sorts.Num) × (sort ≡ sorts.Num)
