-- What operations pop. An operation that lacks its operands, or has operands of another form, misfits.
use Rattle.std.specs.Prelude.{ℕ, nat_le, Bool, List, [], ◌∷◌, length, reverse, take, drop, if◌then◌else◌}
use Rattle.rapid_num.specs.declared.shape.Shape.{Shape}
use Rattle.rapid_model.specs.declared.value.Value.{Value}
use Rattle.std.specs.Prelude.{Option}
use Rattle.typed_trees.specs.declared.datum.Datum.{Datum}
use Rattle.typed_trees.specs.declared.datum.Datum.TheVariants as datums
use Rattle.typed_trees.specs.declared.datum.Lvalue.{Lvalue}
use Rattle.rapid_meaning.specs.Doings.{Doing, Gives, Misfit, ◌>>=◌}
use Rattle.rapid_meaning.specs.Values.{truth_in, value_in}
use Rattle.stack_code.specs.Confs.{Conf}

-- any datum
abbrev pub on_top : List Datum → (Datum → List Datum → Doing Conf) → Doing Conf
on_top (x ∷ rest) next = next x rest
on_top _ next = Misfit

abbrev pub on_value : List Datum → (Value → List Datum → Doing Conf) → Doing Conf
on_value (datums.Plain v ∷ rest) next = next v rest
on_value _ next = Misfit

abbrev pub on_place : List Datum → (Lvalue → List Datum → Doing Conf) → Doing Conf
on_place (datums.Place p ∷ rest) next = next p rest
on_place _ next = Misfit

abbrev pub on_mark : List Datum → (ℕ → List Datum → Doing Conf) → Doing Conf
on_mark (datums.Mark number ∷ rest) next = next number rest
on_mark _ next = Misfit

abbrev pub on_shape : List Datum → (Option Shape → List Datum → Doing Conf) → Doing Conf
on_shape (datums.Shape shape ∷ rest) next = next shape rest
on_shape _ next = Misfit

-- a bool
abbrev pub on_truth : List Datum → (Bool → List Datum → Doing Conf) → Doing Conf
on_truth stack next = on_value stack (λ v rest. truth_in v >>= λ b. next b rest)

-- this many, in the order in which they were pushed
abbrev pub on_many : ℕ → List Datum → (List Datum → List Datum → Doing Conf) → Doing Conf
on_many count stack next = if nat_le count (length stack) then next (reverse (take count stack)) (drop count stack) else Misfit

abbrev pub values_in : List Datum → Doing (List Value)
values_in [] = Gives []
values_in (x ∷ xs) = do
  v ← value_in x
  vs ← values_in xs
  Gives (v ∷ vs)

abbrev pub on_values : ℕ → List Datum → (List Value → List Datum → Doing Conf) → Doing Conf
on_values count stack next = on_many count stack (λ xs rest. values_in xs >>= λ vs. next vs rest)
