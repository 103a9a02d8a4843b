-- The forms of the arguments of a call of a predefined function.
use Rattle.typed_trees.specs.Plain.{TypedArgs, Given, Lent, OfSignal, PlaceOf, NoArgs, MoreArgs}
use Rattle.code_expr.specs.declared.builtin_form.BuiltinForm.{BuiltinForm}
use Rattle.code_expr.specs.declared.builtin_form.BuiltinForm.TheVariants.{Nothing, Values, Signal, Place, Array, Other}

abbrev pub form_of : TypedArgs → BuiltinForm
form_of NoArgs = Nothing
form_of (MoreArgs (Given e) NoArgs) = Values
form_of (MoreArgs (Given e) (MoreArgs (Given f) NoArgs)) = Values
form_of (MoreArgs (OfSignal signal) NoArgs) = Signal signal
form_of (MoreArgs (Lent p) NoArgs) = Place
form_of (MoreArgs (Lent (PlaceOf root index part sort)) (MoreArgs one NoArgs)) = Array root
form_of other = Other
