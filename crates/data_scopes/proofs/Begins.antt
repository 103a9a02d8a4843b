-- The byte of an expression is that of its form.
use Rattle.std.proofs.Common.{◌≡◌, ℕ, refl}
use Rattle.raw_trees.specs.declared.raw_expr.RawExprForm.{RawExprForm, Number, Text, Bool, Group', Aggregate', Call', Place, Not', Signed', Chain'}
use Rattle.raw_trees.specs.Views.{view_form}
use Rattle.data_scopes.specs.Rows.{begin_of}

pub begin_of_form : (at : ℕ) (form : RawExprForm) → at ≡ begin_of (view_form at form)
begin_of_form at (Number text) = refl
begin_of_form at (Text text) = refl
begin_of_form at (Bool value) = refl
begin_of_form at (Group' pointer begin form) = refl
begin_of_form at (Aggregate' shape row) = refl
begin_of_form at (Call' name shape row) = refl
begin_of_form at (Place place) = refl
begin_of_form at (Not' pointer begin form) = refl
begin_of_form at (Signed' minus pointer begin form) = refl
begin_of_form at (Chain' pointer begin form shape row) = refl
