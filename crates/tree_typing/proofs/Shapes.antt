-- The forms of arguments, from what their parameters need.
use Rattle.std.proofs.Common.{ℕ, ◌<◌, Bool, true, false, List, [], ◌∷◌, length, IsTrue}
use Rattle.rapid_model.specs.declared.sort.Sort.{Sort}
use Rattle.rapid_model.specs.declared.sort.Sort.TheVariants as sorts
use Rattle.rapid_builtins.specs.declared.need.Need.{Need}
use Rattle.rapid_builtins.specs.declared.need.Need.TheVariants as needs
use Rattle.typed_trees.specs.Plain.{TypedArg, TypedExpr, TypedPlace, Given, Lent, OfSignal, OfMeeting, Itself}
use Rattle.rapid_model.specs.declared.predefined.Predefined.{Predefined}
use Rattle.tree_typing.specs.Expressions.{IsArg, IsArray, IsExpr, IsPersName, IsPlace, is_zone}
use Rattle.tree_typing.specs.Instructions.{AreNeeded}
use Rattle.tree_typing.specs.Kinds.{Kind}
use Rattle.tree_typing.specs.Setting.{Setting}

pub none_needed : (c : Setting) (kinds : List Kind) (P : List TypedArg → Type 0) → P [] → (args : List TypedArg) → AreNeeded c kinds args [] → P args
none_needed c kinds P p [] are = p
none_needed c kinds P p (a ∷ more) are = absurd are

pub one_needed : (c : Setting) (kinds : List Kind) (P : List TypedArg → Type 0) (need : Need) → ((a : TypedArg) → IsArg c kinds a need → P (a ∷ []))
    → (args : List TypedArg) → AreNeeded c kinds args (need ∷ []) → P args
one_needed c kinds P need p [] are = absurd are
one_needed c kinds P need p (a ∷ []) are = p a are.0
one_needed c kinds P need p (a ∷ b ∷ more) are = absurd are.1

pub two_needed : (c : Setting) (kinds : List Kind) (P : List TypedArg → Type 0) (first second : Need)
    → ((a b : TypedArg) → IsArg c kinds a first → IsArg c kinds b second → P (a ∷ b ∷ [])) → (args : List TypedArg) → AreNeeded c kinds args (first ∷ second ∷ []) → P args
two_needed c kinds P first second p [] are = absurd are
two_needed c kinds P first second p (a ∷ []) are = absurd are.1
two_needed c kinds P first second p (a ∷ b ∷ []) are = p a b are.0 are.1.0
two_needed c kinds P first second p (a ∷ b ∷ x ∷ more) are = absurd are.1.1

pub three_needed : (c : Setting) (kinds : List Kind) (P : List TypedArg → Type 0) (first second third : Need)
    → ((a b x : TypedArg) → IsArg c kinds a first → IsArg c kinds b second → IsArg c kinds x third → P (a ∷ b ∷ x ∷ []))
    → (args : List TypedArg) → AreNeeded c kinds args (first ∷ second ∷ third ∷ []) → P args
three_needed c kinds P first second third p [] are = absurd are
three_needed c kinds P first second third p (a ∷ []) are = absurd are.1
three_needed c kinds P first second third p (a ∷ b ∷ []) are = absurd are.1.1
three_needed c kinds P first second third p (a ∷ b ∷ x ∷ []) are = p a b x are.0 are.1.0 are.1.1.0
three_needed c kinds P first second third p (a ∷ b ∷ x ∷ y ∷ more) are = absurd are.1.1.1

pub four_needed : (c : Setting) (kinds : List Kind) (P : List TypedArg → Type 0) (first second third fourth : Need)
    → ((a b x y : TypedArg) → IsArg c kinds a first → IsArg c kinds b second → IsArg c kinds x third → IsArg c kinds y fourth → P (a ∷ b ∷ x ∷ y ∷ []))
    → (args : List TypedArg) → AreNeeded c kinds args (first ∷ second ∷ third ∷ fourth ∷ []) → P args
four_needed c kinds P first second third fourth p [] are = absurd are
four_needed c kinds P first second third fourth p (a ∷ []) are = absurd are.1
four_needed c kinds P first second third fourth p (a ∷ b ∷ []) are = absurd are.1.1
four_needed c kinds P first second third fourth p (a ∷ b ∷ x ∷ []) are = absurd are.1.1.1
four_needed c kinds P first second third fourth p (a ∷ b ∷ x ∷ y ∷ []) are = p a b x y are.0 are.1.0 are.1.1.0 are.1.1.1.0
four_needed c kinds P first second third fourth p (a ∷ b ∷ x ∷ y ∷ z ∷ more) are = absurd are.1.1.1.1

pub value_needed : (c : Setting) (kinds : List Kind) (P : TypedArg → Type 0) (sort : Sort) → ((e : TypedExpr) → IsExpr c kinds e sort → P (Given e))
    → (a : TypedArg) → IsArg c kinds a (needs.Value sort) → P a
value_needed c kinds P sort p (Given e) is = p e is
value_needed c kinds P sort p a is = absurd is

pub signal_needed : (c : Setting) (kinds : List Kind) (P : TypedArg → Type 0) (output : Bool) → ((signal : ℕ) → signal < c.signals → P (OfSignal signal))
    → (a : TypedArg) → IsArg c kinds a (needs.Signal output) → P a
signal_needed c kinds P output p (OfSignal signal) is = p signal is
signal_needed c kinds P output p a is = absurd is

pub meeting_needed : (c : Setting) (kinds : List Kind) (P : TypedArg → Type 0) → ((meeting : ℕ) → meeting < length c.tree.meetings → P (OfMeeting meeting))
    → (a : TypedArg) → IsArg c kinds a needs.Meeting → P a
meeting_needed c kinds P p (OfMeeting meeting) is = p meeting is
meeting_needed c kinds P p a is = absurd is

pub var_needed : (c : Setting) (kinds : List Kind) (P : TypedArg → Type 0) (sort : Sort) → ((p : TypedPlace) → IsPlace c kinds true p sort → P (Lent p))
    → (a : TypedArg) → IsArg c kinds a (needs.Var sort) → P a
var_needed c kinds P sort p (Lent place) is = p place is
var_needed c kinds P sort p a is = absurd is

pub pers_needed : (c : Setting) (kinds : List Kind) (P : TypedArg → Type 0) (sort : Sort) → ((p : TypedPlace) → IsPlace c kinds true p sort → P (Lent p))
    → (a : TypedArg) → IsArg c kinds a (needs.Pers sort) → P a
pers_needed c kinds P sort p (Lent place) is = p place is
pers_needed c kinds P sort p a is = absurd is

pub written_needed : (c : Setting) (kinds : List Kind) (P : TypedArg → Type 0) (sort : Sort) → ((p : TypedPlace) → IsPlace c kinds true p sort → P (Lent p))
    → (a : TypedArg) → IsArg c kinds a (needs.Written sort) → P a
written_needed c kinds P sort p (Lent place) is = p place is
written_needed c kinds P sort p a is = absurd is

pub place_needed : (c : Setting) (kinds : List Kind) (P : TypedArg → Type 0) (sort : Sort) → ((p : TypedPlace) → IsPlace c kinds false p sort → P (Lent p))
    → (a : TypedArg) → IsArg c kinds a (needs.Place sort) → P a
place_needed c kinds P sort p (Lent place) is = p place is
place_needed c kinds P sort p a is = absurd is

pub zone_needed : (c : Setting) (kinds : List Kind) (P : TypedArg → Type 0) → ((p : TypedPlace) (sort : Sort) → IsTrue (is_zone sort) → IsPlace c kinds true p sort → P (Lent p))
    → (a : TypedArg) → IsArg c kinds a needs.WorldZone → P a
zone_needed c kinds P p (Lent place) is = p place is.0 is.1 is.2
zone_needed c kinds P p a is = absurd is

pub tasks_needed : (c : Setting) (kinds : List Kind) (P : TypedArg → Type 0) → ((p : TypedPlace) → IsArray c kinds p sorts.Tasks → P (Lent p))
    → (a : TypedArg) → IsArg c kinds a needs.TaskList → P a
tasks_needed c kinds P p (Lent place) is = p place is
tasks_needed c kinds P p a is = absurd is

pub name_needed : (c : Setting) (kinds : List Kind) (P : TypedArg → Type 0) → ((p : TypedPlace) → IsPersName c p → P (Lent p))
    → (a : TypedArg) → IsArg c kinds a needs.PersName → P a
name_needed c kinds P p (Lent place) is = p place is
name_needed c kinds P p a is = absurd is

pub fine_needed : (c : Setting) (kinds : List Kind) (P : TypedArg → Type 0) → ((name : Predefined) → P (Itself name)) → (a : TypedArg) → IsArg c kinds a needs.Fine → P a
fine_needed c kinds P p (Itself name) is = p name
fine_needed c kinds P p a is = absurd is

pub tool_needed : (c : Setting) (kinds : List Kind) (P : TypedArg → Type 0) → ((name : Predefined) → P (Itself name)) → (a : TypedArg) → IsArg c kinds a needs.Tool → P a
tool_needed c kinds P p (Itself name) is = p name
tool_needed c kinds P p a is = absurd is
