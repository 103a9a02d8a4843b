-- Shapes of zones.
use Rattle.std.proofs.Common.{◌≡◌, refl, sym, ap, ◌∙◌, subst, ℕ, ℤ, Bool, true, false, List, Option, Some, if◌then◌else◌}
use Rattle.rapid_num.specs.declared.joints.Joints.{Joints}
use Rattle.rapid_model.specs.declared.value.Value.{Value}
use Rattle.typed_trees.specs.declared.datum.Datum.{Datum}
use Rattle.typed_trees.specs.declared.datum.Lvalue.{Lvalue}
use Rattle.rapid_meaning.specs.Data.{Data}
use Rattle.rapid_meaning.specs.Doings.{Act, Doing, Raises, after}
use Rattle.rapid_meaning.specs.Values.{target_in}
use Rattle.rapid_meaning.specs.Zones.{define, define_home, home_high, home_low, on_axes, position_or_fault}
use Rattle.stack_code.specs.CodeData.{CodeData}
use Rattle.stack_code.specs.Confs.{Conf}
use Rattle.stack_code.specs.Operands.{on_place, on_value}
use Rattle.stack_code.specs.Steps.{Here, act, does}
use Rattle.stack_code.specs.declared.op.Op.TheVariants as ops
use Rattle.task_steps.specs.Alike.{Alike, popped, with_stack}
use Rattle.task_steps.specs.Seen.{Seen}
use Rattle.task_steps.proofs.Along.{alike_is}

-- a shape is stored, from two targets, for an arm with `axes` axes
abbrev pub of_two : ℕ → Bool → Bool → Value → Value → Lvalue → Act
of_two axes inside home v w place = after (target_in v) (λ x. after (target_in w) (λ y. if home then define_home axes place inside x y else define axes place inside x y) Raises) Raises

shape_act : (h : Here) (inside home : Bool)
    → act h (ops.Shape inside home) ≡ on_value h.conf.stack (λ w rest. on_value rest (λ v below. on_place below (λ p bottom. does h bottom (of_two h.code.axes inside home v w p))))
shape_act h inside true = refl
shape_act h inside false = refl

-- the targets and the place are there
pub shape_taken : (h : Here) (inside home : Bool) (first second third : List Datum) (w v : Value) (p : Lvalue)
    → ((next : Value → List Datum → Doing Conf) → on_value h.conf.stack next ≡ popped (Some w) first next)
    → ((next : Value → List Datum → Doing Conf) → on_value first next ≡ popped (Some v) second next)
    → ((next : Lvalue → List Datum → Doing Conf) → on_place second next ≡ popped (Some p) third next)
    → act h (ops.Shape inside home) ≡ does h third (of_two h.code.axes inside home v w p)
shape_taken h inside home first second third w v p on_w on_v on_p =
    shape_act h inside home
    ∙ (on_w (λ x rest. on_value rest (λ y below. on_place below (λ q bottom. does h bottom (of_two h.code.axes inside home y x q))))
    ∙ (on_v (λ y below. on_place below (λ q bottom. does h bottom (of_two h.code.axes inside home y w q)))
    ∙ on_p (λ q bottom. does h bottom (of_two h.code.axes inside home v w q))))

-- the bounds of a middle and its deltas
pub bounds_there : (axes : ℕ) (place : Lvalue) (inside : Bool) (middle delta : Joints) (low high : Option (List ℤ)) → low ≡ on_axes home_low middle.axis delta.axis → high ≡ on_axes home_high middle.axis delta.axis
    → define_home axes place inside middle delta ≡ after (position_or_fault low) (λ l. after (position_or_fault high) (λ h. define axes place inside l h) Raises) Raises
bounds_there axes place inside middle delta low high first second = rw (first, second) refl

-- a known doing, if only operands were popped
pub same_data : (code : CodeData) (s t : Seen) (m n : Doing Conf) → t ≡ with_stack t.conf.stack s → m ≡ n → Alike code m s.data' n t.data'
same_data code s t m n same is = subst (λ (d : Data). Alike code m s.data' n d) (sym (ap (λ (u : Seen). u.data') same)) (alike_is code m n s.data' is)
