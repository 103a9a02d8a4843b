-- Operations that are done in place.
use Rattle.std.proofs.Common.{◌≡◌, refl, sym, ap, ◌∙◌, ℕ, ℤ, List, [], ◌∷◌, drop, Option, None, Some, slice_get}
use Rattle.std.specs.Option.{option_and_then, option_map}
use Rattle.rapid_model.specs.declared.operator.Operator.{Operator}
use Rattle.rapid_model.specs.declared.path.Path.{Path}
use Rattle.rapid_model.specs.declared.request.Request.TheVariants.{ReadP, WriteP}
use Rattle.rapid_model.specs.declared.value.Value.{Value}
use Rattle.rapid_model.specs.declared.value.Value.TheVariants as values
use Rattle.rapid_values.specs.Operators.{apply}
use Rattle.rapid_values.specs.declared.applied.Applied.{Applied}
use Rattle.machine_stacks.specs.Forms.{as_value}
use Rattle.typed_trees.specs.declared.datum.Datum.{Datum}
use Rattle.typed_trees.specs.declared.datum.Datum.TheVariants as datums
use Rattle.typed_trees.specs.declared.datum.Datum.TheVariants.{Plain, Place}
use Rattle.typed_trees.specs.declared.datum.Lvalue.{Lvalue}
use Rattle.typed_trees.specs.declared.datum.Root.{Root}
use Rattle.typed_trees.specs.declared.datum.Root.TheVariants as roots
use Rattle.rapid_meaning.specs.Data.{Data, datum_at, put_at}
use Rattle.rapid_meaning.specs.Doings.{Doing, after}
use Rattle.rapid_meaning.specs.Places.{load, part_in, put_in, store}
use Rattle.rapid_meaning.specs.Values.{applied}
use Rattle.stack_code.specs.CodeData.{CodeData}
use Rattle.stack_code.specs.Confs.{Conf}
use Rattle.stack_code.specs.Operands.{on_place, on_top, on_value}
use Rattle.stack_code.specs.Steps.{Here, act, does, pushes, to_next}
use Rattle.stack_code.specs.declared.op.Op.TheVariants as ops
use Rattle.task_steps.specs.Alike.{Alike}
use Rattle.task_steps.specs.Doing.{doing_of, here_of}
use Rattle.task_steps.specs.Own.{IsNumAt, IsOwn}
use Rattle.task_steps.specs.Phases as phases
use Rattle.task_steps.specs.Points.{Point}
use Rattle.task_steps.specs.declared.requests.pending.Pending.TheVariants as pendings
use Rattle.task_steps.proofs.Along.{alike_is, alike_then}
use Rattle.task_steps.proofs.Storings.{load_own, store_own}

-- the operands on top
top_is : (xs : List Datum) (x : Datum) → slice_get xs 0 ≡ Some x → xs ≡ x ∷ drop 1 xs
top_is [] x e = cc
top_is (y ∷ ys) x e = let same : y ≡ x = cc in ap (λ (z : Datum). z ∷ ys) same

two_are : (xs : List Datum) (x y : Datum) → slice_get xs 0 ≡ Some x → slice_get xs 1 ≡ Some y → xs ≡ x ∷ y ∷ drop 1 (drop 1 xs)
two_are [] x y e f = cc
two_are (a ∷ []) x y e f = cc
two_are (a ∷ b ∷ rest) x y e f =
    let first : a ≡ x = cc in
    let second : b ≡ y = cc in
    ap (λ (z : Datum). z ∷ b ∷ rest) first ∙ ap (λ (z : Datum). x ∷ z ∷ rest) second

-- a num of the task's own is read, and written
own_of : (root : Root) (d : Data) (x : Datum) → datum_at root d ≡ Some x → IsOwn root
own_of (roots.Slot slot) d x there = tt
own_of (roots.Frame frame at) d x there = tt
own_of (roots.Pers pers index) d x there = cc

pub load_num : (code : CodeData) (c : Point) (d : Data) (place : Lvalue) (n : ℤ) → slice_get c.stack 0 ≡ Some (Place place) → IsNumAt d place n
    → Alike code (act (here_of code c) ops.Load) d (to_next (here_of code c) (Plain (values.Num n) ∷ drop 1 c.stack)) d
load_num code c d place n top held =
    let h = here_of code c in
    let own : IsOwn place.root = own_of place.root d (Plain (values.Num n)) held.num in
    let read : Some (Plain (values.Num n)) ≡ option_and_then (part_in place.part) (datum_at place.root d) = rw (held.whole, held.num) refl in
    alike_then code _ _ _ d d d (alike_is code _ _ d (ap (λ (xs : List Datum). on_place xs (λ p rest. pushes h rest (λ x. x) (load p))) (top_is c.stack (Place place) top)))
    (load_own code (record h { conf = record h.conf { stack = drop 1 c.stack } }) d place.root place.part (Some (Plain (values.Num n))) own read)

pub store_num : (code : CodeData) (c : Point) (d : Data) (place : Lvalue) (n old : ℤ) → slice_get c.stack 0 ≡ Some (Plain (values.Num n)) → slice_get c.stack 1 ≡ Some (Place place) → IsNumAt d place old
    → Alike code (act (here_of code c) ops.Store) d (to_next (here_of code c) (drop 1 (drop 1 c.stack))) (put_at place.root (Plain (values.Num n)) d)
store_num code c d place n old top below held =
    let h = here_of code c in
    let own : IsOwn place.root = own_of place.root d (Plain (values.Num old)) held.num in
    let there : Option (Unit {0}) = Some tt in
    let put : option_map (λ it. put_at place.root (Plain (values.Num n)) d) there ≡ option_map (λ x. put_at place.root x d) (option_and_then (put_in place.part (Plain (values.Num n))) (datum_at place.root d)) =
    rw (held.whole, held.num) refl in
    alike_then code _ _ _ d d _ (alike_is code _ _ d (ap (λ (xs : List Datum). on_top xs (λ x rest. on_place rest (λ p more. does h more (store p x)))) (two_are c.stack (Plain (values.Num n)) (Place place) top below)))
    (store_own code (record h { conf = record h.conf { stack = drop 1 (drop 1 c.stack) } }) d (put_at place.root (Plain (values.Num n)) d) place.root place.part (Plain (values.Num n)) there own put)

-- a part of a persistent is asked for, and written
pub load_pers : (code : CodeData) (c : Point) (d : Data) (pers : ℕ) (path : Path) → slice_get c.stack 0 ≡ Some (Place (record { root = roots.Pers pers path.index; part = path.part }))
    → Alike code (act (here_of code c) ops.Load) d (doing_of code (phases.Asking (ReadP pers path) pendings.Read) (record c { stack = drop 1 c.stack })) d
unfolding after
load_pers code c d pers path top =
    let h = here_of code c in
    alike_is code _ _ d (ap (λ (xs : List Datum). on_place xs (λ p rest. pushes h rest (λ x. x) (load p))) (top_is c.stack _ top))

pub store_pers : (code : CodeData) (c : Point) (d : Data) (pers : ℕ) (path : Path) (v : Value) → slice_get c.stack 0 ≡ Some (Plain v) → slice_get c.stack 1 ≡ Some (Place (record { root = roots.Pers pers path.index; part = path.part }))
    → Alike code (act (here_of code c) ops.Store) d (doing_of code (phases.Asking (WriteP pers path v) pendings.Confirmed) (record c { stack = drop 1 (drop 1 c.stack) })) d
unfolding after
store_pers code c d pers path v top below =
    let h = here_of code c in
    alike_is code _ _ d (ap (λ (xs : List Datum). on_top xs (λ x rest. on_place rest (λ p more. does h more (store p x)))) (two_are c.stack _ _ top below))

-- the values of operands
pub there_value : (o : Option Datum) (v : Value) → option_and_then as_value o ≡ Some v → o ≡ Some (Plain v)
there_value None v e = cc
there_value (Some (datums.Plain w)) v e = let same : w ≡ v = cc in ap (λ (u : Value). Some (Plain u)) same
there_value (Some (datums.Mark n)) v e = cc
there_value (Some (datums.Shape s)) v e = cc
there_value (Some (datums.Place p)) v e = cc

-- an operator with its operands
abbrev applies : Here → Operator → List Datum → Doing Conf
applies h o xs = on_value xs (λ w rest. on_value rest (λ v below. pushes h below Plain (applied (apply o v w))))

pub binary_is : (h : Here) (o : Operator) (v w : Value) (a b : Applied) → Some w ≡ option_and_then as_value (slice_get h.conf.stack 0) → Some v ≡ option_and_then as_value (slice_get h.conf.stack 1)
    → a ≡ apply o v w → a ≡ b → act h (ops.Binary o) ≡ pushes h (drop 1 (drop 1 h.conf.stack)) Plain (applied b)
binary_is h o v w a b top below is comes =
    ap (applies h o) (two_are h.conf.stack (Plain w) (Plain v) (there_value (slice_get h.conf.stack 0) w (sym top)) (there_value (slice_get h.conf.stack 1) v (sym below)))
    ∙ ap (λ (x : Applied). pushes h (drop 1 (drop 1 h.conf.stack)) Plain (applied x)) (sym is ∙ comes)
