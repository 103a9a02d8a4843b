-- A task whose data hold a constant array, so the law about constants is not vacuous.
use Rattle.std.proofs.Common.{◌≡◌, refl, subst, ℕ, zero, suc, ◌+◌, List, [], ◌∷◌, length, Some, slice_get}
use Rattle.rapid_model.specs.declared.part_name.PartName.TheVariants as parts
use Rattle.rapid_model.specs.declared.sort.Sort.TheVariants as sorts
use Rattle.rapid_model.specs.declared.value.Value.{Value}
use Rattle.constant_meaning.specs.Constants.{Elements, constant_value, array_of}
use Rattle.typed_trees.specs.Plain.{TypedExpr, TypedRoutine, TypedTree, Stored, Held, PlaceOf}
use Rattle.typed_trees.specs.declared.datum.Datum.TheVariants.{Plain}
use Rattle.typed_trees.specs.declared.datum.Root.TheVariants as roots
use Rattle.typed_trees.specs.declared.expr.TreeRoot.{TreeRoot}
use Rattle.typed_trees.specs.declared.expr.TreeRoot.TheVariants as tree_roots
use Rattle.rapid_meaning.specs.Constants.{Holds, HoldsArrays}
use Rattle.rapid_meaning.specs.Data.{Data, datum_at}
use Rattle.rapid_meaning.specs.Expressions.{expr}
use Rattle.rapid_meaning.specs.Frames.{frame_of, initial}
use Rattle.rapid_meaning.specs.Layouts.{length_at, slot_start}
use Rattle.rapid_meaning.proofs.Composing.{Comes}
use Rattle.rapid_meaning.proofs.ConstantsAgree.{expr_comes}
use Rattle.rapid_meaning.proofs.Trees.{datum_row, num, number, proc, task_of}

abbrev tens : List Value
tens = number 10 ∷ number 20 ∷ number 30 ∷ []

abbrev main : TypedRoutine
main = proc []

abbrev tree : TypedTree
tree = task_of (datum_row sorts.Num (Some 3) (Plain (number 10) ∷ Plain (number 20) ∷ Plain (number 30) ∷ []) ∷ []) (main ∷ [])

abbrev known : Elements
known = record { slots = Some tens ∷ []; locals = [] }

-- main is running
abbrev running : Data
running = record (initial tree) { frames = frame_of main [] ∷ [] }

lengths : (root : TreeRoot) (values : List Value) → array_of known root ≡ Some values → length_at tree main root ≡ Some (length values)
lengths (tree_roots.Slot zero) values is = let same : tens ≡ values = cc in subst (λ (x : List Value). Some 3 ≡ Some (length x)) same refl
lengths (tree_roots.Slot (suc row)) values is = absurd cc
lengths (tree_roots.Local row) values is = absurd cc
lengths (tree_roots.Ref row) values is = absurd cc
lengths (tree_roots.Pers row) values is = absurd cc

tens_there : (k : ℕ) (v : Value) → slice_get tens k ≡ Some v → datum_at (roots.Slot (slot_start tree 0 + k)) running ≡ Some (Plain v)
tens_there zero v is = let same : number 10 ≡ v = cc in subst (λ (x : Value). Some (Plain (number 10)) ≡ Some (Plain x)) same refl
tens_there (suc zero) v is = let same : number 20 ≡ v = cc in subst (λ (x : Value). Some (Plain (number 20)) ≡ Some (Plain x)) same refl
tens_there (suc (suc zero)) v is = let same : number 30 ≡ v = cc in subst (λ (x : Value). Some (Plain (number 30)) ≡ Some (Plain x)) same refl
tens_there (suc (suc (suc k))) v is = absurd cc

slots : (row : ℕ) (values : List Value) → array_of known (tree_roots.Slot row) ≡ Some values → Holds running (λ k. roots.Slot (slot_start tree row + k)) values
slots zero values is =
    let same : tens ≡ values = cc in
    subst (λ (x : List Value). Holds running (λ k. roots.Slot (slot_start tree 0 + k)) x) same (record { at = tens_there })
slots (suc row) values is = absurd cc

holds : HoldsArrays tree main known running
holds = record {
  lengths = lengths;
  slots = slots;
  below = 0;
  under_way = refl;
  locals = λ row values is. absurd cc;
}

second : TypedExpr
second = Stored 0 sorts.Num (PlaceOf (tree_roots.Slot 0) (Held (num 2)) parts.Whole sorts.Num)

reads_the_second : Comes (expr tree main second) running (number 20)
unfolding second constant_value
reads_the_second = expr_comes tree main known running holds second (number 20) refl
