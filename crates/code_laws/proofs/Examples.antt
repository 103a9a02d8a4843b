-- A task of two statements, x := 1 + twice(4); and TPWrite "x=" \Num:=x; with FUNC num twice(num n). The places of the
-- sum and of the function in its compiled code, and their outcomes.
use Rattle.std.proofs.Common.{◌≡◌, refl, subst, ℕ, List, [], ◌∷◌, length, Some, lit≤}
use Rattle.std.specs.Prelude.{codes}
use Rattle.std.proofs.lemmas.List.Elements.{All-cons, All-nil}
use Rattle.rapid_model.specs.declared.part_name.PartName.TheVariants as parts
use Rattle.rapid_model.specs.declared.request.Request.TheVariants.{Look}
use Rattle.rapid_model.specs.declared.sort.Sort.TheVariants as sorts
use Rattle.rapid_model.specs.declared.operator.Operator.TheVariants as operators
use Rattle.rapid_model.specs.declared.mode.Mode.TheVariants as modes
use Rattle.typed_trees.specs.Plain.{TypedExpr, TypedRoutine, TypedTree, Invoke, Return, Given, NoArgs, MoreArgs}
use Rattle.typed_trees.specs.declared.datum.Datum.{Datum}
use Rattle.typed_trees.specs.declared.datum.Datum.TheVariants as datums
use Rattle.typed_trees.specs.declared.datum.Root.TheVariants as places
use Rattle.typed_trees.specs.declared.expr.TreeRoot.TheVariants as roots
use Rattle.rapid_meaning.specs.Answering.{Asking, performed, sort_of_pers}
use Rattle.rapid_model.specs.declared.at.At.{At}
use Rattle.rapid_meaning.specs.Data.{Data, frame_at, with_frame}
use Rattle.rapid_meaning.specs.Doings.{Gives, after}
use Rattle.rapid_meaning.specs.Frames.{frame_of, initial}
use Rattle.rapid_meaning.specs.Runs.{deep}
use Rattle.rapid_meaning.proofs.Asked.{go}
use Rattle.rapid_meaning.proofs.Trees.{assigns, between, func, module_num, num, num_row, number, param, proc, says_num, stored, task_of, the_num, whole_of}
use Rattle.stack_code.specs.CodeRuns.{exec, fitting_by, goes, sort_in}
use Rattle.stack_code.specs.Compiled.{compiled, deepest_in, handlers_of, routine_rows, routines_code, rows_from, sorts_of}
use Rattle.stack_code.specs.Confs.{Saved, Started, Called, begun, conf}
use Rattle.stack_code.specs.Entering.{enter}
use Rattle.stack_code.specs.Needs.{pieces_need}
use Rattle.stack_code.specs.Placed.{Own, owner_at}
use Rattle.stack_code.specs.Raising.{raised_to}
use Rattle.stack_code.specs.Sizes.{pieces_size}
use Rattle.stack_code.specs.StmtLayouts.{pieces_code}
use Rattle.code_laws.specs.Calls.{ExprCalls, Takes}
use Rattle.code_laws.specs.Orderly.{IsOrderly, IsOrderlyRoutine}
use Rattle.code_laws.specs.Parts.{CallDoes, ExprDoes, ExprStands}
use Rattle.code_laws.proofs.PartCompiles.{compiled_has}
use Rattle.code_laws.proofs.Parts.{call_does, expr_does}

abbrev sum : TypedExpr
sum = between (num 1) operators.Add (Invoke 0 sorts.Num 1 (MoreArgs (Given (num 4)) NoArgs))

abbrev main : TypedRoutine
main = proc (assigns (module_num 0) sum ∷ says_num (codes "x=") (the_num 0) ∷ [])

abbrev own_num : TypedExpr
own_num = stored (whole_of (roots.Local 0) sorts.Num)

abbrev twice : TypedRoutine
twice = record (func (Return 0 (Some (between own_num operators.Add own_num)) ∷ [])) { params = param modes.Value ∷ [] }

abbrev calling : TypedTree
calling = task_of (num_row 0 ∷ []) (main ∷ twice ∷ [])

-- it is orderly

takes_one : Takes calling 1 1
takes_one routine there =
    let same : twice ≡ routine = cc in
    subst (λ (r : TypedRoutine). 1 ≡ length r.params) same refl

sum_calls : ExprCalls calling sum
sum_calls = (tt, ((takes_one, (tt, tt)), tt))

main_is_orderly : IsOrderlyRoutine calling main
main_is_orderly = record { list = ((tt, sum_calls), (((tt, (tt, tt)), tt), tt)); part = tt; labels = tt; traps = λ trap. refl }

twice_is_orderly : IsOrderlyRoutine calling twice
twice_is_orderly = record { list = ((tt, (tt, tt)), tt); part = tt; labels = tt; traps = λ trap. absurd cc }

is_orderly : IsOrderly calling
is_orderly = record {
  routines = All-cons (IsOrderlyRoutine calling) main (twice ∷ []) main_is_orderly
      (All-cons (IsOrderlyRoutine calling) twice [] twice_is_orderly (All-nil (IsOrderlyRoutine calling)));
  main = λ routine there.
      let same : main ≡ routine = cc in
      subst (λ (r : TypedRoutine). 0 ≡ length r.params) same refl;
}

-- the first statement: its Look at 0, its place at 1, the sum from 2, and Store at 6
abbrev first_own : Own
first_own = record { retry = 0; next = 7; at = record { «module» = 0; byte = 0 } }

abbrev x_place : Datum
x_place = datums.Place (record { root = places.Slot 0; part = parts.Whole })

sum_stands : ExprStands calling (compiled calling) main first_own 2 sum 1
unfolding deepest_in routines_code rows_from pieces_need pieces_size pieces_code owner_at
sum_stands = record { behind = []; stands = (refl, (refl, (refl, (refl, tt)))); calls = sum_calls; room = lit≤ tt }

sum_does : (depth : ℕ) → ExprDoes calling (compiled calling) main first_own 2 sum (x_place ∷ []) (begun 0) (Started ∷ []) depth
sum_does depth = expr_does calling (compiled calling) main first_own 2 sum (x_place ∷ []) (begun 0) (Started ∷ []) depth is_orderly (compiled_has calling is_orderly) sum_stands

-- main is running, and then x is 9
abbrev begins : Data
begins = record (initial calling) { frames = frame_of main [] ∷ [] }

abbrev first_at : At
first_at = record { «module» = 0; byte = 0 }

abbrev stored_nine : Data
stored_nine = record begins { slots = datums.Plain (number 9) ∷ []; place = Some first_at }

-- the function looks, and after the sum there are Store and the Look of the second statement
sum_comes : (j : ℕ) × (goes (fitting_by (compiled calling)) (compiled calling) j (Gives (conf 2 (x_place ∷ []) (begun 0) (Started ∷ []))) begins (go ∷ []) ≡ Asking Look stored_nine)
unfolding performed deep after frame_at with_frame sort_of_pers exec sort_in owner_at raised_to deepest_in handlers_of routine_rows routines_code rows_from sorts_of pieces_need pieces_size pieces_code
sum_comes = (sum_does 3).comes begins (go ∷ []) 2 tt

-- the function, called for the sum: after it there are Binary, Store and that Look
abbrev in_sum : List Saved
in_sum = Called 4 first_own (datums.Plain (number 1) ∷ x_place ∷ []) (begun 0) ∷ Started ∷ []

twice_does : (depth : ℕ) → CallDoes calling (compiled calling) 1 (datums.Plain (number 4) ∷ []) in_sum depth
twice_does depth = call_does calling (compiled calling) 1 (datums.Plain (number 4) ∷ []) in_sum depth is_orderly (compiled_has calling is_orderly) takes_one

twice_comes : (j : ℕ) × (goes (fitting_by (compiled calling)) (compiled calling) j (enter (compiled calling) 1 (datums.Plain (number 4) ∷ []) in_sum) begins (go ∷ []) ≡ Asking Look stored_nine)
unfolding performed deep after frame_at with_frame sort_of_pers exec sort_in owner_at raised_to deepest_in handlers_of routine_rows routines_code rows_from sorts_of pieces_need pieces_size pieces_code
twice_comes = (twice_does 3).comes begins (go ∷ []) 3 tt
