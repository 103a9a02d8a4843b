-- Small tasks that break one rule of well typed trees and misfit: so each of these rules is needed.
use Rattle.std.proofs.Common.{◌≡◌, refl, true, [], ◌∷◌, None}
use Rattle.std.specs.Prelude.{codes}
use Rattle.rapid_model.specs.declared.part_name.PartName.TheVariants as parts
use Rattle.rapid_model.specs.declared.request.Request.TheVariants.{Look}
use Rattle.rapid_model.specs.declared.sort.Sort.TheVariants as sorts
use Rattle.typed_trees.specs.Plain.{Else, Goto, If, Invoke, Label, MoreArms, NoArgs, NoArms, NotHeld, PlaceOf, Retry, Return, stmts_of}
use Rattle.typed_trees.specs.declared.expr.TreeRoot.TheVariants as roots
use Rattle.rapid_meaning.specs.Runs.{asks, misfit}
use Rattle.rapid_meaning.proofs.Asked.{asked_along, go}
use Rattle.rapid_meaning.proofs.Trees.{assigns, bool, func, module_num, num, num_row, proc, raises, says_num, task_of, the_num, with_handler}

-- IF TRUE THEN GOTO l; ELSE l: ENDIF
label_of_another_list : asked_along (task_of [] (proc (If 0 (MoreArms (bool true) (stmts_of (Goto 0 1 ∷ [])) NoArms) (Else (stmts_of (Label 0 1 ∷ []))) ∷ []) ∷ [])) [] (go ∷ go ∷ [])
    ≡ asks Look ∷ asks Look ∷ misfit ∷ []
unfolding asked_along
label_of_another_list = refl

-- l: RAISE 7; ERROR GOTO l;
label_of_the_routine : asked_along (task_of [] (with_handler (proc (Label 0 1 ∷ raises 7 ∷ [])) (Goto 0 1 ∷ []) ∷ [])) [] (go ∷ go ∷ []) ≡ asks Look ∷ asks Look ∷ misfit ∷ []
unfolding asked_along
label_of_the_routine = refl

-- axis 1 of a num
part_of_another_type : asked_along (task_of (num_row 0 ∷ []) (proc (assigns (PlaceOf (roots.Slot 0) NotHeld (parts.Axis 1) sorts.Num) (num 1) ∷ []) ∷ [])) [] (go ∷ []) ≡ asks Look ∷ misfit ∷ []
unfolding asked_along
part_of_another_type = refl

-- x := TRUE; TPWrite "x=" \Num:=x;
value_of_another_type : asked_along (task_of (num_row 0 ∷ []) (proc (assigns (module_num 0) (bool true) ∷ says_num (codes "x=") (the_num 0) ∷ []) ∷ [])) [] (go ∷ go ∷ [])
    ≡ asks Look ∷ asks Look ∷ misfit ∷ []
unfolding asked_along
value_of_another_type = refl

-- RETRY outside an ERROR part
retry_anywhere : asked_along (task_of [] (proc (Retry 0 ∷ []) ∷ [])) [] (go ∷ []) ≡ asks Look ∷ misfit ∷ []
unfolding asked_along
retry_anywhere = refl

-- x := f(); with a RETURN; in f
function_without_a_value : asked_along (task_of (num_row 0 ∷ []) (proc (assigns (module_num 0) (Invoke 0 sorts.Num 1 NoArgs) ∷ []) ∷ func (Return 0 None ∷ []) ∷ [])) [] (go ∷ go ∷ [])
    ≡ asks Look ∷ asks Look ∷ misfit ∷ []
unfolding asked_along
function_without_a_value = refl
