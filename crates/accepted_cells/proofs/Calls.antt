-- The arguments of calls of functions and procedures: as many as are needed, and each as its need says.
use Rattle.std.proofs.Common.{◌≡◌, ℕ, ◌+◌, Bool, true, not, ◌||◌, ◌==◌, List, [], ◌∷◌, length, map, drop, Option, Some, refl, sym, subst, ◌∙◌, nat_le, nat_lt, slice_get, length-drop, arith}
use Rattle.std.proofs.lemmas.Bool.{and_parts, eqb-true}
use Rattle.raw_trees.specs.Plain.{PlainArgs, PlainName, Needed, Optional, NoArgs, MoreArgs}
use Rattle.rapid_model.specs.declared.routine_kind.RoutineKind.{RoutineKind}
use Rattle.rapid_model.specs.declared.routine_kind.RoutineKind.TheVariants as routines
use Rattle.rapid_model.specs.declared.function.Function.{Function}
use Rattle.rapid_model.specs.declared.sort.Sort.{Sort}
use Rattle.rapid_builtins.specs.Calls.{OptionRow, function_needs_arm, function_result, option_named}
use Rattle.rapid_builtins.specs.declared.need.Need.{Need}
use Rattle.typed_trees.specs.Plain as trees
use Rattle.typed_trees.specs.Plain.{TypedArg, TypedArgs, TypedRoutine}
use Rattle.data_scopes.specs.declared.meant.Meant.{Meant}
use Rattle.data_scopes.specs.declared.meant.Meant.TheVariants as meants
use Rattle.data_scopes.specs.Called.{kind_of, params_of, result_of}
use Rattle.named_data.specs.Data.{named}
use Rattle.named_data.specs.Rules.{Site}
use Rattle.expr_types.specs.declared.callee.Callee.{Callee}
use Rattle.expr_types.specs.declared.callee.Callee.TheVariants as callees
use Rattle.expr_types.specs.Calls.{Called, Signature, Taking, after, all_in, function_signature, needed_in, routine_signature, taking}
use Rattle.expr_types.specs.Typing.{invoked, sort_of}
use Rattle.type_laws.specs.Calls.{IsCall, IsFunction, IsFunctionMeant, IsRoutine}
use Rattle.tree_typing.specs.Expressions.{AreArgs, IsExpr}
use Rattle.tree_typing.specs.Kinds.{Kind, need_of}
use Rattle.tree_typing.specs.Setting.{Setting}
use Rattle.accepted_cells.proofs.Named.{IsCallable, Suits}
use Rattle.accepted_cells.proofs.Taken.{AreTaken, IsOptionTaken, IsTakenBy}

module _ (c : Setting) (kinds : List Kind) where
  no_args : (needs : List Need) → 0 ≡ length needs → AreArgs c kinds trees.NoArgs needs
  no_args [] e = tt
  no_args (need ∷ more) e = absurd (omega arith)

  one_more : (needs : List Need) (x : TypedArg) (xs : TypedArgs) (n : ℕ) → n + 1 ≡ length needs → IsTakenBy c kinds needs x → AreArgs c kinds xs (drop 1 needs) → AreArgs c kinds (trees.MoreArgs x xs) needs
  one_more [] x xs n e one rest = absurd (omega arith)
  one_more (need ∷ more) x xs n e one rest = (one, rest)

  -- arguments without options, as many as are needed
  pub args_right : (args : PlainArgs) (t : Taking) (us : TypedArgs) → t.options ≡ [] → needed_in args ≡ length t.needs → AreTaken c kinds args t us → AreArgs c kinds us t.needs
  args_right NoArgs t us none count is = subst (λ (x : TypedArgs). AreArgs c kinds x t.needs) (sym is) (no_args t.needs count)
  args_right (MoreArgs (Needed e) more) t us none count (x, xs, one, rest, is) =
      let left : needed_in more ≡ length (drop 1 t.needs) = omega (arith, count, length-drop 1 t.needs) in
      subst (λ (a : TypedArgs). AreArgs c kinds a t.needs) (sym is)
      (one_more t.needs x xs (needed_in more) count one (args_right more (after t (Needed e)) xs none left rest))
  args_right (MoreArgs (Optional name held at) more) t us none count (x, xs, one, rest, is) =
      absurd (subst (λ (os : List OptionRow). IsOptionTaken c kinds t (option_named name.text os) x) none one)

  module _ (s : Site) (suits : Suits c kinds s) (at : ℕ) (args : PlainArgs) (us : TypedArgs) where
    -- as many arguments as are needed
    counted : (signature : Signature) → IsCall s signature args → needed_in args ≡ length signature.needs
    counted signature call = eqb-true (needed_in args) (length signature.needs) (and_parts (needed_in args == length signature.needs) (nat_le (all_in args) 32) call.counted).0

    abbrev IsRight : Called → Type 0
    IsRight called = AreTaken c kinds args (taking called.signature) us → IsCall s called.signature args → IsExpr c kinds (invoked at called.sort called.callee us) called.sort

    builtin_right : (f : Function) → IsRight (record { callee = callees.Builtin f; signature = function_signature f; sort = function_result f })
    builtin_right f taken call = (
      refl,
      refl,
      subst (λ (axes : ℕ). (not (function_needs_arm f) || nat_lt 0 axes) ≡ true) suits.axes call.armed,
      args_right args (taking (function_signature f)) us refl (counted (function_signature f) call) taken,
    )

    routine_right : (number : ℕ) (kind : Option RoutineKind) (result : Option Sort) (called : Called) → kind_of s.names.rows number ≡ kind → result_of s.names.rows number ≡ result
        → IsRoutine s number kind result called → IsRight called
    routine_right number (Some routines.Func) (Some sort) called is_kind is_result is =
        let there : IsCallable c s.names.rows number routines.Func = suits.routines number routines.Func is_kind in
        let signature : Signature = routine_signature (params_of s.names.rows number) in
        subst IsRight (sym is) (λ taken call. (
          refl,
          there.routine,
          there.there,
          there.same_kind,
          there.result ∙ is_result,
          subst (AreArgs c kinds us) (sym there.params) (args_right args (taking signature) us refl (counted signature call) taken),
        ))
    routine_right number _ _ called is_kind is_result is = absurd is

    -- a call of a procedure
    pub procedure_right : (number : ℕ) → kind_of s.names.rows number ≡ Some routines.Proc → AreTaken c kinds args (taking (routine_signature (params_of s.names.rows number))) us
        → IsCall s (routine_signature (params_of s.names.rows number)) args
        → (routine : TypedRoutine) × (slice_get c.tree.routines number ≡ Some routine) × (routine.kind ≡ routines.Proc) × AreArgs c kinds us (map need_of routine.params)
    procedure_right number is_kind taken call =
        let there : IsCallable c s.names.rows number routines.Proc = suits.routines number routines.Proc is_kind in
        let signature : Signature = routine_signature (params_of s.names.rows number) in (
          there.routine,
          there.there,
          there.same_kind,
          subst (AreArgs c kinds us) (sym there.params) (args_right args (taking signature) us refl (counted signature call) taken),
        )

    function_right : (meant : Option Meant) (called : Called) → IsFunctionMeant s meant called → IsRight called
    function_right (Some (meants.Function f)) called is = subst IsRight (sym is) (builtin_right f)
    function_right (Some (meants.Routine number)) called is = routine_right number (kind_of s.names.rows number) (result_of s.names.rows number) called refl refl is
    function_right _ called is = absurd is

    -- a call in a place for a value
    pub called_right : (name : PlainName) (called : Called) → IsFunction s name called → IsRight called
    called_right name called is = function_right (named s name) called is

pub invoked_sort : (at : ℕ) (sort : Sort) (callee : Callee) (us : TypedArgs) → sort_of (invoked at sort callee us) ≡ sort
invoked_sort at sort (callees.Builtin f) us = refl
invoked_sort at sort (callees.Routine number) us = refl
