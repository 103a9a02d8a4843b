-- An expression that is right is well typed.
use Rattle.std.proofs.Common.{◌≡◌, ℕ, ◌≤◌, Bool, false, List, [], ◌∷◌, length, refl, sym, subst, arith}
use Rattle.raw_trees.specs.Plain.{PlainArg, PlainArgs, PlainExpr, PlainExprs, PlainHeld, PlainName, PlainSteps, Number, Quoted, Truth, Group, Aggregate, Invoke, Place, Not, Signed, Chain, NoExprs, MoreExprs, NoSteps, MoreSteps, NotHeld, Held, PlaceOf, Needed, Optional, NoArgs, MoreArgs}
use Rattle.rapid_model.specs.declared.sort.Sort.{Sort}
use Rattle.rapid_model.specs.declared.sort.Sort.TheVariants as sorts
use Rattle.rapid_values.specs.Components.{Component, components}
use Rattle.rapid_builtins.specs.Calls.{option_named}
use Rattle.typed_trees.specs.Plain.{TypedArg, TypedArgs, TypedExpr, TypedExprs, TypedHeld, TypedSteps}
use Rattle.named_data.specs.declared.wanted.Wanted.{Wanted}
use Rattle.named_data.specs.declared.wanted.Wanted.TheVariants.{Brackets, Is, Same, ReferenceTo}
use Rattle.named_data.specs.Data.{NamedPart, is_empty, value_from, whole_of}
use Rattle.named_data.specs.Rules.{Site}
use Rattle.named_data.specs.Wants.{comes_to, first_operand, inside, needed_components, needed_sort}
use Rattle.expr_types.specs.Arguments.{is_held}
use Rattle.expr_types.specs.Calls.{Taking, after, taking}
use Rattle.expr_types.specs.Typing.{count, invoked, sort_of}
use Rattle.type_laws.specs.Expressions.{AreArguments, AreElements, IsExpr as IsTypedExpr, AreSteps as AreTypedSteps, IsIndex, IsIndexIn, IsOneArgument, IsPlaceValue}
use Rattle.type_laws.specs.Names.{IsPlace}
use Rattle.tree_typing.specs.Expressions.{AreComponents, AreSteps, IsExpr}
use Rattle.tree_typing.specs.Kinds.{Kind}
use Rattle.tree_typing.specs.Setting.{Setting}
use Rattle.accepted_cells.proofs.Arguments.{RightIndex, typed_as}
use Rattle.accepted_cells.proofs.Calls.{called_right, invoked_sort}
use Rattle.accepted_cells.proofs.Named.{Right, Suits}
use Rattle.accepted_cells.proofs.Places.{IsHeld, part_typed, value_sort, value_typed}
use Rattle.accepted_cells.proofs.Sorts.{IsWanted, is_wanted, operates, wanted_brackets, wanted_inside}
use Rattle.accepted_cells.proofs.Taken.{AreTaken, IsTaken, needed_taken, plain_taken, valued_taken}

-- the components of the type of an aggregate
brackets_of : (want : Wanted) → needed_components want ≡ components (needed_sort want)
brackets_of (Is sort) = refl
brackets_of (Brackets sort) = refl
brackets_of (ReferenceTo sort) = refl
brackets_of _ = refl

some_components : (cs : List Component) → is_empty cs ≡ false → 1 ≤ length cs
some_components [] e = absurd cc
some_components (c ∷ cs) e = omega arith

module _ (c : Setting) (kinds : List Kind) (s : Site) (suits : Suits c kinds s) where
  -- a value at a place
  value_right : (name : PlainName) (indexed : Bool) (i : TypedHeld) (names : List PlainName) (p : NamedPart) (want : Wanted) (at : ℕ) (t : TypedExpr) → IsHeld c kinds indexed i
      → IsPlace s false name indexed i names p → IsPlaceValue want at p t → Right c kinds want t
  value_right name indexed i names p want at t held is (valued, fit, is_t) =
      let d = is.datum in
      let q : NamedPart = record { source = d.source; array = d.array; index = i; part = is.part.name; sort = is.part.sort } in
      let has = subst (λ (x : NamedPart). IsPlaceValue want at x t) is.is_it (valued, fit, is_t) in
      let typed : IsExpr c kinds (value_from at q d.source) is.part.sort =
      value_typed c kinds at d.source d.sort d.array indexed i is.part (suits.data_are name d is.is_datum) is.has_index is.is_array held
      (part_typed d.sort (whole_of d.sort) names is.part is.is_part refl) has.0 in
      let same : sort_of (value_from at q d.source) ≡ is.part.sort = value_sort at q d.source in
      subst (Right c kinds want) (sym has.2) (
        subst (IsExpr c kinds (value_from at q d.source)) (sym same) typed,
        subst (IsWanted want) (sym same) (is_wanted want is.part.sort has.1),
      )

  mutual
    unfolding IsTypedExpr AreElements AreTypedSteps IsIndex IsIndexIn AreArguments IsOneArgument

    pub expr_right : (e : PlainExpr) (want : Wanted) (t : TypedExpr) → IsTypedExpr s e want t → Right c kinds want t
    expr_right (Number at text) want t (fit, is) = subst (Right c kinds want) (sym is) ((refl, refl), is_wanted want sorts.Num fit)
    expr_right (Quoted at text) want t (fit, is) = subst (Right c kinds want) (sym is) ((refl, refl), is_wanted want sorts.Text fit)
    expr_right (Truth at b) want t (fit, is) = subst (Right c kinds want) (sym is) ((refl, refl), is_wanted want sorts.Bool fit)
    expr_right (Group at e) want t (u, part, on, is) =
        let h : Right c kinds (inside want) u = expr_right e (inside want) u part in
        subst (Right c kinds want) (sym is) ((refl, h.0), wanted_inside want (sort_of u) h.1)
    expr_right (Aggregate at es) want t (us, are, some, counted, is) =
        let sort : Sort = needed_sort want in
        let parts = elements_right es (needed_components want) us counted are in
        subst (Right c kinds want) (sym is) (
          (
            refl,
            subst (λ (cs : List Component). 1 ≤ length cs) (brackets_of want) (some_components (needed_components want) some),
            subst (AreComponents c kinds us) (brackets_of want) parts,
          ),
          wanted_brackets want some,
        )
    expr_right (Invoke at name args) want t (called, us, function, are, fit, rules, is) =
        let typed : IsExpr c kinds (invoked at called.sort called.callee us) called.sort =
        called_right c kinds s suits at args us name called function (arguments_taken args (taking called.signature) us are) rules in
        let same : sort_of (invoked at called.sort called.callee us) ≡ called.sort = invoked_sort at called.sort called.callee us in
        subst (Right c kinds want) (sym is) (
          subst (IsExpr c kinds (invoked at called.sort called.callee us)) (sym same) typed,
          subst (IsWanted want) (sym same) (is_wanted want called.sort fit),
        )
    expr_right (Place at (PlaceOf name held names)) want t (i, p, index, place, value) = value_right name (is_held held) i names p want at t (index_right held i index) place value
    expr_right (Not at e) want t (u, part, fit, is) =
        let h : Right c kinds (Same sorts.Bool) u = expr_right e (Same sorts.Bool) u part in
        subst (Right c kinds want) (sym is) ((refl, refl, subst (IsExpr c kinds u) h.1 h.0), is_wanted want sorts.Bool fit)
    expr_right (Signed at minus e) want t (u, part, fit, is) =
        let h : Right c kinds (Same sorts.Num) u = expr_right e (Same sorts.Num) u part in
        subst (Right c kinds want) (sym is) ((refl, refl, subst (IsExpr c kinds u) h.1 h.0), is_wanted want sorts.Num fit)
    expr_right (Chain at e ss) want t (u, us, sort, part, rest, fit, is) =
        let h : Right c kinds (first_operand ss) u = expr_right e (first_operand ss) u part in
        subst (Right c kinds want) (sym is) ((refl, sort_of u, h.0, steps_right ss (sort_of u) us sort rest), is_wanted want sort fit)

    elements_right : (es : PlainExprs) (cs : List Component) (us : TypedExprs) → count es ≡ length cs → AreElements s es cs us → AreComponents c kinds us cs
    elements_right NoExprs [] us counted is = subst (λ (x : TypedExprs). AreComponents c kinds x []) (sym is) tt
    elements_right NoExprs (k ∷ cs) us counted is = absurd (omega arith)
    elements_right (MoreExprs e es) [] us counted h = absurd (omega arith)
    elements_right (MoreExprs e es) (k ∷ cs) us counted (u, more, part, rest, is) =
        let left : count es ≡ length cs = omega arith in
        subst (λ (x : TypedExprs). AreComponents c kinds x (k ∷ cs)) (sym is) (typed_as c kinds k.sort u (expr_right e (Is k.sort) u part), elements_right es cs more left rest)

    steps_right : (ss : PlainSteps) (left : Sort) (us : TypedSteps) (sort : Sort) → AreTypedSteps s ss left us sort → AreSteps c kinds us left sort
    steps_right NoSteps left us sort (is, same) = subst (λ (x : TypedSteps). AreSteps c kinds x left sort) (sym is) (sym same)
    steps_right (MoreSteps o e ss) left us sort (u, more, suit, part, rest, is) =
        let h : Right c kinds (Same left) u = expr_right e (Same left) u part in
        subst (λ (x : TypedSteps). AreSteps c kinds x left sort) (sym is)
        (comes_to o left, operates o left suit, subst (IsExpr c kinds u) h.1 h.0, steps_right ss (comes_to o left) more sort rest)

    pub index_right : (held : PlainHeld) (i : TypedHeld) → IsIndex s held i → IsHeld c kinds (is_held held) i
    index_right NotHeld i is = is
    index_right (Held e) i (u, part, is) = (u, typed_as c kinds sorts.Num u (expr_right e (Is sorts.Num) u part), is)

    index_in_right : (e : PlainExpr) → RightIndex c kinds s suits e (IsIndexIn s e)
    index_in_right (Place at (PlaceOf name held names)) i h = index_right held i h
    index_in_right _ i h = absurd h

    pub arguments_taken : (args : PlainArgs) (t : Taking) (us : TypedArgs) → AreArguments s args t us → AreTaken c kinds args t us
    arguments_taken NoArgs t us is = is
    arguments_taken (MoreArgs a more) t us (x, xs, one, rest, is) = (x, xs, argument_taken a t x one, arguments_taken more (after t a) xs rest, is)

    argument_taken : (a : PlainArg) (t : Taking) (x : TypedArg) → IsOneArgument s a t x → IsTaken c kinds a t x
    argument_taken (Needed e) t x h = needed_taken c kinds s suits t.needs e (IsTypedExpr s e) (IsIndexIn s e) x (expr_right e) (index_in_right e) h
    argument_taken (Optional name NotHeld at) t x h = plain_taken c kinds s suits t (option_named name.text t.options) x h
    argument_taken (Optional name (Held e) at) t x h =
        valued_taken c kinds s suits t (option_named name.text t.options) e (IsTypedExpr s e) (IsIndexIn s e) x (expr_right e) (index_in_right e) h
