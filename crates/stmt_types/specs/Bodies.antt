-- The typed form of a routine's statements, or the first broken rule in them: from left to right, the parts before the
-- whole (RAPID Kernel, statements).
use Rattle.std.specs.Prelude.{ℕ, ◌+◌, Bool, true, false, not, List, [], ◌∷◌, ◌++◌, Option, Some, None, Ok}
use Rattle.raw_trees.specs.Plain.{PlainName, PlainExpr, PlainPlace, PlainArgs, PlainStmt, PlainStmts, PlainArms, PlainCases, PlainElse, PlaceOf, Assign, Call, Label, Goto, Return, Exit, Raise, Retry, TryNext, Connect, If, IfOne, For, While, Test, NoStmts, MoreStmts, NoArms, MoreArms, NoCases, MoreCases, NoElse, Else}
use Rattle.rapid_model.specs.declared.operator.Operator.TheVariants as operators
use Rattle.rapid_model.specs.declared.routine_kind.RoutineKind.{RoutineKind}
use Rattle.rapid_model.specs.declared.routine_kind.RoutineKind.TheVariants as kinds
use Rattle.rapid_model.specs.declared.instruction.Instruction.{Instruction}
use Rattle.rapid_model.specs.declared.sort.Sort.{Sort}
use Rattle.rapid_model.specs.declared.sort.Sort.TheVariants as sorts
use Rattle.typed_trees.specs.Plain
use Rattle.typed_trees.specs.Plain.{TypedExpr, TypedExprs, TypedPlace, TypedArgs, TypedStmt, TypedStmts, TypedArms, TypedCases, TypedElse}
use Rattle.rule_checks.specs.declared.rule.TypeRule.TheVariants.{NoName, NotThis, TypeClash, ReadOnly, NoLabel, LabelTwice, HandlerOnly, ReturnKind}
use Rattle.data_scopes.specs.declared.meant.Meant.{Meant}
use Rattle.data_scopes.specs.declared.meant.Meant.TheVariants as meants
use Rattle.data_scopes.specs.Called.{kind_of, params_of, data_count_of, result_of}
use Rattle.rule_checks.specs.Checks.{◌>>=◌, must}
use Rattle.rule_checks.specs.TypeChecks.{Checked}
use Rattle.data_scopes.specs.Scopes.{Names}
use Rattle.rapid_model.specs.Sorts.{has_values}
use Rattle.named_data.specs.declared.named.Source.{Source}
use Rattle.named_data.specs.declared.named.Source.TheVariants as sources
use Rattle.named_data.specs.declared.wanted.Wanted.TheVariants.{Any, Is, Same, Fits}
use Rattle.named_data.specs.Data.{NamedPart, named}
use Rattle.named_data.specs.Rules.{Site, fail, at_byte}
use Rattle.expr_types.specs.Arguments.{is_fixed}
use Rattle.expr_types.specs.Calls.{routine_signature, instruction_signature}
use Rattle.expr_types.specs.Places.{place, lent_place}
use Rattle.expr_types.specs.Typing.{typed, call_arguments, sort_of}
use Rattle.stmt_types.specs.Labels.{own_labels, label_number, is_first, is_visible}

-- the routine that is checked: the names, its module's number and its own, whether it is a procedure, a function or a
-- trap, and its labels
pub record Body : Type 0 where
  pub names : Names
  pub «module» : ℕ
  pub routine : ℕ
  pub kind : RoutineKind
  pub labels : List PlainName

-- the context of a statement: the innermost FOR around it, the labels of its own list and of the enclosing ones, and
-- whether it is in the ERROR part
pub record Around : Type 0 where
  pub within : Option ℕ
  pub labels : List PlainName
  pub handler : Bool

abbrev pub site : Body → Around → ℕ → Site
site body around at = record {
  names = body.names;
  spot = record { «module» = body.«module»; routine = Some body.routine; within = around.within; at = at };
}

abbrev pub into : Around → PlainStmts → Around
into around list = record { within = around.within; labels = own_labels list ++ around.labels; handler = around.handler }

abbrev pub into_loop : Around → ℕ → PlainStmts → Around
into_loop around loop list = record { within = Some loop; labels = own_labels list ++ around.labels; handler = around.handler }

-- nothing is around a routine's list, or around its ERROR part
abbrev pub outside : Bool → Around
outside handler = record { within = None; labels = []; handler = handler }

-- the name of a place
abbrev pub name_of : PlainPlace → PlainName
name_of (PlaceOf name held components) = name

-- the name is that of a signal, which cannot be assigned
abbrev pub is_signal : Option Meant → Bool
is_signal (Some (meants.Signal number)) = true
is_signal _ = false

abbrev pub no_signal : Site → PlainName → Checked (Unit {0})
no_signal s name = must (not (is_signal (named s name))) (at_byte s name.at NotThis)

-- the place of a part that is written
abbrev pub target_from : Site → ℕ → NamedPart → Source → Checked TypedPlace
target_from s at p (sources.Place root access) = Ok (Plain.PlaceOf root p.index p.part p.sort)
target_from s at p _ = fail s at ReadOnly

-- the place on the left of an assignment
abbrev pub target : Site → PlainPlace → Checked TypedPlace
target s written =
    no_signal s (name_of written) >>= (λ _.
    place s false written >>= (λ p.
    must (has_values p.sort) (at_byte s (name_of written).at TypeClash) >>= (λ _.
    must (not (is_fixed p.source)) (at_byte s (name_of written).at ReadOnly) >>= (λ _. target_from s (name_of written).at p p.source))))

abbrev pub place_sort : TypedPlace → Sort
place_sort (Plain.PlaceOf root index part sort) = sort

abbrev pub assigned : Site → ℕ → PlainPlace → PlainExpr → Checked TypedStmt
assigned s at written value =
    target s written >>= (λ p. typed s value (Is (place_sort p)) >>= (λ t. Ok (Plain.Assign at p t)))

abbrev pub instructed : Site → ℕ → Instruction → PlainArgs → Checked TypedStmt
instructed s at instruction args =
    call_arguments s at args (instruction_signature instruction args) >>= (λ ts. Ok (Plain.Instruct at instruction ts))

-- a statement may call only procedures
abbrev pub procedure : Site → ℕ → PlainName → ℕ → PlainArgs → Option RoutineKind → Checked TypedStmt
procedure s at name routine args (Some kinds.Proc) =
    call_arguments s at args (routine_signature (params_of s.names.rows routine)) >>= (λ ts. Ok (Plain.Call at routine ts))
procedure s at name routine args kind = fail s name.at NotThis

abbrev pub call_meant : Site → ℕ → PlainName → PlainArgs → Option Meant → Checked TypedStmt
call_meant s at name args None = fail s name.at NoName
call_meant s at name args (Some (meants.Instruction instruction)) = instructed s at instruction args
call_meant s at name args (Some (meants.Routine routine)) = procedure s at name routine args (kind_of s.names.rows routine)
call_meant s at name args (Some _) = fail s name.at NotThis

abbrev pub called : Site → ℕ → PlainName → PlainArgs → Checked TypedStmt
called s at name args = call_meant s at name args (named s name)

abbrev pub labelled : Body → Site → ℕ → PlainName → Checked TypedStmt
labelled body s at name = must (is_first name body.labels) (at_byte s at LabelTwice) >>= (λ _. Ok (Plain.Label at (label_number name.text body.labels)))

-- the label is in the GOTO's own list or in an enclosing one
abbrev pub jumped : Body → Around → Site → ℕ → PlainName → Checked TypedStmt
jumped body around s at name =
    must (is_visible name.text around.labels) (at_byte s at NoLabel) >>= (λ _. Ok (Plain.Goto at (label_number name.text body.labels)))

-- a function returns a value of its type; no other routine returns one
abbrev pub returned_value : Site → ℕ → PlainExpr → RoutineKind → Option Sort → Checked TypedStmt
returned_value s at value kinds.Func (Some sort) = typed s value (Is sort) >>= (λ t. Ok (Plain.Return at (Some t)))
returned_value s at value kind sort = typed s value Any >>= (λ t. fail s at ReturnKind)

abbrev pub is_function : RoutineKind → Bool
is_function kinds.Func = true
is_function kinds.Proc = false
is_function kinds.Trap = false

abbrev pub returned : Body → Site → ℕ → Option PlainExpr → Checked TypedStmt
returned body s at None = must (not (is_function body.kind)) (at_byte s at ReturnKind) >>= (λ _. Ok (Plain.Return at None))
returned body s at (Some value) = returned_value s at value body.kind (result_of s.names.rows body.routine)

-- outside an ERROR part, RAISE needs an error number
abbrev pub raised : Around → Site → ℕ → Option PlainExpr → Checked TypedStmt
raised around s at None = must around.handler (at_byte s at HandlerOnly) >>= (λ _. Ok (Plain.Raise at None))
raised around s at (Some number) = typed s number (Is sorts.Num) >>= (λ t. Ok (Plain.Raise at (Some t)))

abbrev pub in_handler : Around → Site → ℕ → TypedStmt → Checked TypedStmt
in_handler around s at tree = must around.handler (at_byte s at HandlerOnly) >>= (λ _. Ok tree)

-- the name must be that of a trap
abbrev pub trap_of_kind : Site → ℕ → ℕ → Option RoutineKind → Checked ℕ
trap_of_kind s at routine (Some kinds.Trap) = Ok routine
trap_of_kind s at routine kind = fail s at NotThis

abbrev pub trap_meant : Site → ℕ → Option Meant → Checked ℕ
trap_meant s at None = fail s at NoName
trap_meant s at (Some (meants.Routine routine)) = trap_of_kind s at routine (kind_of s.names.rows routine)
trap_meant s at (Some _) = fail s at NotThis

abbrev pub connected : Site → ℕ → PlainPlace → PlainName → Checked TypedStmt
connected s at written trap =
    no_signal s (name_of written) >>= (λ _.
    lent_place s (name_of written).at sorts.IntNum written >>= (λ p.
    trap_meant s trap.at (named s trap) >>= (λ r. Ok (Plain.Connect at p r))))

-- the bounds of a FOR, and its step
pub record Bounds : Type 0 where
  pub first : TypedExpr
  pub last : TypedExpr
  pub step : Option TypedExpr

abbrev pub step_of : Site → Option PlainExpr → Checked (Option TypedExpr)
step_of s None = Ok None
step_of s (Some e) = typed s e (Is sorts.Num) >>= (λ t. Ok (Some t))

abbrev pub bounds : Site → PlainExpr → PlainExpr → Option PlainExpr → Checked Bounds
bounds s first last step =
    typed s first (Is sorts.Num) >>= (λ f. typed s last (Is sorts.Num) >>= (λ l. step_of s step >>= (λ t.
    Ok (record { first = f; last = l; step = t }))))

-- the place of a FOR's variable, after the parameters and data of its routine
abbrev pub counter_index : Body → ℕ → ℕ
counter_index body loop = data_count_of body.names.rows (Some body.routine) + loop

-- the values of a CASE, which must have the type of the tested value
abbrev pub case_values : Site → Sort → List PlainExpr → Checked TypedExprs
case_values s sort [] = Ok Plain.NoExprs
case_values s sort (e ∷ es) = typed s e (Same sort) >>= (λ t. case_values s sort es >>= (λ ts. Ok (Plain.MoreExprs t ts)))

-- a typed form, and the number of the next FOR
pub record Typed (A : Type 0) : Type 0 where
  pub tree : A
  pub next : ℕ

abbrev pub with_next : ℕ → TypedStmt → Typed TypedStmt
with_next next tree = record { tree = tree; next = next }

abbrev pub then_next : ℕ → Checked TypedStmt → Checked (Typed TypedStmt)
then_next next checked = checked >>= (λ t. Ok (with_next next t))

-- FORs are numbered in text order, and the next one has this number
unfoldable mutual
  pub stmt : Body → PlainStmt → Around → ℕ → Checked (Typed TypedStmt)
  stmt body (Assign at written value) around next = then_next next (assigned (site body around at) at written value)
  stmt body (Call at name args) around next = then_next next (called (site body around at) at name args)
  stmt body (Label at name) around next = then_next next (labelled body (site body around at) at name)
  stmt body (Goto at name) around next = then_next next (jumped body around (site body around at) at name)
  stmt body (Return at value) around next = then_next next (returned body (site body around at) at value)
  stmt body (Exit at) around next = Ok (with_next next (Plain.Exit at))
  stmt body (Raise at number) around next = then_next next (raised around (site body around at) at number)
  stmt body (Retry at) around next = then_next next (in_handler around (site body around at) at (Plain.Retry at))
  stmt body (TryNext at) around next = then_next next (in_handler around (site body around at) at (Plain.TryNext at))
  stmt body (Connect at written trap) around next = then_next next (connected (site body around at) at written trap)
  stmt body (If at arms other) around next =
      branches body arms (site body around at) around next >>= (λ a.
      otherwise body other around a.next >>= (λ o. Ok (record { tree = Plain.If at a.tree o.tree; next = o.next })))
  stmt body (IfOne at test then) around next =
      typed (site body around at) test (Is sorts.Bool) >>= (λ t.
      stmt body then around next >>= (λ s. Ok (record { tree = Plain.IfOne at t s.tree; next = s.next })))
  stmt body (For at name first last step list) around next =
      bounds (site body around at) first last step >>= (λ b.
      stmts body list (into_loop around next list) (next + 1) >>= (λ l.
      Ok (record { tree = Plain.For at (counter_index body next) b.first b.last b.step l.tree; next = l.next })))
  stmt body (While at test list) around next =
      typed (site body around at) test (Is sorts.Bool) >>= (λ t.
      stmts body list (into around list) next >>= (λ l. Ok (record { tree = Plain.While at t l.tree; next = l.next })))
  stmt body (Test at value cases other) around next =
      typed (site body around at) value (Fits operators.Equal) >>= (λ t.
      choices body cases (site body around at) (sort_of t) around next >>= (λ c.
      otherwise body other around c.next >>= (λ o. Ok (record { tree = Plain.Test at t c.tree o.tree; next = o.next }))))

  -- the rest of a list, whose labels are in the context
  pub stmts : Body → PlainStmts → Around → ℕ → Checked (Typed TypedStmts)
  stmts body NoStmts around next = Ok (record { tree = Plain.NoStmts; next = next })
  stmts body (MoreStmts first list) around next =
      stmt body first around next >>= (λ s.
      stmts body list around s.next >>= (λ l. Ok (record { tree = Plain.MoreStmts s.tree l.tree; next = l.next })))

  -- IF and ELSEIF
  pub branches : Body → PlainArms → Site → Around → ℕ → Checked (Typed TypedArms)
  branches body NoArms s around next = Ok (record { tree = Plain.NoArms; next = next })
  branches body (MoreArms test list arms) s around next =
      typed s test (Is sorts.Bool) >>= (λ t.
      stmts body list (into around list) next >>= (λ l.
      branches body arms s around l.next >>= (λ a. Ok (record { tree = Plain.MoreArms t l.tree a.tree; next = a.next }))))

  -- CASE
  pub choices : Body → PlainCases → Site → Sort → Around → ℕ → Checked (Typed TypedCases)
  choices body NoCases s sort around next = Ok (record { tree = Plain.NoCases; next = next })
  choices body (MoreCases values list cases) s sort around next =
      case_values s sort values >>= (λ vs.
      stmts body list (into around list) next >>= (λ l.
      choices body cases s sort around l.next >>= (λ c. Ok (record { tree = Plain.MoreCases vs l.tree c.tree; next = c.next }))))

  -- ELSE and DEFAULT
  pub otherwise : Body → PlainElse → Around → ℕ → Checked (Typed TypedElse)
  otherwise body NoElse around next = Ok (record { tree = Plain.NoElse; next = next })
  otherwise body (Else list) around next =
      stmts body list (into around list) next >>= (λ l. Ok (record { tree = Plain.Else l.tree; next = l.next }))
