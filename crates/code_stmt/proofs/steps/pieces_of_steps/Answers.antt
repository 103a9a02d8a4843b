use Rattle.std.proofs.Common.{◌≡◌, ℕ, ◌+◌, ◌<◌, List, ◌++◌, length, get_or, drop, Option, option_map, sym, ap, ◌∙◌}
use Rattle.std.specs.List.{cons_option}
use Rattle.std.proofs.lemmas.List.{append-nil, at_drop_all, at_drop_more, map_push}
use Rattle.std.specs.declared.alloc.Global.{Global}
use Rattle.std.specs.declared.vec.Vec.{Vec}
use Rattle.stack_code.specs.Pieces as plain
use Rattle.stack_code.specs.declared.step.Step.{Step}
use Rattle.typed_trees.specs.Plain.{TypedArg, TypedRoutine, TypedTree}
use Rattle.code_expr.specs.Contexts.{routine_of, tree_of}
use Rattle.code_stmt.specs.Views.{view_args, view_piece, view_pieces}
use Rattle.code_stmt.specs.declared.piece.Piece.{Piece}
use Rattle.code_stmt.proofs.ArgumentLists.{one_further}
use Rattle.code_stmt.proofs.steps.pieces_of_steps.Goals as goal
use Rattle.code_stmt.proofs.steps.pieces_of_steps.Goals.{in-Some+in_ok-push-in-Some, in-None}

-- the pieces of the steps that are left: that of the first, if it has one, and those of the rest
first_step : (tree : TypedTree) (routine : TypedRoutine) (args options : List TypedArg) (steps : List Step) (i : ℕ) (d : Step) (piece : Option plain.Piece) → i < length steps → piece ≡ plain.piece_of tree routine args options (get_or steps i d) →
    plain.pieces_of_steps tree routine args options (drop i steps) ≡ cons_option piece (plain.pieces_of_steps tree routine args options (drop (i + 1) steps))
first_step tree routine args options steps i d piece there is =
    at_drop_more (λ left. plain.pieces_of_steps tree routine args options left) steps i d there
    ∙ ap (λ o. cons_option o (plain.pieces_of_steps tree routine args options (drop (i + 1) steps))) (sym is)

pub loop-step-preserved : goal.loop-step-preserved
loop-step-preserved c =
    let tree = tree_of c.args.context.now in
    let routine = routine_of c.args.context.now in
    let args = view_args c.args.args.now in
    let options = view_args c.args.options.now in
    let steps = c.args.steps.now in
    let i = c.loop-step.step-index in
    let done = c.loop-step.pieces.items in
    let left = plain.pieces_of_steps tree routine args options (drop i steps) in
    let rest = plain.pieces_of_steps tree routine args options (drop (i + 1) steps) in
    let front = first_step tree routine args options steps i _ _ c.loop-step-test.true c.piece_of.ensures in
    elim c.match-piece_of.branch [
      | in-Some+in_ok-push-in-Some w ↦
          ap (λ (v : Vec Piece Global). view_pieces v.items ++ rest) w.pieces-is
          ∙ (ap (λ (ps : List Piece). view_pieces ps ++ rest) w.in_ok-push-in-Some.ensures.items
          ∙ (ap (λ ps. ps ++ rest) (map_push view_piece done _)
          ∙ one_further (view_pieces done) (view_piece w.in-Some.piece) left rest (plain.pieces_of_steps tree routine args options steps) c.loop-step.invariant
          (front ∙ ap (λ (o : Option Piece). cons_option (option_map view_piece o) rest) w.in-Some.is)))
      | in-None w ↦
          ap (λ (v : Vec Piece Global). view_pieces v.items ++ rest) w.pieces-is
          ∙ (ap (λ ps. view_pieces done ++ ps) (sym (front ∙ ap (λ (o : Option Piece). cons_option (option_map view_piece o) rest) w.in-None.is))
          ∙ c.loop-step.invariant)
    ]

pub returns : goal.returns
returns c =
    let tree = tree_of c.args.context.now in
    let routine = routine_of c.args.context.now in
    let args = view_args c.args.args.now in
    let options = view_args c.args.options.now in
    let done = view_pieces c.loop-step.pieces.items in
    sym (append-nil done)
    ∙ (ap (λ ps. done ++ ps) (sym (at_drop_all (λ left. plain.pieces_of_steps tree routine args options left) c.args.steps.now c.loop-step.step-index c.loop-step-test.false))
    ∙ c.loop-step.invariant)
