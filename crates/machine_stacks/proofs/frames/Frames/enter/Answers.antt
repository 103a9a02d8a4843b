use Rattle.std.proofs.Common.{◌≡◌, ◌+◌, ◌<◌, ◌≤◌, List, ◌∷◌, ◌++◌, length, reverse, take, sym, ap, subst, ◌∙◌, append_assoc, arith}
use Rattle.std.proofs.lemmas.List.{length-append, length-reverse}
use Rattle.typed_trees.specs.declared.datum.Datum.{Datum}
use Rattle.rapid_meaning.specs.Data.{Frame, values_in}
use Rattle.machine_stacks.specs.Cuts.{IsCut}
use Rattle.machine_stacks.specs.FrameStack.{FrameStack, bases_of, frames_in}
use Rattle.machine_stacks.specs.declared.mark.Mark.{Mark}
use Rattle.machine_stacks.specs.Starts.{values_from}
use Rattle.machine_stacks.proofs.Framing.{cut-more, frames_in-more, length-frame, length-frames_in, same_frames, values_in-frames_in}
use Rattle.machine_stacks.proofs.frames.Frames.enter.Goals as goal

pub move_to-requires-clause-room : goal.move_to-requires-clause-room
move_to-requires-clause-room c =
    let f = c.self.inside in
    let top = c.args.operands.now.top in
    let own : List Datum = values_from c.args.firsts.now c.args.start c.args.own in
    let P : FrameStack → Type 0 = λ o. values_in o.frames + length (reverse (take c.args.args top) ++ own) ≤ o.room in
    omega (arith, subst P (sym c.self.view_is) c.requires.room, length-frame top own c.args.args c.requires.args, values_in-frames_in f.values.items (reverse f.marks.items) c.self.invariant)

pub append_firsts-requires : goal.append_firsts-requires
append_firsts-requires c =
    let f = c.self.inside in
    let top = c.args.operands.now.top in
    let own : List Datum = values_from c.args.firsts.now c.args.start c.args.own in
    let P : FrameStack → Type 0 = λ o. values_in o.frames + length (reverse (take c.args.args top) ++ own) ≤ o.room in
    let moved : length c.move_to.new.list.items ≡ length f.values.items + length (reverse (take c.args.args top)) =
    ap length c.move_to.ensures.moved ∙ length-append f.values.items (reverse (take c.args.args top)) in
    omega (arith, moved, length-append (reverse (take c.args.args top)) own, subst P (sym c.self.view_is) c.requires.room, values_in-frames_in f.values.items (reverse f.marks.items) c.self.invariant)

pub push_reserved-requires : goal.push_reserved-requires
push_reserved-requires c =
    let f = c.self.inside in
    let P : FrameStack → Type 0 = λ o. length o.frames < o.depth in
    omega (arith, subst P (sym c.self.view_is) c.requires.depth, length-frames_in f.values.items (reverse f.marks.items), length-reverse f.marks.items)

pub invariant_of-self : goal.invariant_of-self
invariant_of-self c =
    let f = c.self.inside in
    let args : List Datum = reverse (take c.args.args c.args.operands.now.top) in
    let own : List Datum = values_from c.args.firsts.now c.args.start c.args.own in
    let base : c.len-base.result ≡ length f.values.items = omega arith in
    let all : c.append_firsts.new.values.items ≡ f.values.items ++ (args ++ own) =
    c.append_firsts.ensures.appended ∙ ap (λ xs. xs ++ own) c.move_to.ensures.moved ∙ append_assoc f.values.items args own in
    let P : List Mark → Type 0 = λ ms. IsCut (length c.append_firsts.new.values.items) (bases_of (reverse ms)) in
    subst P (sym c.push_reserved.ensures.items) (cut-more f.values.items (args ++ own) c.append_firsts.new.values.items f.marks.items c.len-base.result base all c.self.invariant)

pub returns-clause-entered : goal.returns-clause-entered
returns-clause-entered c =
    let f = c.self.inside in
    let args : List Datum = reverse (take c.args.args c.args.operands.now.top) in
    let own : List Datum = values_from c.args.firsts.now c.args.start c.args.own in
    let base : c.len-base.result ≡ length f.values.items = omega arith in
    let all : c.append_firsts.new.values.items ≡ f.values.items ++ (args ++ own) =
    c.append_firsts.ensures.appended ∙ ap (λ xs. xs ++ own) c.move_to.ensures.moved ∙ append_assoc f.values.items args own in
    let first : Frame = record { values = args ++ own; seen = 0 } in
    let frames : frames_in c.append_firsts.new.values.items (reverse c.push_reserved.new.self.items) ≡ first ∷ frames_in f.values.items (reverse f.marks.items) =
    ap (λ ms. frames_in c.append_firsts.new.values.items (reverse ms)) c.push_reserved.ensures.items
    ∙ frames_in-more f.values.items (args ++ own) c.append_firsts.new.values.items f.marks.items c.len-base.result base all in
    same_frames _ _ _ _ _ _ frames (c.append_firsts.ensures.room ∙ c.move_to.ensures.room) c.push_reserved.ensures.capacity
    ∙ ap (λ (o : FrameStack). record o { frames = first ∷ o.frames }) c.self.view_is
