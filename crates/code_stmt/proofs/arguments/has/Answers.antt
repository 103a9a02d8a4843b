use Rattle.std.proofs.Common.{◌≡◌, ℕ, ◌+◌, ◌<◌, ◌||◌, List, ◌∷◌, length, get_or, drop, sym, ap, ◌∙◌}
use Rattle.std.proofs.lemmas.List.{at_drop_all, at_drop_more}
use Rattle.std.specs.Borrow.{Bor}
use Rattle.rapid_meaning.specs.Instructions.{has}
use Rattle.typed_trees.specs.Views.{view_arg}
use Rattle.typed_trees.specs.declared.expr.Arg.{Arg}
use Rattle.code_stmt.specs.Options.{is_named}
use Rattle.code_stmt.specs.Views.{view_args}
use Rattle.code_stmt.proofs.ArgumentLists.{has_more}
use Rattle.code_stmt.proofs.arguments.has.Goals as goal

-- the first of those that are left, or another
first_named : (name : List ℕ) (list : List (Bor Arg)) (i : ℕ) (x : Bor Arg) → i < length list → x ≡ get_or list i x → has name (view_args (drop i list)) ≡ (is_named name (view_arg x.now) || has name (view_args (drop (i + 1) list)))
first_named name list i x lt is =
    at_drop_more (λ left. has name (view_args left)) list i x lt
    ∙ (ap (λ (y : Bor Arg). has name (view_arg y.now ∷ view_args (drop (i + 1) list))) (sym is)
    ∙ has_more name (view_arg x.now) (view_args (drop (i + 1) list)))

pub returns-then-is_named : goal.returns-then-is_named
returns-then-is_named c =
    let name = c.args.name.now in
    let list = c.args.options.now in
    let i = c.loop-option.option-index in
    let front = first_named name list i c.option-item.result c.loop-option-test.true c.option-item.is in
    sym (front ∙ ap (λ b. b || has name (view_args (drop (i + 1) list))) (sym c.is_named.ensures ∙ c.if-is_named.true)) ∙ c.loop-option.invariant

pub loop-option-preserved : goal.loop-option-preserved
loop-option-preserved c =
    let name = c.args.name.now in
    let list = c.args.options.now in
    let i = c.loop-option.option-index in
    let front = first_named name list i c.option-item.result c.loop-option-test.true c.option-item.is in
    sym (front ∙ ap (λ b. b || has name (view_args (drop (i + 1) list))) (sym c.is_named.ensures ∙ c.if-is_named.false)) ∙ c.loop-option.invariant

pub returns : goal.returns
unfolding has
returns c =
    let name = c.args.name.now in
    let list = c.args.options.now in
    sym (at_drop_all (λ left. has name (view_args left)) list c.loop-option.option-index c.loop-option-test.false) ∙ c.loop-option.invariant
