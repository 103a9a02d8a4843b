use Rattle.std.proofs.Common.{◌≡◌, ◌≤◌, [], ◌∷◌, ◌++◌, get_or, sym, ap, ◌∙◌, arith, append_assoc, append-nil}
use Rattle.std.proofs.lemmas.Grind.{common_steps}
use Rattle.toml.specs.Data.{depth}
use Rattle.toml.specs.View.{view}
use Rattle.toml.proofs.Views.{Entry}
use Rattle.script_migration.proofs.Depths.{items_more, members_more}
use Rattle.script_migration.proofs.levels.+levels.Goals as goal

pub array_fits-items-preserved : goal.array_fits-items-preserved
array_fits-items-preserved c c' =
    let xs = c'.deref-item-items.result.now in
    let i = c'.items.item-index in
    let item = c'.item-item.result in
    let here : depth (view item) ≤ c'.args.levels = c'.value_fits.ensures (grind (arith, common_steps)) in
    let at : item ≡ get_or xs i item = grind (arith, common_steps) in
    items_more xs i c'.args.levels item c'.items-test.true at c'.items.invariant here

pub table_fits-members-preserved : goal.table_fits-members-preserved
table_fits-members-preserved c c' =
    let (can, finite, done, whole, so_far) = c'.members.invariant in
    let e : Entry = (c'.in-Some._key.now, c'.in-Some.member.now) in
    let iter : c'.members._key-iterator ≡ e ∷ c'.next.new.self = grind (arith, common_steps) in
    let here : depth (view e.1) ≤ c'.args.levels = c'.value_fits.ensures (grind (arith, common_steps)) in
    let all = whole ∙ ap (λ t. done ++ t) iter ∙ sym (append_assoc done (e ∷ []) c'.next.new.self) in
    (tt, tt, done ++ e ∷ [], all, members_more done e c'.args.levels so_far here)

pub table_fits-returns : goal.table_fits-returns
table_fits-returns c c' _ =
    let (can, finite, done, whole, so_far) = c'.members.invariant in
    let none : c'.members._key-iterator ≡ [] = grind (arith, common_steps) in
    let all : c'.args.table.now.entries ≡ done = whole ∙ rw none (append-nil done) in
    rw all so_far
