use Rattle.std.proofs.Common.{◌≡◌, ◌+◌, [], ◌∷◌, ◌++◌, length, sym, ap, ◌∙◌}
use Rattle.std.specs.Iterator.Adapters.{zip_first, zip_second}
use Rattle.std.specs.Slice.Iter.{iter_rest}
use Rattle.std.proofs.lemmas.List.{append-nil, append_assoc, length_push}
use Rattle.std.proofs.lemmas.Slice.Zip.{zip_end, zip_turn}
use Rattle.code_compiler.proofs.Lists.{pers_sort, sorts_end, sorts_from, sorts_more}
use Rattle.code_compiler.proofs.data.sorts_of.Goals as goal

pub loop-number-preserved : goal.loop-number-preserved
loop-number-preserved c =
    let numbers = c.args.tree.now.pers_of.items in
    let rows = c.args.tree.now.pers.items in
    let pairs = c.into_iter-number-iterator.result in
    let n = length c.loop-number.yielded in
    let number = c.in-Some.number.now in
    let row = c.in-Some.row.now in
    let first : iter_rest (zip_first pairs) ≡ numbers = cc in
    let second : iter_rest (zip_second pairs) ≡ rows = cc in
    let t = zip_turn numbers rows c.loop-number.yielded pairs c.loop-number.number-iterator c.next.new.self c.next.result first second c.loop-number.yielded_by (c.in-Some.number, c.in-Some.row) c.in-Some.is c.next.ensures.steps in
    let more = sorts_more numbers rows n number row t.0 t.1 (t.2 number) (t.3 row) in
    ap (λ k. c.push.new.self.items ++ sorts_from k numbers rows) (length_push c.loop-number.yielded (c.in-Some.number, c.in-Some.row))
    ∙ (ap (λ sorts. sorts ++ sorts_from (n + 1) numbers rows) c.in_ok-push.ensures.items
    ∙ (append_assoc c.loop-number.sorts.items (pers_sort number row.sort ∷ []) (sorts_from (n + 1) numbers rows)
    ∙ (ap (λ left. c.loop-number.sorts.items ++ left) (sym more) ∙ c.loop-number.invariant)))

pub returns : goal.returns
returns c =
    let numbers = c.args.tree.now.pers_of.items in
    let rows = c.args.tree.now.pers.items in
    let pairs = c.into_iter-number-iterator.result in
    let n = length c.loop-number.yielded in
    let first : iter_rest (zip_first pairs) ≡ numbers = cc in
    let second : iter_rest (zip_second pairs) ≡ rows = cc in
    let end = zip_end numbers rows c.loop-number.yielded pairs c.loop-number.number-iterator c.next.new.self c.next.result first second c.loop-number.yielded_by c.in-None.is c.next.ensures.steps in
    sym (append-nil c.loop-number.sorts.items)
    ∙ (ap (λ left. c.loop-number.sorts.items ++ left) (sym (sorts_end numbers rows n end)) ∙ c.loop-number.invariant)
