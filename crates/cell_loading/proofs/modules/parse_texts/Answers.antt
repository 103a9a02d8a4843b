use Rattle.std.proofs.Common.{◌+◌, inr, refl}
use Rattle.std.proofs.lemmas.Result.{err_from_is_err_and}
use Rattle.cell_loading.proofs.Parsing.{parsing_begins, parsing_at, parsing_stops, parsing_refused, parsing_ends}
use Rattle.cell_loading.proofs.modules.parse_texts.Goals as goal

pub loop-k-init : goal.loop-k-init
loop-k-init c = parsing_begins _ _ _ c.new-trees.ensures.items

pub loop-k-preserved : goal.loop-k-preserved
loop-k-preserved c =
    parsing_at c.args.texts.now c.args.failed c.loop-k.k c.loop-k.trees.items c.push.new.self.items c.index-texts-k.result c.as_slice.result.now c.in_ok-tree.tree c.loop-k-test.true
    c.index-texts-k.is c.loop-k.invariant c.as_slice.ensures.value c.in_ok-tree.ensures.parsed c.in_ok-push.ensures.items

pub returns-in_err-tree-clause-parsed : goal.returns-in_err-tree-clause-parsed
returns-in_err-tree-clause-parsed c =
    let p = err_from_is_err_and c.from_residual.result c.from_residual.ensures.1 in
    rw (p.1, p.2) (parsing_stops c.args.texts.now c.args.failed c.loop-k.k (c.loop-k.k + 1) c.loop-k.trees.items c.index-texts-k.result c.as_slice.result.now _ c.loop-k-test.true
    c.index-texts-k.is c.loop-k.invariant c.as_slice.ensures.value refl c.in_err-tree.ensures.parsed)

pub returns-in-Some-clause-parsed : goal.returns-in-Some-clause-parsed
returns-in-Some-clause-parsed c =
    inr (parsing_refused c.args.texts.now c.args.failed c.loop-k.k c.loop-k.trees.items c.in-Some.refused c.loop-k-test.false c.loop-k.invariant c.in-Some.is)

pub returns-clause-parsed : goal.returns-clause-parsed
returns-clause-parsed c = parsing_ends c.args.texts.now c.args.failed c.loop-k.k c.loop-k.trees.items c.loop-k-test.false c.loop-k.invariant c.in-None.is
