use Rattle.std.proofs.Common.{List, subst, sym, arith, Some, Vec, ℕ}
use Rattle.std.specs.declared.alloc.Global.{Global}
use Rattle.cell_loading.specs.Files.{told_reads}
use Rattle.cell_loading.specs.Loaded.{names_in_turn, bytes_of, AreTexts}
use Rattle.cell_loading.specs.declared.refused.Refused.TheVariants.{Memory}
use Rattle.cell_loading.proofs.Loads.{loading_fails, loading_lacks, loading_ends, loading_reads}
use Rattle.cell_loading.proofs.texts.load_texts.Goals as goal

pub returns-in-Err-clause-told : goal.returns-in-Err-clause-told
returns-in-Err-clause-told g c =
    loading_fails (g.S.Shelf.told c.args.shelf.now) (g.S.Shelf.told c.loop-k.shelf) (g.S.Shelf.faults c.args.shelf.now) (g.S.Shelf.faults c.loop-k.shelf) c.args.modules.now c.loop-k.k c.loop-k.texts.items _ c.in-Err.refused
    c.loop-k-test.true c.loop-k.invariant c.in-Err.ensures.gives

pub returns-in-Err-push-clause-told : goal.returns-in-Err-push-clause-told
returns-in-Err-push-clause-told g c = λ told first.
    subst (λ (texts : List (Vec ℕ Global)). AreTexts (told_reads told) 1 (names_in_turn c.args.modules.now) (bytes_of texts) (Some Memory)) (sym c.in-Err-push.ensures.items)
    (loading_lacks (g.S.Shelf.told c.args.shelf.now) (g.S.Shelf.told c.loop-k.shelf) (g.S.Shelf.faults c.args.shelf.now) (g.S.Shelf.faults c.loop-k.shelf) c.args.modules.now c.loop-k.k c.loop-k.texts.items
    c.loop-k-test.true c.loop-k.invariant told first)

pub returns-clause-told : goal.returns-clause-told
returns-clause-told g c =
    loading_ends (g.S.Shelf.told c.args.shelf.now) (g.S.Shelf.told c.loop-k.shelf) (g.S.Shelf.faults c.args.shelf.now) (g.S.Shelf.faults c.loop-k.shelf) c.args.modules.now c.loop-k.k c.loop-k.texts.items
    c.loop-k-test.false c.loop-k.invariant

pub returns-clause-told_after : goal.returns-clause-told_after
returns-clause-told_after g c = λ none.
    loading_reads (g.S.Shelf.told c.args.shelf.now) (g.S.Shelf.told c.loop-k.shelf) (g.S.Shelf.faults c.args.shelf.now) (g.S.Shelf.faults c.loop-k.shelf) c.args.modules.now c.loop-k.k c.loop-k.texts.items
    c.loop-k-test.false (omega arith) c.loop-k.invariant
