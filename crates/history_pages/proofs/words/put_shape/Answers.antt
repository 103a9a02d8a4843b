use Rattle.std.proofs.Common.{◌≡◌, ◌==◌, Option, List, length, take, sym, ap, ◌∙◌, arith}
use Rattle.std.proofs.lemmas.Bool.{and_from, eq-eqb}
use Rattle.std.proofs.lemmas.List.{take_all}
use Rattle.std.specs.List.{flat_map, list_all}
use Rattle.rapid_num.specs.declared.shape.Bound.{Bound}
use Rattle.history_pages.specs.Paged.{with_items}
use Rattle.history_pages.specs.Words.{bound_words, is_proper_bound}
use Rattle.history_pages.proofs.Writing.{room_for_bound}
use Rattle.history_pages.proofs.words.put_shape.Goals as goal

pub put_bound-requires : goal.put_bound-requires
put_bound-requires c =
    room_for_bound c.loop-bound.words c.args.words.now c.args.shape.now.bounds c.loop-bound.bound-index c.loop-bound.invariant.pushed (omega arith) (omega arith) c.requires

all : (c : goal.After-loop-bound) → take c.loop-bound.bound-index c.args.shape.now.bounds ≡ c.args.shape.now.bounds
all c =
    let twelve : length c.args.shape.now.bounds ≡ 12 = c.loop-bound.invariant.twelve in
    take_all c.loop-bound.bound-index c.args.shape.now.bounds (omega arith)

pub returns-clause-pushed : goal.returns-clause-pushed
returns-clause-pushed c = c.loop-bound.invariant.pushed ∙ ap (λ (bounds : List (Option Bound)). with_items c.args.words.now (flat_map bound_words bounds)) (all c)

pub returns-clause-shape : goal.returns-clause-shape
returns-clause-shape c =
    and_from (length c.args.shape.now.bounds == 12) (list_all is_proper_bound c.args.shape.now.bounds) (eq-eqb (length c.args.shape.now.bounds) 12 c.loop-bound.invariant.twelve)
    (ap (list_all is_proper_bound) (sym (all c)) ∙ c.loop-bound.invariant.bounds)
