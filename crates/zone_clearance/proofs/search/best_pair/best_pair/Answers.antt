use Rattle.std.proofs.Common.{◌<◌, ◌≤◌, ◌+◌, length, sym, subst, arith}
use Rattle.zone_clearance.proofs.Arriving.{line_read}
use Rattle.zone_clearance.proofs.BestPairs.{IsOpenBest, Open, best_all, best_at_first, closed, low_first, no_first, opened}
use Rattle.zone_clearance.proofs.search.best_pair.best_pair.Goals as goal
use Rattle.zone_clearance.proofs.search.best_pair.best_pair.Goals.{in-Some+else-first-eq0+else-not-stays_under, in-Some+then-first-eq0, in_default}

pub loop-first-init : goal.loop-first-init
loop-first-init c = record {
  best = record {
    so_far = best_at_first c.args.lines.now c.whole.result c.requires.zero c.whole.ensures.top;
    known_first = omega arith;
    known_second = omega arith;
  };
}

pub invariant_of-best : goal.invariant_of-best
invariant_of-best c = record { known_first = c.loop-first.invariant.best.known_first; known_second = c.loop-first.invariant.best.known_second }

pub best_with-best-requires-clause-before : goal.best_with-best-requires-clause-before
best_with-best-requires-clause-before c = closed c.args.lines.now _ _ _ c.loop-first.invariant.best.so_far

pub loop-first-preserved : goal.loop-first-preserved
loop-first-preserved c =
    let lines = c.args.lines.now in
    let first = c.loop-first.first in
    let best = c.loop-first.best in
    let so_far = c.loop-first.invariant.best in
    let below : first < length lines = omega arith in
    elim c.match-lines-first.branch [
      | in-Some+then-first-eq0 w ↦ record {
        best =
            subst (λ (b : Open). IsOpenBest lines b (first + 1) (first + 1)) (sym w.best-is)
            (record {
              so_far = opened lines w.best_with-best.result (first + 1) (first + 1) w.best_with-best.ensures;
              known_first = w.best_with-best.result.known_first;
              known_second = w.best_with-best.result.known_second;
            });
      }
      | in-Some+else-first-eq0+else-not-stays_under w ↦ record {
        best =
            subst (λ (b : Open). IsOpenBest lines b (first + 1) (first + 1)) (sym w.best-is)
            (record {
              so_far =
                  low_first lines best.0 best.1.0 best.1.1.0 first w.in-Some.line c.requires.zero (omega (arith, w.if-first-eq0.false)) (line_read lines first _ _ below w.in-Some.is)
                  (w.stays_under.ensures.0 w.if-not-stays_under.false) so_far.so_far;
              known_first = so_far.known_first;
              known_second = so_far.known_second;
            });
      }
      | in_default w ↦ record {
        best =
            subst (λ (b : Open). IsOpenBest lines b (first + 1) (first + 1)) (sym w.best-is)
            (record {
              so_far = no_first lines best.0 best.1.0 best.1.1.0 first (line_read lines first _ _ below w.in_default.is) so_far.so_far;
              known_first = so_far.known_first;
              known_second = so_far.known_second;
            });
      }
    ]

pub returns : goal.returns
returns c =
    let all : length c.args.lines.now ≤ c.loop-first.first = omega arith in
    best_all c.args.lines.now _ c.loop-first.first all c.loop-first.invariant.best.so_far
