use Rattle.std.proofs.Common.{◌<◌, ◌≤◌, ◌+◌, length, sym, subst, arith}
use Rattle.zone_clearance.proofs.Arriving.{line_read}
use Rattle.zone_clearance.proofs.BestPairs.{IsOpenBest, Open, best_kept, best_raised, best_row, closed, no_second, opened}
use Rattle.zone_clearance.proofs.search.best_pair.best_with.Goals as goal
use Rattle.zone_clearance.proofs.search.best_pair.best_with.Goals.{in-Some+in-Some-raised, in-Some+in_default-raised, in_default}

pub loop-second-init : goal.loop-second-init
loop-second-init c = record {
  best = record {
    so_far = opened c.args.lines.now c.args.before c.args.first c.args.first c.requires.before;
    known_first = c.args.before.known_first;
    known_second = c.args.before.known_second;
  };
}

pub invariant_of-best : goal.invariant_of-best
invariant_of-best c = record { known_first = c.loop-second.invariant.best.known_first; known_second = c.loop-second.invariant.best.known_second }

pub loop-second-preserved : goal.loop-second-preserved
loop-second-preserved c =
    let lines = c.args.lines.now in
    let first = c.args.first in
    let second = c.loop-second.second in
    let best = c.loop-second.best in
    let so_far = c.loop-second.invariant.best in
    let below : second < length lines = omega arith in
    elim c.match-lines-second.branch [
      | in-Some+in-Some-raised w ↦ record {
        best =
            subst (λ (b : Open). IsOpenBest lines b first (second + 1)) (sym w.best-is)
            (record {
              so_far =
                  best_raised lines best.0 w.in-Some-raised.level best.1.0 best.1.1.0 first second c.args.line w.in-Some.other c.loop-second.auto.second c.requires.line
                  (line_read lines second _ _ below w.in-Some.is) w.in-Some-raised.ensures so_far.so_far;
              known_first = c.requires.known;
              known_second = c.loop-second-test.true;
            });
      }
      | in-Some+in_default-raised w ↦ record {
        best =
            subst (λ (b : Open). IsOpenBest lines b first (second + 1)) (sym w.best-is)
            (record {
              so_far =
                  best_kept lines best.0 best.1.0 best.1.1.0 first second c.args.line w.in-Some.other c.requires.line (line_read lines second _ _ below w.in-Some.is) w.in_default-raised.ensures so_far.so_far;
              known_first = so_far.known_first;
              known_second = so_far.known_second;
            });
      }
      | in_default w ↦ record {
        best =
            subst (λ (b : Open). IsOpenBest lines b first (second + 1)) (sym w.best-is)
            (record {
              so_far = no_second lines best.0 best.1.0 best.1.1.0 first second (line_read lines second _ _ below w.in_default.is) so_far.so_far;
              known_first = so_far.known_first;
              known_second = so_far.known_second;
            });
      }
    ]

pub returns : goal.returns
returns c =
    let best = c.loop-second.best in
    let all : length c.args.lines.now ≤ c.loop-second.second = omega arith in
    closed c.args.lines.now _ _ _ (best_row c.args.lines.now best.0 best.1.0 best.1.1.0 c.args.first c.loop-second.second all c.loop-second.invariant.best.so_far)
