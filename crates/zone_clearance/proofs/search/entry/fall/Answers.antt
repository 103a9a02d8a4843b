use Rattle.zone_clearance.proofs.Entries.{line_fall, fall_first, fall_on_the_way, fall_under}
use Rattle.zone_clearance.proofs.search.entry.fall.Goals as goal

pub new-requires-clause-some : goal.new-requires-clause-some
new-requires-clause-some c =
    let fall = line_fall c.args.line c.args.level _ _ c.requires.start c.requires.end c.unsigned_abs.ensures.value c.abs_diff.ensures in
    (fall_on_the_way c.args.line.start c.args.line.end _ _ _ _ c.requires.start c.requires.end fall).some

pub new-requires-clause-on_the_way : goal.new-requires-clause-on_the_way
new-requires-clause-on_the_way c =
    let fall = line_fall c.args.line c.args.level _ _ c.requires.start c.requires.end c.unsigned_abs.ensures.value c.abs_diff.ensures in
    (fall_on_the_way c.args.line.start c.args.line.end _ _ _ _ c.requires.start c.requires.end fall).whole

pub returns : goal.returns
returns c =
    let line = c.args.line in
    let fall = line_fall line c.args.level _ _ c.requires.start c.requires.end c.unsigned_abs.ensures.value c.abs_diff.ensures in
    record {
      under = rw (c.new.ensures.top, c.new.ensures.bottom) (fall_under line.start line.end _ _ _ _ c.requires.start c.requires.end fall);
      first = λ k m some way under. rw (c.new.ensures.top, c.new.ensures.bottom) (fall_first line.start line.end _ _ _ _ k m c.requires.start c.requires.end fall way under);
    }
