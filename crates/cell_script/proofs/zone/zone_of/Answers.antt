use Rattle.std.proofs.Common.{◌≡◌}
use Rattle.cell_script.specs.Rows.{zone_of, shape_of}
use Rattle.cell_script.proofs.zone.zone_of.Goals as goal

pub returns : goal.returns
unfolding zone_of
returns c =
    let shape : c.shape_of.result ≡ shape_of c.in_ok-inside.inside c.in_ok-axes.axes.items c.in_ok-lows.lows.items c.in_ok-highs.highs.items = rw (c.shape_of.ensures, c.deref-4.ensures.value, c.deref-5.ensures.value, c.deref-6.ensures.value) in
    let axes = rw c.axes_of-count.ensures at c.in_ok-axes.ensures in
    let lows = rw c.deref.ensures.value at c.in_ok-lows.ensures in
    let highs = rw (c.deref-2.ensures.value, c.deref-3.ensures.value) at c.in_ok-highs.ensures in
    rw (
      c.in_ok-keys.ensures,
      c.in_ok-needed.ensures,
      c.in_ok-name.ensures,
      c.in_ok-needed-2.ensures,
      c.in_ok-task.ensures,
      c.in_ok-needed-3.ensures,
      c.in_ok-inside.ensures,
      c.in_ok-needed-4.ensures,
      axes,
      c.in_ok-needed-5.ensures,
      lows,
      c.in_ok-needed-6.ensures,
      highs,
      c.in_ok-needed-7.ensures,
      c.in_ok-signal.ensures,
      c.in_ok-needed-8.ensures,
      c.in_ok-value.ensures,
      ← shape,
    )
    c.only.ensures
