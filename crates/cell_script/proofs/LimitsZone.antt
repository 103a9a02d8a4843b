-- Each zone that is read is within its limits.
use Rattle.std.proofs.Common.{◌≡◌, ℕ, zero, suc, ◌+◌, ◌-◌, ◌<◌, ◌≤◌, Bool, true, false, not, ◌&&◌, ◌||◌, nat_le, nat_lt, ℤ, List, [], ◌∷◌, length, map, take, drop, codes, Option, Some, None, is_some, is_none, Ok, ◌==◌, if◌then◌else◌, refl, subst, arith}
use Rattle.std.specs.Prelude.{pos, negsuc, int_lt}
use Rattle.std.specs.List.{list_all, list_any}
use Rattle.std.proofs.lemmas.Bool.{and_parts, and_from, eq-eqb, eqb-true, leb-true}
use Rattle.toml.specs.Data.{Data, as_integer}
use Rattle.rapid_num.specs.Reach.{is_in_reach, is_position}
use Rattle.rapid_num.specs.declared.joints.Joints.{Joints}
use Rattle.rapid_num.specs.declared.shape.Bound.{Bound}
use Rattle.rapid_model.specs.Limits.{holds_where_there, is_bounded, are_bounded, is_within, is_zone_shape, axes_at, has_arm, is_start, is_zone}
use Rattle.rapid_model.specs.Names.{is_short_name}
use Rattle.rapid_model.specs.ScriptData.{is_file_name, is_task, takes_axes}
use Rattle.rapid_model.specs.declared.script_rule.ScriptRule.TheVariants.{NoSuch, Range}
use Rattle.rapid_model.specs.declared.script_task.ScriptTask.{ScriptTask}
use Rattle.rapid_model.specs.declared.signal_row.SignalRow.{SignalRow}
use Rattle.rapid_model.specs.declared.zone_row.ZoneRow.{ZoneRow}
use Rattle.rule_checks.specs.Checks.{◌>>=◌}
use Rattle.cell_script.specs.Break.{at_key}
use Rattle.cell_script.specs.Keys.{at, needed, bit_at, word_at, name_at, number_at, list_at, table_at}
use Rattle.cell_script.specs.Rows.{armed_task_at, is_axis, are_axes, zone_axes_at, is_in_reach_of, are_bounds, bounds_at, each_below, high_bounds_at, is_axis_number, bound_of, shape_of, zone_of}
use Rattle.rule_checks.proofs.Keeps.{Keeps, Keeps-then, Keeps-any, Keeps-must}
use Rattle.cell_script.proofs.Keeps.{Keeps-only}
use Rattle.cell_script.proofs.KeepsNames.{IsName, IsOf, name_keeps, number_keeps}
use Rattle.cell_script.proofs.KeepsRows.{IsAt}

task_is_armed : (key : List ℕ) (tasks : List ScriptTask) (d : Data) → Keeps (λ n. has_arm (map (λ task. task.axes) tasks) n ≡ true) (armed_task_at key tasks d)
task_is_armed key tasks d =
    let arms = map (λ task. task.axes) tasks in
    let Q : ℕ → Type 0 = λ n. has_arm arms n ≡ true in
    Keeps-any Q (number_at key (map (λ task. task.name) tasks) d) _ (λ n. Keeps-must Q (has_arm arms n) (at_key key NoSuch) (Ok n) (λ e. e))

-- one or more of that many axes
record AreAxes (count : ℕ) (axes : List ℤ) : Type 0 where
  pub some : not (length axes == 0) ≡ true
  pub ascend : are_axes count axes ≡ true

axes_keep : (key : List ℕ) (count : ℕ) (d : Data) → Keeps (AreAxes count) (zone_axes_at key count d)
axes_keep key count d =
    Keeps-any (AreAxes count) (list_at key as_integer d) _ (λ axes.
    Keeps-must (AreAxes count) (not (length axes == 0) && are_axes count axes) (at_key key Range) (Ok axes) (λ e.
    let parts = and_parts (not (length axes == 0)) (are_axes count axes) e in record { some = parts.0; ascend = parts.1 }))

-- a bound in reach for each axis
abbrev AreBounds : List ℤ → List ℤ → Type 0
AreBounds axes bounds = are_bounds axes bounds ≡ true

bounds_keep : (key : List ℕ) (axes : List ℤ) (d : Data) → Keeps (AreBounds axes) (bounds_at key axes d)
bounds_keep key axes d =
    Keeps-any (AreBounds axes) (list_at key as_integer d) _ (λ bounds. Keeps-must (AreBounds axes) (are_bounds axes bounds) (at_key key Range) (Ok bounds) (λ e. e))

record AreHighs (axes lows highs : List ℤ) : Type 0 where
  pub reach : are_bounds axes highs ≡ true
  pub below : each_below lows highs ≡ true

highs_keep : (key : List ℕ) (axes lows : List ℤ) (d : Data) → Keeps (AreHighs axes lows) (high_bounds_at key axes lows d)
highs_keep key axes lows d =
    Keeps-then (AreBounds axes) (AreHighs axes lows) (bounds_at key axes d) _ (bounds_keep key axes d) (λ highs are.
    Keeps-must (AreHighs axes lows) (each_below lows highs) (at_key key Range) (Ok highs) (λ e. record { reach = are; below = e }))

-- axes, numbered from 1, and from 0
reach_at : (a : ℤ) (axis : ℕ) (angle : ℤ) → is_axis_number a (axis + 1) ≡ true → is_in_reach_of a angle ≡ true → is_in_reach axis angle ≡ true
reach_at (pos n) axis angle is reach =
    let one_more : n ≡ axis + 1 = eqb-true n (axis + 1) is in
    let before : n - 1 ≡ axis = omega (arith, one_more) in
    subst (λ (m : ℕ). is_in_reach m angle ≡ true) before reach
reach_at (negsuc n) axis angle is reach = absurd cc

-- the bound of an axis, if there is one, is in its reach
bounded : (axis : ℕ) (axes lows highs : List ℤ) → are_bounds axes lows ≡ true → are_bounds axes highs ≡ true → each_below lows highs ≡ true
    → holds_where_there (is_bounded axis) (bound_of (axis + 1) axes lows highs) ≡ true
bounded axis [] lows highs low high below = refl
bounded axis (a ∷ axes) [] highs low high below = refl
bounded axis (a ∷ axes) (l ∷ lows) [] low high below = refl
bounded axis (a ∷ axes) (l ∷ lows) (h ∷ highs) low high below =
    let ls = and_parts (is_in_reach_of a l) (are_bounds axes lows) low in
    let hs = and_parts (is_in_reach_of a h) (are_bounds axes highs) high in
    let bs = and_parts (int_lt l h) (each_below lows highs) below in
    by_test (is_axis_number a (axis + 1))
    (λ is. and_from (is_in_reach axis l && is_in_reach axis h) (int_lt l h) (and_from (is_in_reach axis l) (is_in_reach axis h) (reach_at a axis l is ls.0) (reach_at a axis h is hs.0)) bs.0)
    (bounded axis axes lows highs ls.1 hs.1 bs.1)
  where
    by_test : (test : Bool) → (test ≡ true → (is_in_reach axis l && is_in_reach axis h && int_lt l h) ≡ true) → holds_where_there (is_bounded axis) (bound_of (axis + 1) axes lows highs) ≡ true
        → holds_where_there (is_bounded axis) (if test then Some (record { low = l; high = h }) else bound_of (axis + 1) axes lows highs) ≡ true
    by_test true here more = here refl
    by_test false here more = more

first_axis : (count : ℕ) (a : ℤ) (axes : List ℤ) → are_axes count (a ∷ axes) ≡ true → is_axis count a ≡ true
first_axis count a [] e = (and_parts (is_axis count a) true (and_from (is_axis count a) true e refl)).0
first_axis count a (b ∷ axes) e = (and_parts (is_axis count a) (int_lt a b) (and_parts (is_axis count a && int_lt a b) (are_axes count (b ∷ axes)) e).0).0

other_axes : (count : ℕ) (a : ℤ) (axes : List ℤ) → are_axes count (a ∷ axes) ≡ true → are_axes count axes ≡ true
other_axes count a [] e = refl
other_axes count a (b ∷ axes) e = (and_parts (is_axis count a && int_lt a b) (are_axes count (b ∷ axes)) e).1

-- a number past those of the axes
no_axis : (count axis : ℕ) (a : ℤ) → is_axis count a ≡ true → count < axis → is_axis_number a axis ≡ false
no_axis count axis (pos n) is past = by (n == axis) refl
  where
    by : (b : Bool) → (n == axis) ≡ b → b ≡ false
    by true same = absurd (omega (arith, past, eqb-true n axis same, leb-true n count (and_parts (nat_le 1 n) (nat_le n count) is).1))
    by false same = refl
no_axis count axis (negsuc n) is past = refl

unbounded : (count : ℕ) (axes lows highs : List ℤ) → are_axes count axes ≡ true → (axis : ℕ) → count < axis → bound_of axis axes lows highs ≡ None
unbounded count [] lows highs are axis past = refl
unbounded count (a ∷ axes) [] highs are axis past = refl
unbounded count (a ∷ axes) (l ∷ lows) [] are axis past = refl
unbounded count (a ∷ axes) (l ∷ lows) (h ∷ highs) are axis past =
    rw (no_axis count axis a (first_axis count a axes are) past) (unbounded count axes lows highs (other_axes count a axes are) axis past)

-- that many numbers from one on
abbrev upto : ℕ → ℕ → List ℕ
upto first zero = []
upto first (suc room) = first ∷ upto (first + 1) room

or_first : (a b : Bool) → a ≡ true → (a || b) ≡ true
or_first a b h = rw h refl

or_rest : (a b : Bool) → b ≡ true → (a || b) ≡ true
or_rest true b h = refl
or_rest false b h = h

some_upto : (f : ℕ → Option Bound) (k first count room : ℕ) → k < count → count ≤ room → is_some (f (first + k)) ≡ true → list_any is_some (take count (map f (upto first room))) ≡ true
some_upto f k first zero room below few some = absurd (omega (arith, below))
some_upto f k first (suc count) zero below few some = absurd (omega (arith, few))
some_upto f zero first (suc count) (suc room) below few some =
    let same : first + 0 ≡ first = omega arith in
    or_first (is_some (f first)) (list_any is_some (take count (map f (upto (first + 1) room)))) (subst (λ (n : ℕ). is_some (f n) ≡ true) same some)
some_upto f (suc k) first (suc count) (suc room) below few some =
    let same : first + suc k ≡ first + 1 + k = omega arith in
    or_rest (is_some (f first)) (list_any is_some (take count (map f (upto (first + 1) room))))
    (some_upto f k (first + 1) count room (omega (arith, below)) (omega (arith, few)) (subst (λ (n : ℕ). is_some (f n) ≡ true) same some))

bounded_upto : (f : ℕ → Option Bound) (axis count room : ℕ) → ((n : ℕ) → holds_where_there (is_bounded n) (f (n + 1)) ≡ true) → are_bounded axis (take count (map f (upto (axis + 1) room))) ≡ true
bounded_upto f axis zero room each = refl
bounded_upto f axis (suc count) zero each = refl
bounded_upto f axis (suc count) (suc room) each =
    and_from (holds_where_there (is_bounded axis) (f (axis + 1))) (are_bounded (axis + 1) (take count (map f (upto (axis + 1 + 1) room)))) (each axis) (bounded_upto f (axis + 1) count room each)

none_upto : (f : ℕ → Option Bound) (most first count room : ℕ) → most < first + count → ((n : ℕ) → most < n → f n ≡ None) → list_all is_none (drop count (map f (upto first room))) ≡ true
none_upto f most first zero zero past none = refl
none_upto f most first (suc count) zero past none = refl
none_upto f most first zero (suc room) past none =
    let here : f first ≡ None = none first (omega (arith, past)) in
    rw here (none_upto f most (first + 1) zero room (omega (arith, past)) none)
none_upto f most first (suc count) (suc room) past none = none_upto f most (first + 1) count room (omega (arith, past)) none

there : (b : Bool) (x y : Option Bound) → b ≡ true → is_some x ≡ true → is_some (if b then x else y) ≡ true
there true x y is some = some
there false x y is some = absurd cc

-- the first of the axes has a bound
some_bound : (count : ℕ) (axes lows highs : List ℤ) → AreAxes count axes → AreBounds axes lows → AreBounds axes highs → count ≤ 12
    → list_any is_some (take count (map (λ axis. bound_of axis axes lows highs) (upto 1 12))) ≡ true
some_bound count [] lows highs are low high few = absurd (cc (are.some))
some_bound count (a ∷ axes) [] highs are low high few = absurd (cc low)
some_bound count (a ∷ axes) (l ∷ lows) [] are low high few = absurd (cc high)
some_bound count (a ∷ axes) (l ∷ lows) (h ∷ highs) are low high few = by_axis a (first_axis count a axes are.ascend)
  where
    by_axis : (a : ℤ) → is_axis count a ≡ true → list_any is_some (take count (map (λ axis. bound_of axis (a ∷ axes) (l ∷ lows) (h ∷ highs)) (upto 1 12))) ≡ true
    by_axis (pos zero) e = absurd (cc e)
    by_axis (pos (suc k)) e =
        let within : suc k ≤ count = leb-true (suc k) count (and_parts (nat_le 1 (suc k)) (nat_le (suc k) count) e).1 in
        some_upto (λ axis. bound_of axis (pos (suc k) ∷ axes) (l ∷ lows) (h ∷ highs)) k 1 count 12 (omega (arith, within)) few
        (there (is_axis_number (pos (suc k)) (1 + k)) (Some (record { low = l; high = h })) (bound_of (1 + k) axes lows highs) (eq-eqb (suc k) (1 + k) (omega arith)) refl)
    by_axis (negsuc n) e = absurd (cc e)

shape_keeps : (count : ℕ) (inside : Bool) (axes lows highs : List ℤ) → AreAxes count axes → AreBounds axes lows → AreHighs axes lows highs → count ≤ 12
    → is_zone_shape count (shape_of inside axes lows highs) ≡ true
shape_keeps count inside axes lows highs are low high few =
    let f : ℕ → Option Bound = λ axis. bound_of axis axes lows highs in
    let bounds : List (Option Bound) = map f (upto 1 12) in
    and_from (list_any is_some (take count bounds) && are_bounded 0 (take count bounds)) (list_all is_none (drop count bounds))
    (and_from (list_any is_some (take count bounds)) (are_bounded 0 (take count bounds)) (some_bound count axes lows highs are low high.reach few)
    (bounded_upto f 0 count 12 (λ n. bounded n axes lows highs low high.reach high.below)))
    (none_upto f count 1 count 12 (omega arith) (unbounded count axes lows highs are.ascend))

-- an arm has at most twelve axes
few_axes : (axes : ℕ) (arm : Option Joints) → is_start axes arm ≡ true → axes ≤ 12
few_axes axes None start = omega (arith, eqb-true axes 0 start)
few_axes axes (Some arm) start = leb-true axes 12 (and_parts (nat_le 6 axes) (nat_le axes 12) (and_parts (is_within 6 12 axes) (is_position axes arm) start).0).1

axes_of_task : (version : ℕ) (task : ScriptTask) → is_task version task ≡ true → task.axes ≤ 12
axes_of_task version task is =
    let named : Bool = (is_short_name task.name && is_within 1 16 (length task.modules)) && list_all is_file_name task.modules in
    few_axes task.axes task.arm (and_parts (named && takes_axes version task.axes) (is_start task.axes task.arm) is).1

axes_of_tasks : (version : ℕ) (tasks : List ScriptTask) (n : ℕ) → list_all (is_task version) tasks ≡ true → axes_at (map (λ task. task.axes) tasks) n ≤ 12
axes_of_tasks version [] n all = omega arith
axes_of_tasks version (task ∷ tasks) zero all = axes_of_task version task (and_parts (is_task version task) (list_all (is_task version) tasks) all).0
axes_of_tasks version (task ∷ tasks) (suc n) all = axes_of_tasks version tasks n (and_parts (is_task version task) (list_all (is_task version) tasks) all).1

pub zone_keeps : (version : ℕ) (signals : List SignalRow) (tasks : List ScriptTask) → list_all (is_task version) tasks ≡ true → (before : List ZoneRow) (d : Data) → Keeps (IsAt (is_zone signals (map (λ task. task.axes) tasks))) (zone_of signals tasks before d)
unfolding zone_of
zone_keeps version signals tasks all before d =
    let arms = map (λ task. task.axes) tasks in
    let Q : ZoneRow → Type 0 = IsAt (is_zone signals arms) in
    let T : ℕ → Type 0 = λ n. has_arm arms n ≡ true in
    Keeps-any Q (table_at (codes "zone") (length before) d) _ (λ keys.
    Keeps-then IsName Q (needed keys (codes "name") >>= name_at (at keys (codes "name"))) _
    (Keeps-any IsName (needed keys (codes "name")) _ (λ n. name_keeps (at keys (codes "name")) n)) (λ name form.
    Keeps-then T Q (needed keys (codes "task") >>= armed_task_at (at keys (codes "task")) tasks) _
    (Keeps-any T (needed keys (codes "task")) _ (λ n. task_is_armed (at keys (codes "task")) tasks n)) (λ task armed.
    Keeps-any Q (needed keys (codes "kind") >>= word_at (at keys (codes "kind")) (codes "outside") (codes "inside")) _ (λ inside.
    let count : ℕ = axes_at arms task in
    Keeps-then (AreAxes count) Q (needed keys (codes "axes") >>= zone_axes_at (at keys (codes "axes")) count) _
    (Keeps-any (AreAxes count) (needed keys (codes "axes")) _ (λ n. axes_keep (at keys (codes "axes")) count n)) (λ axes are.
    Keeps-then (AreBounds axes) Q (needed keys (codes "low") >>= bounds_at (at keys (codes "low")) axes) _
    (Keeps-any (AreBounds axes) (needed keys (codes "low")) _ (λ n. bounds_keep (at keys (codes "low")) axes n)) (λ lows low.
    Keeps-then (AreHighs axes lows) Q (needed keys (codes "high") >>= high_bounds_at (at keys (codes "high")) axes lows) _
    (Keeps-any (AreHighs axes lows) (needed keys (codes "high")) _ (λ n. highs_keep (at keys (codes "high")) axes lows n)) (λ highs high.
    Keeps-then (IsOf signals) Q (needed keys (codes "signal") >>= number_at (at keys (codes "signal")) (map (λ row. row.name) signals)) _
    (Keeps-any (IsOf signals) (needed keys (codes "signal")) _ (λ n. number_keeps (at keys (codes "signal")) (λ row. row.name) signals n)) (λ signal of.
    Keeps-any Q (needed keys (codes "value") >>= bit_at (at keys (codes "value"))) _ (λ value.
    Keeps-only Q keys (codes "name" ∷ codes "task" ∷ codes "kind" ∷ codes "axes" ∷ codes "low" ∷ codes "high" ∷ codes "signal" ∷ codes "value" ∷ [])
    (Ok (record { name = name; task = task; shape = shape_of inside axes lows highs; signal = signal; value = value }))
    (and_from ((is_short_name name && has_arm arms task) && is_zone_shape (axes_at arms task) (shape_of inside axes lows highs)) (nat_lt signal (length signals))
    (and_from (is_short_name name && has_arm arms task) (is_zone_shape (axes_at arms task) (shape_of inside axes lows highs)) (and_from (is_short_name name) (has_arm arms task) form armed)
    (shape_keeps count inside axes lows highs are low high (axes_of_tasks version tasks task all))) of))))))))))
