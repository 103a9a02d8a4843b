-- The rows of a script: a signal, a task, a persistent's value, a zone, an input. The keys of each are listed in the
-- order in which they are checked; an unknown key is reported last.
use Rattle.std.specs.Prelude.{ℕ, ◌-◌, Bool, true, false, not, ◌&&◌, nat_le, ℤ, pos, negsuc, neg_ℤ, int_lt, List, [], ◌∷◌, ◌++◌, length, map, codes, Option, Some, None, Ok, Err, ◌==◌, if◌then◌else◌}
use Rattle.std.specs.List.{list_all}
use Rattle.std.specs.Option.{option_map}
use Rattle.rapid_limits.specs.declared.TheConstants.{LONGEST_ARRAY, LONGEST_STRING, MOST_AXES, MOST_MODULES, MOST_STEPS, ROBOT_AXES}
use Rattle.toml.specs.Data.{Data, as_str, as_integer, as_bool}
use Rattle.rapid_num.specs.Literal.{literal_value}
use Rattle.rapid_num.specs.Reach.{is_in_reach, are_in_reach, absent_axes}
use Rattle.rapid_num.specs.declared.joints.Joints.{Joints}
use Rattle.rapid_num.specs.declared.shape.Bound.{Bound}
use Rattle.rapid_num.specs.declared.shape.Shape.{Shape}
use Rattle.rapid_builtins.specs.Names.{is_predefined}
use Rattle.rapid_model.specs.Limits.{is_within, axes_at, has_arm, is_input_signal}
use Rattle.rapid_model.specs.Names.{is_among}
use Rattle.rapid_num.specs.Characters.{is_printable}
use Rattle.rapid_model.specs.ScriptData.{is_file_name, takes_axes}
use Rattle.rapid_model.specs.declared.input_row.InputRow.{InputRow}
use Rattle.rapid_model.specs.declared.pers_value.PersValue.{PersValue}
use Rattle.rapid_model.specs.declared.script_rule.ScriptRule.TheVariants.{Kind, Range, Name, Twice, NoSuch, Pair}
use Rattle.rapid_model.specs.declared.script_task.ScriptTask.{ScriptTask}
use Rattle.rapid_model.specs.declared.signal_row.SignalRow.{SignalRow}
use Rattle.rapid_model.specs.declared.value.Value.{Value}
use Rattle.rapid_model.specs.declared.value.Value.TheVariants as values
use Rattle.rapid_model.specs.declared.zone_row.ZoneRow.{ZoneRow}
use Rattle.rule_checks.specs.Checks.{◌>>=◌, ◌>>◌, must, found_or}
use Rattle.cell_script.specs.declared.arm.Arm.{Arm}
use Rattle.cell_script.specs.Break.{Read, at_key}
use Rattle.cell_script.specs.Keys.{Keys, at, value_of, needed, optional, only_keys, text_at, whole_at, bit_at, word_at, name_at, number_at, list_at, table_at, pair_at}

-- a signal's name is not predefined and not another signal's
abbrev pub signal_name_at : List ℕ → List (List ℕ) → Data → Read (List ℕ)
signal_name_at key others d = do
  name ← name_at key d
  must (not (is_predefined name)) (at_key key Name)
  must (not (is_among name others)) (at_key key Twice)
  Ok name

unfoldable pub signal_of : List SignalRow → Data → Read SignalRow
signal_of before d = do
  keys ← table_at (codes "signal") (length before) d
  name ← needed keys (codes "name") >>= signal_name_at (at keys (codes "name")) (map (λ row. row.name) before)
  output ← needed keys (codes "kind") >>= word_at (at keys (codes "kind")) (codes "di") (codes "do")
  start ← optional false (bit_at (at keys (codes "start"))) (value_of keys (codes "start"))
  only_keys keys (codes "name" ∷ codes "kind" ∷ codes "start" ∷ []) (Ok (record { name = name; output = output; start = start }))

-- a task's name is not another task's
abbrev pub task_name_at : List ℕ → List (List ℕ) → Data → Read (List ℕ)
task_name_at key others d = do
  name ← name_at key d
  must (not (is_among name others)) (at_key key Twice)
  Ok name

-- the files of a task's modules: 1 to 16 names of 1 to 255 bytes
abbrev pub files_at : List ℕ → Data → Read (List (List ℕ))
files_at key d = do
  files ← list_at key as_str d
  must (is_within 1 MOST_MODULES (length files) && list_all is_file_name files) (at_key key Range)
  Ok files

-- an angle in reach for each axis of an arm, in thousandths of a degree: six axes, and from version 2 on up to six external ones
abbrev pub is_arm : ℕ → List ℤ → Bool
is_arm version angles = is_within ROBOT_AXES MOST_AXES (length angles) && takes_axes version (length angles) && are_in_reach 0 angles

-- the position at these angles; the axes that the arm does not have are absent
abbrev pub start_at : List ℤ → Joints
start_at angles = record { axis = angles ++ absent_axes (MOST_AXES - length angles) }

-- the arm that starts at these angles, one for each of its axes
abbrev pub arm_of : List ℤ → Arm
arm_of angles = record { start = start_at angles; axes = length angles }

abbrev pub arm_at : ℕ → List ℕ → Data → Read Arm
arm_at version key d = do
  angles ← list_at key as_integer d
  must (is_arm version angles) (at_key key Range)
  Ok (arm_of angles)

-- a task with its arm, if there is one
abbrev pub armed : List ℕ → List (List ℕ) → Option Arm → ScriptTask
armed name modules None = record { name = name; modules = modules; arm = None; axes = 0 }
armed name modules (Some arm) = record { name = name; modules = modules; arm = Some arm.start; axes = arm.axes }

unfoldable pub task_of : ℕ → List ScriptTask → Data → Read ScriptTask
task_of version before d = do
  keys ← table_at (codes "task") (length before) d
  name ← needed keys (codes "name") >>= task_name_at (at keys (codes "name")) (map (λ task. task.name) before)
  modules ← needed keys (codes "modules") >>= files_at (at keys (codes "modules"))
  arm ← optional None (λ a. arm_at version (at keys (codes "arm")) a >>= (λ arm. Ok (Some arm))) (value_of keys (codes "arm"))
  only_keys keys (codes "name" ∷ codes "modules" ∷ codes "arm" ∷ []) (Ok (armed name modules arm))

-- the num of a numeric literal of at most 30 bytes, optionally after a minus sign
abbrev pub signed_literal : List ℕ → Option ℤ
signed_literal [] = None
signed_literal (b ∷ bs) = if b == 45 then option_map neg_ℤ (literal_value bs) else literal_value (b ∷ bs)

abbrev pub number_value_at : List ℕ → Data → Read Value
number_value_at key d = do
  text ← text_at key d
  number ← found_or (signed_literal text) (at_key key Range)
  Ok (values.Num number)

abbrev pub truth_value_at : List ℕ → Data → Read Value
truth_value_at key d = do
  truth ← found_or (as_bool d) (at_key key Kind)
  Ok (values.Bool truth)

-- a text of at most 80 bytes, each 20 to 7E hexadecimal
abbrev pub text_value_at : List ℕ → Data → Read Value
text_value_at key d = do
  text ← text_at key d
  must (nat_le (length text) LONGEST_STRING && list_all is_printable text) (at_key key Range)
  Ok (values.Text text)

-- the value of whichever of the keys num, bool and text is given
abbrev pub given_value : Keys → Option Data → Option Data → Option Data → Read Value
given_value keys (Some d) None None = number_value_at (at keys (codes "num")) d
given_value keys None (Some d) None = truth_value_at (at keys (codes "bool")) d
given_value keys None None (Some d) = text_value_at (at keys (codes "text")) d
given_value keys _ _ _ = Err (at_key keys.path Pair)

unfoldable pub pers_of : List PersValue → Data → Read PersValue
pers_of before d = do
  keys ← table_at (codes "pers") (length before) d
  name ← needed keys (codes "name") >>= name_at (at keys (codes "name"))
  index ← optional None (λ i. whole_at (at keys (codes "index")) 1 LONGEST_ARRAY i >>= (λ index. Ok (Some index))) (value_of keys (codes "index"))
  value ← given_value keys (value_of keys (codes "num")) (value_of keys (codes "bool")) (value_of keys (codes "text"))
  only_keys keys (codes "name" ∷ codes "index" ∷ codes "num" ∷ codes "bool" ∷ codes "text" ∷ [])
      (Ok (record { name = name; index = index; value = value }))

-- the number of a task with an arm
abbrev pub armed_task_at : List ℕ → List ScriptTask → Data → Read ℕ
armed_task_at key tasks d = do
  task ← number_at key (map (λ task. task.name) tasks) d
  must (has_arm (map (λ task. task.axes) tasks) task) (at_key key NoSuch)
  Ok task

-- one of an arm's axes, counted from 1
abbrev pub is_axis : ℕ → ℤ → Bool
is_axis count (pos a) = is_within 1 count a
is_axis count (negsuc a) = false

-- the integers are ascending, each one of that many axes
abbrev pub are_axes : ℕ → List ℤ → Bool
are_axes count [] = true
are_axes count (a ∷ []) = is_axis count a
are_axes count (a ∷ b ∷ axes) = is_axis count a && int_lt a b && are_axes count (b ∷ axes)

-- one or more of an arm's axes
abbrev pub zone_axes_at : List ℕ → ℕ → Data → Read (List ℤ)
zone_axes_at key count d = do
  axes ← list_at key as_integer d
  must (not (length axes == 0) && are_axes count axes) (at_key key Range)
  Ok axes

-- an angle is in reach of an axis, counted from 1
abbrev pub is_in_reach_of : ℤ → ℤ → Bool
is_in_reach_of (pos a) angle = is_in_reach (a - 1) angle
is_in_reach_of (negsuc a) angle = is_in_reach 0 angle

-- as many bounds as axes, each in reach of its axis
abbrev pub are_bounds : List ℤ → List ℤ → Bool
are_bounds [] [] = true
are_bounds (a ∷ axes) (bound ∷ bounds) = is_in_reach_of a bound && are_bounds axes bounds
are_bounds _ _ = false

abbrev pub bounds_at : List ℕ → List ℤ → Data → Read (List ℤ)
bounds_at key axes d = do
  bounds ← list_at key as_integer d
  must (are_bounds axes bounds) (at_key key Range)
  Ok bounds

abbrev pub each_below : List ℤ → List ℤ → Bool
each_below (l ∷ ls) (h ∷ hs) = int_lt l h && each_below ls hs
each_below _ _ = true

-- high bounds: like the low ones, and each above its low one
abbrev pub high_bounds_at : List ℕ → List ℤ → List ℤ → Data → Read (List ℤ)
high_bounds_at key axes lows d = do
  highs ← bounds_at key axes d
  must (each_below lows highs) (at_key key Range)
  Ok highs

abbrev pub is_axis_number : ℤ → ℕ → Bool
is_axis_number (pos a) axis = a == axis
is_axis_number (negsuc a) axis = false

-- the bound of an axis, counted from 1, if it is one of these axes
abbrev pub bound_of : ℕ → List ℤ → List ℤ → List ℤ → Option Bound
bound_of axis (a ∷ axes) (low ∷ lows) (high ∷ highs) =
    if is_axis_number a axis then Some (record { low = low; high = high }) else bound_of axis axes lows highs
bound_of axis _ _ _ = None

abbrev pub shape_of : Bool → List ℤ → List ℤ → List ℤ → Shape
shape_of inside axes lows highs =
    record { inside = inside; bounds = map (λ axis. bound_of axis axes lows highs) (1 ∷ 2 ∷ 3 ∷ 4 ∷ 5 ∷ 6 ∷ 7 ∷ 8 ∷ 9 ∷ 10 ∷ 11 ∷ 12 ∷ []) }

unfoldable pub zone_of : List SignalRow → List ScriptTask → List ZoneRow → Data → Read ZoneRow
zone_of signals tasks before d = do
  keys ← table_at (codes "zone") (length before) d
  name ← needed keys (codes "name") >>= name_at (at keys (codes "name"))
  task ← needed keys (codes "task") >>= armed_task_at (at keys (codes "task")) tasks
  inside ← needed keys (codes "kind") >>= word_at (at keys (codes "kind")) (codes "outside") (codes "inside")
  axes ← needed keys (codes "axes") >>= zone_axes_at (at keys (codes "axes")) (axes_at (map (λ row. row.axes) tasks) task)
  lows ← needed keys (codes "low") >>= bounds_at (at keys (codes "low")) axes
  highs ← needed keys (codes "high") >>= high_bounds_at (at keys (codes "high")) axes lows
  signal ← needed keys (codes "signal") >>= number_at (at keys (codes "signal")) (map (λ row. row.name) signals)
  value ← needed keys (codes "value") >>= bit_at (at keys (codes "value"))
  only_keys keys (codes "name" ∷ codes "task" ∷ codes "kind" ∷ codes "axes" ∷ codes "low" ∷ codes "high" ∷ codes "signal" ∷ codes "value" ∷ [])
      (Ok (record { name = name; task = task; shape = shape_of inside axes lows highs; signal = signal; value = value }))

-- the number of an input signal
abbrev pub input_signal_at : List ℕ → List SignalRow → Data → Read ℕ
input_signal_at key signals d = do
  signal ← number_at key (map (λ row. row.name) signals) d
  must (is_input_signal signals signal) (at_key key NoSuch)
  Ok signal

unfoldable pub input_of : List SignalRow → List ScriptTask → List InputRow → Data → Read InputRow
input_of signals tasks before d = do
  keys ← table_at (codes "input") (length before) d
  signal ← needed keys (codes "signal") >>= input_signal_at (at keys (codes "signal")) signals
  value ← needed keys (codes "value") >>= bit_at (at keys (codes "value"))
  when ← pair_at keys (codes "when") (codes "is") (number_at (at keys (codes "when")) (map (λ row. row.name) signals)) (bit_at (at keys (codes "is")))
  given ← pair_at keys (codes "task") (codes "setpoints") (number_at (at keys (codes "task")) (map (λ task. task.name) tasks))
      (whole_at (at keys (codes "setpoints")) 0 MOST_STEPS)
  after ← optional None (λ a. whole_at (at keys (codes "after")) 0 MOST_STEPS a >>= (λ after. Ok (Some after))) (value_of keys (codes "after"))
  only_keys keys (codes "signal" ∷ codes "value" ∷ codes "when" ∷ codes "is" ∷ codes "task" ∷ codes "setpoints" ∷ codes "after" ∷ [])
      (Ok (record { signal = signal; value = value; when = when; given = given; after = after }))
