-- A well typed task asks only what it may.
use Rattle.std.proofs.Common.{◌≡◌, refl, sym, ap, ◌∙◌, subst, ℕ, ◌<◌, ◌^◌, Bool, true, false, ◌&&◌, nat_le, nat_lt, List, length, Option, Some, None, is_some, slice_get, IsTrue, arith}
use Rattle.std.proofs.lemmas.List.{length-map}
use Rattle.std.proofs.lemmas.Bool.{and_from, and_parts, eqb-true, leb-true, lt-ltb}
use Rattle.std.proofs.lemmas.Option.{same_Some, slice_get_within}
use Rattle.rapid_num.specs.Reach.{is_position}
use Rattle.rapid_num.specs.declared.joints.Joints.{Joints}
use Rattle.rapid_model.specs.CellData.{CellData}
use Rattle.rapid_model.specs.Limits.{is_start, is_within}
use Rattle.rapid_model.specs.Own.{is_trapped}
use Rattle.rapid_model.specs.Paths.{fits_part, has_element, part_sort}
use Rattle.rapid_model.specs.Requests.{can_watch, is_bool, of_pers, suits_task}
use Rattle.rapid_model.specs.declared.event.Event.{Event}
use Rattle.rapid_model.specs.declared.part_name.PartName.{PartName}
use Rattle.rapid_model.specs.declared.pers_cell.PersCell.{PersCell}
use Rattle.rapid_model.specs.declared.request.Request.{Request}
use Rattle.rapid_model.specs.declared.request.Request.TheVariants as requests
use Rattle.rapid_model.specs.declared.sort.Sort.{Sort}
use Rattle.rapid_model.specs.declared.task_row.TaskRow.{TaskRow}
use Rattle.rapid_model.specs.declared.value.Value.{Value}
use Rattle.rapid_model.specs.declared.watched.Watched.{Watched}
use Rattle.rapid_model.specs.declared.watched.Watched.TheVariants as watched
use Rattle.typed_trees.specs.Plain.{TypedPers, TypedTree}
use Rattle.rapid_meaning.specs.Data.{Data}
use Rattle.tree_typing.specs.Asked.{CanWatch, IsAsked}
use Rattle.tree_typing.specs.Numbered.{IsOne, Numbered}
use Rattle.tree_typing.specs.Setting.{Setting, has_arm}
use Rattle.tree_typing.specs.States.{IsPers}

of_cell : (cell : CellData) (pers : ℕ) (test : PersCell → Bool) (row : PersCell) → slice_get cell.pers pers ≡ Some row → test row ≡ true → of_pers cell pers test ≡ true
of_cell cell pers test row e h = rw e h

-- a test of a row of the tree is the same test of the cell's persistent
of_row : (cell : CellData) (number : ℕ) (tree : TypedTree) (pers : ℕ) (p : TypedPers) (test : Sort → Option ℕ → Bool) → Numbered cell number tree → IsPers tree pers p → test p.sort p.len ≡ true
    → of_pers cell pers (λ row. test row.sort row.len) ≡ true
of_row cell number tree pers p test numbered is h =
    let one : IsOne cell p pers = numbered.pers is.row pers p is.numbered is.there in
    of_cell cell pers (λ row. test row.sort row.len) one.cell_row one.there
    (ap (λ (x : Sort). test x one.cell_row.len) one.same_sort ∙ ap (test p.sort) one.same_len ∙ h)

-- what fits a part has that part
fits_some : (sort : Sort) (part : PartName) (v : Value) → fits_part sort part v ≡ true → is_some (part_sort sort part) ≡ true
fits_some sort part v h = by_part (part_sort sort part) refl
  where
    by_part : (o : Option Sort) → part_sort sort part ≡ o → is_some o ≡ true
    by_part (Some inner) e = refl
    by_part None e = let unfit : fits_part sort part v ≡ false = rw e refl in absurd cc

watches : (cell : CellData) (number : ℕ) (c : Setting) (on : Watched) → c.signals ≡ length cell.signals → Numbered cell number c.tree → CanWatch c on → can_watch cell on ≡ true
watches cell number c (watched.Signal signal value) same numbered can = lt-ltb signal (length cell.signals) (omega (arith, can, same))
watches cell number c (watched.Pers pers) same numbered can =
    let one : IsOne cell can.0 pers = numbered.pers can.1.row pers can.0 can.1.numbered can.1.there in
    lt-ltb pers (length cell.pers) (slice_get_within cell.pers pers one.cell_row one.there)

-- an arm has axes, and without an arm there are none
start_armed : (axes : ℕ) (arm : Option Joints) → is_start axes arm ≡ true → nat_lt 0 axes ≡ is_some arm
start_armed axes None start = ap (nat_lt 0) (eqb-true axes 0 start)
start_armed axes (Some arm) start =
    let within = (and_parts (is_within 6 12 axes) (is_position axes arm) start).0 in
    lt-ltb 0 axes (omega (arith, leb-true 6 axes (and_parts (nat_le 6 axes) (nat_le axes 12) within).0))

-- the task's row in the cell has as many axes as its tree, and an arm if there are any
pub has_axes : (cell : CellData) (number : ℕ) (row : TaskRow) (tree : TypedTree) → slice_get cell.tasks number ≡ Some row → Numbered cell number tree → tree.axes ≡ row.axes
has_axes cell number row tree there numbered =
    numbered.axes ∙ ap (λ (r : TaskRow). r.axes) (same_Some numbered.task_row row (sym numbered.there ∙ there))

pub is_armed : (cell : CellData) (number : ℕ) (row : TaskRow) (tree : TypedTree) → slice_get cell.tasks number ≡ Some row → Numbered cell number tree → nat_lt 0 tree.axes ≡ is_some row.arm
is_armed cell number row tree there numbered =
    ap (nat_lt 0) numbered.axes ∙ start_armed numbered.task_row.axes numbered.task_row.arm numbered.starts
    ∙ ap (λ (r : TaskRow). is_some r.arm) (same_Some numbered.task_row row (sym numbered.there ∙ there))

pub suits : (cell : CellData) (number : ℕ) (row : TaskRow) (mine : List Event) (c : Setting) (d : Data) (request : Request) → c.signals ≡ length cell.signals → has_arm c ≡ is_some row.arm → c.tree.axes ≡ row.axes
    → Numbered cell number c.tree → is_trapped mine ≡ d.trapped → IsAsked c d request → IsTrue (suits_task cell row mine request)
suits cell number row mine c d (requests.ReadP pers path) signals arm axes numbered trapped asked =
    of_row cell number c.tree pers asked.0 (λ sort len. has_element len path.index && is_some (part_sort sort path.part)) numbered asked.1
    (and_from (has_element asked.0.len path.index) (is_some (part_sort asked.0.sort path.part)) asked.2 asked.3)
suits cell number row mine c d (requests.WriteP pers path value) signals arm axes numbered trapped asked =
    of_row cell number c.tree pers asked.0 (λ sort len. (has_element len path.index && is_some (part_sort sort path.part)) && fits_part sort path.part value) numbered asked.1
    (and_from (has_element asked.0.len path.index && is_some (part_sort asked.0.sort path.part)) (fits_part asked.0.sort path.part value)
    (and_from (has_element asked.0.len path.index) (is_some (part_sort asked.0.sort path.part)) asked.2 (fits_some asked.0.sort path.part value asked.3)) asked.3)
suits cell number row mine c d (requests.TestSet pers path) signals arm axes numbered trapped asked =
    of_row cell number c.tree pers asked.0 (λ sort len. (has_element len path.index && is_some (part_sort sort path.part)) && is_bool (part_sort sort path.part)) numbered asked.1
    (and_from (has_element asked.0.len path.index && is_some (part_sort asked.0.sort path.part)) (is_bool (part_sort asked.0.sort path.part))
    (and_from (has_element asked.0.len path.index) (is_some (part_sort asked.0.sort path.part)) asked.2 (ap is_some asked.3)) (ap is_bool asked.3))
suits cell number row mine c d (requests.ReadS signal) signals arm axes numbered trapped asked = lt-ltb signal (length cell.signals) (omega (arith, asked, signals))
suits cell number row mine c d (requests.WriteS signal value) signals arm axes numbered trapped asked = lt-ltb signal (length cell.signals) (omega (arith, asked, signals))
suits cell number row mine c d requests.Position signals arm axes numbered trapped asked = sym arm ∙ asked
suits cell number row mine c d (requests.Setpoint to) signals arm axes numbered trapped asked = and_from (is_some row.arm) (is_position row.axes to) (sym arm ∙ asked.0) (subst (λ (count : ℕ). is_position count to ≡ true) axes asked.1)
suits cell number row mine c d (requests.Order n on single) signals arm axes numbered trapped asked = watches cell number c on signals numbered asked
suits cell number row mine c d requests.Leave signals arm axes numbered trapped asked = trapped ∙ asked
suits cell number row mine c d (requests.ZoneSet old temporary shape) signals arm axes numbered trapped asked = sym arm ∙ asked
suits cell number row mine c d (requests.ZoneTie old temporary shape signal value) signals arm axes numbered trapped asked =
    and_from (is_some row.arm) (nat_lt signal (length cell.signals)) (sym arm ∙ asked.0) (lt-ltb signal (length cell.signals) (omega (arith, asked.1, signals)))
suits cell number row mine c d (requests.ZoneOn zone) signals arm axes numbered trapped asked = sym arm ∙ asked
suits cell number row mine c d (requests.ZoneOff zone) signals arm axes numbered trapped asked = sym arm ∙ asked
suits cell number row mine c d (requests.ZoneFree zone) signals arm axes numbered trapped asked = sym arm ∙ asked
suits cell number row mine c d (requests.Arrive meeting tasks) signals arm axes numbered trapped asked =
    let as_many : length c.tree.tasks ≡ length cell.tasks = ap length numbered.tasks ∙ length-map cell.tasks (λ (r : TaskRow). r.name) in
    and_from (nat_lt meeting (length cell.meetings)) (nat_lt tasks (2 ^ length cell.tasks)) (lt-ltb meeting (length cell.meetings) (numbered.meetings asked.0 meeting asked.1))
    (lt-ltb tasks (2 ^ length cell.tasks) (subst (λ (n : ℕ). tasks < 2 ^ n) as_many asked.2))
suits cell number row mine c d (requests.Input index) signals arm axes numbered trapped asked = absurd asked
suits cell number row mine c d (requests.End fate) signals arm axes numbered trapped asked = asked
suits cell number row mine c d request signals arm axes numbered trapped asked = refl
