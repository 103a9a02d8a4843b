-- The lines on examples worked by hand.
use Rattle.std.proofs.Common.{◌≡◌, refl, List, [], ◌∷◌, None, Some, true, false}
use Rattle.std.specs.Prelude.{codes, pos}
use Rattle.std.specs.Fmt.{digits}
use Rattle.rapid_model.specs.declared.sort.Sort.TheVariants as sorts
use Rattle.rapid_model.specs.declared.task_row.TaskRow.{TaskRow}
use Rattle.rapid_model.specs.declared.value.Value.TheVariants as values
use Rattle.typed_trees.specs.declared.datum.Datum.TheVariants.{Plain}
use Rattle.stack_code.specs.declared.op.Op.TheVariants as ops
use Rattle.cell_listing.specs.Listing.{code_line, meeting_line, numbered, pers_line, signal_line}

tasks : List TaskRow
tasks = record { name = codes "Left"; arm = None; axes = 0 } ∷ record { name = codes "Right"; arm = None; axes = 0 } ∷ []

shared : pers_line tasks 0 (record { name = codes "k"; owner = None; sort = sorts.Num; len = None; first = values.Num (pos 7_000) ∷ [] }) ≡ codes "P0 * num k\n"
unfolding digits tasks
shared = refl

-- an array that the second task owns
own : pers_line tasks 12 (record { name = codes "Names"; owner = Some 1; sort = sorts.Text; len = Some 2; first = values.Text [] ∷ values.Text [] ∷ [] }) ≡ codes "P12 Right string{2} Names\n"
unfolding digits tasks
own = refl

input : signal_line 0 (record { name = codes "di_door"; output = false; start = true }) ≡ codes "D0 di di_door\n"
unfolding digits
input = refl

output : signal_line 1 (record { name = codes "do_lamp"; output = true; start = false }) ≡ codes "D1 do do_lamp\n"
unfolding digits
output = refl

meeting : meeting_line 3 (codes "at_table") ≡ codes "G3 at_table\n"
unfolding digits
meeting = refl

-- operations of a task, from the first one on
code : numbered (code_line (codes "A")) 0 (ops.Look ∷ ops.Push (Plain (values.Num (pos 1_500))) ∷ ops.Turn 3 17 ∷ []) ≡ codes "C A 0 Look\n" ∷ codes "C A 1 Push 1.5\n" ∷ codes "C A 2 Turn 3 17\n" ∷ []
unfolding digits numbered
code = refl
