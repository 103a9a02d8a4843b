-- The example tasks for the meaning of trees: for the same answers, their code is in the same state as they are.
use Rattle.std.proofs.Common.{refl, true, false, pos, neg_ℤ, [], ◌∷◌, ◌++◌}
use Rattle.std.specs.Prelude.{codes, replicate}
use Rattle.rapid_model.specs.declared.answer.Answer.TheVariants as answers
use Rattle.rapid_model.specs.declared.answer.Answer.TheVariants.{Go, Ok, At, Given as Let}
use Rattle.rapid_model.specs.declared.sort.Sort.TheVariants as sorts
use Rattle.rapid_model.specs.declared.value.Value.TheVariants as values
use Rattle.rapid_model.specs.declared.zone_name.ZoneName.TheVariants as zone_names
use Rattle.rapid_meaning.proofs.Trees.{first_at, first_bound, moves, number, proc, task_of}
use Rattle.std.proofs.Common.{refl, true, false, pos, neg_ℤ, [], ◌∷◌}
use Rattle.std.specs.Fmt.{digits}
use Rattle.typed_trees.specs.Plain.{Known}
use Rattle.rapid_meaning.proofs.Trees.{first_at, first_bound, moves, num, number, proc, task_of}
use Rattle.rapid_meaning.proofs.Asked.{go, joints}
use Rattle.rapid_meaning.proofs.SmallTasks.{adding, connecting_twice, counting, disabled, diving, failing_again, interrupted, looping, meeting, moving, moving_in_trap, raising, raising_again, raising_too_high, reckoning, retrying, skipping, sleeping, trapped_on_the_way, trying, waiting, zoned}
use Rattle.rapid_meaning.proofs.Forms.{choosing, computing, deciding, dozing, failing_trap, homing, homing_at, jumping, leaving, misnaming, opening, opening_shapeless, ordering, reading, returning, shapeless, shaping, signalling, stepping, stepping_trapped, supervising, taking, tallying, writing}
use Rattle.stack_code.proofs.CodeAsked.{StandsAlike, compiled_stands, tree_stands}

moves_in_steps : StandsAlike moving (go ∷ At (joints (pos 0)) ∷ Let ∷ go ∷ Let ∷ go ∷ Let ∷ Ok ∷ [])
unfolding compiled_stands tree_stands
moves_in_steps = refl

stops_before_a_zone : StandsAlike zoned (go ∷ go ∷ answers.Number 1 ∷ go ∷ At (joints (pos 0)) ∷ Let ∷ go ∷ answers.Stopped (zone_names.Own 1) ∷ Ok ∷ [])
unfolding compiled_stands tree_stands
stops_before_a_zone = refl

traps_on_the_way : StandsAlike trapped_on_the_way (go ∷ go ∷ answers.Number 1 ∷ go ∷ Ok ∷ go ∷ At (joints (pos 0)) ∷ Let
    ∷ answers.Trap 1 1 ∷ go ∷ answers.Number 1 ∷ Ok ∷ go ∷ Let ∷ go ∷ answers.Stopped (zone_names.Own 1) ∷ Ok ∷ [])
unfolding compiled_stands tree_stands
traps_on_the_way = refl

does_it_again : StandsAlike retrying (go ∷ go ∷ go ∷ go ∷ go ∷ Ok ∷ Ok ∷ [])
unfolding compiled_stands tree_stands
does_it_again = refl

goes_on_behind : StandsAlike skipping (go ∷ go ∷ go ∷ go ∷ Ok ∷ go ∷ go ∷ go ∷ go ∷ Ok ∷ Ok ∷ [])
unfolding compiled_stands tree_stands
goes_on_behind = refl

leaves_with_its_error : StandsAlike raising_again (go ∷ go ∷ go ∷ Ok ∷ [])
unfolding compiled_stands tree_stands
leaves_with_its_error = refl

leaves_with_the_new_error : StandsAlike failing_again (go ∷ go ∷ go ∷ Ok ∷ [])
unfolding compiled_stands tree_stands
leaves_with_the_new_error = refl

runs_traps_at_looks : StandsAlike interrupted (go ∷ answers.Number 1 ∷ go ∷ Ok ∷ go ∷ Ok ∷ answers.Trap 1 1 ∷ go ∷ Ok ∷ Go 3 ∷ Ok ∷ Ok ∷ answers.Trap 1 1 ∷ Go 4 ∷ Ok ∷ Go 4 ∷ Go 4 ∷ Ok ∷ Ok ∷ [])
unfolding compiled_stands tree_stands
runs_traps_at_looks = refl

holds_traps_back : StandsAlike disabled (go ∷ answers.Number 1 ∷ go ∷ Ok ∷ go ∷ answers.Bit true ∷ go ∷ Ok ∷ go ∷ Ok ∷ answers.Trap 1 1 ∷ go ∷ Ok ∷ go ∷ Ok ∷ Ok ∷ [])
unfolding compiled_stands tree_stands
holds_traps_back = refl

meets_twice : StandsAlike meeting (go ∷ answers.Apart ∷ Ok ∷ Ok ∷ Go 2 ∷ answers.Met ∷ Go 2 ∷ answers.Met ∷ Go 2 ∷ Ok ∷ Ok ∷ [])
unfolding compiled_stands tree_stands
meets_twice = refl

looks_each_turn : StandsAlike looping (replicate 10 go)
unfolding compiled_stands tree_stands
looks_each_turn = refl

reckons : StandsAlike reckoning (go ∷ Ok ∷ go ∷ Ok ∷ go ∷ Ok ∷ go ∷ Ok ∷ [])
unfolding compiled_stands tree_stands
reckons = refl

dives_to_the_limit : StandsAlike diving (replicate 32 go ++ Ok ∷ [])
unfolding compiled_stands tree_stands
dives_to_the_limit = refl

counts_on : StandsAlike counting (go ∷ answers.Val (values.Num (neg_ℤ (pos 2_500))) ∷ Ok ∷ go ∷ answers.Val (values.Num (neg_ℤ (pos 1_500))) ∷ Ok ∷ Ok ∷ [])
unfolding compiled_stands tree_stands
counts_on = refl

adds_by_reference : StandsAlike adding (replicate 14 go ++ Ok ∷ Ok ∷ [])
unfolding compiled_stands tree_stands
adds_by_reference = refl

waits_until_it_comes : StandsAlike waiting (go ∷ answers.Bit false ∷ Ok ∷ Ok ∷ Go 1 ∷ answers.Bit true ∷ Go 1 ∷ Ok ∷ Ok ∷ [])
unfolding compiled_stands tree_stands
waits_until_it_comes = refl

tries_three_times : StandsAlike trying (replicate 16 go ++ Ok ∷ Ok ∷ [])
unfolding compiled_stands tree_stands
tries_three_times = refl

raises_to_90 : StandsAlike raising (go ∷ Ok ∷ [])
unfolding compiled_stands tree_stands
raises_to_90 = refl

raises_no_91 : StandsAlike raising_too_high (go ∷ Ok ∷ [])
unfolding compiled_stands tree_stands
raises_no_91 = refl

moves_not_in_traps : StandsAlike moving_in_trap (go ∷ answers.Number 1 ∷ go ∷ Ok ∷ answers.Trap 1 1 ∷ go ∷ Ok ∷ [])
unfolding compiled_stands tree_stands
moves_not_in_traps = refl

moves_without_the_input : StandsAlike moving_in_trap (go ∷ answers.Number 1 ∷ go ∷ Ok ∷ go ∷ answers.Bit true ∷ Ok ∷ [])
unfolding compiled_stands tree_stands
moves_without_the_input = refl

connects_once : StandsAlike connecting_twice (go ∷ answers.Number 1 ∷ go ∷ answers.Already ∷ Ok ∷ [])
unfolding compiled_stands tree_stands
connects_once = refl

sleeps_when_connected : StandsAlike sleeping (go ∷ answers.Unknown ∷ Ok ∷ [])
unfolding compiled_stands tree_stands
sleeps_when_connected = refl

jumps_back : StandsAlike jumping (go ∷ go ∷ go ∷ Ok ∷ go ∷ go ∷ go ∷ go ∷ go ∷ go ∷ Ok ∷ [])
unfolding compiled_stands tree_stands
jumps_back = refl

chooses_the_rest : StandsAlike choosing (go ∷ go ∷ Ok ∷ go ∷ go ∷ Ok ∷ Ok ∷ [])
unfolding compiled_stands tree_stands
chooses_the_rest = refl

returns_a_value : StandsAlike returning (go ∷ go ∷ go ∷ Ok ∷ go ∷ Ok ∷ [])
unfolding compiled_stands tree_stands
returns_a_value = refl

leaves_the_routine : StandsAlike leaving (go ∷ go ∷ go ∷ go ∷ go ∷ Ok ∷ [])
unfolding compiled_stands tree_stands
leaves_the_routine = refl

steps_by_three : StandsAlike stepping (go ∷ go ∷ go ∷ Ok ∷ go ∷ go ∷ Ok ∷ Ok ∷ [])
unfolding compiled_stands tree_stands
steps_by_three = refl

turns_after_a_trap : StandsAlike stepping_trapped (go ∷ answers.Trap 1 1 ∷ Ok ∷ go ∷ Ok ∷ [])
unfolding compiled_stands tree_stands
turns_after_a_trap = refl

flooded : StandsAlike stepping (answers.Flood ∷ Ok ∷ [])
unfolding compiled_stands tree_stands
flooded = refl

fails_in_the_trap : StandsAlike failing_trap (answers.Trap 1 1 ∷ go ∷ Ok ∷ [])
unfolding compiled_stands tree_stands
fails_in_the_trap = refl

signals : StandsAlike signalling (go ∷ Ok ∷ go ∷ Ok ∷ go ∷ answers.Bit false ∷ go ∷ answers.Bit true ∷ Ok ∷ go ∷ answers.Bit false ∷ Ok ∷ go ∷ answers.Bit true ∷ Ok ∷ go ∷ Ok ∷ [])
unfolding compiled_stands tree_stands
signals = refl

takes_in_turn : StandsAlike taking (go ∷ answers.Yes false ∷ Ok ∷ Ok ∷ Go 2 ∷ answers.Yes true ∷ Go 2 ∷ Ok ∷ Go 2 ∷ Go 2 ∷ Ok ∷ Go 2 ∷ Ok ∷ Ok ∷ [])
unfolding compiled_stands tree_stands
takes_in_turn = refl

orders : StandsAlike ordering (go ∷ answers.Number 2 ∷ go ∷ Ok ∷ go ∷ Ok ∷ go ∷ Ok ∷ go ∷ Ok ∷ go ∷ answers.Unknown ∷ Ok ∷ [])
unfolding compiled_stands tree_stands
orders = refl

homes : StandsAlike homing (go ∷ go ∷ answers.Number 3 ∷ go ∷ Ok ∷ go ∷ Ok ∷ go ∷ Ok ∷ go ∷ answers.NoZone ∷ Ok ∷ [])
unfolding compiled_stands tree_stands
homes = refl

needs_a_shape : StandsAlike shapeless (go ∷ Ok ∷ [])
unfolding compiled_stands tree_stands
needs_a_shape = refl

needs_room : StandsAlike (shaping (first_bound 1_000) (first_bound 1_000)) (go ∷ Ok ∷ [])
unfolding compiled_stands tree_stands
needs_room = refl

takes_no_external_axis : StandsAlike (shaping (first_bound 1_000) (Known 0 sorts.JointTarget (values.Target (record { axis = replicate 12 (pos 2_000) })))) (go ∷ Ok ∷ [])
unfolding compiled_stands tree_stands
takes_no_external_axis = refl

leaves_the_range : StandsAlike (homing_at (first_bound 9_999_999_999_999) (first_bound 9_999_999_999_999)) (go ∷ Ok ∷ [])
unfolding compiled_stands tree_stands
leaves_the_range = refl

tallies : StandsAlike tallying (go ∷ go ∷ go ∷ Ok ∷ go ∷ Ok ∷ go ∷ go ∷ Ok ∷ [])
unfolding compiled_stands tree_stands
tallies = refl

computes : StandsAlike computing (go ∷ Ok ∷ go ∷ Ok ∷ go ∷ Ok ∷ go ∷ Ok ∷ Ok ∷ [])
unfolding compiled_stands tree_stands
computes = refl

writes : StandsAlike writing (go ∷ Ok ∷ go ∷ Ok ∷ go ∷ Ok ∷ go ∷ Ok ∷ go ∷ Ok ∷ Ok ∷ [])
unfolding compiled_stands tree_stands digits
writes = refl

reads_parts : StandsAlike reading (go ∷ At (joints (pos 7)) ∷ go ∷ go ∷ go ∷ Ok ∷ Ok ∷ [])
unfolding compiled_stands tree_stands
reads_parts = refl

decides : StandsAlike deciding (go ∷ Ok ∷ go ∷ answers.Bit true ∷ Ok ∷ go ∷ Ok ∷ go ∷ Ok ∷ [])
unfolding compiled_stands tree_stands
decides = refl

out_of_reach : StandsAlike (task_of [] (proc (moves (first_at 720_001) 1_000 ∷ []) ∷ [])) (go ∷ Ok ∷ [])
unfolding compiled_stands tree_stands
out_of_reach = refl

not_given : StandsAlike (task_of [] (proc (moves (first_bound 0) 1_000 ∷ []) ∷ [])) (go ∷ Ok ∷ [])
unfolding compiled_stands tree_stands
not_given = refl

without_speed : StandsAlike (task_of [] (proc (moves (first_at 0) 0 ∷ []) ∷ [])) (go ∷ Ok ∷ [])
unfolding compiled_stands tree_stands
without_speed = refl

misnames : StandsAlike misnaming (go ∷ answers.Val (values.Text (codes "A")) ∷ answers.Val (values.Text (codes "a")) ∷ Ok ∷ [])
unfolding compiled_stands tree_stands
misnames = refl

not_fitting : StandsAlike stepping (answers.Met ∷ [])
unfolding compiled_stands tree_stands
not_fitting = refl

not_its_type : StandsAlike misnaming (go ∷ answers.Val (number 1) ∷ [])
unfolding compiled_stands tree_stands
not_its_type = refl

dozes : StandsAlike dozing (go ∷ answers.Number 1 ∷ go ∷ Ok ∷ go ∷ Ok ∷ go ∷ Ok ∷ Go 3 ∷ Ok ∷ [])
unfolding compiled_stands tree_stands
dozes = refl

has_ten_zones : StandsAlike supervising (go ∷ go ∷ answers.ZoneFull ∷ Ok ∷ [])
unfolding compiled_stands tree_stands
has_ten_zones = refl

has_the_zone : StandsAlike supervising (go ∷ go ∷ answers.ZoneUsed ∷ Ok ∷ [])
unfolding compiled_stands tree_stands
has_the_zone = refl

opens : StandsAlike (opening (num 1)) (go ∷ go ∷ answers.Number 4 ∷ Ok ∷ [])
unfolding compiled_stands tree_stands
opens = refl

opens_by_one : StandsAlike (opening (num 2)) (go ∷ go ∷ Ok ∷ [])
unfolding compiled_stands tree_stands
opens_by_one = refl

opens_a_shape : StandsAlike opening_shapeless (go ∷ Ok ∷ [])
unfolding compiled_stands tree_stands
opens_a_shape = refl

is_tied : StandsAlike signalling (go ∷ answers.Tied ∷ Ok ∷ [])
unfolding compiled_stands tree_stands
is_tied = refl

has_no_more_interrupts : StandsAlike ordering (go ∷ answers.NoMore ∷ Ok ∷ [])
unfolding compiled_stands tree_stands
has_no_more_interrupts = refl

has_its_order : StandsAlike ordering (go ∷ answers.Number 2 ∷ go ∷ answers.Already ∷ Ok ∷ [])
unfolding compiled_stands tree_stands
has_its_order = refl
