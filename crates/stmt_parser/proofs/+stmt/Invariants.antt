use Rattle.std.proofs.Common.{◌≡◌, ◌+◌, ◌-◌, ◌*◌, [], ◌∷◌, length, map, Ok}
use Rattle.raw_trees.specs.Views.{view_arm, view_case, view_list}
use Rattle.rapid_forms.specs.declared.sign.Sign.TheVariants as signs
use Rattle.rapid_forms.specs.Reading.{many_read, rest_from, then_read}
use Rattle.rapid_forms.proofs.Loops.{with_front}
use Rattle.expr_parser.specs.Reads.{inside_read}
use Rattle.stmt_parser.specs.Reads.{stmt_signs, behind_read, arm_read, arms_read, case_read, cases_read, list_read, stmt_read, items_read}
use Rattle.stmt_parser.proofs.+stmt.Given as goal

-- The measure is the levels left, and within a level a rank by who calls whom: lowest a list, which opens a level, then
-- what is around lists, statements, and the statements of a list.

abbrev pub decreases-statements::list : goal.decreases-statements::list
decreases-statements::list l = 10 * l.left

abbrev pub decreases-blocks::list_behind : goal.decreases-blocks::list_behind
decreases-blocks::list_behind l = 10 * l.left + 1

abbrev pub decreases-blocks::list_if_any : goal.decreases-blocks::list_if_any
decreases-blocks::list_if_any l = 10 * l.left + 2

abbrev pub decreases-blocks::default_if_any : goal.decreases-blocks::default_if_any
decreases-blocks::default_if_any l = 10 * l.left + 2

abbrev pub decreases-blocks::arm : goal.decreases-blocks::arm
decreases-blocks::arm l = 10 * l.left + 2

abbrev pub decreases-blocks::arms : goal.decreases-blocks::arms
decreases-blocks::arms l = 10 * l.left + 3

abbrev pub decreases-blocks::branches : goal.decreases-blocks::branches
decreases-blocks::branches l = 10 * l.left + 4

abbrev pub decreases-blocks::choice_or_one : goal.decreases-blocks::choice_or_one
decreases-blocks::choice_or_one l = 10 * l.left + 5

abbrev pub decreases-blocks::for_loop : goal.decreases-blocks::for_loop
decreases-blocks::for_loop l = 10 * l.left + 2

abbrev pub decreases-blocks::while_loop : goal.decreases-blocks::while_loop
decreases-blocks::while_loop l = 10 * l.left + 2

abbrev pub decreases-blocks::case : goal.decreases-blocks::case
decreases-blocks::case l = 10 * l.left + 2

abbrev pub decreases-blocks::cases : goal.decreases-blocks::cases
decreases-blocks::cases l = 10 * l.left + 3

abbrev pub decreases-blocks::choice : goal.decreases-blocks::choice
decreases-blocks::choice l = 10 * l.left + 4

abbrev pub decreases-statements::stmt : goal.decreases-statements::stmt
decreases-statements::stmt l = 10 * l.left + 6

abbrev pub decreases-statements::items : goal.decreases-statements::items
decreases-statements::items l = 10 * l.left + 7

abbrev pub invariant-statements::items-loop-list : goal.invariant-statements::items-loop-list
invariant-statements::items-loop-list l =
    with_front (view_list l.list) (many_read stmt_signs (stmt_read l.left) (rest_from l.p.tokens l.next)) ≡ items_read l.left (rest_from l.p.tokens l.at)

abbrev pub decreases-statements::items-loop-list : goal.decreases-statements::items-loop-list
decreases-statements::items-loop-list l = length l.p.tokens.list.now - l.next

abbrev pub invariant-blocks::arms-loop-list : goal.invariant-blocks::arms-loop-list
invariant-blocks::arms-loop-list l =
    with_front (map view_arm l.list.items) (many_read (signs.ElseIf ∷ []) (behind_read signs.ElseIf (arm_read (inside_read l.left) (list_read l.left))) (rest_from l.p.tokens l.next)) ≡ then_read (arms_read (inside_read l.left) (list_read l.left) (rest_from l.p.tokens l.at)) λ xs rest. Ok (view_arm l.fn.first ∷ xs, rest)

abbrev pub decreases-blocks::arms-loop-list : goal.decreases-blocks::arms-loop-list
decreases-blocks::arms-loop-list l = length l.p.tokens.list.now - l.next

abbrev pub invariant-blocks::cases-loop-list : goal.invariant-blocks::cases-loop-list
invariant-blocks::cases-loop-list l =
    with_front (map view_case l.list.items) (many_read (signs.Case ∷ []) (behind_read signs.Case (case_read (inside_read l.left) (list_read l.left))) (rest_from l.p.tokens l.next)) ≡ cases_read (inside_read l.left) (list_read l.left) (rest_from l.p.tokens l.at)

abbrev pub decreases-blocks::cases-loop-list : goal.decreases-blocks::cases-loop-list
decreases-blocks::cases-loop-list l = length l.p.tokens.list.now - l.next
