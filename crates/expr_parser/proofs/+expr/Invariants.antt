use Rattle.std.proofs.Common.{◌≡◌, ℕ, ◌+◌, ◌-◌, ◌*◌, [], ◌∷◌, length, map}
use Rattle.raw_trees.specs.Views.{view_expr, view_step, view_arg}
use Rattle.rapid_forms.specs.declared.sign.Sign.TheVariants as signs
use Rattle.rapid_forms.specs.Reading.{many_read, made_read, seq_read, rest_from}
use Rattle.rapid_forms.proofs.Loops.{with_front}
use Rattle.expr_parser.specs.Grammar.{behind}
use Rattle.expr_parser.specs.Reads.{mark_read, inside_read, expr_of_read, operand_read, operators_of, step_read, exprs_read, later_read, args_read}
use Rattle.expr_parser.specs.declared.level.Level.{Level}
use Rattle.expr_parser.specs.declared.level.Level.TheVariants as levels
use Rattle.expr_parser.proofs.+expr.Given as goal

-- The measure is the levels left, and within a level a rank by who calls whom: lowest the functions that open a level,
-- then operands, the chains of each level of operators, expressions, and lists of them.

abbrev pub height : Level → ℕ
height levels.Term = 0
height levels.Sum = 8
height levels.And = 18
height levels.Or = 26

abbrev pub decreases-levels::group : goal.decreases-levels::group
decreases-levels::group l = 50 * l.left

abbrev pub decreases-levels::aggregate : goal.decreases-levels::aggregate
decreases-levels::aggregate l = 50 * l.left

abbrev pub decreases-levels::index : goal.decreases-levels::index
decreases-levels::index l = 50 * l.left

abbrev pub decreases-args::call : goal.decreases-args::call
decreases-args::call l = 50 * l.left

abbrev pub decreases-args::args : goal.decreases-args::args
decreases-args::args l = 50 * l.left

abbrev pub decreases-args::args_if_any : goal.decreases-args::args_if_any
decreases-args::args_if_any l = 50 * l.left + 1

abbrev pub decreases-primary::index_if_any : goal.decreases-primary::index_if_any
decreases-primary::index_if_any l = 50 * l.left + 1

abbrev pub decreases-primary::place_parts : goal.decreases-primary::place_parts
decreases-primary::place_parts l = 50 * l.left + 2

abbrev pub decreases-primary::named : goal.decreases-primary::named
decreases-primary::named l = 50 * l.left + 3

abbrev pub decreases-primary::primary : goal.decreases-primary::primary
decreases-primary::primary l = 50 * l.left + 4

abbrev pub decreases-chains::signed : goal.decreases-chains::signed
decreases-chains::signed l = 50 * l.left + 12

abbrev pub decreases-chains::comparison : goal.decreases-chains::comparison
decreases-chains::comparison l = 50 * l.left + 20

abbrev pub decreases-chains::relation : goal.decreases-chains::relation
decreases-chains::relation l = 50 * l.left + 22

abbrev pub decreases-chains::relation_behind : goal.decreases-chains::relation_behind
decreases-chains::relation_behind l = 50 * l.left + 21

abbrev pub decreases-chains::relations_behind : goal.decreases-chains::relations_behind
decreases-chains::relations_behind l = 50 * l.left + 27

abbrev pub decreases-chains::negated : goal.decreases-chains::negated
decreases-chains::negated l = 50 * l.left + 30

abbrev pub decreases-chains::expr : goal.decreases-chains::expr
decreases-chains::expr l = 50 * l.left + 38

abbrev pub decreases-levels::more_expr : goal.decreases-levels::more_expr
decreases-levels::more_expr l = 50 * l.left + 39

abbrev pub decreases-levels::exprs : goal.decreases-levels::exprs
decreases-levels::exprs l = 50 * l.left + 40

abbrev pub decreases-args::value : goal.decreases-args::value
decreases-args::value l = 50 * l.left + 39

abbrev pub decreases-args::value_if_any : goal.decreases-args::value_if_any
decreases-args::value_if_any l = 50 * l.left + 40

abbrev pub decreases-args::option : goal.decreases-args::option
decreases-args::option l = 50 * l.left + 41

abbrev pub decreases-args::arg : goal.decreases-args::arg
decreases-args::arg l = 50 * l.left + 42

abbrev pub decreases-args::later_arg : goal.decreases-args::later_arg
decreases-args::later_arg l = 50 * l.left + 43

abbrev pub decreases-args::some_args : goal.decreases-args::some_args
decreases-args::some_args l = 50 * l.left + 44

abbrev pub decreases-chains::first : goal.decreases-chains::first
decreases-chains::first l = 50 * l.left + (height l.level + 5)

abbrev pub decreases-chains::operand : goal.decreases-chains::operand
decreases-chains::operand l = 50 * l.left + (height l.level + 5)

abbrev pub decreases-chains::step : goal.decreases-chains::step
decreases-chains::step l = 50 * l.left + (height l.level + 6)

abbrev pub decreases-chains::steps : goal.decreases-chains::steps
decreases-chains::steps l = 50 * l.left + (height l.level + 7)

abbrev pub decreases-chains::chain_behind : goal.decreases-chains::chain_behind
decreases-chains::chain_behind l = 50 * l.left + (height l.level + 8)

abbrev pub decreases-chains::prefixed : goal.decreases-chains::prefixed
decreases-chains::prefixed l = 50 * l.left + (height l.level + 9)

abbrev pub decreases-chains::behind : goal.decreases-chains::behind
decreases-chains::behind l = 50 * l.left + (height l.level + 10)

abbrev pub decreases-chains::chain : goal.decreases-chains::chain
decreases-chains::chain l = 50 * l.left + (height l.level + 11)

abbrev pub invariant-chains::steps-loop-level : goal.invariant-chains::steps-loop-level
invariant-chains::steps-loop-level l =
    with_front (map view_step l.list.items) (many_read (operators_of l.level) (step_read (operators_of l.level) (operand_read (inside_read l.left) l.level)) (rest_from l.p.tokens l.next)) ≡ many_read (operators_of l.level) (step_read (operators_of l.level) (operand_read (inside_read l.left) l.level)) (rest_from l.p.tokens l.at)

abbrev pub decreases-chains::steps-loop-level : goal.decreases-chains::steps-loop-level
decreases-chains::steps-loop-level l = length l.p.tokens.list.now - l.next

abbrev pub invariant-levels::exprs-loop-list : goal.invariant-levels::exprs-loop-list
invariant-levels::exprs-loop-list l =
    with_front (map view_expr l.list.items) (many_read (signs.Comma ∷ []) (made_read behind (seq_read (mark_read signs.Comma) (expr_of_read (inside_read l.left)))) (rest_from l.p.tokens l.next)) ≡ exprs_read (expr_of_read (inside_read l.left)) (rest_from l.p.tokens l.at)

abbrev pub decreases-levels::exprs-loop-list : goal.decreases-levels::exprs-loop-list
decreases-levels::exprs-loop-list l = length l.p.tokens.list.now - l.next

abbrev pub invariant-args::some_args-loop-list : goal.invariant-args::some_args-loop-list
invariant-args::some_args-loop-list l =
    with_front (map view_arg l.list.items) (many_read (signs.Comma ∷ signs.Backslash ∷ []) (later_read (expr_of_read (inside_read l.left))) (rest_from l.p.tokens l.next)) ≡ args_read (expr_of_read (inside_read l.left)) (rest_from l.p.tokens l.at)

abbrev pub decreases-args::some_args-loop-list : goal.decreases-args::some_args-loop-list
decreases-args::some_args-loop-list l = length l.p.tokens.list.now - l.next
