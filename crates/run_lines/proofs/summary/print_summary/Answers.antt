use Rattle.std.proofs.Common.{ℕ, List, [], ◌∷◌, ◌++◌, length, subst}
use Rattle.std.specs.Prelude.{Option, codes, decimal}
use Rattle.std.proofs.lemmas.Result.{err_from_is_err_and}
use Rattle.rapid_model.specs.declared.value.Value.{Value}
use Rattle.run_lines.specs.Output.{all_given, last_total, summary_line, total_words}
use Rattle.sink_lines.specs.Printed.{sunk}
use Rattle.sink_lines.specs.Written.{Writes, WritesAll, WritesPart}
use Rattle.sink_lines.proofs.Gains.{writes_then, wrote_first, wrote_part}
use Rattle.run_lines.proofs.summary.print_summary.Goals as goal

-- the three lines
abbrev events : ℕ → List (List ℕ)
events count = summary_line (codes "events") (decimal count) ∷ []

abbrev given : ℕ → List (List ℕ)
given count = summary_line (codes "setpoints") (decimal count) ∷ []

abbrev total : Option Value → List (List ℕ)
total value = summary_line (codes "total") (total_words value) ∷ []

pub returns-in_err-print_count : goal.returns-in_err-print_count
returns-in_err-print_count g c =
    let p = err_from_is_err_and c.from_residual.result c.from_residual.ensures.1 in
    let history = c.args.core.now.history in
    rw (p.1) (wrote_first (events (length history)) (given (all_given history) ++ total (last_total c.args.core.now.cell history)) _
    (subst (λ (n : ℕ). WritesPart (events n) (sunk g.O.Sink.told g.O.Sink.calls g.O.Sink.faults c.args.out.now c.print_count.new.out)) c.len.ensures.same c.in_err-print_count.ensures))

pub returns-in_err-print_count-2 : goal.returns-in_err-print_count-2
returns-in_err-print_count-2 g c =
    let p = err_from_is_err_and c.from_residual-in_err-print_count-2.result c.from_residual-in_err-print_count-2.ensures.1 in
    let history = c.args.core.now.history in
    rw (p.1) (wrote_part (events (length history)) (given (all_given history) ++ total (last_total c.args.core.now.cell history)) _ _ _
    (subst (λ (n : ℕ). WritesAll (events n) (sunk g.O.Sink.told g.O.Sink.calls g.O.Sink.faults c.args.out.now c.print_count.new.out)) c.len.ensures.same c.in_ok-print_count.ensures)
    (wrote_first (given (all_given history)) (total (last_total c.args.core.now.cell history)) _
    (subst (λ (n : ℕ). WritesPart (given n) (sunk g.O.Sink.told g.O.Sink.calls g.O.Sink.faults c.print_count.new.out c.print_count-2.new.out)) c.all_given.ensures c.in_err-print_count-2.ensures)))

pub returns : goal.returns
returns g c =
    let history = c.args.core.now.history in
    writes_then (events (length history)) (given (all_given history) ++ total (last_total c.args.core.now.cell history)) c.print_total.result _ _ _
    (subst (λ (n : ℕ). WritesAll (events n) (sunk g.O.Sink.told g.O.Sink.calls g.O.Sink.faults c.args.out.now c.print_count.new.out)) c.len.ensures.same c.in_ok-print_count.ensures)
    (writes_then (given (all_given history)) (total (last_total c.args.core.now.cell history)) c.print_total.result _ _ _
    (subst (λ (n : ℕ). WritesAll (given n) (sunk g.O.Sink.told g.O.Sink.calls g.O.Sink.faults c.print_count.new.out c.print_count-2.new.out)) c.all_given.ensures c.in_ok-print_count-2.ensures)
    (subst (λ (v : Option Value). Writes (total v) c.print_total.result (sunk g.O.Sink.told g.O.Sink.calls g.O.Sink.faults c.print_count-2.new.out c.print_total.new.out)) c.last_total.ensures c.print_total.ensures))
