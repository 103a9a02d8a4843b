use Rattle.std.proofs.Common.{Err, ap, inl, map, subst, sym}
use Rattle.typed_trees.specs.Views.{view_tree}
use Rattle.controller.specs.Done.{IsDoneFault}
use Rattle.controller.specs.Accepted.{audits}
use Rattle.cell_loading.specs.Loaded.{made_of}
use Rattle.history_text.specs.HistoryText.{AreNamed}
use Rattle.history_text.specs.Named.{view_names}
use Rattle.cell_loading.specs.declared.refused.Refused.TheVariants.{History, Memory}
use Rattle.controller.proofs.Audited.{actors_seen, fates_seen, history_audited, history_refused, names_seen}
use Rattle.controller.proofs.Causes.{audit_told, known_fault}
use Rattle.controller.proofs.Exits.{memory_refused}
use Rattle.sink_lines.proofs.Gains.{gained_none}
use Rattle.controller.proofs.audit_cell.audit_cell.Goals as goal

pub read_history-requires-clause-names : goal.read_history-requires-clause-names
read_history-requires-clause-names g c = subst AreNamed (sym c.names_of-named.ensures.tasks) c.names_of-named.ensures.named

pub audit_events-requires-clause-actors : goal.audit_events-requires-clause-actors
audit_events-requires-clause-actors g c =
    actors_seen c.args.text.now c.args.accepted.cell (view_names c.names_of-named.result) c.in-Ok.events.items c.as_slice-events.result.now c.in-Ok.fates.items
    (names_seen c.names_of-named.result c.args.accepted.cell c.names_of-named.ensures.tasks c.names_of-named.ensures.signals c.names_of-named.ensures.pers) c.in-Ok.ensures.read c.as_slice-events.ensures.value

pub audit_events-requires-clause-few : goal.audit_events-requires-clause-few
audit_events-requires-clause-few g c =
    fates_seen c.args.text.now c.args.accepted.cell (view_names c.names_of-named.result) c.in-Ok.events.items c.in-Ok.fates.items c.as_slice.result.now
    (names_seen c.names_of-named.result c.args.accepted.cell c.names_of-named.ensures.tasks c.names_of-named.ensures.signals c.names_of-named.ensures.pers) c.in-Ok.ensures.read c.as_slice.ensures.value

pub returns-in-Ok-clause-answers : goal.returns-in-Ok-clause-answers
returns-in-Ok-clause-answers g c = λ names.
    history_audited c.args.text.now names (made_of c.args.accepted) (view_names c.names_of-named.result) c.in-Ok.events.items c.as_slice-events.result.now c.in-Ok.fates.items c.as_slice.result.now _ _ _
    (names_seen c.names_of-named.result c.args.accepted.cell c.names_of-named.ensures.tasks c.names_of-named.ensures.signals c.names_of-named.ensures.pers) c.in-Ok.ensures.read c.as_slice-events.ensures.value
    c.as_slice.ensures.value c.audit_events.ensures

pub returns-in-Ok-clause-causes : goal.returns-in-Ok-clause-causes
returns-in-Ok-clause-causes g c =
    audit_told c.args.accepted.cell (map view_tree c.args.accepted.trees.items) c.as_slice-events.result.now c.as_slice.result.now _ _ _ c.audit_events.ensures

pub returns-in-Err-Line-clause-answers : goal.returns-in-Err-Line-clause-answers
returns-in-Err-Line-clause-answers g c = λ names.
    history_refused (audits names c.args.accepted.cell (map view_tree c.args.accepted.trees.items)) c.args.text.now names c.args.accepted.cell (view_names c.names_of-named.result) c.in-Err-Line.line _ _ _
    (names_seen c.names_of-named.result c.args.accepted.cell c.names_of-named.ensures.tasks c.names_of-named.ensures.signals c.names_of-named.ensures.pers)
    (c.in-Err-Line.ensures.line c.in-Err-Line.line (ap Err c.in-Err-Line.field-0-is)) (record {
      refused_is = c.refuse.ensures.refused;
      status = c.refuse.ensures.status;
      history = c.refuse.ensures.history;
      fates = c.refuse.ensures.fates;
      printed = gained_none _;
      calls = gained_none _;
      told = c.refuse.ensures.told;
    })

pub returns-in-Err-Line-clause-causes : goal.returns-in-Err-Line-clause-causes
returns-in-Err-Line-clause-causes g c = known_fault (IsDoneFault (g.O.Sink.faults c.args.out.now) (g.O.Sink.faults c.args.out.now)) (History c.in-Err-Line.line) _ tt c.refuse.ensures.refused

pub returns-clause-answers : goal.returns-clause-answers
returns-clause-answers g c = λ names.
    inl (memory_refused _ (record { bytes = g.O.Sink.told c.args.out.now; calls = g.O.Sink.calls c.args.out.now; faults = g.O.Sink.faults c.args.out.now }) _ c.refuse-in-Err-Memory.ensures.refused c.refuse-in-Err-Memory.ensures.status c.refuse-in-Err-Memory.ensures.history c.refuse-in-Err-Memory.ensures.fates
    c.refuse-in-Err-Memory.ensures.told)

pub returns-clause-causes : goal.returns-clause-causes
returns-clause-causes g c = known_fault (IsDoneFault (g.O.Sink.faults c.args.out.now) (g.O.Sink.faults c.args.out.now)) Memory _ tt c.refuse-in-Err-Memory.ensures.refused
