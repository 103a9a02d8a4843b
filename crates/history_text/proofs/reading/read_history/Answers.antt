use Rattle.std.proofs.Common.{◌≡◌, ◌+◌, rules}
use Rattle.history_text.specs.HistoryText.{IsFirstFault}
use Rattle.history_text.specs.Named.{view_names}
use Rattle.history_text.proofs.NextLines.{all_read, event_onto, fate_onto, fault_there, has_begun, spelled_has_no_fault}
use Rattle.history_text.proofs.OneHistory.{read_once}
use Rattle.history_text.proofs.reading.read_history.Goals as goal

pub loop-rest-init : goal.loop-rest-init
loop-rest-init c = rw (c.new-events.ensures.items, c.new-fates.ensures.items) (has_begun (view_names c.args.names.now) c.args.text.now)

pub loop-rest-preserved-in-Some : goal.loop-rest-preserved-in-Some
loop-rest-preserved-in-Some c =
    let adds = rw c.in-Some.is at c.in_ok-more.ensures in
    event_onto (view_names c.args.names.now) _ _ c.in-Some.more.now _ c.len-done.result _ _ _ c.requires.names c.loop-rest.invariant (search rules) adds

pub loop-rest-preserved : goal.loop-rest-preserved
loop-rest-preserved c =
    let none = rw c.in_default.is at c.in_ok-more.ensures in
    let come = fate_onto (view_names c.args.names.now) _ _ c.in-Some-read_fate.more.now _ c.len-done.result _ _ _ c.in-Some-read_fate.fate c.requires.names c.loop-rest.invariant (search rules) none.0 c.in-Some-read_fate.ensures.some in
    rw c.in_ok-push.ensures.items come

pub returns-in_default-read_fate-clause-unless : goal.returns-in_default-read_fate-clause-unless
returns-in_default-read_fate-clause-unless c = λ events fates spells.
    let none = rw c.in_default.is at c.in_ok-more.ensures in
    let fault : IsFirstFault (view_names c.args.names.now) c.args.text.now (c.loop-rest.number + 1) = fault_there (view_names c.args.names.now) _ _ _ c.len-done.result _ _ c.loop-rest.invariant (search rules) (search rules) none.1 (search rules) in
    absurd (spelled_has_no_fault (view_names c.args.names.now) _ events fates _ c.requires.names spells fault)

pub returns-in_default-read_fate-clause-line : goal.returns-in_default-read_fate-clause-line
returns-in_default-read_fate-clause-line c = λ number same.
    let none = rw c.in_default.is at c.in_ok-more.ensures in
    let at : c.loop-rest.number + 1 ≡ number = cc in
    rw (← at) (fault_there (view_names c.args.names.now) _ _ _ c.len-done.result _ _ c.loop-rest.invariant (search rules) (search rules) none.1 (search rules))

pub returns-clause-read : goal.returns-clause-read
returns-clause-read c = all_read (view_names c.args.names.now) c.args.text.now _ _ _ _ c.loop-rest.invariant (search rules)

pub returns-clause-only : goal.returns-clause-only
returns-clause-only c = λ events fates spells.
    read_once (view_names c.args.names.now) c.args.text.now _ events _ fates c.requires.names (all_read (view_names c.args.names.now) c.args.text.now _ _ _ _ c.loop-rest.invariant (search rules)) spells
