use Rattle.std.proofs.Common.{◌≡◌, ◌≤◌, true, length, slice_get, ap, ◌∙◌, arith}
use Rattle.std.specs.Prelude.{is_some}
use Rattle.std.specs.Vec.{vec_capacity}
use Rattle.history_pages.specs.Packing.{event_in}
use Rattle.history_pages.proofs.Copied.{copied_more, counted_more}
use Rattle.history_pages.proofs.Packed.{event_at, spelled_at}
use Rattle.history_pages.proofs.pages.Pages.copy_to.Goals as goal

pub copy_event-requires-clause-spelled : goal.copy_event-requires-clause-spelled
copy_event-requires-clause-spelled c = spelled_at c.self.inside.heads.items c.self.inside.words.items c.loop-k.k c.at.result c.at.ensures c.self.invariant.there

pub loop-k-preserved : goal.loop-k-preserved
loop-k-preserved c =
    let heads = c.self.inside.heads.items in
    let words = c.self.inside.words.items in
    let events = c.args.self.now.events in
    let event = event_in words c.at.result in
    let at : event ≡ slice_get events c.loop-k.k =
    event_at heads words c.loop-k.k c.at.result c.at.ensures c.self.invariant.there ∙ ap (λ p. slice_get p.events c.loop-k.k) c.self.view_is
    in
    let some : is_some event ≡ true = spelled_at heads words c.loop-k.k c.at.result c.at.ensures c.self.invariant.there in
    let wide : length events ≤ vec_capacity c.loop-k.events = c.loop-k.invariant.room in
    let same : vec_capacity c.copy_event.new.events ≡ vec_capacity c.loop-k.events = c.copy_event.ensures.capacity in
    record {
      copied = copied_more events c.loop-k.events.items c.copy_event.new.events.items c.loop-k.k event at some c.loop-k.invariant.copied c.copy_event.ensures.items;
      count = counted_more c.loop-k.events.items c.copy_event.new.events.items c.loop-k.k event some c.loop-k.invariant.count c.copy_event.ensures.items;
      room = omega arith;
    }
