-- The gaps of a path, one segment after another, and the lines of them.
use Rattle.std.proofs.Common.{◌≡◌, ℕ, zero, suc, ◌+◌, Bool, true, false, cond, List, [], ◌∷◌, ◌++◌, length, Option, Some, None, refl, sym, ◌∙◌, ap, subst, arith, append-nil, append_assoc}
use Rattle.std.specs.Prelude.{IfSome, MatchOption, Result, Ok, Err, ⊤, filter_map, option_map, slice_get}
use Rattle.std.specs.List.{AllZip, cons_option, enumerate_from, slice_index_or}
use Rattle.std.proofs.lemmas.List.Elements.{filter_map-append}
use Rattle.std.proofs.lemmas.Option.{get_or_from_slice_get}
use Rattle.std.proofs.lemmas.Slice.Zip.{AllZip-long}
use Rattle.outside.specs.declared.failed.Failed.{Failed}
use Rattle.rapid_num.specs.Reach.{is_position}
use Rattle.rapid_num.specs.declared.joints.Joints.{Joints}
use Rattle.rapid_num.specs.declared.shape.Shape.{Shape}
use Rattle.rapid_model.specs.declared.event.Event.{Event}
use Rattle.rapid_model.specs.declared.zone_row.ZoneRow.{ZoneRow}
use Rattle.rapid_model.proofs.Lists.{in_front, between as last_there}
use Rattle.zone_clearance.specs.Gaps.{IsWritten}
use Rattle.zone_clearance.specs.Premises.{IsSmall}
use Rattle.zone_clearance.specs.declared.gap.Gap.{Gap}
use Rattle.clearance_lines.specs.ArmPaths.{Segment, Waypoint, given_by, joined, or_start, waypoint_of, waypoints_of}
use Rattle.clearance_lines.specs.Clearances.{Clearance, IsGapOf, gap_line, gap_lines, is_nearer, nearest_line, nearest_lines, zone_lines}
use Rattle.clearance_lines.specs.Measured.{IsNearest, WritesOn, WritesPath, nearer_of}
use Rattle.sink_lines.specs.Printed.{Seen, Sunk}
use Rattle.sink_lines.specs.Written.{Writes}
use Rattle.clearance_lines.specs.declared.nearest.Nearest.{Nearest}
use Rattle.sink_lines.proofs.Gains.{between, writes_then, wrote_first}
use Rattle.clearance_lines.proofs.NearestGaps.{AllWritten, nearest_alone, nearest_keeps, nearest_takes}
use Rattle.run_lines.proofs.PrintingList.{writes_same}

-- the moves of a task's arm in these events
abbrev pub segments_of : ℕ → Joints → List Event → List Segment
segments_of task start es = joined start (waypoints_of task es)

-- where an arm is after these waypoints, from where it was
abbrev last_of : Joints → List Waypoint → Joints
last_of start [] = start
last_of start (w ∷ ws) = last_of w.at ws

-- where the arm of a task is after these events
abbrev pub end_of : ℕ → Joints → List Event → Joints
end_of task start es = last_of start (waypoints_of task es)

last_more : (start : Joints) (ws : List Waypoint) (w : Waypoint) → last_of start (ws ++ w ∷ []) ≡ w.at
last_more start [] w = refl
last_more start (v ∷ ws) w = last_more v.at ws w

joined_more : (start : Joints) (ws more : List Waypoint) → joined start (ws ++ more) ≡ joined start ws ++ joined (last_of start ws) more
joined_more start [] more = refl
joined_more start (w ∷ ws) more =
    ap (λ (rest : List Segment). record { event = Some w.event; start = start; end = w.at } ∷ rest) (joined_more w.at ws more)

numbered_more : (number : ℕ) (es : List Event) (e : Event) → enumerate_from number (es ++ e ∷ []) ≡ enumerate_from number es ++ (number + length es, e) ∷ []
numbered_more number [] e = let same : number ≡ number + 0 = omega arith in ap {B = List (ℕ × Event)} (λ (n : ℕ). (n, e) ∷ []) same
numbered_more number (x ∷ es) e =
    let same : (number + 1) + length es ≡ number + suc (length es) = omega arith in
    ap {B = List (ℕ × Event)} (λ rest. (number, x) ∷ rest) (numbered_more (number + 1) es e)
    ∙ ap {B = List (ℕ × Event)} (λ (n : ℕ). (number, x) ∷ (enumerate_from (number + 1) es ++ (n, e) ∷ [])) same

waypoints_more : (task : ℕ) (es : List Event) (e : Event) → waypoints_of task (es ++ e ∷ []) ≡ waypoints_of task es ++ filter_map (waypoint_of task) ((length es, e) ∷ [])
waypoints_more task es e =
    let same : 0 + length es ≡ length es = omega arith in
    ap (filter_map (waypoint_of task)) (numbered_more 0 es e)
    ∙ filter_map-append (waypoint_of task) (enumerate_from 0 es) ((0 + length es, e) ∷ [])
    ∙ ap (λ (n : ℕ). waypoints_of task es ++ filter_map (waypoint_of task) ((n, e) ∷ [])) same

-- one event, which gives a setpoint or does not
abbrev waypoint : ℕ → Joints → Waypoint
waypoint number to = record { event = number; at = to }

one_given : (task number : ℕ) (to : Joints) (e : Event) → given_by task e ≡ Some to → filter_map (waypoint_of task) ((number, e) ∷ []) ≡ waypoint number to ∷ []
one_given task number to e given = ap (λ (o : Option Joints). cons_option (option_map (waypoint number) o) []) given

none_given : (task number : ℕ) (e : Event) → given_by task e ≡ None → filter_map (waypoint_of task) ((number, e) ∷ []) ≡ []
none_given task number e given = ap (λ (o : Option Joints). cons_option (option_map (waypoint number) o) []) given

waypoints_given : (task : ℕ) (to : Joints) (es : List Event) (e : Event) → given_by task e ≡ Some to → waypoints_of task (es ++ e ∷ []) ≡ waypoints_of task es ++ waypoint (length es) to ∷ []
waypoints_given task to es e given =
    waypoints_more task es e
    ∙ ap (λ (rest : List Waypoint). waypoints_of task es ++ rest) (one_given task (length es) to e given)

waypoints_same : (task : ℕ) (es : List Event) (e : Event) → given_by task e ≡ None → waypoints_of task (es ++ e ∷ []) ≡ waypoints_of task es
waypoints_same task es e given =
    waypoints_more task es e
    ∙ ap (λ (rest : List Waypoint). waypoints_of task es ++ rest) (none_given task (length es) e given)
    ∙ append-nil (waypoints_of task es)

pub path_given : (task : ℕ) (start to : Joints) (es : List Event) (e : Event) → given_by task e ≡ Some to
    → segments_of task start (es ++ e ∷ []) ≡ segments_of task start es ++ record { event = Some (length es); start = end_of task start es; end = to } ∷ []
path_given task start to es e given = ap (joined start) (waypoints_given task to es e given) ∙ joined_more start (waypoints_of task es) (waypoint (length es) to ∷ [])

pub path_same : (task : ℕ) (start : Joints) (es : List Event) (e : Event) → given_by task e ≡ None → segments_of task start (es ++ e ∷ []) ≡ segments_of task start es
path_same task start es e given = ap (joined start) (waypoints_same task es e given)

pub end_given : (task : ℕ) (start to : Joints) (es : List Event) (e : Event) → given_by task e ≡ Some to → end_of task start (es ++ e ∷ []) ≡ to
end_given task start to es e given = ap (last_of start) (waypoints_given task to es e given) ∙ last_more start (waypoints_of task es) (waypoint (length es) to)

pub end_same : (task : ℕ) (start : Joints) (es : List Event) (e : Event) → given_by task e ≡ None → end_of task start (es ++ e ∷ []) ≡ end_of task start es
end_same task start es e given = ap (last_of start) (waypoints_same task es e given)

-- one more gap
pub gaps_more : (shape : Shape) (path : List Segment) (gaps : List Gap) (segment : Segment) (gap : Gap) → AllZip (IsGapOf shape) path gaps → IsGapOf shape segment gap → AllZip (IsGapOf shape) (path ++ segment ∷ []) (gaps ++ gap ∷ [])
gaps_more shape [] [] segment gap all is = (is, tt)
gaps_more shape [] (g ∷ gaps) segment gap all is = absurd all
gaps_more shape (s ∷ path) [] segment gap all is = absurd all
gaps_more shape (s ∷ path) (g ∷ gaps) segment gap all is = (all.0, gaps_more shape path gaps segment gap all.1 is)

pub lines_more : (name : List ℕ) (shape : Shape) (path : List Segment) (gaps : List Gap) (segment : Segment) (gap : Gap) → AllZip (IsGapOf shape) path gaps
    → gap_lines name (path ++ segment ∷ []) (gaps ++ gap ∷ []) ≡ gap_lines name path gaps ++ gap_line name segment.event gap ∷ []
lines_more name shape [] [] segment gap all = refl
lines_more name shape [] (g ∷ gaps) segment gap all = absurd all
lines_more name shape (s ∷ path) [] segment gap all = absurd all
lines_more name shape (s ∷ path) (g ∷ gaps) segment gap all = ap (λ (rest : List (List ℕ)). gap_line name s.event g ∷ rest) (lines_more name shape path gaps segment gap all.1)

pub all_written : (shape : Shape) (path : List Segment) (gaps : List Gap) → AllZip (IsGapOf shape) path gaps → AllWritten gaps
all_written shape path [] all k d lt = absurd (omega (arith, lt))
all_written shape [] (g ∷ gaps) all k d lt = absurd all
all_written shape (s ∷ path) (g ∷ gaps) all zero d lt = all.0.least.written
all_written shape (s ∷ path) (g ∷ gaps) all (suc k) d lt = all_written shape path gaps all.1 k d (omega (arith, lt))

-- the nearest one, with one more segment
last_of_both : (shape : Shape) (path : List Segment) (gaps : List Gap) (segment : Segment) → AllZip (IsGapOf shape) path gaps → slice_get (path ++ segment ∷ []) (length gaps) ≡ Some segment
last_of_both shape path gaps segment all = ap (slice_get (path ++ segment ∷ [])) (AllZip-long (IsGapOf shape) path gaps all) ∙ last_there path [] segment

pub nearest_first : (shape : Shape) (path : List Segment) (gaps : List Gap) (segment : Segment) (new : Nearest) → AllZip (IsGapOf shape) path gaps → gaps ≡ [] → segment.event ≡ new.event → IsWritten new.gap
    → IsNearest (path ++ segment ∷ []) (gaps ++ new.gap ∷ []) new
nearest_first shape [] [] segment new all none same written = record { place = 0; best = nearest_alone new.gap written; gap = refl; segment = segment; there = refl; event = same }
nearest_first shape (s ∷ path) [] segment new all none same written = absurd all
nearest_first shape path (g ∷ gaps) segment new all none same written = absurd cc

place_of : (shape : Shape) (path : List Segment) (gaps : List Gap) (segment : Segment) (old new : Nearest) (b : Bool) → AllZip (IsGapOf shape) path gaps → segment.event ≡ new.event → IsWritten new.gap
    → IsNearest path gaps old → is_nearer new.gap old.gap ≡ b → IsNearest (path ++ segment ∷ []) (gaps ++ new.gap ∷ []) (cond b new old)
place_of shape path gaps segment old new true all same written near is =
    let read : slice_index_or gaps near.place old.gap ≡ old.gap = get_or_from_slice_get gaps near.place old.gap old.gap near.gap in
    let old_written = subst IsWritten read (all_written shape path gaps all near.place old.gap near.best.0) in
    record {
      place = length gaps;
      best = nearest_takes gaps near.place old.gap new.gap (all_written shape path gaps all) old_written written near.best near.gap is;
      gap = last_there gaps [] new.gap;
      segment = segment;
      there = last_of_both shape path gaps segment all;
      event = same;
    }
place_of shape path gaps segment old new false all same written near is = record {
  place = near.place;
  best = nearest_keeps gaps near.place old.gap new.gap near.best near.gap is;
  gap = in_front gaps (new.gap ∷ []) near.place old.gap near.gap;
  segment = near.segment;
  there = in_front path (segment ∷ []) near.place near.segment near.there;
  event = near.event;
}

pub nearest_more : (shape : Shape) (path : List Segment) (gaps : List Gap) (segment : Segment) (nearest : Option Nearest) (new : Nearest) → AllZip (IsGapOf shape) path gaps → segment.event ≡ new.event → IsWritten new.gap
    → MatchOption nearest (gaps ≡ []) (λ (old : Nearest). IsNearest path gaps old) → IsNearest (path ++ segment ∷ []) (gaps ++ new.gap ∷ []) (nearer_of nearest new)
nearest_more shape path gaps segment None new all same written none = nearest_first shape path gaps segment new all none same written
nearest_more shape path gaps segment (Some old) new all same written near = place_of shape path gaps segment old new (is_nearer new.gap old.gap) all same written near refl

small_either : (b : Bool) (old new : Nearest) → IsSmall old.gap → IsSmall new.gap → IsSmall (cond b new old).gap
small_either true old new one two = two
small_either false old new one two = one

pub small_more : (nearest : Option Nearest) (new : Nearest) → IfSome nearest (λ (old : Nearest). IsSmall old.gap) → IsSmall new.gap → IsSmall (nearer_of nearest new).gap
small_more None new old small = small
small_more (Some old) new one small = small_either (is_nearer new.gap old.gap) old new one small

-- lines on lines
pub on_more : (first second : List (List ℕ)) (x y z : Result ⊤ Failed) (a b c : Seen) → WritesOn first x y (between a b) → WritesOn second y z (between b c) → WritesOn (first ++ second) x z (between a c)
on_more first second x y z a b c one two = record {
  on = λ start lines w. writes_same ((lines ++ first) ++ second) (lines ++ (first ++ second)) z (between start c) (append_assoc lines first second) (two.on start (lines ++ first) (one.on start lines w));
}

pub on_none : (x : Result ⊤ Failed) (a : Seen) → WritesOn [] x x (between a a)
on_none x a = record { on = λ start lines w. writes_same lines (lines ++ []) x (between start a) (sym (append-nil lines)) w }

pub on_same : (first second : List (List ℕ)) (x y : Result ⊤ Failed) (sink : Sunk) → first ≡ second → WritesOn first x y sink → WritesOn second x y sink
on_same first second x y sink same w = subst (λ (lines : List (List ℕ)). WritesOn lines x y sink) same w

-- a line is written if those before it were
pub after_failed : (more : List (List ℕ)) (before after : Result ⊤ Failed) (e f : Failed) (a : Seen) → before ≡ Err e → after ≡ Err f → WritesOn more before after (between a a)
after_failed more before after e f a is was = record {
  on = λ start lines w. subst (λ (r : Result ⊤ Failed). Writes (lines ++ more) r (between start a)) (sym was)
      (wrote_first lines more (between start a) (subst (λ (r : Result ⊤ Failed). Writes lines r (between start a)) is w));
}

pub after_written : (more : List (List ℕ)) (before after : Result ⊤ Failed) (u : ⊤) (a b : Seen) → before ≡ Ok u → Writes more after (between a b) → WritesOn more before after (between a b)
after_written more before after u a b is written = record { on = λ start lines w. writes_then lines more after start a b (subst (λ (r : Result ⊤ Failed). Writes lines r (between start a)) is w) written }

-- how far the path of a zone's arm is measured: by these events
pub record Walked (zone : ZoneRow) (start : Joints) (axes : ℕ) (events : List Event) (at : Joints) (nearest : Option Nearest) (before printed : Result ⊤ Failed) (sink : Sunk) : Type 0 where
  pub gaps : List Gap
  pub each : AllZip (IsGapOf zone.shape) (segments_of zone.task start events) gaps
  pub there : at ≡ end_of zone.task start events
  pub well : is_position axes at ≡ true
  pub first : MatchOption nearest (gaps ≡ []) (λ (some : Nearest). IsNearest (segments_of zone.task start events) gaps some)
  pub small : IfSome nearest (λ (some : Nearest). IsSmall some.gap)
  pub on : WritesOn (gap_lines zone.name (segments_of zone.task start events) gaps) before printed sink

pub walk_begins : (zone : ZoneRow) (start : Joints) (axes : ℕ) (before : Result ⊤ Failed) (a : Seen) → is_position axes start ≡ true → Walked zone start axes [] start None before before (between a a)
walk_begins zone start axes before a well = record { gaps = []; each = tt; there = refl; well = well; first = refl; small = tt; on = on_none before a }

-- the segment of an event
abbrev pub segment_to : ℕ → Joints → Joints → Segment
segment_to number at to = record { event = Some number; start = at; end = to }

pub walk_given : (zone : ZoneRow) (start at to : Joints) (axes k : ℕ) (events : List Event) (e : Event) (nearest : Option Nearest) (new : Nearest) (before printed then : Result ⊤ Failed) (a b c : Seen)
    → Walked zone start axes events at nearest before printed (between a b) → given_by zone.task e ≡ Some to → k ≡ length events → is_position axes to ≡ true → new.event ≡ Some k → IsGapOf zone.shape (segment_to k at to) new.gap
    → IsSmall new.gap → WritesOn (gap_line zone.name new.event new.gap ∷ []) printed then (between b c) → Walked zone start axes (events ++ e ∷ []) to (Some (nearer_of nearest new)) before then (between a c)
walk_given zone start at to axes k events e nearest new before printed then a b c walked given count well number is small w =
    let path = segments_of zone.task start events in
    let segment = segment_to (length events) (end_of zone.task start events) to in
    let here : segment_to k at to ≡ segment = ap (λ (n : ℕ). segment_to n at to) count ∙ ap (λ (j : Joints). segment_to (length events) j to) walked.there in
    let gap_is : IsGapOf zone.shape segment new.gap = subst (λ (s : Segment). IsGapOf zone.shape s new.gap) here is in
    let same : segment.event ≡ new.event = sym (number ∙ ap (λ (n : ℕ). Some n) count) in
    let more : segments_of zone.task start (events ++ e ∷ []) ≡ path ++ segment ∷ [] = path_given zone.task start to events e given in
    let lines : gap_lines zone.name path walked.gaps ++ gap_line zone.name new.event new.gap ∷ [] ≡ gap_lines zone.name (path ++ segment ∷ []) (walked.gaps ++ new.gap ∷ []) =
    ap (λ (o : Option ℕ). gap_lines zone.name path walked.gaps ++ gap_line zone.name o new.gap ∷ []) (sym same)
    ∙ sym (lines_more zone.name zone.shape path walked.gaps segment new.gap walked.each) in
    record {
      gaps = walked.gaps ++ new.gap ∷ [];
      each = subst (λ (p : List Segment). AllZip (IsGapOf zone.shape) p (walked.gaps ++ new.gap ∷ [])) (sym more) (gaps_more zone.shape path walked.gaps segment new.gap walked.each gap_is);
      there = sym (end_given zone.task start to events e given);
      well = well;
      first = subst (λ (p : List Segment). IsNearest p (walked.gaps ++ new.gap ∷ []) (nearer_of nearest new)) (sym more)
          (nearest_more zone.shape path walked.gaps segment nearest new walked.each same gap_is.least.written walked.first);
      small = small_more nearest new walked.small small;
      on = subst (λ (p : List Segment). WritesOn (gap_lines zone.name p (walked.gaps ++ new.gap ∷ [])) before then (between a c)) (sym more)
          (on_same (gap_lines zone.name path walked.gaps ++ gap_line zone.name new.event new.gap ∷ []) (gap_lines zone.name (path ++ segment ∷ []) (walked.gaps ++ new.gap ∷ [])) before then (between a c) lines
          (on_more (gap_lines zone.name path walked.gaps) (gap_line zone.name new.event new.gap ∷ []) before printed then a b c walked.on w));
    }

pub walk_on : (zone : ZoneRow) (start at : Joints) (axes : ℕ) (events : List Event) (e : Event) (nearest : Option Nearest) (before printed : Result ⊤ Failed) (sink : Sunk)
    → Walked zone start axes events at nearest before printed sink → given_by zone.task e ≡ None → Walked zone start axes (events ++ e ∷ []) at nearest before printed sink
walk_on zone start at axes events e nearest before printed sink walked given =
    let more = path_same zone.task start events e given in
    record {
      gaps = walked.gaps;
      each = subst (λ (p : List Segment). AllZip (IsGapOf zone.shape) p walked.gaps) (sym more) walked.each;
      there = walked.there ∙ sym (end_same zone.task start events e given);
      well = walked.well;
      first = subst (λ (p : List Segment). MatchOption nearest (walked.gaps ≡ []) (λ (some : Nearest). IsNearest p walked.gaps some)) (sym more) walked.first;
      small = walked.small;
      on = subst (λ (p : List Segment). WritesOn (gap_lines zone.name p walked.gaps) before printed sink) (sym more) walked.on;
    }

-- all events are walked: the path has a segment
path_some : (start : Joints) (path : List Segment) (place : ℕ) (segment : Segment) → slice_get path place ≡ Some segment → or_start start path ≡ path
path_some start [] place segment there = absurd cc
path_some start (s ∷ path) place segment there = refl

nearest_is : (name : List ℕ) (path : List Segment) (gaps : List Gap) (nearest : Nearest) (n : IsNearest path gaps nearest) → nearest_line name nearest.event nearest.gap ∷ [] ≡ nearest_lines name (slice_get path n.place) (slice_get gaps n.place)
nearest_is name path gaps nearest n =
    ap (λ (o : Option ℕ). nearest_line name o nearest.gap ∷ []) (sym n.event)
    ∙ ap (λ (o : Option Gap). nearest_lines name (Some n.segment) o) (sym n.gap)
    ∙ ap (λ (o : Option Segment). nearest_lines name o (slice_get gaps n.place)) (sym n.there)

pub walk_ends : (zone : ZoneRow) (start at : Joints) (axes : ℕ) (events : List Event) (nearest : Nearest) (before printed then : Result ⊤ Failed) (a b c : Seen) → Walked zone start axes events at (Some nearest) before printed (between a b)
    → WritesOn (nearest_line zone.name nearest.event nearest.gap ∷ []) printed then (between b c) → WritesPath zone (or_start start (segments_of zone.task start events)) before then (between a c)
walk_ends zone start at axes events nearest before printed then a b c walked w =
    let path = segments_of zone.task start events in
    let near = walked.first in
    let clearance : Clearance = record { gaps = walked.gaps; nearest = near.place } in
    subst (λ (p : List Segment). WritesPath zone p before then (between a c)) (sym (path_some start path near.place near.segment near.there))
    (record {
      clearance = clearance;
      is = record { each = walked.each; nearest = near.best };
      on = on_same (gap_lines zone.name path walked.gaps ++ nearest_line zone.name nearest.event nearest.gap ∷ []) (zone_lines zone.name path clearance) before then (between a c)
          (ap (λ (lines : List (List ℕ)). gap_lines zone.name path walked.gaps ++ lines) (nearest_is zone.name path walked.gaps nearest near))
          (on_more (gap_lines zone.name path walked.gaps) (nearest_line zone.name nearest.event nearest.gap ∷ []) before printed then a b c walked.on w);
    })

-- the arm was given nothing
no_path : (shape : Shape) (path : List Segment) (gaps : List Gap) → AllZip (IsGapOf shape) path gaps → gaps ≡ [] → path ≡ []
no_path shape [] gaps all none = refl
no_path shape (s ∷ path) [] all none = absurd all
no_path shape (s ∷ path) (g ∷ gaps) all none = absurd cc

pub walk_stays : (zone : ZoneRow) (start at : Joints) (axes : ℕ) (events : List Event) (before printed then : Result ⊤ Failed) (a b c : Seen) → Walked zone start axes events at None before printed (between a b)
    → WritesPath zone (or_start start []) printed then (between b c) → WritesPath zone (or_start start (segments_of zone.task start events)) before then (between a c)
walk_stays zone start at axes events before printed then a b c walked w =
    let path = segments_of zone.task start events in
    let none = no_path zone.shape path walked.gaps walked.each walked.first in
    let lines : gap_lines zone.name path walked.gaps ≡ [] = ap (λ (p : List Segment). gap_lines zone.name p walked.gaps) none in
    subst (λ (p : List Segment). WritesPath zone (or_start start p) before then (between a c)) (sym none)
    (record {
      clearance = w.clearance;
      is = w.is;
      on = on_more [] (zone_lines zone.name (or_start start []) w.clearance) before printed then a b c (on_same (gap_lines zone.name path walked.gaps) [] before printed (between a b) lines walked.on) w.on;
    })

-- both lines of an arm that stays
pub stay_written : (zone : ZoneRow) (start : Joints) (stay : Nearest) (before printed then : Result ⊤ Failed) (a b c : Seen) → stay.event ≡ None → IsGapOf zone.shape (record { event = None; start = start; end = start }) stay.gap
    → WritesOn (gap_line zone.name stay.event stay.gap ∷ []) before printed (between a b) → WritesOn (nearest_line zone.name stay.event stay.gap ∷ []) printed then (between b c) → WritesPath zone (or_start start []) before then (between a c)
stay_written zone start stay before printed then a b c none is one two =
    let first = ap (λ (o : Option ℕ). gap_line zone.name o stay.gap ∷ []) none in
    let second = ap (λ (o : Option ℕ). nearest_line zone.name o stay.gap ∷ []) none in
    record {
      clearance = record { gaps = stay.gap ∷ []; nearest = 0 };
      is = record { each = (is, tt); nearest = nearest_alone stay.gap is.least.written };
      on = on_more (gap_line zone.name None stay.gap ∷ []) (nearest_line zone.name None stay.gap ∷ []) before printed then a b c
          (on_same (gap_line zone.name stay.event stay.gap ∷ []) (gap_line zone.name None stay.gap ∷ []) before printed (between a b) first one)
          (on_same (nearest_line zone.name stay.event stay.gap ∷ []) (nearest_line zone.name None stay.gap ∷ []) printed then (between b c) second two);
    }
