-- How a history goes on by a line, and the first line by which it does not.
use Rattle.std.proofs.Common.{◌≡◌, ℕ, ◌+◌, ◌-◌, ◌<◌, ◌≤◌, List, [], ◌∷◌, ◌++◌, length, take, drop, map, Some, refl, sym, ap, subst, ◌∙◌, arith, append_assoc, append-nil, length-append, inl, inr}
use Rattle.std.proofs.lemmas.Bool.{cases_lt}
use Rattle.std.proofs.Math.Seq.{take-add}
use Rattle.std.proofs.lemmas.List.{take_at, take-append-drop}
use Rattle.std.proofs.lemmas.Option.{same_Some, slice_get_within}
use Rattle.std.specs.List.{AllByRecursion, concat}
use Rattle.std.specs.Prelude.{IsTrue, slice_get}
use Rattle.rapid_model.specs.declared.event.Event.{Event}
use Rattle.rapid_model.specs.declared.fate.Fate.{Fate}
use Rattle.rapid_model.specs.declared.task_row.TaskRow.{TaskRow}
use Rattle.rapid_model.proofs.Lists.{all_more}
use Rattle.history_text.specs.EventLines.{event_line}
use Rattle.history_text.specs.HistoryText.{AreNamed, Begins, IsFirstFault, IsHistory, Spells, history_lines, lines_in}
use Rattle.history_text.specs.InRange.{IsEvent, IsFate}
use Rattle.history_text.specs.Lines.{fate_line, fate_lines}
use Rattle.history_text.specs.Named.{NamesData, event_fits}
use Rattle.history_text.specs.NextLine.{AddsEvent, BeginsEvent, BeginsFate, BeginsNoEvent, BeginsNoFate, HasCome}
use Rattle.history_text.proofs.NameBytes.{name_at}
use Rattle.history_text.proofs.LinesIn.{IsLine, has_line, lines_make_text, lines_of_whole}
use Rattle.history_text.proofs.HistoryLines.{Fits, event_line_is, fate_line_is, spelled_lines}
use Rattle.history_text.proofs.OneHistory.{event_is_no_fate, no_event_first}

-- which line may come after some

fates_go_on : (tasks : List TaskRow) (fates : List Fate) (line : List ℕ) (more : List (List ℕ)) (all : List Fate) → AllByRecursion IsFate all → fate_lines tasks fates ++ line ∷ more ≡ fate_lines tasks all → length fates ≤ length tasks
    → (row : TaskRow) × (fate : Fate) × (slice_get tasks (length fates) ≡ Some row) × IsFate fate × (line ≡ fate_line row.name fate)
fates_go_on [] [] line more all range same few = absurd cc
fates_go_on [] (f ∷ fs) line more all range same few = absurd (omega arith)
fates_go_on (row ∷ rows) [] line more [] range same few = absurd cc
fates_go_on (row ∷ rows) [] line more (g ∷ gs) range same few = (row, g, refl, range.0, cc)
fates_go_on (row ∷ rows) (f ∷ fs) line more [] range same few = absurd cc
fates_go_on (row ∷ rows) (f ∷ fs) line more (g ∷ gs) range same few =
    let rest : fate_lines rows fs ++ line ∷ more ≡ fate_lines rows gs = cc in
    fates_go_on rows fs line more gs range.1 rest (omega arith)

no_fates : (tasks : List TaskRow) → fate_lines tasks [] ≡ []
no_fates [] = refl
no_fates (row ∷ rows) = refl

-- a line is not one of an event if no event may come there, nor that of the next fate
record IsNoNext (names : NamesData) (done : ℕ) (line : List ℕ) : Type 0 where
  no_event : done ≡ 0 → (e : Event) → IsEvent e → IsTrue (event_fits names e) → line ≡ event_line names.tasks e → ⊥
  no_fate : (fate : Fate) (row : TaskRow) → slice_get names.tasks done ≡ Some row → IsFate fate → line ≡ fate_line row.name fate → ⊥

-- if no line of a history may come there, none has these lines
next_is_none : (names : NamesData) (events : List Event) (fates : List Fate) (line : List ℕ) (more : List (List ℕ)) (all : List Event) (ends : List Fate) → IsNoNext names (length fates) line → length fates ≤ length names.tasks → IsHistory names all ends
    → history_lines names events fates ++ line ∷ more ≡ history_lines names all ends → ⊥
next_is_none names (e ∷ es) fates line more (g ∷ gs) ends none few history same =
    let back : IsHistory names gs ends = record { events = history.events.1; fates = history.fates; few = history.few } in
    let rest : history_lines names es fates ++ line ∷ more ≡ history_lines names gs ends = cc in
    next_is_none names es fates line more gs ends none few back rest
next_is_none names (e ∷ es) fates line more [] ends none few history same = no_event_first names.tasks names.tasks e (history_lines names es fates ++ line ∷ more) ends same
next_is_none names [] fates line more [] ends none few history same =
    let next = fates_go_on names.tasks fates line more ends history.fates same few in
    none.no_fate next.1 next.0 next.2 next.3 next.4
next_is_none names [] [] line more (g ∷ gs) ends none few history same =
    let first : line ∷ more ≡ event_line names.tasks g ∷ history_lines names gs ends = sym (ap (λ ls. ls ++ line ∷ more) (no_fates names.tasks)) ∙ same in
    none.no_event refl g history.events.0.0 history.events.0.1 (let one : line ≡ event_line names.tasks g = cc in one)
next_is_none names [] (f ∷ fs) line more (g ∷ gs) ends none few history same = no_event_after names.tasks names.tasks g f fs line more (history_lines names gs ends) few same
  where
    no_event_after : (tasks tasks' : List TaskRow) (g : Event) (f : Fate) (fs : List Fate) (line : List ℕ) (more rest : List (List ℕ)) → length (f ∷ fs) ≤ length tasks → fate_lines tasks (f ∷ fs) ++ line ∷ more ≡ event_line tasks' g ∷ rest → ⊥
    no_event_after [] tasks' g f fs line more rest few same = absurd (omega arith)
    no_event_after (row ∷ rows) tasks' g f fs line more rest few same = event_is_no_fate tasks' g row.name f (let first : event_line tasks' g ≡ fate_line row.name f = cc in first)

-- reading goes on by a line

one_event_more : (names : NamesData) (events : List Event) (e : Event) → history_lines names (events ++ e ∷ []) [] ≡ history_lines names events [] ++ event_line names.tasks e ∷ []
one_event_more names [] e = rw (no_fates names.tasks) refl
one_event_more names (g ∷ gs) e = ap (λ ls. event_line names.tasks g ∷ ls) (one_event_more names gs e)

one_fate_more : (tasks : List TaskRow) (fates : List Fate) (row : TaskRow) (fate : Fate) → slice_get tasks (length fates) ≡ Some row → fate_lines tasks (fates ++ fate ∷ []) ≡ fate_lines tasks fates ++ fate_line row.name fate ∷ []
one_fate_more [] fates row fate at = absurd cc
one_fate_more (r ∷ rs) [] row fate at = let here : r ≡ row = same_Some r row at in rw (no_fates rs) (ap (λ (t : TaskRow). fate_line t.name fate ∷ []) here)
one_fate_more (r ∷ rs) (f ∷ fs) row fate at = ap (λ ls. fate_line r.name f ∷ ls) (one_fate_more rs fs row fate at)

line_read : (names : NamesData) (text rest line more : List ℕ) (number : ℕ) (events others : List Event) (fates ends : List Fate) → HasCome names text rest number events fates → rest ≡ line ++ more → IsLine line → IsHistory names others ends
    → history_lines names others ends ≡ history_lines names events fates ++ line ∷ [] → HasCome names text more (number + 1) others ends
line_read names text rest line more number events others fates ends come front is history same =
    let lines = history_lines names events fates in
    let count : length (history_lines names others ends) ≡ length lines + 1 = ap length same ∙ length-append lines (line ∷ []) in
    let whole : length rest ≡ length line + length more = ap length front ∙ length-append line more in
    let ended : length line ≡ length is.front + 1 = ap length is.is ∙ length-append is.front (10 ∷ []) in
    let first : lines_in rest ≡ line ∷ lines_in more = ap lines_in front ∙ lines_of_whole line more is in
    record {
      history = history;
      lines = come.lines ∙ ap (λ ls. lines ++ ls) first ∙ sym (append_assoc lines (line ∷ []) (lines_in more)) ∙ ap (λ ls. ls ++ lines_in more) (sym same);
      count = omega (arith, come.count);
      short = omega (arith, come.short);
    }

pub event_read : (names : NamesData) (text rest more : List ℕ) (number : ℕ) (events : List Event) (fates : List Fate) (e : Event) → AreNamed names.tasks → HasCome names text rest number events fates → length fates ≡ 0 → BeginsEvent names rest e more
    → HasCome names text more (number + 1) (events ++ e ∷ []) fates
event_read names text rest more number events [] e named come none read =
    let history : IsHistory names (events ++ e ∷ []) [] = record { events = all_more (Fits names) events e come.history.events (read.range, read.fits); fates = tt; few = omega arith } in
    line_read names text rest (event_line names.tasks e) more number events (events ++ e ∷ []) [] [] come read.same (event_line_is names.tasks e named read.range) history (one_event_more names events e)
event_read names text rest more number events (f ∷ fs) e named come none read = absurd (omega arith)

pub fate_read : (names : NamesData) (text rest more : List ℕ) (number : ℕ) (events : List Event) (fates : List Fate) (fate : Fate) → AreNamed names.tasks → HasCome names text rest number events fates → BeginsFate names (length fates) rest fate more
    → HasCome names text more (number + 1) events (fates ++ fate ∷ [])
fate_read names text rest more number events fates fate named come read =
    let within : length fates < length names.tasks = slice_get_within names.tasks (length fates) read.row read.there in
    let few : length (fates ++ fate ∷ []) ≤ length names.tasks = omega (arith, length-append fates (fate ∷ [])) in
    let history : IsHistory names events (fates ++ fate ∷ []) = record { events = come.history.events; fates = all_more IsFate fates fate come.history.fates read.range; few = few } in
    let line = fate_line read.row.name fate in
    let is = fate_line_is read.row fate (name_at names.tasks (length fates) read.row named.form read.there) read.range in
    let one : fate_lines names.tasks (fates ++ fate ∷ []) ≡ fate_lines names.tasks fates ++ line ∷ [] = one_fate_more names.tasks fates read.row fate read.there in
    let lines = map (event_line names.tasks) events in
    line_read names text rest line more number events events fates (fates ++ fate ∷ []) come read.same is history (ap (λ ls. lines ++ ls) one ∙ sym (append_assoc lines (fate_lines names.tasks fates) (line ∷ [])))

-- the first line at which a text stops being a history

first_fault : (names : NamesData) (text rest line : List ℕ) (others : List (List ℕ)) (number : ℕ) (events : List Event) (fates : List Fate) → HasCome names text rest number events fates → lines_in rest ≡ line ∷ others → IsNoNext names (length fates) line
    → IsFirstFault names text (number + 1)
first_fault names text rest line others number events fates come here none =
    let lines = history_lines names events fates in
    let count : length lines ≡ number = sym come.count in
    let all : lines_in text ≡ (lines ++ line ∷ []) ++ others = come.lines ∙ ap (λ ls. lines ++ ls) here ∙ sym (append_assoc lines (line ∷ []) others) in
    let long : length (lines ++ line ∷ []) ≡ number + 1 = length-append lines (line ∷ []) ∙ omega arith in
    let total : length (lines_in text) ≡ length (lines ++ line ∷ []) + length others = ap length all ∙ length-append (lines ++ line ∷ []) others in
    let up_to : take (number + 1) (lines_in text) ≡ lines ++ line ∷ [] = ap (take (number + 1)) all ∙ take_at (lines ++ line ∷ []) others (number + 1) long in
    let one_less : number + 1 - 1 ≡ number = omega arith in
    let front : take (number + 1 - 1) (lines_in text) ≡ lines =
    rw one_less (ap (take number) (all ∙ append_assoc lines (line ∷ []) others) ∙ take_at lines (line ∷ others) number count) in
    record {
      low = omega arith;
      high = omega arith;
      before = ([], events, fates, come.history, ap (λ ls. ls ++ []) front ∙ append-nil lines);
      fault = λ begun. next_is_none names events fates line begun.0 begun.1 begun.2 none come.history.few begun.3 (sym (append_assoc lines (line ∷ []) begun.0) ∙ sym (ap (λ ls. ls ++ begun.0) up_to) ∙ begun.4);
    }

no_first : (names : NamesData) (done : ℕ) (rest line : List ℕ) (others : List (List ℕ)) → lines_in rest ≡ line ∷ others → BeginsNoEvent names done rest → BeginsNoFate names done rest → IsNoNext names done line
no_first names done rest line others are no_event no_fate =
    let whole : rest ≡ line ++ concat others = sym (lines_make_text rest) ∙ ap concat are in
    record {
      no_event = λ first e range fits same. no_event first e (concat others) (record { range = range; fits = fits; same = whole ∙ ap (λ w. w ++ concat others) same });
      no_fate = λ fate row there range same. no_fate fate (concat others) (record { row = row; there = there; range = range; same = whole ∙ ap (λ w. w ++ concat others) same });
    }

pub fault_at : (names : NamesData) (text rest : List ℕ) (number : ℕ) (events : List Event) (fates : List Fate) → HasCome names text rest number events fates → 0 < length rest → BeginsNoEvent names (length fates) rest → BeginsNoFate names (length fates) rest
    → IsFirstFault names text (number + 1)
fault_at names text rest number events fates come some no_event no_fate =
    let has = has_line rest some in
    first_fault names text rest has.line has.others number events fates come has.are (no_first names (length fates) rest has.line has.others has.are no_event no_fate)

-- a step of reading: the count of fates so far under another name

pub event_onto : (names : NamesData) (text rest more : List ℕ) (number done : ℕ) (events others : List Event) (fates : List Fate) → AreNamed names.tasks → HasCome names text rest number events fates → done ≡ length fates → AddsEvent names done rest events others more
    → HasCome names text more (number + 1) others fates
event_onto names text rest more number done events others fates named come count adds =
    rw adds.added (event_read names text rest more number events fates adds.event named come (sym count ∙ adds.first) adds.begins)

pub fate_onto : (names : NamesData) (text rest more : List ℕ) (number done : ℕ) (events others : List Event) (fates : List Fate) (fate : Fate) → AreNamed names.tasks → HasCome names text rest number events fates → done ≡ length fates → others ≡ events → BeginsFate names done rest fate more
    → HasCome names text more (number + 1) others (fates ++ fate ∷ [])
fate_onto names text rest more number done events others fates fate named come count same begins =
    let here : BeginsFate names (length fates) rest fate more = subst (λ (n : ℕ). BeginsFate names n rest fate more) count begins in
    rw same (fate_read names text rest more number events fates fate named come here)

pub fault_there : (names : NamesData) (text rest : List ℕ) (number done : ℕ) (events : List Event) (fates : List Fate) → HasCome names text rest number events fates → 0 < length rest → done ≡ length fates → BeginsNoEvent names done rest → BeginsNoFate names done rest
    → IsFirstFault names text (number + 1)
fault_there names text rest number done events fates come some count no_event no_fate =
    fault_at names text rest number events fates come some
    (subst (λ (n : ℕ). BeginsNoEvent names n rest) count no_event) (subst (λ (n : ℕ). BeginsNoFate names n rest) count no_fate)

-- what is read at the end

pub has_begun : (names : NamesData) (text : List ℕ) → HasCome names text text 0 [] []
has_begun names text = record {
  history = record { events = tt; fates = tt; few = omega arith };
  lines = sym (ap (λ ls. ls ++ lines_in text) (no_fates names.tasks));
  count = sym (ap length (no_fates names.tasks));
  short = omega arith;
}

whole_lines : (names : NamesData) (text rest : List ℕ) (number : ℕ) (events : List Event) (fates : List Fate) → HasCome names text rest number events fates → length rest ≡ 0 → lines_in text ≡ history_lines names events fates
whole_lines names text [] number events fates come none = come.lines ∙ append-nil (history_lines names events fates)
whole_lines names text (b ∷ bs) number events fates come none = absurd (omega arith)

pub all_read : (names : NamesData) (text rest : List ℕ) (number : ℕ) (events : List Event) (fates : List Fate) → HasCome names text rest number events fates → length rest ≡ 0 → Spells names text events fates
all_read names text rest number events fates come none = record {
  history = come.history;
  text = sym (lines_make_text text) ∙ ap concat (whole_lines names text rest number events fates come none);
}

pub spelled_has_no_fault : (names : NamesData) (text : List ℕ) (events : List Event) (fates : List Fate) (number : ℕ) → AreNamed names.tasks → Spells names text events fates → IsFirstFault names text number → ⊥
spelled_has_no_fault names text events fates number named spells fault =
    fault.fault (drop number (lines_in text), events, fates, spells.history, take-append-drop number (lines_in text) ∙ spelled_lines names text events fates named spells)

-- what starts a history has prefixes that start it
begun_before : (names : NamesData) (lines : List (List ℕ)) (n k m : ℕ) → n + k ≡ m → Begins names (take m lines) → Begins names (take n lines)
begun_before names lines n k m sum begun =
    let parts : take m lines ≡ take n lines ++ take k (drop n lines) = ap (λ i. take i lines) (sym sum) ∙ take-add n k lines in
    let whole : take n lines ++ (take k (drop n lines) ++ begun.0) ≡ take m lines ++ begun.0 = sym (append_assoc (take n lines) (take k (drop n lines)) begun.0) ∙ ap (λ ls. ls ++ begun.0) (sym parts) in
    (take k (drop n lines) ++ begun.0, begun.1, begun.2, begun.3, whole ∙ begun.4)

earlier_begins : (names : NamesData) (text : List ℕ) (number other : ℕ) → number < other → IsFirstFault names text other → Begins names (take number (lines_in text))
earlier_begins names text number other less fault = begun_before names (lines_in text) number (other - 1 - number) (other - 1) (omega arith) fault.before

pub one_first_fault : (names : NamesData) (text : List ℕ) (number other : ℕ) → IsFirstFault names text number → IsFirstFault names text other → number ≡ other
one_first_fault names text number other one another =
    elim (cases_lt number other) [
      | inl less ↦ absurd (one.fault (earlier_begins names text number other less another))
      | inr past ↦ elim (cases_lt other number) [
        | inl less ↦ absurd (another.fault (earlier_begins names text other number less one))
        | inr same ↦ omega arith
      ]
    ]
