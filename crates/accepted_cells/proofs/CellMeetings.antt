-- The numbers of meetings that a cell gives its trees: each is that of a meeting of the cell.
use Rattle.std.proofs.Common.{◌≡◌, ℕ, suc, ◌<◌, ◌≤◌, List, [], ◌∷◌, ◌++◌, length, Option, Some, None, refl, sym, ap, subst, ◌∙◌, append_assoc, length-append, arith}
use Rattle.std.specs.List.{All}
use Rattle.std.specs.Str.{str_eq_ignore_ascii_case}
use Rattle.std.proofs.lemmas.List.{append-nil}
use Rattle.std.proofs.lemmas.List.Elements.{All-cons, All-nil, All-weaker}
use Rattle.std.proofs.lemmas.List.Quantifiers.{position-Some}
use Rattle.typed_trees.specs.Plain.{TypedTree}
use Rattle.cell_assembly.specs.Cells.{Meetings, MeetingTables, meet_all, meeting_number, meetings_with, met, trees_meetings}
use Rattle.name_laws.specs.Declared.{AreEach}

number_within : (name : List ℕ) (names : List (List ℕ)) (k : ℕ) → meeting_number name names ≡ Some k → k < length names
number_within name names k e = (position-Some (str_eq_ignore_ascii_case name) names k [] e).0

-- one more meeting
record Met (m : Meetings) (n : Meetings) : Type 0 where
  pub longer : length m.names ≤ length n.names
  pub number : ℕ
  pub numbers : n.numbers ≡ m.numbers ++ number ∷ []
  pub below : number < length n.names

met_step : (m : Meetings) (name : List ℕ) (o : Option ℕ) → meeting_number name m.names ≡ o → Met m (met m name o)
met_step m name (Some number) is = record { longer = omega arith; number = number; numbers = refl; below = number_within name m.names number is }
met_step m name None is =
    let long = length-append m.names (name ∷ []) in
    record { longer = omega (arith, long); number = length m.names; numbers = refl; below = omega (arith, long) }

abbrev pub AreBelow : ℕ → List ℕ → Type 0
AreBelow count numbers = All (λ number. number < count) numbers

below_more : (few many : ℕ) (numbers : List ℕ) → few ≤ many → AreBelow few numbers → AreBelow many numbers
below_more few many numbers le h = All-weaker (λ number. number < few) (λ number. number < many) (λ number under. omega (arith, le, under)) numbers h

record MetAll (m : Meetings) (names : List (List ℕ)) (n : Meetings) : Type 0 where
  pub longer : length m.names ≤ length n.names
  pub more : List ℕ
  pub numbers : n.numbers ≡ m.numbers ++ more
  pub as_many : length more ≡ length names
  pub below : AreBelow (length n.names) more

all_met : (m : Meetings) (names : List (List ℕ)) → MetAll m names (meet_all m names)
all_met m [] = record { longer = omega arith; more = []; numbers = sym (append-nil m.numbers); as_many = refl; below = All-nil (λ number. number < length m.names) }
all_met m (name ∷ names) =
    let one = met_step m name (meeting_number name m.names) refl in
    let next = met m name (meeting_number name m.names) in
    let others = all_met next names in
    let last = meet_all next names in
    let first_longer = one.longer in
    let more_longer = others.longer in
    let under = one.below in
    let count = others.as_many in
    record {
      longer = omega (arith, first_longer, more_longer);
      more = one.number ∷ others.more;
      numbers = others.numbers ∙ ap (λ l. l ++ others.more) one.numbers ∙ append_assoc m.numbers (one.number ∷ []) others.more;
      as_many = ap suc count;
      below = All-cons (λ number. number < length last.names) one.number others.more (omega (arith, under, more_longer)) others.below;
    }

-- a tree with the numbers of its meetings
pub record MeetingsOf (count : ℕ) (tree : TypedTree) (numbers : List ℕ) : Type 0 where
  pub as_many : length numbers ≡ length tree.meetings
  pub below : AreBelow count numbers

record TreesMet (t : MeetingTables) (trees : List TypedTree) (u : MeetingTables) : Type 0 where
  pub longer : length t.names ≤ length u.names
  pub more : List (List ℕ)
  pub lists : u.lists ≡ t.lists ++ more
  pub each : AreEach (MeetingsOf (length u.names)) trees more

trees_met : (t : MeetingTables) (trees : List TypedTree) → TreesMet t trees (trees_meetings t trees)
trees_met t [] = record { longer = omega arith; more = []; lists = sym (append-nil t.lists); each = tt }
trees_met t (tree ∷ trees) =
    let start : Meetings = record { names = t.names; numbers = [] } in
    let one = all_met start tree.meetings in
    let m = meet_all start tree.meetings in
    let others = trees_met (meetings_with t m) trees in
    let last = trees_meetings (meetings_with t m) trees in
    let first_longer = one.longer in
    let more_longer = others.longer in
    let same = sym one.numbers in
    record {
      longer = omega (arith, first_longer, more_longer);
      more = m.numbers ∷ others.more;
      lists = others.lists ∙ append_assoc t.lists (m.numbers ∷ []) others.more;
      each = (
        record {
          as_many = ap length one.numbers ∙ one.as_many;
          below = subst (AreBelow (length last.names)) same (below_more (length m.names) (length last.names) one.more more_longer one.below);
        },
        others.each,
      );
    }

pub meetings_numbered : (trees : List TypedTree) → let t = trees_meetings (record { names = []; lists = [] }) trees in AreEach (MeetingsOf (length t.names)) trees t.lists
meetings_numbered trees =
    let h = trees_met (record { names = []; lists = [] }) trees in
    let t = trees_meetings (record { names = []; lists = [] }) trees in
    subst (AreEach (MeetingsOf (length t.names)) trees) (sym h.lists) h.each
