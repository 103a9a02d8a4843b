-- The persistents and the meetings of all trees, and the trees with their numbers.
use Rattle.std.proofs.Common.{◌≡◌, ℕ, ◌+◌, List, [], ◌∷◌, ◌++◌, length, map, Option, Some, None, slice_get, Ok, Err, refl, ap, sym, subst, ◌∙◌, arith, inl, inr, zero, suc}
use Rattle.std.specs.List.{concat}
use Rattle.std.specs.Str.{str_eq_ignore_ascii_case, str_to_ascii_lowercase}
use Rattle.std.proofs.lemmas.Bool.{both_ways, cases_order}
use Rattle.std.proofs.lemmas.List.{append_assoc, append-nil}
use Rattle.std.proofs.lemmas.Option.{slice_get_within}
use Rattle.rapid_model.specs.declared.pers_value.PersValue.{PersValue}
use Rattle.rapid_model.specs.Names.{IsOneName}
use Rattle.rapid_model.proofs.Lists.{there_is}
use Rattle.typed_trees.specs.Plain.{TypedPers, TypedTree}
use Rattle.cell_assembly.specs.Cells.{Making, Numbered, PersTables, Meetings, MeetingTables, one_pers, all_pers, with_list, trees_pers, meeting_number, met, meet_all, meetings_with, trees_meetings}
use Rattle.cell_assembly.specs.Made.{numbered, with_numbers}
use Rattle.cell_rules.specs.Cell.{IsNumberedTree, pers_numbers, meeting_numbers}
use Rattle.cell_rules.specs.Declared.{Declared, declared_from, meetings_of, of_task}
use Rattle.cell_rules.specs.Numbering.{AreNumbered, HasNumber, IsFirst}
use Rattle.cell_rules.specs.Refused.{IsRefusal}
use Rattle.cell_rules.proofs.Declares.{one_right}
use Rattle.cell_rules.proofs.Infos.{AreInfos, named_alike, one_name}
use Rattle.cell_rules.proofs.Lists.{same_there, earlier_or_last, one_longer, position_there, position_nowhere}
use Rattle.cell_rules.proofs.Numbers.{none_numbered, new_numbered, joined_numbered, first_stays, first_new}
use Rattle.cell_rules.proofs.Outcomes.{Outcome, followed}

-- the numbers of lists, with one more list
concat_more : (lists : List (List ℕ)) (list : List ℕ) → concat (lists ++ list ∷ []) ≡ concat lists ++ list
concat_more [] list = append-nil list
concat_more (l ∷ lists) list = ap (λ ns. l ++ ns) (concat_more lists list) ∙ sym (append_assoc l (concat lists) list)

lengths_more : (lists : List (List ℕ)) (list : List ℕ) → map length (lists ++ list ∷ []) ≡ map length lists ++ length list ∷ []
lengths_more [] list = refl
lengths_more (l ∷ lists) list = ap (λ ns. length l ∷ ns) (lengths_more lists list)

module _ (given : List PersValue) (whole : List Declared) where
  -- the declarations of a tree, after those before it
  module _ (front : List ℕ) (task : ℕ) (rest : List Declared) where
    all_right : (ds : List Declared) (rows : List TypedPers) (n : Numbered) → whole ≡ ds ++ (map (of_task task) rows ++ rest) → AreInfos ds (front ++ n.numbers) n.pers
        → Outcome (λ m. (length m.numbers ≡ length n.numbers + length rows) × AreInfos (ds ++ map (of_task task) rows) (front ++ m.numbers) m.pers) (IsRefusal whole given) (all_pers n task rows)
    all_right ds [] n is_whole are = (omega arith, subst (λ xs. AreInfos xs (front ++ n.numbers) n.pers) (sym (append-nil ds)) are)
    all_right ds (row ∷ rows) n is_whole are =
        let d = of_task task row in
        let More : Numbered → Type 0 = λ m. (length m.numbers ≡ length n.numbers + 1) × AreInfos (ds ++ d ∷ []) (front ++ m.numbers) m.pers in
        let All : Numbered → Type 0 = λ m. (length m.numbers ≡ length n.numbers + length (row ∷ rows)) × AreInfos (ds ++ map (of_task task) (row ∷ rows)) (front ++ m.numbers) m.pers in
        followed More All (IsRefusal whole given) (one_pers n task row) (λ m. all_pers m task rows) (one_right given whole ds (map (of_task task) rows ++ rest) front task row is_whole n are) (λ m more.
        weaker m more (all_pers m task rows) (all_right (ds ++ d ∷ []) rows m (is_whole ∙ sym (append_assoc ds (d ∷ []) (map (of_task task) rows ++ rest))) more.1))
      where
        weaker : (m : Numbered) → (length m.numbers ≡ length n.numbers + 1) × AreInfos (ds ++ of_task task row ∷ []) (front ++ m.numbers) m.pers → (check : Making Numbered)
            → Outcome (λ o. (length o.numbers ≡ length m.numbers + length rows) × AreInfos ((ds ++ of_task task row ∷ []) ++ map (of_task task) rows) (front ++ o.numbers) o.pers) (IsRefusal whole given) check
            → Outcome (λ o. (length o.numbers ≡ length n.numbers + length (row ∷ rows)) × AreInfos (ds ++ map (of_task task) (row ∷ rows)) (front ++ o.numbers) o.pers) (IsRefusal whole given) check
        weaker m more (Ok o) is = (omega (arith, more.0, is.0), subst (λ xs. AreInfos xs (front ++ o.numbers) o.pers) (append_assoc ds (of_task task row ∷ []) (map (of_task task) rows)) is.1)
        weaker m more (Err broken) is = is

  -- the persistents of the declarations so far, and the numbers of the trees so far, one for each declaration
  pub record AreTables (ds : List Declared) (lengths : List ℕ) (t : PersTables) : Type 0 where
    pub infos : AreInfos ds (concat t.lists) t.pers
    pub lengths_are : map length t.lists ≡ lengths

  pub trees_right : (ds : List Declared) (lengths : List ℕ) (t : PersTables) (task : ℕ) (trees : List TypedTree) → whole ≡ ds ++ declared_from task trees → AreTables ds lengths t
      → Outcome (AreTables whole (lengths ++ map (λ tree. length tree.pers) trees)) (IsRefusal whole given) (trees_pers t task trees)
  trees_right ds lengths t task [] is_whole are =
      record {
        infos = subst (λ xs. AreInfos xs (concat t.lists) t.pers) (sym (is_whole ∙ append-nil ds)) are.infos;
        lengths_are = are.lengths_are ∙ sym (append-nil lengths);
      }
  trees_right ds lengths t task (tree ∷ trees) is_whole are =
      let start : Numbered = record { pers = t.pers; numbers = [] } in
      let own = map (of_task task) tree.pers in
      let Here : Numbered → Type 0 = λ m. (length m.numbers ≡ 0 + length tree.pers) × AreInfos (ds ++ own) (concat t.lists ++ m.numbers) m.pers in
      followed Here (AreTables whole (lengths ++ map (λ (x : TypedTree). length x.pers) (tree ∷ trees))) (IsRefusal whole given) (all_pers start task tree.pers) (λ n. trees_pers (with_list t n) (task + 1) trees)
      (all_right (concat t.lists) task (declared_from (task + 1) trees) ds tree.pers start is_whole (subst (λ ks. AreInfos ds ks t.pers) (sym (append-nil (concat t.lists))) are.infos))
      (λ n here. subst (λ ls. Outcome (AreTables whole ls) (IsRefusal whole given) (trees_pers (with_list t n) (task + 1) trees)) (append_assoc lengths (length tree.pers ∷ []) (map (λ (x : TypedTree). length x.pers) trees))
      (trees_right (ds ++ own) (lengths ++ length tree.pers ∷ []) (with_list t n) (task + 1) trees (is_whole ∙ sym (append_assoc ds own (declared_from (task + 1) trees)))
      (record {
        infos = subst (λ ks. AreInfos (ds ++ own) ks n.pers) (sym (concat_more t.lists n.numbers)) here.1;
        lengths_are = lengths_more t.lists n.numbers ∙ ap (λ ls. ls ++ length n.numbers ∷ []) are.lengths_are ∙ ap (λ l. lengths ++ l ∷ []) (omega (arith, here.0));
      })))

-- a name has only one first meeting
found_meeting : (name : List ℕ) (names : List (List ℕ)) (k : ℕ) → meeting_number name names ≡ Some k → (m : List ℕ) × (slice_get names k ≡ Some m) × IsOneName name m
found_meeting name names k is =
    let (m, at, named) = position_there (str_eq_ignore_ascii_case name) names k is in
    (m, at, one_name name m named)

no_meeting : (name : List ℕ) (names : List (List ℕ)) → meeting_number name names ≡ None → (k : ℕ) (m : List ℕ) → slice_get names k ≡ Some m → IsOneName name m → ⊥
no_meeting name names is k m at one = both_ways (str_eq_ignore_ascii_case name m) (position_nowhere (str_eq_ignore_ascii_case name) names is k m at) (named_alike name m one)

-- the meetings of the names so far, each from its first name
pub record AreMeetings (named : List (List ℕ)) (ks : List ℕ) (names : List (List ℕ)) : Type 0 where
  pub are_numbered : AreNumbered IsOneName named ks (length names)
  pub firsts : (k : ℕ) (name : List ℕ) → slice_get names k ≡ Some name → IsFirst named ks k name

module _ (named : List (List ℕ)) (ks : List ℕ) (names : List (List ℕ)) (are : AreMeetings named ks names) (name : List ℕ) where
  found_again : (k : ℕ) (m : List ℕ) → slice_get names k ≡ Some m → IsOneName name m → AreMeetings (named ++ name ∷ []) (ks ++ k ∷ []) names
  found_again k m at one =
      let first = are.firsts k m at in
      record {
        are_numbered = joined_numbered IsOneName named ks (length names) are.are_numbered name (λ e f same. sym same) (λ e f g same other. same ∙ other) first.index k m first.has_number (sym one);
        firsts = λ j other there. first_stays IsOneName named ks (length names) are.are_numbered name j k other (are.firsts j other there);
      }

  named_first : ((k : ℕ) (m : List ℕ) → slice_get names k ≡ Some m → IsOneName name m → ⊥) → AreMeetings (named ++ name ∷ []) (ks ++ length names ∷ []) (names ++ name ∷ [])
  named_first none =
      record {
        are_numbered = subst (AreNumbered IsOneName (named ++ name ∷ []) (ks ++ length names ∷ [])) (sym (one_longer names name))
            (new_numbered IsOneName named ks (length names) are.are_numbered name apart);
        firsts = λ j other there. elim (earlier_or_last names name j other there) [
          | inl early ↦ first_stays IsOneName named ks (length names) are.are_numbered name j (length names) other (are.firsts j other early)
          | inr last ↦
              subst (λ i. IsFirst (named ++ name ∷ []) (ks ++ length names ∷ []) i other) (sym last.0)
              (subst (IsFirst (named ++ name ∷ []) (ks ++ length names ∷ []) (length names)) last.1 (first_new IsOneName named ks (length names) are.are_numbered name))
        ];
      }
    where
      apart : (i : ℕ) (e : List ℕ) → slice_get named i ≡ Some e → IsOneName e name → ⊥
      apart i e there one =
          let (k, at) = there_is ks i (omega (arith, are.are_numbered.as_many, slice_get_within named i e there)) in
          let (m, is_m) = there_is names k (are.are_numbered.below i k at) in
          let first = are.firsts k m is_m in
          none k m is_m (sym (alike first.index i k m e first.has_number (record { there = there; numbered = at }) ∙ one))
        where
          alike : (i j k : ℕ) (m e : List ℕ) → HasNumber named ks k i m → HasNumber named ks k j e → IsOneName m e
          alike i j k m e has other =
              elim (cases_order i j) [
                | inl equal ↦ ap str_to_ascii_lowercase (same_there (slice_get named i) m e has.there (ap (slice_get named) equal ∙ other.there))
                | inr differ ↦ elim differ [
                  | inl before ↦ (are.are_numbered.one i j m e k k before has.there other.there has.numbered other.numbered).0 refl
                  | inr behind ↦ sym ((are.are_numbered.one j i e m k k behind other.there has.there other.numbered has.numbered).0 refl)
                ]
              ]

-- one more name, after numbers of earlier trees
met_right : (front : List ℕ) (named : List (List ℕ)) (m : Meetings) (name : List ℕ) (number : Option ℕ) → meeting_number name m.names ≡ number → AreMeetings named (front ++ m.numbers) m.names
    → (length (met m name number).numbers ≡ length m.numbers + 1) × AreMeetings (named ++ name ∷ []) (front ++ (met m name number).numbers) (met m name number).names
met_right front named m name (Some k) is are =
    let (first, at, one) = found_meeting name m.names k is in (
      one_longer m.numbers k,
      subst (λ ks. AreMeetings (named ++ name ∷ []) ks m.names) (append_assoc front m.numbers (k ∷ [])) (found_again named (front ++ m.numbers) m.names are name k first at one),
    )
met_right front named m name None is are = (
  one_longer m.numbers (length m.names),
  subst (λ ks. AreMeetings (named ++ name ∷ []) ks (m.names ++ name ∷ [])) (append_assoc front m.numbers (length m.names ∷ []))
      (named_first named (front ++ m.numbers) m.names are name (no_meeting name m.names is)),
)

meet_right : (front : List ℕ) (named : List (List ℕ)) (m : Meetings) (names : List (List ℕ)) → AreMeetings named (front ++ m.numbers) m.names
    → (length (meet_all m names).numbers ≡ length m.numbers + length names) × AreMeetings (named ++ names) (front ++ (meet_all m names).numbers) (meet_all m names).names
meet_right front named m [] are = (omega arith, subst (λ xs. AreMeetings xs (front ++ m.numbers) m.names) (sym (append-nil named)) are)
meet_right front named m (name ∷ names) are =
    let one = met_right front named m name (meeting_number name m.names) refl are in
    let next = met m name (meeting_number name m.names) in
    let all = meet_right front (named ++ name ∷ []) next names one.1 in (
      omega (arith, one.0, all.0),
      subst (λ xs. AreMeetings xs (front ++ (meet_all next names).numbers) (meet_all next names).names) (append_assoc named (name ∷ []) names) all.1,
    )

-- the meetings of the names so far, and the numbers of the trees so far
pub record AreMeetingTables (named : List (List ℕ)) (lengths : List ℕ) (t : MeetingTables) : Type 0 where
  pub are : AreMeetings named (concat t.lists) t.names
  pub lengths_are : map length t.lists ≡ lengths

pub meetings_right : (named : List (List ℕ)) (lengths : List ℕ) (t : MeetingTables) (trees : List TypedTree) → AreMeetingTables named lengths t
    → AreMeetingTables (named ++ meetings_of trees) (lengths ++ map (λ tree. length tree.meetings) trees) (trees_meetings t trees)
meetings_right named lengths t [] are =
    record { are = subst (λ xs. AreMeetings xs (concat t.lists) t.names) (sym (append-nil named)) are.are; lengths_are = are.lengths_are ∙ sym (append-nil lengths) }
meetings_right named lengths t (tree ∷ trees) are =
    let start : Meetings = record { names = t.names; numbers = [] } in
    let m = meet_all start tree.meetings in
    let here = meet_right (concat t.lists) named start tree.meetings (subst (λ ks. AreMeetings named ks t.names) (sym (append-nil (concat t.lists))) are.are) in
    let next = trees_meetings (meetings_with t m) trees in
    let all =
    meetings_right (named ++ tree.meetings) (lengths ++ length tree.meetings ∷ []) (meetings_with t m) trees
    (record {
      are = subst (λ ks. AreMeetings (named ++ tree.meetings) ks m.names) (sym (concat_more t.lists m.numbers)) here.1;
      lengths_are = lengths_more t.lists m.numbers ∙ ap (λ ls. ls ++ length m.numbers ∷ []) are.lengths_are ∙ ap (λ l. lengths ++ l ∷ []) (omega (arith, here.0));
    }) in
    subst (λ ls. AreMeetingTables (named ++ meetings_of (tree ∷ trees)) ls next) (append_assoc lengths (length tree.meetings ∷ []) (map (λ (x : TypedTree). length x.meetings) trees))
    (subst (λ xs. AreMeetingTables xs ((lengths ++ length tree.meetings ∷ []) ++ map (λ (x : TypedTree). length x.meetings) trees) next) (append_assoc named tree.meetings (meetings_of trees)) all)

pub no_meetings : AreMeetingTables [] [] (record { names = []; lists = [] })
no_meetings = record { are = record { are_numbered = none_numbered IsOneName; firsts = λ k name at. absurd (cc at) }; lengths_are = refl }

-- trees with lists of numbers, one for each persistent and meeting
pub record AreNumberedTrees (trees made : List TypedTree) (pers meetings : List (List ℕ)) : Type 0 where
  pub as_many : length made ≡ length trees
  pub each : (task : ℕ) (tree with_them : TypedTree) → slice_get trees task ≡ Some tree → slice_get made task ≡ Some with_them → IsNumberedTree tree with_them
  pub pers_are : pers_numbers made ≡ concat pers
  pub meetings_are : meeting_numbers made ≡ concat meetings

pub numbered_right : (trees : List TypedTree) (pers meetings : List (List ℕ)) → map length pers ≡ map (λ tree. length tree.pers) trees → map length meetings ≡ map (λ tree. length tree.meetings) trees
    → AreNumberedTrees trees (numbered trees pers meetings) pers meetings
numbered_right [] [] [] long also = record { as_many = refl; each = λ task tree made there. absurd (cc there); pers_are = refl; meetings_are = refl }
numbered_right [] [] (m ∷ ms) long also = absurd (cc also)
numbered_right [] (p ∷ ps) meetings long also = absurd (cc long)
numbered_right (tree ∷ trees) [] meetings long also = absurd (cc long)
numbered_right (tree ∷ trees) (p ∷ ps) [] long also = absurd (cc also)
numbered_right (tree ∷ trees) (p ∷ ps) (m ∷ ms) long also =
    let more = numbered_right trees ps ms (cc long) (cc also) in
    record {
      as_many = ap suc more.as_many;
      each = each_there tree p m (cc long) (cc also) more.each;
      pers_are = ap (λ ns. p ++ ns) more.pers_are;
      meetings_are = ap (λ ns. m ++ ns) more.meetings_are;
    }
  where
    each_there : (tree : TypedTree) (p m : List ℕ) → length p ≡ length tree.pers → length m ≡ length tree.meetings
        → ((task : ℕ) (t made : TypedTree) → slice_get trees task ≡ Some t → slice_get (numbered trees ps ms) task ≡ Some made → IsNumberedTree t made)
        → (task : ℕ) (t made : TypedTree) → slice_get (tree ∷ trees) task ≡ Some t → slice_get (with_numbers tree p m ∷ numbered trees ps ms) task ≡ Some made → IsNumberedTree t made
    each_there tree p m long also more zero t made is_t is_made =
        let e : tree ≡ t = cc is_t in
        let f : with_numbers tree p m ≡ made = cc is_made in
        subst (λ x. IsNumberedTree x made) e (subst (IsNumberedTree tree) f (record { same = refl; pers_of = long; meeting_of = also }))
    each_there tree p m long also more (suc task) t made is_t is_made = more task t made is_t is_made
