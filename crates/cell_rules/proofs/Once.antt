-- A script and trees have at most one cell.
use Rattle.std.proofs.Common.{◌≡◌, ℕ, suc, List, [], ◌∷◌, ◌++◌, length, Some, slice_get, refl, ap, sym, subst, ◌∙◌, arith, inl, inr}
use Rattle.std.proofs.lemmas.Bool.{cases_lt}
use Rattle.std.proofs.lemmas.Option.{slice_get_past}
use Rattle.rapid_model.specs.CellData.{CellData}
use Rattle.rapid_model.specs.ScriptData.{ScriptData}
use Rattle.rapid_model.specs.Names.{IsOneName}
use Rattle.rapid_model.proofs.Lists.{there_is}
use Rattle.typed_trees.specs.Plain.{TypedTree}
use Rattle.cell_assembly.specs.Made.{MadeCell}
use Rattle.cell_rules.specs.Cell.{IsCellOf, IsNumberedTree, pers_numbers, meeting_numbers}
use Rattle.cell_rules.specs.Declared.{AreOne, AreAlikeBefore, declared_by, meetings_of}
use Rattle.cell_rules.specs.First.{IsPersistent}
use Rattle.cell_rules.specs.Numbering.{AreNumbered, HasNumber, IsFirst}
use Rattle.cell_rules.proofs.Lists.{same_list}
use Rattle.cell_rules.proofs.Numbers.{same_numbers, same_count, same_first}
use Rattle.cell_rules.proofs.Rows.{same_persistent}

-- lists with the same front, and what comes after it
same_ends : {A : Type 0} (xs ys zs ws : List A) → length xs ≡ length ys → xs ++ zs ≡ ys ++ ws → (xs ≡ ys) × (zs ≡ ws)
same_ends [] [] zs ws long same = (refl, same)
same_ends [] (y ∷ ys) zs ws long same = absurd (omega (arith, long))
same_ends (x ∷ xs) [] zs ws long same = absurd (omega (arith, long))
same_ends (x ∷ xs) (y ∷ ys) zs ws long same =
    let head : x ≡ y = cc same in
    let more = same_ends xs ys zs ws (omega (arith, long)) (cc same) in
    (ap (λ h. h ∷ xs) head ∙ ap (λ hs. y ∷ hs) more.0, more.1)

-- trees with the same numbers
same_trees : (trees a b : List TypedTree) → length a ≡ length trees → length b ≡ length trees → ((task : ℕ) (tree t : TypedTree) → slice_get trees task ≡ Some tree → slice_get a task ≡ Some t → IsNumberedTree tree t)
    → ((task : ℕ) (tree t : TypedTree) → slice_get trees task ≡ Some tree → slice_get b task ≡ Some t → IsNumberedTree tree t) → pers_numbers a ≡ pers_numbers b → meeting_numbers a ≡ meeting_numbers b → a ≡ b
same_trees [] [] [] many also is other pers meetings = refl
same_trees [] [] (u ∷ b) many also is other pers meetings = absurd (omega (arith, also))
same_trees [] (t ∷ a) b many also is other pers meetings = absurd (omega (arith, many))
same_trees (tree ∷ trees) [] b many also is other pers meetings = absurd (omega (arith, many))
same_trees (tree ∷ trees) (t ∷ a) [] many also is other pers meetings = absurd (omega (arith, also))
same_trees (tree ∷ trees) (t ∷ a) (u ∷ b) many also is other pers meetings =
    let one = is 0 tree t refl refl in
    let two = other 0 tree u refl refl in
    let (pers_of, more_pers) = same_ends t.pers_of u.pers_of (pers_numbers a) (pers_numbers b) (one.pers_of ∙ sym two.pers_of) pers in
    let (meeting_of, more_meetings) = same_ends t.meeting_of u.meeting_of (meeting_numbers a) (meeting_numbers b) (one.meeting_of ∙ sym two.meeting_of) meetings in
    let head : t ≡ u =
    one.same ∙ ap (λ p. let r : TypedTree = record tree { pers_of = p; meeting_of = t.meeting_of } in r) pers_of
    ∙ ap (λ m. let r : TypedTree = record tree { pers_of = u.pers_of; meeting_of = m } in r) meeting_of ∙ sym two.same in
    let tail = same_trees trees a b (omega (arith, many)) (omega (arith, also)) (λ task. is (suc task)) (λ task. other (suc task)) more_pers more_meetings in
    ap (λ h. h ∷ a) head ∙ ap (λ hs. u ∷ hs) tail

module _ (script : ScriptData) (trees : List TypedTree) where
  -- declarations of a cell agree if they are of the same persistent
  pub cell_alike : (cell : CellData) (numbered : List TypedTree) → IsCellOf script trees cell numbered → AreAlikeBefore (length (declared_by trees)) (declared_by trees)
  cell_alike cell numbered is i j d e before few is_d is_e one =
      let ks = pers_numbers numbered in
      let (k, at) = there_is ks i (omega (arith, is.pers_numbered.as_many, before, few)) in
      let (l, there) = there_is ks j (omega (arith, is.pers_numbered.as_many, few)) in
      let equal : k ≡ l = (is.pers_numbered.one i j d e k l before is_d is_e at there).1 one in
      let (p, is_p) = there_is cell.pers k (is.pers_numbered.below i k at) in
      let persistent = is.persistents k p is_p in
      let here : HasNumber (declared_by trees) ks k i d = record { there = is_d; numbered = at } in
      let also : HasNumber (declared_by trees) ks k j e = record { there = is_e; numbered = there ∙ ap Some (sym equal) } in
      record { sort = sym (persistent.sort i d here) ∙ persistent.sort j e also; len = sym (persistent.len i d here) ∙ persistent.len j e also }

  module _ (cell other : CellData) (numbered also : List TypedTree) (is : IsCellOf script trees cell numbered) (too : IsCellOf script trees other also) where
    same_pers_numbers : pers_numbers numbered ≡ pers_numbers also
    same_pers_numbers = same_numbers AreOne (declared_by trees) (pers_numbers numbered) (pers_numbers also) (length cell.pers) (length other.pers) is.pers_numbered too.pers_numbered

    same_meeting_numbers : meeting_numbers numbered ≡ meeting_numbers also
    same_meeting_numbers = same_numbers IsOneName (meetings_of trees) (meeting_numbers numbered) (meeting_numbers also) (length cell.meetings) (length other.meetings) is.meetings_numbered too.meetings_numbered

    as_many_pers : length cell.pers ≡ length other.pers
    as_many_pers =
        same_count AreOne (declared_by trees) (pers_numbers numbered) (length cell.pers) (length other.pers) is.pers_numbered
        (subst (λ ks. AreNumbered AreOne (declared_by trees) ks (length other.pers)) (sym same_pers_numbers) too.pers_numbered)

    as_many_meetings : length cell.meetings ≡ length other.meetings
    as_many_meetings =
        same_count IsOneName (meetings_of trees) (meeting_numbers numbered) (length cell.meetings) (length other.meetings) is.meetings_numbered
        (subst (λ ks. AreNumbered IsOneName (meetings_of trees) ks (length other.meetings)) (sym same_meeting_numbers) too.meetings_numbered)

    same_pers_there : (k : ℕ) → slice_get cell.pers k ≡ slice_get other.pers k
    same_pers_there k =
        elim (cases_lt k (length cell.pers)) [
          | inl within ↦
              let (p, at) = there_is cell.pers k within in
              let (q, there) = there_is other.pers k (omega (arith, within, as_many_pers)) in
              let q_is = subst (λ ks. IsPersistent script.pers (declared_by trees) ks k q) (sym same_pers_numbers) (too.persistents k q there) in
              at ∙ ap Some (same_persistent (declared_by trees) (pers_numbers numbered) (length cell.pers) is.pers_numbered (cell_alike cell numbered is) script.pers is.given k p q (is.persistents k p at) q_is) ∙ sym there
          | inr past ↦ slice_get_past cell.pers k past ∙ sym (slice_get_past other.pers k (omega (arith, past, as_many_pers)))
        ]

    same_meeting_there : (k : ℕ) → slice_get cell.meetings k ≡ slice_get other.meetings k
    same_meeting_there k =
        elim (cases_lt k (length cell.meetings)) [
          | inl within ↦
              let (p, at) = there_is cell.meetings k within in
              let (q, there) = there_is other.meetings k (omega (arith, within, as_many_meetings)) in
              let q_is = subst (λ ks. IsFirst (meetings_of trees) ks k q) (sym same_meeting_numbers) (too.meetings k q there) in
              at ∙ ap Some (same_first IsOneName (meetings_of trees) (meeting_numbers numbered) k p q (is.meetings k p at) q_is) ∙ sym there
          | inr past ↦ slice_get_past cell.meetings k past ∙ sym (slice_get_past other.meetings k (omega (arith, past, as_many_meetings)))
        ]

    same_cell : cell ≡ other
    same_cell =
        let steps : cell.steps ≡ other.steps = is.steps ∙ sym too.steps in
        let tasks : cell.tasks ≡ other.tasks = is.tasks ∙ sym too.tasks in
        let signals : cell.signals ≡ other.signals = is.signals ∙ sym too.signals in
        let zones : cell.zones ≡ other.zones = is.zones ∙ sym too.zones in
        let inputs : cell.inputs ≡ other.inputs = is.inputs ∙ sym too.inputs in
        let pers : cell.pers ≡ other.pers = same_list cell.pers other.pers same_pers_there in
        let meetings : cell.meetings ≡ other.meetings = same_list cell.meetings other.meetings same_meeting_there in
        λ i. record { steps = steps i; tasks = tasks i; signals = signals i; pers = pers i; meetings = meetings i; zones = zones i; inputs = inputs i }

    same_numbered : numbered ≡ also
    same_numbered = same_trees trees numbered also is.as_many too.as_many is.each_tree too.each_tree same_pers_numbers same_meeting_numbers

    -- a script and trees have only one cell, and the trees only one numbering
    pub same_made : ◌≡◌ {A = MadeCell} (record { cell = cell; trees = numbered }) (record { cell = other; trees = also })
    same_made = let c = same_cell in let t = same_numbered in λ i. record { cell = c i; trees = t i }
