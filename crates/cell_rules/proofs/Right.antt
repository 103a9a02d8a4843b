-- A script and trees make exactly their cell, and are refused exactly if a rule is broken.
use Rattle.std.proofs.Common.{◌≡◌, ◌↔◌, true, List, [], length, map, Some, None, slice_get, Ok, Err, refl, ap, sym, subst, ◌∙◌}
use Rattle.std.specs.List.{concat, list_all}
use Rattle.std.proofs.lemmas.List.{length-map, length-replicate}
use Rattle.rapid_model.specs.CellData.{CellData}
use Rattle.rapid_model.specs.ScriptData.{ScriptData, is_pers_value}
use Rattle.rapid_model.specs.Sorts.{width}
use Rattle.rapid_model.specs.Names.{IsOneName}
use Rattle.rapid_model.proofs.Lists.{made_there}
use Rattle.typed_trees.specs.Plain.{TypedTree}
use Rattle.typed_trees.specs.Sound.{has_sound_pers}
use Rattle.cell_assembly.specs.Cells.{CellBreak, Making, CellTables, PersInfo, PersTables, cell_tables, tables, give_all, trees_meetings, trees_pers}
use Rattle.cell_assembly.specs.Made.{MadeCell, cell_of, make_cell, numbered, pers_cell}
use Rattle.cell_rules.specs.Cell.{IsCellOf, pers_numbers}
use Rattle.cell_rules.specs.Declared.{AreOne, declared_by, meetings_of}
use Rattle.cell_rules.specs.First.{IsPersistent}
use Rattle.cell_rules.specs.Numbering.{AreNumbered, IsFirst}
use Rattle.cell_rules.specs.Refused.{IsRefused}
use Rattle.cell_rules.proofs.Declares.{alike_so_far}
use Rattle.cell_rules.proofs.Excluded.{not_refused, same_refusal}
use Rattle.cell_rules.proofs.Infos.{AreInfos}
use Rattle.cell_rules.proofs.Lists.{all_alike}
use Rattle.cell_rules.proofs.Numbers.{none_numbered}
use Rattle.cell_rules.proofs.Once.{cell_alike, same_made}
use Rattle.cell_rules.proofs.Outcomes.{Outcome, followed}
use Rattle.cell_rules.proofs.Giving.{AreGiven, all_given}
use Rattle.cell_rules.proofs.Trees.{AreTables, meetings_right, no_meetings, numbered_right, trees_right}
use Rattle.cell_rules.proofs.Values.{persistent_right, sound_there}

no_infos : AreInfos [] [] []
no_infos = record { numbered = none_numbered AreOne; infos = λ k p at. absurd (cc at); not_given = λ k p at. absurd (cc at) }

module _ (script : ScriptData) (trees : List TypedTree) (indexed : list_all is_pers_value script.pers ≡ true) (sound : list_all has_sound_pers trees ≡ true) where
  -- tables of the cell
  TablesRight : CellTables → Type 0
  TablesRight t = IsCellOf script trees (cell_of script t) (numbered trees t.pers_of t.meeting_of)

  -- the tables of the declarations, and then of what the script gives
  module _ (t : PersTables) (are : AreTables script.pers (declared_by trees) (declared_by trees) (map (λ tree. length tree.pers) trees) t) where
    none_given_yet : AreGiven (declared_by trees) (concat t.lists) (length t.pers) are.infos.numbered (alike_so_far (declared_by trees) (concat t.lists) t.pers are.infos) script.pers [] t.pers
    none_given_yet = record {
      as_many = refl;
      infos = are.infos.infos;
      each = λ k p at. ap length (are.infos.not_given k p at) ∙ length-replicate (width p.len) None;
      given = λ k p at index v there.
          let none = all_alike (width p.len) None index (Some v) (ap (λ os. slice_get os index) (sym (are.infos.not_given k p at)) ∙ there) in
          absurd (cc none);
      not_given = λ k p at index there v given. let e = given.there in cc e;
      right = λ number value at. absurd (cc at);
    }

    module _ (ps : List PersInfo) (given : AreGiven (declared_by trees) (concat t.lists) (length t.pers) are.infos.numbered (alike_so_far (declared_by trees) (concat t.lists) t.pers are.infos) script.pers script.pers ps) where
      tables_right : TablesRight (tables t ps (trees_meetings (record { names = []; lists = [] }) trees))
      unfolding TablesRight
      tables_right =
          let m = trees_meetings (record { names = []; lists = [] }) trees in
          let meetings = meetings_right [] [] (record { names = []; lists = [] }) trees no_meetings in
          let by_trees = numbered_right trees t.lists m.lists are.lengths_are meetings.lengths_are in
          let count : length t.pers ≡ length (map pers_cell ps) = sym given.as_many ∙ sym (length-map ps pers_cell) in
          record {
            steps = refl;
            tasks = refl;
            signals = refl;
            zones = refl;
            inputs = refl;
            as_many = by_trees.as_many;
            each_tree = by_trees.each;
            pers_numbered = subst (λ ks. AreNumbered AreOne (declared_by trees) ks (length (map pers_cell ps))) (sym by_trees.pers_are)
                (subst (AreNumbered AreOne (declared_by trees) (concat t.lists)) count are.infos.numbered);
            persistents = λ k c at.
                let (p, is_p, is_c) = made_there pers_cell ps k c at in
                subst (IsPersistent script.pers (declared_by trees) (pers_numbers (numbered trees t.lists m.lists)) k) is_c
                (subst (λ ks. IsPersistent script.pers (declared_by trees) ks k (pers_cell p)) (sym by_trees.pers_are)
                (persistent_right script.pers (declared_by trees) (concat t.lists) k p (given.infos k p is_p) (sound_there 0 trees sound) (given.each k p is_p) (given.given k p is_p) (given.not_given k p is_p)));
            given = given.right;
            meetings_numbered = subst (λ ks. AreNumbered IsOneName (meetings_of trees) ks (length m.names)) (sym by_trees.meetings_are) meetings.are.are_numbered;
            meetings = λ k name at. subst (λ ks. IsFirst (meetings_of trees) ks k name) (sym by_trees.meetings_are) (meetings.are.firsts k name at);
          }

  tables_or_refused : Outcome TablesRight (IsRefused script trees) (cell_tables script.pers trees)
  tables_or_refused =
      let none : PersTables = record { pers = []; lists = [] } in
      let given = script.pers in
      let whole = declared_by trees in
      let lengths = map (λ (tree : TypedTree). length tree.pers) trees in
      followed (AreTables given whole whole lengths) TablesRight (IsRefused script trees) (trees_pers none 0 trees) _
      (trees_right given whole [] [] none 0 trees refl (record { infos = no_infos; lengths_are = refl })) (λ t are.
      followed (AreGiven whole (concat t.lists) (length t.pers) are.infos.numbered (alike_so_far whole (concat t.lists) t.pers are.infos) given given) TablesRight (IsRefused script trees) (give_all t.pers 0 given) _
      (all_given whole (concat t.lists) (length t.pers) are.infos.numbered (alike_so_far whole (concat t.lists) t.pers are.infos) given [] given 0 t.pers refl refl indexed (none_given_yet t are))
      (λ ps given. tables_right t are ps given))

  made_or_refused : Outcome (λ made. IsCellOf script trees made.cell made.trees) (IsRefused script trees) (make_cell script trees)
  unfolding TablesRight
  made_or_refused = followed TablesRight (λ (made : MadeCell). IsCellOf script trees made.cell made.trees) (IsRefused script trees) (cell_tables script.pers trees) _ tables_or_refused (λ t right. right)

  -- what is made is right, and what is right is made
  pub made_right : (cell : CellData) (with_them : List TypedTree) → (make_cell script trees ≡ Ok (record { cell = cell; trees = with_them })) ↔ IsCellOf script trees cell with_them
  made_right cell with_them = (λ is. of_check (make_cell script trees) made_or_refused is, λ is. by_check (make_cell script trees) made_or_refused is)
    where
      of_check : (check : Making MadeCell) → Outcome (λ (made : MadeCell). IsCellOf script trees made.cell made.trees) (IsRefused script trees) check → check ≡ Ok (record { cell = cell; trees = with_them }) → IsCellOf script trees cell with_them
      of_check (Ok made) right is = let same : made ≡ record { cell = cell; trees = with_them } = cc is in subst (λ (m : MadeCell). IsCellOf script trees m.cell m.trees) same right
      of_check (Err broken) right is = absurd (cc is)

      by_check : (check : Making MadeCell) → Outcome (λ (made : MadeCell). IsCellOf script trees made.cell made.trees) (IsRefused script trees) check → IsCellOf script trees cell with_them → check ≡ Ok (record { cell = cell; trees = with_them })
      by_check (Ok made) right is = let same = same_made script trees made.cell cell made.trees with_them right is in ap (λ (m : MadeCell). let check : Making MadeCell = Ok m in check) same
      by_check (Err broken) right is = absurd (not_refused (declared_by trees) script.pers (cell_alike script trees cell with_them is) is.given broken right)

  pub refused_right : (broken : CellBreak) → (make_cell script trees ≡ Err broken) ↔ IsRefused script trees broken
  refused_right broken = (λ is. of_check (make_cell script trees) made_or_refused is, λ is. by_check (make_cell script trees) made_or_refused is)
    where
      of_check : (check : Making MadeCell) → Outcome (λ (made : MadeCell). IsCellOf script trees made.cell made.trees) (IsRefused script trees) check → check ≡ Err broken → IsRefused script trees broken
      of_check (Ok made) right is = absurd (cc is)
      of_check (Err other) right is = let same : other ≡ broken = cc is in subst (IsRefused script trees) same right

      by_check : (check : Making MadeCell) → Outcome (λ (made : MadeCell). IsCellOf script trees made.cell made.trees) (IsRefused script trees) check → IsRefused script trees broken → check ≡ Err broken
      by_check (Ok made) right is = absurd (not_refused (declared_by trees) script.pers (cell_alike script trees made.cell made.trees right) right.given broken is)
      by_check (Err other) right is = let same = same_refusal (declared_by trees) script.pers other broken right is in ap (λ b. let check : Making MadeCell = Err b in check) same
