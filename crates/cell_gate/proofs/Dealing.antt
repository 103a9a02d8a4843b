-- Making the table and its views keeps the gate's rule.
use Rattle.std.proofs.Common.{◌≡◌, ◌≢◌, ◌⊎◌, inl, inr, ℕ, zero, suc, ◌+◌, ◌<◌, ◌≤◌, true, false, List, [], ◌∷◌, ◌++◌, length, replicate, set, None, refl, sym, ◌∙◌, ap, subst, arith}
use Rattle.std.proofs.lemmas.Bool.{false≢true}
use lib.ListN.{get_elem?}
use mathlib.Core.Option.{some, some-injective, some-ne-none}
use Rattle.atomic_table.specs.Table.{opening, Splits}
use Rattle.rapid_model.specs.CellData.{CellData}
use Rattle.cell_gate.specs.declared.view.View.{View}
use Rattle.cell_gate.specs.GateData.{GateData}
use Rattle.cell_gate.specs.PassData.{PassData}
use Rattle.cell_gate.specs.Calls.{fresh_pass, fresh_passes}
use Rattle.cell_gate.specs.Rule.{SpeakFor, SawAll, Knows, Each, Apart, Kept}
use Rattle.cell_gate.specs.Hands.{IsNew}
use Rattle.cell_gate.specs.Steps.{Hand}
use Rattle.cell_gate.specs.Views.{parts, new_view, first_view, after_deal, dealt}
use Rattle.cell_gate.proofs.Histories.{tell_made, spoken_known}
use Rattle.cell_gate.proofs.Views.{each_set, each_end, apart_set, apart_end, some_set, some_end}

-- the table as it is made: the first view has the turn, and the slot is empty
pub made_kept : (cell : CellData) → Kept cell (opening (1 ∷ 0 ∷ []) (replicate 1 None) (first_view cell))
made_kept cell = record {
  history = [];
  made = 1;
  turn = 1;
  words = refl;
  each = one;
  apart = alone;
  room = omega arith;
  late = λ actor le. refl;
  longest = record { seat = 0; view = first_view cell; at = refl; live = refl; so = inl refl };
  home = λ none_has. absurd (omega (arith, none_has));
  out = λ some_has. record { seat = 0; view = first_view cell; at = refl; live = refl; so = refl };
}
  where
    first_knows : Knows cell 1 (some None ∷ []) [] 1 0 (first_view cell)
    first_knows = record {
      cell_is = refl;
      tell = (record { begins = ([], refl); mine = refl; known = omega arith }, tt);
      has_turn = λ holds. record { turn_is = refl; whole = refl; away = refl; empty = λ fresh. refl };
      first = λ made. (refl, refl);
    }

    one : Each (Knows cell 1 (some None ∷ []) [] 1) (first_view cell ∷ [])
    one zero v at live = subst (λ (u : View). Knows cell 1 (some None ∷ []) [] 1 0 u) (some-injective (first_view cell) v at) first_knows
    one (suc seat) v at live = absurd (some-ne-none v (sym at))

    alone : Apart (first_view cell ∷ [])
    alone zero zero actor v w at_v at_w live_v live_w speaks_v speaks_w = refl
    alone zero (suc other) actor v w at_v at_w live_v live_w speaks_v speaks_w = absurd (some-ne-none w (sym at_w))
    alone (suc seat) other actor v w at_v at_w live_v live_w speaks_v speaks_w = absurd (some-ne-none v (sym at_v))

-- the first view makes one more while some actor has none
pub deal_allowed : (cell : CellData) (id : ℕ) (v : View) → v.spent ≡ false → v.made ≢ 0 → v.made ≤ length v.cell.tasks → Splits (Kept cell) id v (after_deal v) (dealt v)
deal_allowed cell id v live first left s kept here =
    let h = kept.history in
    let knows = kept.each id v here live in
    let is_first = knows.first first in
    let made_is : v.made ≡ kept.made = is_first.1 in
    let room : kept.made ≤ length cell.tasks = subst (λ (c : CellData). kept.made ≤ length c.tasks) knows.cell_is (omega (arith, made_is, left)) in
    let made = kept.made + 1 in
    let dealer : View = after_deal v in
    let next : View = dealt v in
    let now : Knows cell kept.turn s.homes h made id dealer = record {
      cell_is = knows.cell_is;
      tell = tell_made h kept.made made (parts v) (omega arith) knows.tell;
      has_turn = λ holds. let has = knows.has_turn holds in record { turn_is = has.turn_is; whole = has.whole; away = has.away; empty = has.empty };
      first = λ made_some. (is_first.0, omega (arith, made_is));
    } in
    let others : (j : ℕ) (u : View) → j ≢ id → get_elem? s.views j ≡ some u → u.spent ≡ false → Knows cell kept.turn s.homes h made j u =
    λ j u other at live_u.
    let theirs = kept.each j u at live_u in
    record {
      cell_is = theirs.cell_is;
      tell = tell_made h kept.made made (parts u) (omega arith) theirs.tell;
      has_turn = theirs.has_turn;
      first = λ made_some. absurd (other ((theirs.first made_some).0 ∙ sym is_first.0));
    } in
    let new_knows : Knows cell kept.turn s.homes h made (length (set s.views id dealer)) next = record {
      cell_is = knows.cell_is;
      tell = (record { begins = (h, refl); mine = sym (kept.late v.made (omega (arith, made_is))); known = omega (arith, made_is) }, tt);
      has_turn = λ holds. absurd (false≢true holds);
      first = λ made_some. absurd (made_some refl);
    } in
    let each : Each (Knows cell kept.turn s.homes h made) (set s.views id dealer) = each_set (Knows cell kept.turn s.homes h made) s.views id dealer (λ live_w. now) others in
    let old_each : Each (λ j u. (actor : ℕ) → SpeakFor actor (parts u) → actor < kept.made) (set s.views id dealer) =
    each_set (λ j u. (actor : ℕ) → SpeakFor actor (parts u) → actor < kept.made) s.views id dealer
    (λ live_w actor speaks. spoken_known h kept.made actor (parts v) knows.tell speaks)
    (λ j u other at live_u actor speaks. spoken_known h kept.made actor (parts u) (kept.each j u at live_u).tell speaks) in
    let apart : Apart (set s.views id dealer) = apart_set s.views id v dealer here live (λ actor speaks. speaks) kept.apart in
    record {
      history = h;
      made = made;
      turn = kept.turn;
      words = kept.words;
      each = each_end (Knows cell kept.turn s.homes h made) (set s.views id dealer) next new_knows each;
      apart = apart_end (set s.views id dealer) next (λ j actor u at live_u speaks new. unknown actor kept.made v.made made_is (old_each j u at live_u actor speaks) new) apart;
      room = omega (arith, room);
      late = λ actor le. kept.late actor (omega (arith, le));
      longest = some_end (λ u. SawAll h (parts u)) (set s.views id dealer) next (some_set (λ u. SawAll h (parts u)) s.views id v dealer here live (λ saw. saw) kept.longest);
      home = kept.home;
      out = λ some_has. some_end (λ u. u.holds ≡ true) (set s.views id dealer) next (some_set (λ u. u.holds ≡ true) s.views id v dealer here live (λ holds. holds) (kept.out some_has));
    }
  where
    -- the new view speaks only for its own actor, which is not known yet
    unknown : (actor made next : ℕ) → next ≡ made → actor < made → (next ≡ actor) ⊎ ⊥ → ⊥
    unknown actor made next is lt (inl same) = omega (arith, is, lt, same)
    unknown actor made next is lt (inr never) = never

-- passes in order, with one more at the end
pub fresh_more : (gate : GateData) (actor others : ℕ) → fresh_passes gate actor (others + 1) ≡ fresh_passes gate actor others ++ fresh_pass gate (actor + others) ∷ []
fresh_more gate actor zero = let last : actor ≡ actor + 0 = omega arith in ap (λ (k : ℕ). fresh_pass gate k ∷ []) last
fresh_more gate actor (suc others) =
    let count : suc others + 1 ≡ suc (others + 1) = omega arith in
    let last : (actor + 1) + others ≡ actor + suc others = omega arith in
    ap (λ (n : ℕ). fresh_passes gate actor n) count
    ∙ ap (λ (ps : List PassData). fresh_pass gate actor ∷ ps) (fresh_more gate (actor + 1) others)
    ∙ ap (λ (k : ℕ). fresh_pass gate actor ∷ (fresh_passes gate (actor + 1) others ++ fresh_pass gate k ∷ [])) last

-- what a new view has in hand
pub new_is : (actor made : ℕ) (cell : CellData) (hand : Hand) → hand ≡ (record (new_view cell actor) { made = made }, []) → IsNew actor hand
new_is actor made cell hand is = record {
  idle = record { no_turn = ap (λ (h : Hand). h.0.holds) is; live = ap (λ (h : Hand). h.0.spent) is; no_slot = ap (λ (h : Hand). h.1) is };
  actor_is = ap (λ (h : Hand). h.0.actor) is;
  alone = ap (λ (h : Hand). h.0.joined) is;
  seen = ap (λ (h : Hand). h.0.seen) is;
  mine = ap (λ (h : Hand). h.0.mine) is;
  looks = ap (λ (h : Hand). h.0.looks) is;
}
