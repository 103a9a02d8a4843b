-- One more declaration: it clashes, or the persistents are made of the declarations including it.
use Rattle.std.proofs.Common.{◌≡◌, ℕ, ◌+◌, true, false, ◌&&◌, List, [], ◌∷◌, ◌++◌, length, set, replicate, Option, Some, None, slice_get, Ok, Err, if◌then◌else◌, refl, ap, sym, subst, ◌∙◌, arith, inl, inr}
use Rattle.std.specs.Option.{option_or}
use Rattle.std.proofs.lemmas.Bool.{and_parts, and_from, both_ways, eq-eqb}
use Rattle.std.proofs.lemmas.List.{append_assoc, length-set}
use Rattle.std.proofs.lemmas.Option.{slice_get_within}
use Rattle.rapid_model.specs.Sorts.{width}
use Rattle.rapid_model.specs.declared.pers_value.PersValue.{PersValue}
use Rattle.rapid_model.specs.declared.sort.Sort.{Sort}
use Rattle.rapid_model.specs.declared.sort.Sort.TheVariants as sorts
use Rattle.rapid_model.specs.declared.value.Value.{Value}
use Rattle.rapid_model.proofs.Lists.{between, in_front, there_is}
use Rattle.typed_trees.specs.Plain.{TypedPers}
use Rattle.named_data.specs.Wants.{same_sort}
use Rattle.cell_assembly.specs.Cells.{PersInfo, Numbered, same_len, is_global, global_number, new_pers, with_declared, added, joined, join, global_pers, one_pers, Clash}
use Rattle.cell_assembly.proofs.SoundInfo.{same_sort_is, same_len_is}
use Rattle.cell_rules.specs.Declared.{Declared, AreOne, AreAlikeBefore, of_task}
use Rattle.cell_rules.specs.First.{owner_of}
use Rattle.cell_rules.specs.Numbering.{AreNumbered, HasNumber}
use Rattle.cell_rules.specs.Refused.{IsClash, IsRefusal}
use Rattle.cell_rules.proofs.Alike.{one_symmetric, one_transitive}
use Rattle.cell_rules.proofs.Infos.{AreDeclared, AreInfos, IsInfo, info_global, info_one}
use Rattle.cell_rules.proofs.Lists.{same_there, front_there, earlier_or_last, one_longer, put_there, position_there, position_nowhere}
use Rattle.cell_rules.proofs.Numbers.{new_numbered, joined_numbered, first_stays, first_new, earlier_number}
use Rattle.cell_rules.proofs.Outcomes.{Outcome, chosen}

sort_same : (sort : Sort) → same_sort sort sort ≡ true
sort_same sorts.Num = refl
sort_same sorts.Bool = refl
sort_same sorts.Text = refl
sort_same sorts.RobJoint = refl
sort_same sorts.ExtJoint = refl
sort_same sorts.JointTarget = refl
sort_same sorts.SpeedData = refl
sort_same sorts.Tasks = refl
sort_same sorts.IntNum = refl
sort_same sorts.SyncIdent = refl
sort_same sorts.ShapeData = refl
sort_same sorts.WzTemporary = refl
sort_same sorts.WzStationary = refl

len_same : (len : Option ℕ) → same_len len len ≡ true
len_same None = refl
len_same (Some n) = eq-eqb n n refl

-- the test of type and length
are_tested : (p : PersInfo) (row : TypedPers) → p.sort ≡ row.sort → p.len ≡ row.len → same_sort p.sort row.sort && same_len p.len row.len ≡ true
are_tested p row sort len =
    and_from (same_sort p.sort row.sort) (same_len p.len row.len)
    (subst (λ s. same_sort p.sort s ≡ true) sort (sort_same p.sort)) (subst (λ l. same_len p.len l ≡ true) len (len_same p.len))

-- the declarations so far agree if they are of the same persistent
pub alike_so_far : (ds : List Declared) (ks : List ℕ) (ps : List PersInfo) → AreInfos ds ks ps → AreAlikeBefore (length ds) ds
alike_so_far ds ks ps are i j e f before few is_e is_f one =
    let (k, at) = there_is ks i (omega (arith, are.numbered.as_many, before, few)) in
    let (l, there) = there_is ks j (omega (arith, are.numbered.as_many, few)) in
    let equal : k ≡ l = (are.numbered.one i j e f k l before is_e is_f at there).1 one in
    let (p, is_p) = there_is ps k (are.numbered.below i k at) in
    let is = are.infos k p is_p in
    let here : HasNumber ds ks k i e = record { there = is_e; numbered = at } in
    let also : HasNumber ds ks k j f = record { there = is_f; numbered = there ∙ ap Some (sym equal) } in
    record { sort = sym (is.sort i e here) ∙ is.sort j f also; len = sym (is.len i e here) ∙ is.len j f also }

module _ (ds : List Declared) (ks : List ℕ) (ps : List PersInfo) (are : AreInfos ds ks ps) (d : Declared) where
  -- a persistent whose number is not the last declaration's stays the same
  info_stays : (k m : ℕ) (p : PersInfo) → (m ≡ k → ⊥) → IsInfo ds ks k p → IsInfo (ds ++ d ∷ []) (ks ++ m ∷ []) k p
  info_stays k m p differ is =
      let before : (index : ℕ) (e : Declared) → HasNumber (ds ++ d ∷ []) (ks ++ m ∷ []) k index e → HasNumber ds ks k index e =
      λ index e has. elim (earlier_number AreOne ds ks (length ps) are.numbered d k m index e has) [ inl early ↦ early | inr last ↦ absurd (differ last.2) ] in
      record {
        d = is.d;
        is_first = first_stays AreOne ds ks (length ps) are.numbered d k m is.d is.is_first;
        name = is.name;
        owner = is.owner;
        sort = λ index e has. is.sort index e (before index e has);
        len = λ index e has. is.len index e (before index e has);
        declared = declared_stays p.declared before is.declared;
      }
    where
      declared_stays : (declared : Option (List Value)) → ((index : ℕ) (e : Declared) → HasNumber (ds ++ d ∷ []) (ks ++ m ∷ []) k index e → HasNumber ds ks k index e) → AreDeclared ds ks k declared
          → AreDeclared (ds ++ d ∷ []) (ks ++ m ∷ []) k declared
      declared_stays None before none = λ index e has. none index e (before index e has)
      declared_stays (Some first) before given = record {
        index = given.index;
        d = given.d;
        has_number = record { there = in_front ds (d ∷ []) given.index given.d given.has_number.there; numbered = in_front ks (m ∷ []) given.index k given.has_number.numbered };
        gives = given.gives;
        none_before = λ other e early has. given.none_before other e early (before other e has);
      }

  -- what the last declaration gives, if no earlier one with its number gives anything
  module _ (k index : ℕ) (is_last : index ≡ length ds) (has_number : HasNumber (ds ++ d ∷ []) (ks ++ k ∷ []) k index d) (none_earlier : (other : ℕ) (e : Declared) → HasNumber ds ks k other e → e.row.first ≡ None) where
    last_gives : (first : Option (List Value)) → d.row.first ≡ first → AreDeclared (ds ++ d ∷ []) (ks ++ k ∷ []) k first
    last_gives None gives = λ other e has.
        elim (earlier_number AreOne ds ks (length ps) are.numbered d k k other e has) [ inl early ↦ none_earlier other e early | inr last ↦ ap (λ (x : Declared). x.row.first) (sym last.1) ∙ gives ]
    last_gives (Some first) gives = record {
      index = index;
      d = d;
      has_number = has_number;
      gives = gives;
      none_before = λ other e early has.
          elim (earlier_number AreOne ds ks (length ps) are.numbered d k k other e has) [ inl front ↦ none_earlier other e front | inr last ↦ absurd (omega (arith, early, last.0, is_last)) ];
    }

  last_has : (k : ℕ) → HasNumber (ds ++ d ∷ []) (ks ++ k ∷ []) k (length ds) d
  last_has k = record { there = between ds [] d; numbered = ap (slice_get (ks ++ k ∷ [])) (sym are.numbered.as_many) ∙ between ks [] k }

  -- a new persistent
  module _ (apart : (i : ℕ) (e : Declared) → slice_get ds i ≡ Some e → AreOne e d → ⊥) (owner : Option ℕ) (is_owner : owner ≡ owner_of d) where
    new_info : IsInfo (ds ++ d ∷ []) (ks ++ length ps ∷ []) (length ps) (new_pers owner d.row)
    new_info =
        let alone : (index : ℕ) (e : Declared) → HasNumber (ds ++ d ∷ []) (ks ++ length ps ∷ []) (length ps) index e → d ≡ e =
        λ index e has. elim (earlier_number AreOne ds ks (length ps) are.numbered d (length ps) (length ps) index e has) [
          | inl early ↦ absurd (omega (arith, are.numbered.below index (length ps) early.numbered))
          | inr last ↦ last.1
        ] in
        record {
          d = d;
          is_first = first_new AreOne ds ks (length ps) are.numbered d;
          name = refl;
          owner = is_owner;
          sort = λ index e has. ap (λ (x : Declared). x.row.sort) (alone index e has);
          len = λ index e has. ap (λ (x : Declared). x.row.len) (alone index e has);
          declared = last_gives (length ps) (length ds) refl (last_has (length ps)) (λ other e has. absurd (omega (arith, are.numbered.below other (length ps) has.numbered))) d.row.first refl;
        }

    pub added_infos : AreInfos (ds ++ d ∷ []) (ks ++ length ps ∷ []) (ps ++ new_pers owner d.row ∷ [])
    added_infos = record {
      numbered = subst (AreNumbered AreOne (ds ++ d ∷ []) (ks ++ length ps ∷ [])) (sym (one_longer ps (new_pers owner d.row))) (new_numbered AreOne ds ks (length ps) are.numbered d apart);
      infos = λ k p at. elim (earlier_or_last ps (new_pers owner d.row) k p at) [
        | inl early ↦ info_stays k (length ps) p (λ e. omega (arith, e, slice_get_within ps k p early)) (are.infos k p early)
        | inr last ↦ subst (λ j. IsInfo (ds ++ d ∷ []) (ks ++ length ps ∷ []) j p) (sym last.0) (subst (IsInfo (ds ++ d ∷ []) (ks ++ length ps ∷ []) (length ps)) last.1 new_info)
      ];
      not_given = λ k p at. elim (earlier_or_last ps (new_pers owner d.row) k p at) [
        | inl early ↦ are.not_given k p early
        | inr last ↦ subst (λ (q : PersInfo). q.given ≡ replicate (width q.len) None) last.1 refl
      ];
    }

  -- one more declaration of a known persistent
  module _ (k : ℕ) (p : PersInfo) (at : slice_get ps k ≡ Some p) (own : d.row.own ≡ false) (global : is_global d.row.name p ≡ true) where
    first_one : AreOne (are.infos k p at).d d
    first_one = let one = info_one ds ks (length ps) are.numbered k p d.row.name (are.infos k p at) global in record { global = one.0; other_global = own; named = sym one.1 }

    module _ (sort : p.sort ≡ d.row.sort) (len : p.len ≡ d.row.len) where
      joined_info : IsInfo (ds ++ d ∷ []) (ks ++ k ∷ []) k (with_declared p d.row)
      joined_info =
          let is = are.infos k p at in
          record {
            d = is.d;
            is_first = first_stays AreOne ds ks (length ps) are.numbered d k k is.d is.is_first;
            name = is.name;
            owner = is.owner;
            sort = λ index e has. elim (earlier_number AreOne ds ks (length ps) are.numbered d k k index e has) [ inl early ↦ is.sort index e early | inr last ↦ sort ∙ ap (λ (x : Declared). x.row.sort) last.1 ];
            len = λ index e has. elim (earlier_number AreOne ds ks (length ps) are.numbered d k k index e has) [ inl early ↦ is.len index e early | inr last ↦ len ∙ ap (λ (x : Declared). x.row.len) last.1 ];
            declared = with_last p.declared is.declared;
          }
        where
          with_last : (declared : Option (List Value)) → AreDeclared ds ks k declared → AreDeclared (ds ++ d ∷ []) (ks ++ k ∷ []) k (option_or declared d.row.first)
          with_last None none = last_gives k (length ds) refl (last_has k) none d.row.first refl
          with_last (Some first) given = record {
            index = given.index;
            d = given.d;
            has_number = record { there = in_front ds (d ∷ []) given.index given.d given.has_number.there; numbered = in_front ks (k ∷ []) given.index k given.has_number.numbered };
            gives = given.gives;
            none_before = λ other e early has. elim (earlier_number AreOne ds ks (length ps) are.numbered d k k other e has) [
              | inl front ↦ given.none_before other e early front
              | inr last ↦ absurd (omega (arith, early, last.0, slice_get_within ds given.index given.d given.has_number.there))
            ];
          }

      pub joined_infos : AreInfos (ds ++ d ∷ []) (ks ++ k ∷ []) (set ps k (with_declared p d.row))
      joined_infos =
          let first = (are.infos k p at).is_first in
          let same : length ps ≡ length (set ps k (with_declared p d.row)) = sym (length-set ps k (with_declared p d.row)) in
          record {
            numbered = subst (AreNumbered AreOne (ds ++ d ∷ []) (ks ++ k ∷ [])) same
                (joined_numbered AreOne ds ks (length ps) are.numbered d one_symmetric one_transitive first.index k (are.infos k p at).d first.has_number first_one);
            infos = λ j q there. elim (put_there ps k (with_declared p d.row) j q there) [
              | inl here ↦ subst (λ i. IsInfo (ds ++ d ∷ []) (ks ++ k ∷ []) i q) (sym here.0) (subst (IsInfo (ds ++ d ∷ []) (ks ++ k ∷ []) k) here.1 joined_info)
              | inr elsewhere ↦ info_stays j k q (λ e. elsewhere.0 (sym e)) (are.infos j q elsewhere.1)
            ];
            not_given = λ j q there. elim (put_there ps k (with_declared p d.row) j q there) [
              | inl here ↦ subst (λ (r : PersInfo). r.given ≡ replicate (width r.len) None) here.1 (are.not_given k p at)
              | inr elsewhere ↦ are.not_given j q elsewhere.1
            ];
          }

-- and also within a longer list
alike_in_front : (ds rest : List Declared) → AreAlikeBefore (length ds) ds → AreAlikeBefore (length ds) (ds ++ rest)
alike_in_front ds rest alike i j e f before few is_e is_f one = alike i j e f before few (front_there ds rest i e (omega (arith, before, few)) is_e) (front_there ds rest j f few is_f) one

-- numbered persistents are made of the declarations so far, after these numbers
module _ (given : List PersValue) (whole ds rest : List Declared) (front : List ℕ) (task : ℕ) (row : TypedPers) (is_whole : whole ≡ ds ++ of_task task row ∷ rest) (n : Numbered) (are : AreInfos ds (front ++ n.numbers) n.pers) where
  -- the numbers so far, with one more
  More : Numbered → Type 0
  More m = (length m.numbers ≡ length n.numbers + 1) × AreInfos (ds ++ of_task task row ∷ []) (front ++ m.numbers) m.pers

  grouped : (k : ℕ) (ps : List PersInfo) → AreInfos (ds ++ of_task task row ∷ []) ((front ++ n.numbers) ++ k ∷ []) ps → AreInfos (ds ++ of_task task row ∷ []) (front ++ (n.numbers ++ k ∷ [])) ps
  grouped k ps is = subst (λ ks. AreInfos (ds ++ of_task task row ∷ []) ks ps) (append_assoc front n.numbers (k ∷ [])) is

  is_new : (owner : Option ℕ) → owner ≡ owner_of (of_task task row) → ((i : ℕ) (e : Declared) → slice_get ds i ≡ Some e → AreOne e (of_task task row) → ⊥) → More (added n (new_pers owner row))
  unfolding More
  is_new owner is_owner apart =
      (one_longer n.numbers (length n.pers), grouped (length n.pers) (n.pers ++ new_pers owner row ∷ []) (added_infos ds (front ++ n.numbers) n.pers are (of_task task row) apart owner is_owner))

  is_joined : (k : ℕ) (p : PersInfo) → slice_get n.pers k ≡ Some p → row.own ≡ false → is_global row.name p ≡ true → same_sort p.sort row.sort && same_len p.len row.len ≡ true → More (joined n k (with_declared p row))
  unfolding More
  is_joined k p at own global tested =
      let (sort, len) = and_parts (same_sort p.sort row.sort) (same_len p.len row.len) tested in (
        one_longer n.numbers k,
        grouped k (set n.pers k (with_declared p row))
            (joined_infos ds (front ++ n.numbers) n.pers are (of_task task row) k p at own global (same_sort_is p.sort row.sort sort) (same_len_is p.len row.len len)),
      )

  is_clash : (k : ℕ) (p : PersInfo) → slice_get n.pers k ≡ Some p → row.own ≡ false → is_global row.name p ≡ true → same_sort p.sort row.sort && same_len p.len row.len ≡ false → IsClash whole task row.«module» row.at
  is_clash k p at own global tested =
      let is = are.infos k p at in
      let first = is.is_first in
      let few = slice_get_within ds first.index is.d first.has_number.there in
      subst (λ w. IsClash w task row.«module» row.at) (sym is_whole)
      (record {
        index = length ds;
        d = of_task task row;
        there = between ds rest (of_task task row);
        before = first.index;
        e = is.d;
        earlier = few;
        stands = in_front ds (of_task task row ∷ rest) first.index is.d first.has_number.there;
        one = first_one ds (front ++ n.numbers) n.pers are (of_task task row) k p at own global;
        differ = λ alike. both_ways (same_sort p.sort row.sort && same_len p.len row.len) tested
            (are_tested p row (is.sort first.index is.d first.has_number ∙ alike.sort) (is.len first.index is.d first.has_number ∙ alike.len));
        alike_before = alike_in_front ds (of_task task row ∷ rest) (alike_so_far ds (front ++ n.numbers) n.pers are);
        is_task = refl;
        is_module = refl;
        is_at = refl;
      })

  join_right : (k : ℕ) (found : Option PersInfo) → row.own ≡ false → slice_get n.pers k ≡ found → (p : PersInfo) → slice_get n.pers k ≡ Some p → is_global row.name p ≡ true → Outcome More (IsRefusal whole given) (join n task row k found)
  join_right k None own found p at global = absurd (let e = sym found ∙ at in cc e)
  join_right k (Some q) own found p at global =
      let same : p ≡ q = same_there (slice_get n.pers k) p q at found in
      let q_global = subst (λ r. is_global row.name r ≡ true) same global in
      chosen More (IsRefusal whole given) (same_sort q.sort row.sort && same_len q.len row.len) (Ok (joined n k (with_declared q row))) (Err (Clash task row.«module» row.at))
      (is_joined k q found own q_global) (is_clash k q found own q_global)

  global_right : (number : Option ℕ) → row.own ≡ false → global_number row.name n.pers ≡ number → Outcome More (IsRefusal whole given) (global_pers n task row number)
  global_right None own none = is_new None (owner_none own) (λ i e there one.
      let (k, at) = there_is (front ++ n.numbers) i (omega (arith, are.numbered.as_many, slice_get_within ds i e there)) in
      let (p, is_p) = there_is n.pers k (are.numbered.below i k at) in
      both_ways (is_global row.name p) (position_nowhere (is_global row.name) n.pers none k p is_p)
      (info_global ds (front ++ n.numbers) (length n.pers) are.numbered k i p e (are.infos k p is_p) (record { there = there; numbered = at }) one.global row.name (sym one.named)))
    where
      owner_none : row.own ≡ false → None ≡ owner_of (of_task task row)
      owner_none own = ap (λ o. let owner : Option ℕ = if o then Some task else None in owner) (sym own)
  global_right (Some k) own found = let (p, at, global) = position_there (is_global row.name) n.pers k found in join_right k (slice_get n.pers k) own refl p at global

  own_right : row.own ≡ true → More (added n (new_pers (Some task) row))
  own_right own = is_new (Some task) (ap (λ o. let owner : Option ℕ = if o then Some task else None in owner) (sym own)) (λ i e there one. both_ways row.own one.other_global own)

  -- one more declaration
  pub one_right : Outcome (λ m. (length m.numbers ≡ length n.numbers + 1) × AreInfos (ds ++ of_task task row ∷ []) (front ++ m.numbers) m.pers) (IsRefusal whole given) (one_pers n task row)
  unfolding More
  one_right =
      chosen More (IsRefusal whole given) row.own (Ok (added n (new_pers (Some task) row))) (global_pers n task row (global_number row.name n.pers))
      own_right (λ own. global_right (global_number row.name n.pers) own refl)
