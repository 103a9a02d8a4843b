-- One more value of the script: it breaks a rule, or it is the first value for an element.
use Rattle.std.proofs.Common.{◌≡◌, ℕ, ◌+◌, ◌<◌, ◌≤◌, true, false, not, ◌&&◌, nat_le, List, [], ◌∷◌, ◌++◌, length, set, Option, Some, None, is_some, slice_get, Ok, refl, ap, sym, subst, ◌∙◌, arith, inl, inr, ◌⊎◌}
use Rattle.std.specs.List.{list_all}
use Rattle.std.proofs.lemmas.Bool.{and_parts, and_from, both_ways, leb-true, leb-false, not-true, not-false}
use Rattle.std.proofs.lemmas.List.{append_assoc, append-nil, length-set}
use Rattle.std.proofs.lemmas.Option.{slice_get_within}
use Rattle.rapid_model.specs.Limits.{is_within, holds_where_there}
use Rattle.rapid_model.specs.Names.{is_short_name}
use Rattle.rapid_model.specs.ScriptData.{is_given_value, is_pers_value}
use Rattle.rapid_model.specs.Sorts.{width}
use Rattle.rapid_model.specs.declared.pers_value.PersValue.{PersValue}
use Rattle.rapid_model.specs.declared.script_rule.ScriptRule.{ScriptRule}
use Rattle.rapid_model.specs.declared.script_rule.ScriptRule.TheVariants.{NoSuch, Kind, Range, Twice}
use Rattle.rapid_model.specs.declared.sort.Sort.{Sort}
use Rattle.rapid_model.specs.declared.sort.Sort.TheVariants as sorts
use Rattle.rapid_model.specs.declared.value.Value.{Value}
use Rattle.rapid_model.specs.declared.value.Value.TheVariants as values
use Rattle.rapid_model.proofs.Lists.{between, in_front, there_is}
use Rattle.cell_assembly.specs.Cells.{PersInfo, is_script_value, fits_index, element, is_given, with_given, at_value, key_of, is_global, global_number, give_to, give_global, give, give_all}
use Rattle.cell_rules.specs.Declared.{Declared, AreOne, AreAlikeBefore}
use Rattle.cell_rules.specs.First.{IsIndexOf, IsGiven, IsNotGiven}
use Rattle.cell_rules.specs.Given.{given_sort, AreForOne, Breaks, Finds, IsFor, IsInside, IsRight, Suits}
use Rattle.cell_rules.specs.Numbering.{AreNumbered}
use Rattle.cell_rules.specs.Refused.{IsBroken, IsRefusal}
use Rattle.cell_rules.proofs.Alike.{for_both, found_alike, one_named, one_number, same_index, suits_alike}
use Rattle.cell_rules.proofs.Infos.{IsInfo, info_global, info_one}
use Rattle.cell_rules.proofs.Lists.{same_there, front_there, earlier_or_last, one_longer, put_there, position_there, position_nowhere}
use Rattle.cell_rules.proofs.Outcomes.{Outcome, followed, ruled}

-- the type of a value
sort_given : (sort : Sort) (value : Value) → is_script_value sort value ≡ true → given_sort value ≡ Some sort
sort_given sorts.Num (values.Num n) e = refl
sort_given sorts.Bool (values.Bool b) e = refl
sort_given sorts.Text (values.Text t) e = refl
sort_given _ _ e = absurd (cc e)

given_has : (sort : Sort) (value : Value) → given_sort value ≡ Some sort → is_script_value sort value ≡ true
given_has sort (values.Num n) e = let same : sorts.Num ≡ sort = cc e in subst (λ s. is_script_value s (values.Num n) ≡ true) same refl
given_has sort (values.Bool b) e = let same : sorts.Bool ≡ sort = cc e in subst (λ s. is_script_value s (values.Bool b) ≡ true) same refl
given_has sort (values.Text t) e = let same : sorts.Text ≡ sort = cc e in subst (λ s. is_script_value s (values.Text t) ≡ true) same refl
given_has sort (values.Rob axes) e = absurd (cc e)
given_has sort (values.Ext axes) e = absurd (cc e)
given_has sort (values.Target joints) e = absurd (cc e)
given_has sort (values.Speed nums) e = absurd (cc e)

-- an index exactly if it is an array
index_fits : (len index : Option ℕ) → fits_index len index ≡ true → is_some index ≡ is_some len
index_fits None None e = refl
index_fits None (Some index) e = absurd (cc e)
index_fits (Some len) None e = absurd (cc e)
index_fits (Some len) (Some index) e = refl

fits_from : (len index : Option ℕ) → is_some index ≡ is_some len → fits_index len index ≡ true
fits_from None None e = refl
fits_from None (Some index) e = absurd (cc e)
fits_from (Some len) None e = absurd (cc e)
fits_from (Some len) (Some index) e = refl

-- an index counts from 1
abbrev pub FromOne : Option ℕ → Type 0
FromOne None = Unit {0}
FromOne (Some index) = 1 ≤ index

inside_from : (index len : Option ℕ) → FromOne index → is_some index ≡ is_some len → element index + 1 ≤ width len → IsInside index len
inside_from None None one same few = tt
inside_from None (Some len) one same few = absurd (cc same)
inside_from (Some index) None one same few = absurd (cc same)
inside_from (Some index) (Some len) one same few = omega (arith, one, few)

few_inside : (index len : Option ℕ) → FromOne index → is_some index ≡ is_some len → IsInside index len → element index + 1 ≤ width len
few_inside None None one same is = omega arith
few_inside None (Some len) one same is = absurd (cc same)
few_inside (Some index) None one same is = absurd (cc same)
few_inside (Some index) (Some len) one same is = omega (arith, one, is)

element_is : (index : Option ℕ) → FromOne index → IsIndexOf index (element index)
element_is None one = refl
element_is (Some index) one = omega (arith, one)

is_element : (index : Option ℕ) (at : ℕ) → FromOne index → IsIndexOf index at → at ≡ element index
is_element None at one is = is
is_element (Some index) at one is = omega (arith, is)

given_there : (o : Option (Option Value)) → is_given o ≡ true → (v : Value) × (o ≡ Some (Some v))
given_there None e = absurd (cc e)
given_there (Some None) e = absurd (cc e)
given_there (Some (Some v)) e = (v, refl)

none_given : (o : Option Value) → is_given (Some o) ≡ false → o ≡ None
none_given None e = refl
none_given (Some v) e = absurd (cc e)

module _ (ds : List Declared) (ks : List ℕ) (count : ℕ) (numbered : AreNumbered AreOne ds ks count) (alike : AreAlikeBefore (length ds) ds) (whole : List PersValue) where
  -- The persistents, with what the values so far say about their elements; and these values keep the rules.
  pub record AreGiven (done : List PersValue) (ps : List PersInfo) : Type 0 where
    pub as_many : length ps ≡ count
    pub infos : (k : ℕ) (p : PersInfo) → slice_get ps k ≡ Some p → IsInfo ds ks k p
    pub each : (k : ℕ) (p : PersInfo) → slice_get ps k ≡ Some p → length p.given ≡ width p.len
    pub given : (k : ℕ) (p : PersInfo) → slice_get ps k ≡ Some p → (index : ℕ) (v : Value) → slice_get p.given index ≡ Some (Some v) → IsGiven done ds ks k index v
    pub not_given : (k : ℕ) (p : PersInfo) → slice_get ps k ≡ Some p → (index : ℕ) → slice_get p.given index ≡ Some None → IsNotGiven done ds ks k index
    pub right : (number : ℕ) (value : PersValue) → slice_get done number ≡ Some value → IsRight ds whole number value

  -- what was given before is still given with one more value
  given_more : (done : List PersValue) (row : PersValue) (k index : ℕ) (v : Value) → IsGiven done ds ks k index v → IsGiven (done ++ row ∷ []) ds ks k index v
  given_more done row k index v t = record { number = t.number; row = t.row; there = in_front done (row ∷ []) t.number t.row t.there; index = t.index; d = t.d; has_number = t.has_number; is_for = t.is_for; at_element = t.at_element; gives = t.gives }

  -- what is given with one more value was given before, or is given by that one
  given_by : (done : List PersValue) (row : PersValue) (k index : ℕ) (v : Value) (t : IsGiven (done ++ row ∷ []) ds ks k index v) → IsGiven done ds ks k index v ⊎ (row ≡ t.row)
  given_by done row k index v t = elim (earlier_or_last done row t.number t.row t.there) [
    | inl early ↦ inl (record { number = t.number; row = t.row; there = early; index = t.index; d = t.d; has_number = t.has_number; is_for = t.is_for; at_element = t.at_element; gives = t.gives })
    | inr last ↦ inr last.1
  ]

  module _ (done rest : List PersValue) (row : PersValue) (is_whole : whole ≡ done ++ row ∷ rest) (one : FromOne row.index) (ps : List PersInfo) (are : AreGiven done ps) where
    there : slice_get whole (length done) ≡ Some row
    there = ap (λ vs. slice_get vs (length done)) is_whole ∙ between done rest row

    right_before : (before : ℕ) (other : PersValue) → before < length done → slice_get whole before ≡ Some other → IsRight ds whole before other
    right_before before other early at = are.right before other (front_there done (row ∷ rest) before other early (ap (λ vs. slice_get vs before) (sym is_whole) ∙ at))

    broken : (rule : ScriptRule) → Breaks ds whole (length done) row rule → IsBroken ds whole (key_of (length done)) rule
    broken rule breaks = record { alike = alike; number = length done; value = row; there = there; is_key = refl; breaks = breaks; right_before = right_before }

    no_such : global_number row.name ps ≡ None → Breaks ds whole (length done) row NoSuch
    no_such none found_row found =
        let (k, at) = there_is ks found.index (omega (arith, numbered.as_many, slice_get_within ds found.index found.d found.there)) in
        let (p, is_p) = there_is ps k (omega (arith, are.as_many, numbered.below found.index k at)) in
        both_ways (is_global row.name p) (position_nowhere (is_global row.name) ps none k p is_p)
        (info_global ds ks count numbered k found.index p found.d (are.infos k p is_p) (record { there = found.there; numbered = at }) found.is_for.global row.name found.is_for.named)

    module _ (k : ℕ) (p : PersInfo) (at : slice_get ps k ≡ Some p) (global : is_global row.name p ≡ true) where
      d_for : IsFor row (are.infos k p at).d
      d_for = let one_is = info_one ds ks count numbered k p row.name (are.infos k p at) global in record { global = one_is.0; named = one_is.1 }

      found : Finds ds row (are.infos k p at).d.row
      found = let i = are.infos k p at in record { index = i.is_first.index; d = i.d; there = i.is_first.has_number.there; is_for = d_for; is_row = refl }

      sort_is : p.sort ≡ (are.infos k p at).d.row.sort
      sort_is = let i = are.infos k p at in i.sort i.is_first.index i.d i.is_first.has_number

      len_is : p.len ≡ (are.infos k p at).d.row.len
      len_is = let i = are.infos k p at in i.len i.is_first.index i.d i.is_first.has_number

      suits_from : is_script_value p.sort row.value && fits_index p.len row.index ≡ true → Suits row (are.infos k p at).d.row
      suits_from e =
          let (sort, index) = and_parts (is_script_value p.sort row.value) (fits_index p.len row.index) e in
          record { sort = sort_given p.sort row.value sort ∙ ap Some sort_is; index = index_fits p.len row.index index ∙ ap is_some len_is }

      from_suits : Suits row (are.infos k p at).d.row → is_script_value p.sort row.value && fits_index p.len row.index ≡ true
      from_suits suits =
          and_from (is_script_value p.sort row.value) (fits_index p.len row.index) (given_has p.sort row.value (suits.sort ∙ ap Some (sym sort_is)))
          (fits_from p.len row.index (suits.index ∙ ap is_some (sym len_is)))

      other_kind : is_script_value p.sort row.value && fits_index p.len row.index ≡ false → Breaks ds whole (length done) row Kind
      other_kind e = record { row = (are.infos k p at).d.row; finds = found; other = λ suits. both_ways (is_script_value p.sort row.value && fits_index p.len row.index) e (from_suits suits) }

      module _ (suits : Suits row (are.infos k p at).d.row) where
        index_is : is_some row.index ≡ is_some p.len
        index_is = suits.index ∙ ap is_some (sym len_is)

        outside : nat_le (element row.index + 1) (width p.len) ≡ false → Breaks ds whole (length done) row Range
        outside e =
            let more = leb-false (element row.index + 1) (width p.len) e in
            record {
              row = (are.infos k p at).d.row;
              finds = found;
              suits = suits;
              outside = λ within. let few = few_inside row.index p.len one index_is (subst (IsInside row.index) (sym len_is) within) in omega (arith, few, more);
            }

        module _ (few : element row.index + 1 ≤ width p.len) where
          within : IsInside row.index (are.infos k p at).d.row.len
          within = subst (IsInside row.index) len_is (inside_from row.index p.len one index_is few)

          -- an earlier value for the element
          for_one_there : (v : Value) → (t : IsGiven done ds ks k (element row.index) v) → AreForOne t.row row
          for_one_there v t =
              let i = are.infos k p at in
              let named = one_named ds ks count numbered k t.index i.is_first.index t.d i.d t.has_number i.is_first.has_number in
              let t_right = are.right t.number t.row t.there in
              let t_found : Finds ds t.row t.d.row = record { index = t.index; d = t.d; there = t.has_number.there; is_for = t.is_for; is_row = refl } in
              let t_suits = suits_alike t.row t_right.row t.d.row (found_alike ds alike t.row t_right.row t.d.row t_right.finds t_found) t_right.suits in
              record {
                named = t.is_for.named ∙ named ∙ sym d_for.named;
                index = same_index t.row.index row.index (element row.index) t.at_element (element_is row.index one)
                    (t_suits.index ∙ ap is_some (sym (i.len t.index t.d t.has_number)) ∙ sym index_is);
              }

          twice : not (is_given (slice_get p.given (element row.index))) ≡ false → Breaks ds whole (length done) row Twice
          twice e =
              let (v, at_v) = given_there (slice_get p.given (element row.index)) (not-false (is_given (slice_get p.given (element row.index))) e) in
              let t = are.given k p at (element row.index) v at_v in
              record {
                row = (are.infos k p at).d.row;
                finds = found;
                suits = suits;
                inside = within;
                before = t.number;
                other = t.row;
                earlier = slice_get_within done t.number t.row t.there;
                there = ap (λ vs. slice_get vs t.number) is_whole ∙ in_front done (row ∷ rest) t.number t.row t.there;
                for_one = for_one_there v t;
              }

          module _ (fresh : not (is_given (slice_get p.given (element row.index))) ≡ true) where
            not_given_here : slice_get p.given (element row.index) ≡ Some None
            not_given_here =
                let (o, at_o) = there_is p.given (element row.index) (omega (arith, few, are.each k p at)) in
                let no = not-true (is_given (slice_get p.given (element row.index))) fresh in
                at_o ∙ ap Some (none_given o (ap is_given (sym at_o) ∙ no))

            -- a value for the element was not given before
            given_from : (before : ℕ) (other : PersValue) → before < length done → slice_get whole before ≡ Some other → AreForOne other row → IsGiven done ds ks k (element row.index) other.value
            given_from before other early at_other for_one =
                let i = are.infos k p at in
                record {
                  number = before;
                  row = other;
                  there = front_there done (row ∷ rest) before other early (ap (λ vs. slice_get vs before) (sym is_whole) ∙ at_other);
                  index = i.is_first.index;
                  d = i.d;
                  has_number = i.is_first.has_number;
                  is_for = record { global = d_for.global; named = for_one.named ∙ d_for.named };
                  at_element = subst (λ x. IsIndexOf x (element row.index)) (sym for_one.index) (element_is row.index one);
                  gives = refl;
                }

            row_right : IsRight ds whole (length done) row
            row_right = record {
              row = (are.infos k p at).d.row;
              finds = found;
              suits = suits;
              inside = within;
              once = λ before other early at_other for_one. are.not_given k p at (element row.index) not_given_here other.value (given_from before other early at_other for_one);
            }

            given_now : IsGiven (done ++ row ∷ []) ds ks k (element row.index) row.value
            given_now =
                let i = are.infos k p at in
                record {
                  number = length done;
                  row = row;
                  there = between done [] row;
                  index = i.is_first.index;
                  d = i.d;
                  has_number = i.is_first.has_number;
                  is_for = d_for;
                  at_element = element_is row.index one;
                  gives = refl;
                }

            -- the values that the last one gives are for this number and this element
            given_number : (j index : ℕ) (v : Value) (t : IsGiven (done ++ row ∷ []) ds ks j index v) → row ≡ t.row → (j ≡ k) × (index ≡ element row.index)
            given_number j index v t same =
                let i = are.infos k p at in
                let for_row = subst (λ x. IsFor x t.d) (sym same) t.is_for in
                let also = one_number ds ks count numbered k i.is_first.index t.index i.d t.d i.is_first.has_number t.has_number.there (for_both row i.d t.d d_for for_row) in
                (same_there (slice_get ks t.index) j k t.has_number.numbered also.numbered, is_element row.index index one (subst (λ (x : PersValue). IsIndexOf x.index index) (sym same) t.at_element))

            given_here : (index : ℕ) (v : Value) → slice_get (set p.given (element row.index) (Some row.value)) index ≡ Some (Some v) → IsGiven (done ++ row ∷ []) ds ks k index v
            given_here index v at_v = elim (put_there p.given (element row.index) (Some row.value) index (Some v) at_v) [
              | inl here ↦
                  let same : row.value ≡ v = cc here.1 in
                  subst (λ e. IsGiven (done ++ row ∷ []) ds ks k e v) (sym here.0) (subst (IsGiven (done ++ row ∷ []) ds ks k (element row.index)) same given_now)
              | inr elsewhere ↦ given_more done row k index v (are.given k p at index v elsewhere.1)
            ]

            not_given_there : (index : ℕ) → slice_get (set p.given (element row.index) (Some row.value)) index ≡ Some None → IsNotGiven (done ++ row ∷ []) ds ks k index
            not_given_there index at_none v t = elim (put_there p.given (element row.index) (Some row.value) index None at_none) [
              | inl here ↦ let e = here.1 in cc e
              | inr elsewhere ↦ elim (given_by done row k index v t) [
                | inl early ↦ are.not_given k p at index elsewhere.1 v early
                | inr last ↦ elsewhere.0 (given_number k index v t last).1
              ]
            ]

            not_given_elsewhere : (j : ℕ) (q : PersInfo) → slice_get ps j ≡ Some q → (j ≡ k → ⊥) → (index : ℕ) → slice_get q.given index ≡ Some None → IsNotGiven (done ++ row ∷ []) ds ks j index
            not_given_elsewhere j q at_q other index at_none v t = elim (given_by done row j index v t) [
              | inl early ↦ are.not_given j q at_q index at_none v early
              | inr last ↦ other (given_number j index v t last).0
            ]

            given_too : AreGiven (done ++ row ∷ []) (set ps k (with_given p (element row.index) row.value))
            given_too =
                let q = with_given p (element row.index) row.value in
                let i = are.infos k p at in
                let info : IsInfo ds ks k q = record { d = i.d; is_first = i.is_first; name = i.name; owner = i.owner; sort = i.sort; len = i.len; declared = i.declared } in
                record {
                  as_many = length-set ps k q ∙ are.as_many;
                  infos = λ j r at_r. elim (put_there ps k q j r at_r) [
                    | inl here ↦ subst (λ n. IsInfo ds ks n r) (sym here.0) (subst (IsInfo ds ks k) here.1 info)
                    | inr elsewhere ↦ are.infos j r elsewhere.1
                  ];
                  each = λ j r at_r. elim (put_there ps k q j r at_r) [
                    | inl here ↦ subst (λ (x : PersInfo). length x.given ≡ width x.len) here.1 (length-set p.given (element row.index) (Some row.value) ∙ are.each k p at)
                    | inr elsewhere ↦ are.each j r elsewhere.1
                  ];
                  given = λ j r at_r. elim (put_there ps k q j r at_r) [
                    | inl here ↦
                        subst (λ n. (index : ℕ) (v : Value) → slice_get r.given index ≡ Some (Some v) → IsGiven (done ++ row ∷ []) ds ks n index v) (sym here.0)
                        (subst (λ (x : PersInfo). (index : ℕ) (v : Value) → slice_get x.given index ≡ Some (Some v) → IsGiven (done ++ row ∷ []) ds ks k index v) here.1 given_here)
                    | inr elsewhere ↦ λ index v at_v. given_more done row j index v (are.given j r elsewhere.1 index v at_v)
                  ];
                  not_given = λ j r at_r. elim (put_there ps k q j r at_r) [
                    | inl here ↦
                        subst (λ n. (index : ℕ) → slice_get r.given index ≡ Some None → IsNotGiven (done ++ row ∷ []) ds ks n index) (sym here.0)
                        (subst (λ (x : PersInfo). (index : ℕ) → slice_get x.given index ≡ Some None → IsNotGiven (done ++ row ∷ []) ds ks k index) here.1 not_given_there)
                    | inr elsewhere ↦ not_given_elsewhere j r elsewhere.1 elsewhere.0
                  ];
                  right = λ number value at_value. elim (earlier_or_last done row number value at_value) [
                    | inl early ↦ are.right number value early
                    | inr last ↦ subst (λ n. IsRight ds whole n value) (sym last.0) (subst (IsRight ds whole (length done)) last.1 row_right)
                  ];
                }

    give_to_right : (k : ℕ) (found_there : Option PersInfo) → slice_get ps k ≡ found_there → (p : PersInfo) → slice_get ps k ≡ Some p → is_global row.name p ≡ true
        → Outcome (AreGiven (done ++ row ∷ [])) (IsRefusal ds whole) (give_to ps (length done) row k found_there)
    give_to_right k None at_none p at global = absurd (let e = sym at_none ∙ at in cc e)
    give_to_right k (Some q) at_q p at global =
        let same : p ≡ q = same_there (slice_get ps k) p q at at_q in
        let q_global = subst (λ r. is_global row.name r ≡ true) same global in
        let next = set ps k (with_given q (element row.index) row.value) in
        ruled (AreGiven (done ++ row ∷ [])) (IsRefusal ds whole) (is_script_value q.sort row.value && fits_index q.len row.index) (at_value (length done) Kind) _ (λ e. broken Kind (other_kind k q at_q q_global e)) (λ suiting.
        ruled (AreGiven (done ++ row ∷ [])) (IsRefusal ds whole) (nat_le (element row.index + 1) (width q.len)) (at_value (length done) Range) _
        (λ e. broken Range (outside k q at_q q_global (suits_from k q at_q q_global suiting) e)) (λ few.
        ruled (AreGiven (done ++ row ∷ [])) (IsRefusal ds whole) (not (is_given (slice_get q.given (element row.index)))) (at_value (length done) Twice) (Ok next)
        (λ e. broken Twice (twice k q at_q q_global (suits_from k q at_q q_global suiting) (leb-true (element row.index + 1) (width q.len) few) e))
        (λ fresh. given_too k q at_q q_global (suits_from k q at_q q_global suiting) (leb-true (element row.index + 1) (width q.len) few) fresh)))

    give_global_right : (k : Option ℕ) → global_number row.name ps ≡ k → Outcome (AreGiven (done ++ row ∷ [])) (IsRefusal ds whole) (give_global ps (length done) row k)
    give_global_right None none = broken NoSuch (no_such none)
    give_global_right (Some k) is = let (p, at, global) = position_there (is_global row.name) ps k is in give_to_right k (slice_get ps k) refl p at global

    give_right : Outcome (AreGiven (done ++ row ∷ [])) (IsRefusal ds whole) (give ps (length done) row)
    give_right = give_global_right (global_number row.name ps) refl

  from_one : (row : PersValue) → is_pers_value row ≡ true → FromOne row.index
  from_one row is =
      let (front, _) = and_parts (is_short_name row.name && holds_where_there (is_within 1 1_000) row.index) (is_given_value row.value) is in
      let (_, index) = and_parts (is_short_name row.name) (holds_where_there (is_within 1 1_000) row.index) front in
      one_there row.index index
    where
      one_there : (index : Option ℕ) → holds_where_there (is_within 1 1_000) index ≡ true → FromOne index
      one_there None e = tt
      one_there (Some index) e = let (low, _) = and_parts (nat_le 1 index) (nat_le index 1_000) e in leb-true 1 index low

  -- all values of the script
  pub all_given : (done rest : List PersValue) (number : ℕ) (ps : List PersInfo) → number ≡ length done → whole ≡ done ++ rest → list_all is_pers_value rest ≡ true → AreGiven done ps
      → Outcome (AreGiven whole) (IsRefusal ds whole) (give_all ps number rest)
  all_given done [] number ps is_number is_whole kept are = subst (λ vs. AreGiven vs ps) (sym (is_whole ∙ append-nil done)) are
  all_given done (row ∷ rest) number ps is_number is_whole kept are =
      let (here, more) = and_parts (is_pers_value row) (list_all is_pers_value rest) kept in
      followed (AreGiven (done ++ row ∷ [])) (AreGiven whole) (IsRefusal ds whole) (give ps number row) (λ qs. give_all qs (number + 1) rest)
      (subst (λ n. Outcome (AreGiven (done ++ row ∷ [])) (IsRefusal ds whole) (give ps n row)) (sym is_number) (give_right done rest row is_whole (from_one row here) ps are))
      (λ qs given. all_given (done ++ row ∷ []) rest (number + 1) qs (omega (arith, is_number, one_longer done row)) (is_whole ∙ sym (append_assoc done (row ∷ []) rest)) more given)
