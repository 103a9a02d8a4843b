-- Numbers of declarations: one more declaration, and uniqueness of the numbering.
use Rattle.std.proofs.Common.{◌≡◌, ◌⊎◌, ◌↔◌, inl, inr, ℕ, zero, suc, ◌+◌, ◌<◌, List, [], ◌∷◌, ◌++◌, length, Some, slice_get, refl, ap, sym, subst, ◌∙◌, arith}
use Rattle.std.proofs.lemmas.Bool.{cases_lt, cases_order}
use Rattle.std.proofs.lemmas.Option.{slice_get_within, slice_get_past}
use Rattle.rapid_model.proofs.Lists.{between, in_front, there_is}
use Rattle.cell_rules.specs.Numbering.{AreNumbered, HasNumber, IsFirst}
use Rattle.cell_rules.proofs.Lists.{same_there, same_list, earlier_or_last, one_longer}

module _ {A : Type 0} (AreOne : A → A → Type 0) where
  -- if two numberings agree so far, the next number of one is no smaller
  no_smaller : (ds : List A) (ks ls : List ℕ) (m n : ℕ) → AreNumbered AreOne ds ks m → AreNumbered AreOne ds ls n → (j k l : ℕ) → ((i : ℕ) → i < j → slice_get ks i ≡ slice_get ls i)
      → slice_get ks j ≡ Some k → slice_get ls j ≡ Some l → k < l → ⊥
  no_smaller ds ks ls m n is other j k l before here there less =
      let (i, earlier, at) = other.in_order j k l there less in
      let same : slice_get ks i ≡ Some k = before i earlier ∙ at in
      let (d, is_d) = there_is ds i (omega (arith, is.as_many, slice_get_within ks i k same)) in
      let (e, is_e) = there_is ds j (omega (arith, is.as_many, slice_get_within ks j k here)) in
      let are_one = (is.one i j d e k k earlier is_d is_e same here).0 refl in
      let equal : k ≡ l = (other.one i j d e k l earlier is_d is_e at there).1 are_one in
      omega (arith, equal, less)

  same_here : (ds : List A) (ks ls : List ℕ) (m n : ℕ) → AreNumbered AreOne ds ks m → AreNumbered AreOne ds ls n → (j : ℕ) → ((i : ℕ) → i < j → slice_get ks i ≡ slice_get ls i)
      → slice_get ks j ≡ slice_get ls j
  same_here ds ks ls m n is other j before =
      elim (cases_lt j (length ks)) [
        | inl within ↦
            let (k, here) = there_is ks j within in
            let (l, there) = there_is ls j (omega (arith, is.as_many, other.as_many)) in
            elim (cases_order k l) [
              | inl equal ↦ here ∙ ap Some equal ∙ sym there
              | inr differ ↦ elim differ [
                | inl less ↦ absurd (no_smaller ds ks ls m n is other j k l before here there less)
                | inr more ↦ absurd (no_smaller ds ls ks n m other is j l k (λ i earlier. sym (before i earlier)) there here more)
              ]
            ]
        | inr past ↦ slice_get_past ks j past ∙ sym (slice_get_past ls j (omega (arith, is.as_many, other.as_many)))
      ]

  same_before : (ds : List A) (ks ls : List ℕ) (m n : ℕ) → AreNumbered AreOne ds ks m → AreNumbered AreOne ds ls n → (j i : ℕ) → i < j → slice_get ks i ≡ slice_get ls i
  same_before ds ks ls m n is other zero i earlier = absurd (omega (arith, earlier))
  same_before ds ks ls m n is other (suc j) i earlier =
      same_here ds ks ls m n is other i (λ h before. same_before ds ks ls m n is other j h (omega (arith, before, earlier)))

  -- declarations have only one numbering
  pub same_numbers : (ds : List A) (ks ls : List ℕ) (m n : ℕ) → AreNumbered AreOne ds ks m → AreNumbered AreOne ds ls n → ks ≡ ls
  same_numbers ds ks ls m n is other = same_list ks ls (λ i. same_before ds ks ls m n is other (suc i) i (omega arith))

  not_more : (ds : List A) (ks : List ℕ) (m n : ℕ) → AreNumbered AreOne ds ks m → AreNumbered AreOne ds ks n → m < n → ⊥
  not_more ds ks m n is other less = let (i, at) = other.each m less in omega (arith, is.below i m at)

  -- and only one count of numbers
  pub same_count : (ds : List A) (ks : List ℕ) (m n : ℕ) → AreNumbered AreOne ds ks m → AreNumbered AreOne ds ks n → m ≡ n
  same_count ds ks m n is other =
      elim (cases_order m n) [
        | inl equal ↦ equal
        | inr differ ↦ elim differ [ inl less ↦ absurd (not_more ds ks m n is other less) | inr more ↦ absurd (not_more ds ks n m other is more) ]
      ]

  -- a number has only one first declaration
  pub same_first : (ds : List A) (ks : List ℕ) (k : ℕ) (d e : A) → IsFirst ds ks k d → IsFirst ds ks k e → d ≡ e
  same_first ds ks k d e is other =
      let equal : is.index ≡ other.index = omega (arith, is.first other.index other.has_number.numbered, other.first is.index is.has_number.numbered) in
      same_there (slice_get ds is.index) d e is.has_number.there (ap (slice_get ds) equal ∙ other.has_number.there)

  -- no declarations
  pub none_numbered : AreNumbered AreOne [] [] 0
  none_numbered = record {
    as_many = refl;
    one = λ i j d e k l earlier is_d. absurd (cc is_d);
    below = λ i k at. absurd (cc at);
    each = λ k few. absurd (omega (arith, few));
    in_order = λ j k l at. absurd (cc at);
  }

  module _ (ds : List A) (ks : List ℕ) (n : ℕ) (is : AreNumbered AreOne ds ks n) (d : A) where
    as_many_more : (k : ℕ) → length (ks ++ k ∷ []) ≡ length (ds ++ d ∷ [])
    as_many_more k = omega (arith, one_longer ks k, one_longer ds d, is.as_many)

    -- the number of an earlier declaration is its number with one more after it
    earlier_one : (k : ℕ) (i l : ℕ) → slice_get ks i ≡ Some l → slice_get (ks ++ k ∷ []) i ≡ Some l
    earlier_one k i l at = in_front ks (k ∷ []) i l at

    -- a declaration that is the same as no earlier one has a new number
    module _ (apart : (i : ℕ) (e : A) → slice_get ds i ≡ Some e → AreOne e d → ⊥) where
      new_one : (i j : ℕ) (e f : A) (k l : ℕ) → i < j → slice_get (ds ++ d ∷ []) i ≡ Some e → slice_get (ds ++ d ∷ []) j ≡ Some f → slice_get (ks ++ n ∷ []) i ≡ Some k → slice_get (ks ++ n ∷ []) j ≡ Some l
          → (k ≡ l) ↔ AreOne e f
      new_one i j e f k l earlier is_e is_f at_i at_j =
          elim (earlier_or_last ds d i e is_e) [
            | inr last ↦ absurd (omega (arith, last.0, earlier, slice_get_within (ds ++ d ∷ []) j f is_f, one_longer ds d))
            | inl front_e ↦ elim (earlier_or_last ks n i k at_i) [
              | inr last ↦ absurd (omega (arith, last.0, slice_get_within ds i e front_e, is.as_many))
              | inl front_k ↦ elim (earlier_or_last ds d j f is_f) [
                | inl front_f ↦ elim (earlier_or_last ks n j l at_j) [
                  | inl front_l ↦ is.one i j e f k l earlier front_e front_f front_k front_l
                  | inr last ↦ absurd (omega (arith, last.0, slice_get_within ds j f front_f, is.as_many))
                ]
                | inr last_f ↦ elim (earlier_or_last ks n j l at_j) [
                  | inl front_l ↦ absurd (omega (arith, last_f.0, slice_get_within ks j l front_l, is.as_many))
                  | inr last_l ↦ (
                    λ equal. absurd (omega (arith, equal, last_l.1, is.below i k front_k)),
                    λ are_one. absurd (apart i e front_e (subst (AreOne e) (sym last_f.1) are_one)),
                  )
                ]
              ]
            ]
          ]

      new_below : (i k : ℕ) → slice_get (ks ++ n ∷ []) i ≡ Some k → k < n + 1
      new_below i k at = elim (earlier_or_last ks n i k at) [ inl front ↦ omega (arith, is.below i k front) | inr last ↦ omega (arith, last.1) ]

      new_each : (k : ℕ) → k < n + 1 → (i : ℕ) × (slice_get (ks ++ n ∷ []) i ≡ Some k)
      new_each k few =
          elim (cases_lt k n) [
            | inl less ↦ let (i, at) = is.each k less in (i, earlier_one n i k at)
            | inr past ↦ let equal : n ≡ k = omega (arith, few, past) in (length ks, between ks [] n ∙ ap Some equal)
          ]

      new_in_order : (j k l : ℕ) → slice_get (ks ++ n ∷ []) j ≡ Some l → k < l → (i : ℕ) × (i < j) × (slice_get (ks ++ n ∷ []) i ≡ Some k)
      new_in_order j k l at less =
          elim (earlier_or_last ks n j l at) [
            | inl front ↦ let (i, earlier, there) = is.in_order j k l front less in (i, earlier, earlier_one n i k there)
            | inr last ↦ let (i, there) = is.each k (omega (arith, last.1, less)) in (i, omega (arith, last.0, slice_get_within ks i k there), earlier_one n i k there)
          ]

      pub new_numbered : AreNumbered AreOne (ds ++ d ∷ []) (ks ++ n ∷ []) (n + 1)
      new_numbered = record { as_many = as_many_more n; one = new_one; below = new_below; each = new_each; in_order = new_in_order }

    -- a declaration that is the same as an earlier one has its number
    module _ (symmetric : (e f : A) → AreOne e f → AreOne f e) (transitive : (e f g : A) → AreOne e f → AreOne f g → AreOne e g) (index k : ℕ) (of : A) (has_number : HasNumber ds ks k index of) (with : AreOne of d) where
      -- the declarations with the number are those that are the same as it
      joined_last : (i : ℕ) (e : A) (l : ℕ) → slice_get ds i ≡ Some e → slice_get ks i ≡ Some l → (l ≡ k) ↔ AreOne e d
      joined_last i e l is_e at =
          elim (cases_order i index) [
            | inl equal ↦
                let same : e ≡ of = same_there (slice_get ds i) e of is_e (ap (slice_get ds) equal ∙ has_number.there) in
                (λ number. subst (λ x. AreOne x d) (sym same) with, λ are_one. same_there (slice_get ks i) l k at (ap (slice_get ks) equal ∙ has_number.numbered))
            | inr differ ↦ elim differ [
              | inl before ↦
                  let both = is.one i index e of l k before is_e has_number.there at has_number.numbered in
                  (λ number. transitive e of d (both.0 number) with, λ are_one. both.1 (transitive e d of are_one (symmetric of d with)))
              | inr behind ↦
                  let both = is.one index i of e k l behind has_number.there is_e has_number.numbered at in
                  (λ number. transitive e of d (symmetric of e (both.0 (sym number))) with, λ are_one. sym (both.1 (transitive of d e with (symmetric e d are_one))))
            ]
          ]

      joined_one : (i j : ℕ) (e f : A) (l m : ℕ) → i < j → slice_get (ds ++ d ∷ []) i ≡ Some e → slice_get (ds ++ d ∷ []) j ≡ Some f → slice_get (ks ++ k ∷ []) i ≡ Some l → slice_get (ks ++ k ∷ []) j ≡ Some m
          → (l ≡ m) ↔ AreOne e f
      joined_one i j e f l m earlier is_e is_f at_i at_j =
          elim (earlier_or_last ds d i e is_e) [
            | inr last ↦ absurd (omega (arith, last.0, earlier, slice_get_within (ds ++ d ∷ []) j f is_f, one_longer ds d))
            | inl front_e ↦ elim (earlier_or_last ks k i l at_i) [
              | inr last ↦ absurd (omega (arith, last.0, slice_get_within ds i e front_e, is.as_many))
              | inl front_l ↦ elim (earlier_or_last ds d j f is_f) [
                | inl front_f ↦ elim (earlier_or_last ks k j m at_j) [
                  | inl front_m ↦ is.one i j e f l m earlier front_e front_f front_l front_m
                  | inr last ↦ absurd (omega (arith, last.0, slice_get_within ds j f front_f, is.as_many))
                ]
                | inr last_f ↦ elim (earlier_or_last ks k j m at_j) [
                  | inl front_m ↦ absurd (omega (arith, last_f.0, slice_get_within ks j m front_m, is.as_many))
                  | inr last_m ↦
                      let both = joined_last i e l front_e front_l in
                      (λ equal. subst (AreOne e) last_f.1 (both.0 (equal ∙ sym last_m.1)), λ are_one. both.1 (subst (AreOne e) (sym last_f.1) are_one) ∙ last_m.1)
                ]
              ]
            ]
          ]

      joined_below : (i l : ℕ) → slice_get (ks ++ k ∷ []) i ≡ Some l → l < n
      joined_below i l at = elim (earlier_or_last ks k i l at) [ inl front ↦ is.below i l front | inr last ↦ subst (λ m. m < n) last.1 (is.below index k has_number.numbered) ]

      joined_in_order : (j l m : ℕ) → slice_get (ks ++ k ∷ []) j ≡ Some m → l < m → (i : ℕ) × (i < j) × (slice_get (ks ++ k ∷ []) i ≡ Some l)
      joined_in_order j l m at less =
          elim (earlier_or_last ks k j m at) [
            | inl front ↦ let (i, earlier, there) = is.in_order j l m front less in (i, earlier, earlier_one k i l there)
            | inr last ↦
                let (i, earlier, there) = is.in_order index l k has_number.numbered (omega (arith, last.1, less)) in
                (i, omega (arith, last.0, earlier, slice_get_within ks index k has_number.numbered), earlier_one k i l there)
          ]

      pub joined_numbered : AreNumbered AreOne (ds ++ d ∷ []) (ks ++ k ∷ []) n
      joined_numbered = record {
        as_many = as_many_more k;
        one = joined_one;
        below = joined_below;
        each = λ l few. let (i, at) = is.each l few in (i, earlier_one k i l at);
        in_order = joined_in_order;
      }

    -- the first declaration of a number stays the first
    pub first_stays : (k m : ℕ) (e : A) → IsFirst ds ks k e → IsFirst (ds ++ d ∷ []) (ks ++ m ∷ []) k e
    first_stays k m e first = record {
      index = first.index;
      has_number = record { there = in_front ds (d ∷ []) first.index e first.has_number.there; numbered = earlier_one m first.index k first.has_number.numbered };
      first = λ other at. elim (earlier_or_last ks m other k at) [
        | inl front ↦ first.first other front
        | inr last ↦ omega (arith, last.0, slice_get_within ks first.index k first.has_number.numbered)
      ];
    }

    -- the one with a new number is its first
    pub first_new : IsFirst (ds ++ d ∷ []) (ks ++ n ∷ []) n d
    first_new = record {
      index = length ds;
      has_number = record { there = between ds [] d; numbered = ap (slice_get (ks ++ n ∷ [])) (sym is.as_many) ∙ between ks [] n };
      first = λ other at. elim (earlier_or_last ks n other n at) [
        | inl front ↦ absurd (omega (arith, is.below other n front))
        | inr last ↦ omega (arith, last.0, is.as_many)
      ];
    }

    -- a declaration with a number is an earlier one, or the last
    pub earlier_number : (k m index : ℕ) (e : A) → HasNumber (ds ++ d ∷ []) (ks ++ m ∷ []) k index e → HasNumber ds ks k index e ⊎ ((index ≡ length ds) × (d ≡ e) × (m ≡ k))
    earlier_number k m index e has =
        elim (earlier_or_last ds d index e has.there) [
          | inl front ↦ elim (earlier_or_last ks m index k has.numbered) [
            | inl at ↦ inl (record { there = front; numbered = at })
            | inr last ↦ absurd (omega (arith, last.0, slice_get_within ds index e front, is.as_many))
          ]
          | inr last ↦ elim (earlier_or_last ks m index k has.numbered) [
            | inl at ↦ absurd (omega (arith, last.0, slice_get_within ks index k at, is.as_many))
            | inr at ↦ inr (last.0, last.1, at.1)
          ]
        ]
