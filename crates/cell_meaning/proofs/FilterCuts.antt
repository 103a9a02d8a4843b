-- If the filtered elements are cut, the whole list is cut.
use Rattle.std.proofs.Common.{◌≡◌, refl, ap, ap₂, ◌∙◌, subst, Bool, true, false, cond, List, [], ◌∷◌, ◌++◌}
use Rattle.std.specs.Prelude.{filter}

-- the list is cut at this element, which passes the test; so do those before it that are kept
pub record IsCutBy {A : Type 0} (keeps : A → Bool) (xs before : List A) (e : A) : Type 0 where
  pub front : List A
  pub back : List A
  pub cut : xs ≡ front ++ e ∷ back
  pub kept : filter keeps front ≡ before
  pub passes : keeps e ≡ true

-- each cut of the filtered elements is a cut of the list
abbrev AreCut : {A : Type 0} → (A → Bool) → List A → Type 0
AreCut {A} keeps xs = (before after : List A) (e : A) → filter keeps xs ≡ before ++ e ∷ after → IsCutBy keeps xs before e

cut_one : {A : Type 0} (keeps : A → Bool) (x : A) (xs : List A) (is : Bool) → keeps x ≡ is → AreCut keeps xs → (before after : List A) (e : A)
    → cond is (x ∷ filter keeps xs) (filter keeps xs) ≡ before ++ e ∷ after → IsCutBy keeps (x ∷ xs) before e
cut_one {A = A} keeps x xs false out rest before after e p =
    let h = rest before after e p in
    record {
      front = x ∷ h.front;
      back = h.back;
      cut = ap (λ (ys : List A). x ∷ ys) h.cut;
      kept = ap (λ (b : Bool). cond b (x ∷ filter keeps h.front) (filter keeps h.front)) out ∙ h.kept;
      passes = h.passes;
    }
cut_one {A = A} keeps x xs true kept rest [] after e p =
    let same : x ≡ e = cc in
    record { front = []; back = xs; cut = ap (λ (y : A). y ∷ xs) same; kept = refl; passes = subst (λ (y : A). keeps y ≡ true) same kept }
cut_one {A = A} keeps x xs true kept rest (b ∷ before) after e p =
    let same : x ≡ b = cc in
    let behind : filter keeps xs ≡ before ++ e ∷ after = cc in
    let h = rest before after e behind in
    record {
      front = x ∷ h.front;
      back = h.back;
      cut = ap (λ (ys : List A). x ∷ ys) h.cut;
      kept = ap (λ (b : Bool). cond b (x ∷ filter keeps h.front) (filter keeps h.front)) kept ∙ ap₂ (λ (y : A) (ys : List A). y ∷ ys) same h.kept;
      passes = h.passes;
    }

pub cut_by : {A : Type 0} (keeps : A → Bool) (xs before after : List A) (e : A) → filter keeps xs ≡ before ++ e ∷ after → IsCutBy keeps xs before e
cut_by keeps [] [] after e p = absurd cc
cut_by keeps [] (b ∷ before) after e p = absurd cc
cut_by keeps (x ∷ xs) before after e p = cut_one keeps x xs (keeps x) refl (cut_by keeps xs) before after e p
