-- The first of the least gaps.
use Rattle.std.proofs.Common.{◌≡◌, inl, inr, ℕ, zero, suc, ◌+◌, ◌*◌, ◌^◌, ◌<◌, ◌≤◌, Bool, true, false, ℤ, pos, nat_abs, ◌*ℤ◌, ◌≤ℤ◌, ◌<ℤ◌, FitsSigned, to_z, of_z, List, [], ◌∷◌, ◌++◌, length, Some, refl, sym, ◌∙◌, ap, subst, arith, length-append}
use Rattle.std.specs.Prelude.{int_lt, slice_get}
use Rattle.std.specs.List.{IsFirstBest, slice_index_or}
use Rattle.std.proofs.Math.IntN.{pos-*ℤ-pos}
use Rattle.std.proofs.lemmas.Bool.{cases_lt}
use Rattle.std.specs.Int.{w128}
use Rattle.std.proofs.lemmas.Int.{fits_signed_from_abs, ints, to_z-of_z}
use Rattle.std.proofs.lemmas.Option.{get_or_from_slice_get}
use Rattle.joint_clip.specs.Parts.{IsAtMost}
use Rattle.joint_clip.proofs.Fractions.{at_most-trans}
use Rattle.zone_clearance.specs.Gaps.{IsWritten}
use Rattle.zone_clearance.specs.declared.gap.Gap.{Gap}
use Rattle.zone_clearance.proofs.Products.{le_from_not_lt, lt_from_true, nat_abs-product}
use Rattle.clearance_lines.specs.Clearances.{is_nearer}

-- one gap is at most another
abbrev AtMost : Gap → Gap → Type 0
AtMost one two = IsAtMost (nat_abs one.top) (nat_abs one.bottom) (nat_abs two.top) (nat_abs two.bottom)

size_is : (x : ℤ) → pos 0 ≤ℤ x → x ≡ pos (nat_abs x)
size_is x some = omega (arith, ints, some)

some_size : (x : ℤ) → pos 1 ≤ℤ x → x ≡ pos (nat_abs x)
some_size x some = omega (arith, ints, some)

at_least_one : (x : ℤ) → pos 1 ≤ℤ x → 1 ≤ nat_abs x
at_least_one x some = omega (arith, ints, some)

across : (one two : Gap) → IsWritten one → IsWritten two → one.top *ℤ two.bottom ≡ pos (nat_abs one.top * nat_abs two.bottom)
across one two w v =
    ap (λ (x : ℤ). x *ℤ two.bottom) (size_is one.top w.distance.not_negative)
    ∙ ap (λ (x : ℤ). pos (nat_abs one.top) *ℤ x) (some_size two.bottom v.distance.positive)
    ∙ pos-*ℤ-pos (nat_abs one.top) (nat_abs two.bottom)

le_across : (x y : ℤ) (m n : ℕ) → x ≡ pos m → y ≡ pos n → int_lt y x ≡ false → m ≤ n
le_across x y m n one two is = let le : x ≤ℤ y = le_from_not_lt y x is in omega (arith, ints, one, two, le)

lt_across : (x y : ℤ) (m n : ℕ) → x ≡ pos m → y ≡ pos n → int_lt x y ≡ true → m < n
lt_across x y m n one two is = let lt : x <ℤ y = lt_from_true x y is in omega (arith, ints, one, two, lt)

not_nearer : (one two : Gap) → IsWritten one → IsWritten two → is_nearer one two ≡ false → AtMost two one
not_nearer one two w v is = record {
  across = le_across (two.top *ℤ one.bottom) (one.top *ℤ two.bottom) (nat_abs two.top * nat_abs one.bottom) (nat_abs one.top * nat_abs two.bottom) (across two one v w) (across one two w v) is;
}

nearer_below : (one two : Gap) → IsWritten one → IsWritten two → is_nearer one two ≡ true → nat_abs one.top * nat_abs two.bottom < nat_abs two.top * nat_abs one.bottom
nearer_below one two w v is =
    lt_across (one.top *ℤ two.bottom) (two.top *ℤ one.bottom) (nat_abs one.top * nat_abs two.bottom) (nat_abs two.top * nat_abs one.bottom) (across one two w v) (across two one v w) is

nearer_most : (one two : Gap) → IsWritten one → IsWritten two → is_nearer one two ≡ true → AtMost one two
nearer_most one two w v is = let below = nearer_below one two w v is in record { across = omega (arith, below) }

never_true : (b : Bool) → (b ≡ true → ⊥) → b ≡ false
never_true true never = absurd (never refl)
never_true false never = refl

never_false : (b : Bool) → (b ≡ false → ⊥) → b ≡ true
never_false true never = refl
never_false false never = absurd (never refl)

at_most_not : (one two : Gap) → IsWritten one → IsWritten two → AtMost two one → is_nearer one two ≡ false
at_most_not one two w v most =
    never_true (is_nearer one two) (λ is. let below = nearer_below one two w v is in let le = most.across in omega (arith, below, le))

trans : (one two three : Gap) → IsWritten two → AtMost one two → AtMost two three → AtMost one three
trans one two three w le more =
    at_most-trans (nat_abs one.top) (nat_abs one.bottom) (nat_abs two.top) (nat_abs two.bottom) (nat_abs three.top) (nat_abs three.bottom) (at_least_one two.bottom w.distance.positive) le more

same_not : (gap : Gap) → IsWritten gap → is_nearer gap gap ≡ false
same_not gap w = at_most_not gap gap w w (record { across = omega arith })

-- nearer than the best is nearer than all that are not nearer than that
nearer_than : (new old other : Gap) → IsWritten new → IsWritten old → IsWritten other → is_nearer new old ≡ true → is_nearer other old ≡ false → is_nearer new other ≡ true
nearer_than new old other w v u is not =
    never_false (is_nearer new other) (λ far.
    let most = trans old other new u (not_nearer other old u v not) (not_nearer new other w u far) in
    let below = nearer_below new old w v is in
    let le = most.across in
    omega (arith, below, le))

none_than : (new old other : Gap) → IsWritten new → IsWritten old → IsWritten other → is_nearer new old ≡ true → is_nearer other old ≡ false → is_nearer other new ≡ false
none_than new old other w v u is not = at_most_not other new u w (trans new old other v (nearer_most new old w v is) (not_nearer other old u v not))

-- the elements of a list, with one more
abbrev pub AllWritten : List Gap → Type 0
AllWritten gaps = (k : ℕ) (d : Gap) → k < length gaps → IsWritten (slice_index_or gaps k d)

front_at : (gaps more : List Gap) (k : ℕ) (d : Gap) → k < length gaps → slice_index_or (gaps ++ more) k d ≡ slice_index_or gaps k d
front_at [] more k d lt = absurd (omega (arith, lt))
front_at (g ∷ gaps) more zero d lt = refl
front_at (g ∷ gaps) more (suc k) d lt = front_at gaps more k d (omega (arith, lt))

last_at : (gaps : List Gap) (new d : Gap) → slice_index_or (gaps ++ new ∷ []) (length gaps) d ≡ new
last_at [] new d = refl
last_at (g ∷ gaps) new d = last_at gaps new d

one_more : (gaps : List Gap) (new : Gap) → length (gaps ++ new ∷ []) ≡ length gaps + 1
one_more gaps new = length-append gaps (new ∷ [])

-- what holds of each of the first ones and of the last one holds of all
each_more : (P : Gap → Type 0) (gaps : List Gap) (new : Gap) → ((k : ℕ) (d : Gap) → k < length gaps → P (slice_index_or gaps k d)) → P new
    → (k : ℕ) (d : Gap) → k < length (gaps ++ new ∷ []) → P (slice_index_or (gaps ++ new ∷ []) k d)
each_more P gaps new first last k d lt =
    let count = one_more gaps new in
    elim (cases_lt k (length gaps)) [
      | inl front ↦ subst P (sym (front_at gaps (new ∷ []) k d front)) (first k d front)
      | inr past ↦
          let end : k ≡ length gaps = omega (arith, lt, past, count) in
          subst P (sym (ap (λ (i : ℕ). slice_index_or (gaps ++ new ∷ []) i d) end ∙ last_at gaps new d)) last
    ]

-- the new one is the nearest
pub nearest_takes : (gaps : List Gap) (b : ℕ) (old new : Gap) → AllWritten gaps → IsWritten old → IsWritten new → IsFirstBest is_nearer gaps (length gaps) b → slice_get gaps b ≡ Some old → is_nearer new old ≡ true
    → IsFirstBest is_nearer (gaps ++ new ∷ []) (length (gaps ++ new ∷ [])) (length gaps)
nearest_takes gaps b old new all v w best at is =
    let count = one_more gaps new in
    let not : (k : ℕ) (d : Gap) → k < length gaps → is_nearer (slice_index_or gaps k d) old ≡ false =
    λ k d lt. subst (λ (g : Gap). is_nearer (slice_index_or gaps k d) g ≡ false) (get_or_from_slice_get gaps b old d at) (best.1 k d lt) in (
      omega (arith, count),
      λ k d lt. subst (λ (g : Gap). is_nearer (slice_index_or (gaps ++ new ∷ []) k d) g ≡ false) (sym (last_at gaps new d))
          (each_more (λ (g : Gap). is_nearer g new ≡ false) gaps new (λ i e front. none_than new old (slice_index_or gaps i e) w v (all i e front) is (not i e front)) (same_not new w) k d lt),
      λ k d front. subst (λ (g : Gap). is_nearer g (slice_index_or (gaps ++ new ∷ []) k d) ≡ true) (sym (last_at gaps new d))
          (subst (λ (g : Gap). is_nearer new g ≡ true) (sym (front_at gaps (new ∷ []) k d front)) (nearer_than new old (slice_index_or gaps k d) w v (all k d front) is (not k d front))),
    )

-- the new one is not
pub nearest_keeps : (gaps : List Gap) (b : ℕ) (old new : Gap) → IsFirstBest is_nearer gaps (length gaps) b → slice_get gaps b ≡ Some old → is_nearer new old ≡ false
    → IsFirstBest is_nearer (gaps ++ new ∷ []) (length (gaps ++ new ∷ [])) b
nearest_keeps gaps b old new best at is =
    let count = one_more gaps new in
    let within = best.0 in
    let here : (d : Gap) → slice_index_or (gaps ++ new ∷ []) b d ≡ old = λ d. front_at gaps (new ∷ []) b d within ∙ get_or_from_slice_get gaps b old d at in
    let read : (d : Gap) → slice_index_or gaps b d ≡ old = λ d. get_or_from_slice_get gaps b old d at in (
      omega (arith, count, within),
      λ k d lt. subst (λ (g : Gap). is_nearer (slice_index_or (gaps ++ new ∷ []) k d) g ≡ false) (sym (here d))
          (each_more (λ (g : Gap). is_nearer g old ≡ false) gaps new (λ i e front. subst (λ (g : Gap). is_nearer (slice_index_or gaps i e) g ≡ false) (read e) (best.1 i e front)) is k d lt),
      λ k d below. let front : k < length gaps = omega (arith, below, within) in
          subst (λ (g : Gap). is_nearer g (slice_index_or (gaps ++ new ∷ []) k d) ≡ true) (sym (here d))
          (subst (λ (g : Gap). is_nearer old g ≡ true) (sym (front_at gaps (new ∷ []) k d front))
          (subst (λ (g : Gap). is_nearer g (slice_index_or gaps k d) ≡ true) (read d) (best.2 k d below))),
    )

-- one alone is
pub nearest_alone : (new : Gap) → IsWritten new → IsFirstBest is_nearer (new ∷ []) 1 0
nearest_alone new w = (
  omega arith,
  λ k d lt. alone k d lt,
  λ k d lt. absurd (omega (arith, lt)),
)
  where
    alone : (k : ℕ) (d : Gap) → k < 1 → is_nearer (slice_index_or (new ∷ []) k d) new ≡ false
    alone zero d lt = same_not new w
    alone (suc k) d lt = absurd (omega (arith, lt))

-- products of numbers below 2^60
product_fits : (x y : ℤ) → nat_abs x < 2 ^ 60 → nat_abs y < 2 ^ 60 → FitsSigned w128 (x *ℤ y)
product_fits x y one two =
    let size = nat_abs-product x y 1152921504606846976 1152921504606846976 (omega (arith, one)) (omega (arith, two)) in
    fits_signed_from_abs w128 (x *ℤ y) (omega (arith, size))

product_is : (x y : ℤ) → nat_abs x < 2 ^ 60 → nat_abs y < 2 ^ 60 → to_z w128 (of_z w128 (x *ℤ y)) ≡ x *ℤ y
product_is x y one two = to_z-of_z w128 (x *ℤ y) (product_fits x y one two)

small_is : (x : ℤ) → nat_abs x < 2 ^ 60 → to_z w128 (of_z w128 x) ≡ x
small_is x small = to_z-of_z w128 x (fits_signed_from_abs w128 x (omega (arith, small)))

pub product_read : (x y : ℤ) → nat_abs x < 2 ^ 60 → nat_abs y < 2 ^ 60 → to_z w128 (of_z w128 (to_z w128 (of_z w128 x) *ℤ to_z w128 (of_z w128 y))) ≡ x *ℤ y
product_read x y one two =
    ap (λ (z : ℤ). to_z w128 (of_z w128 (z *ℤ to_z w128 (of_z w128 y)))) (small_is x one)
    ∙ ap (λ (z : ℤ). to_z w128 (of_z w128 (x *ℤ z))) (small_is y two)
    ∙ product_is x y one two
