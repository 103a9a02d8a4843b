-- Nums that were written one after the other are read back.
use Rattle.std.proofs.Common.{◌≡◌, ℕ, zero, suc, ◌+◌, ◌-◌, ◌≤◌, Bool, true, false, nat_le, nat_lt, if◌then◌else◌, List, [], ◌∷◌, ◌++◌, ◌&&◌, length, take, drop, replicate, Option, Some, None, ℤ, pos, negsuc, refl, sym, ap, subst, ◌∙◌, arith, append_assoc, length-drop}
use Rattle.std.proofs.lemmas.Bool.{and_parts, eqb-true, false≢true}
use Rattle.std.proofs.lemmas.List.{length-take-le, take-append-drop}
use Rattle.std.specs.List.{AllByRecursion, before_first, flat_map, list_all, position_or_len}
use Rattle.std.specs.Prelude.{◌==◌}
use Rattle.rapid_num.specs.Absent.{absent, is_absent}
use Rattle.rapid_num.specs.NumText.{shortest_text}
use Rattle.rapid_num.specs.Range.{IsNum}
use Rattle.rapid_num.specs.Reach.{absent_axes, are_in_reach, is_in_reach, is_position, is_reachable}
use Rattle.rapid_num.specs.declared.joints.Joints.{Joints}
use Rattle.value_text.specs.ValueText.{nums_text, target_text}
use Rattle.history_text.specs.EventWords.{axes_words, nums_words}
use Rattle.history_text.specs.InRange.{AreNums}
use Rattle.history_text.specs.Reading.{after_word, ends_num, few_at, many_at, minus_at, next_num, num_at, number_at, nums_at, size_at}
use Rattle.history_text.specs.ValueReading.{nums_in_brackets, place_at, place_of_axes, target_at}
use Rattle.history_text.proofs.NumbersAgain.{num_again, next_again}
use Rattle.history_text.proofs.Positions.{place_within}
use Rattle.history_text.proofs.Stops.{Stops}

-- Things that are read back where no num continues, each after a byte that continues no num.
pub record IsReader {A : Type 0} (Fits : A → Type 0) (byte : ℕ) (words : A → List ℕ) (one_at : List ℕ → Option (A × List ℕ)) : Type 0 where
  pub between : ends_num byte ≡ true
  pub again : (x : A) (rest : List ℕ) → Fits x → Stops ends_num rest → one_at (byte ∷ (words x ++ rest)) ≡ Some (x, rest)

abbrev pub many_words : {A : Type 0} → ℕ → (A → List ℕ) → List A → List ℕ
many_words byte words xs = flat_map (λ x. byte ∷ words x) xs

many_stop : {A : Type 0} (byte : ℕ) (words : A → List ℕ) (xs : List A) (rest : List ℕ) → ends_num byte ≡ true → Stops ends_num rest → Stops ends_num (many_words byte words xs ++ rest)
many_stop byte words [] rest between stops = stops
many_stop byte words (x ∷ xs) rest between stops = between

-- they are read back one after the other
pub many_again : {A : Type 0} (Fits : A → Type 0) (byte : ℕ) (words : A → List ℕ) (one_at : List ℕ → Option (A × List ℕ)) (xs : List A) (rest : List ℕ) → IsReader Fits byte words one_at → AllByRecursion Fits xs → Stops ends_num rest
    → many_at one_at (length xs) (many_words byte words xs ++ rest) ≡ Some (xs, rest)
unfolding many_at
many_again Fits byte words one_at [] rest reader fits stops = refl
many_again Fits byte words one_at (x ∷ xs) rest reader fits stops =
    let first = reader.again x (many_words byte words xs ++ rest) fits.0 (many_stop byte words xs rest reader.between stops) in
    let others = many_again Fits byte words one_at xs rest reader fits.1 stops in
    ap (λ text. many_at one_at (length (x ∷ xs)) (byte ∷ text)) (append_assoc (words x) (many_words byte words xs) rest) ∙ rw (first, others) refl

nums_again : (byte : ℕ) (z : ℤ) (zs : List ℤ) (rest : List ℕ) → ends_num byte ≡ true → AllByRecursion IsNum (z ∷ zs) → Stops ends_num rest
    → nums_at byte (length zs) (shortest_text z ++ (many_words byte shortest_text zs ++ rest)) ≡ Some (z ∷ zs, rest)
unfolding nums_at
nums_again byte z zs rest between fits stops =
    let first = num_again z (many_words byte shortest_text zs ++ rest) fits.0 (many_stop byte shortest_text zs rest between stops) in
    let others = many_again IsNum byte shortest_text (next_num byte) zs rest (record { between = between; again = next_again byte }) fits.1 stops in
    rw (first, others) refl

pub brackets_again : (more : ℕ) (zs : List ℤ) (rest : List ℕ) → AreNums (suc more) zs → nums_in_brackets more (nums_text zs ++ rest) ≡ Some (zs, rest)
unfolding nums_in_brackets after_word
brackets_again more [] rest h = absurd (omega (arith, h.count))
brackets_again more (z ∷ zs) rest h =
    let count : length zs ≡ more = omega (arith, h.count) in
    let others = many_words 44 shortest_text zs in
    let regrouped : nums_text (z ∷ zs) ++ rest ≡ 91 ∷ (shortest_text z ++ (others ++ 93 ∷ rest)) =
    ap (λ w. 91 ∷ w) (append_assoc (shortest_text z) (others ++ 93 ∷ []) rest ∙ ap (λ w. shortest_text z ++ w) (append_assoc others (93 ∷ []) rest)) in
    let nums : nums_at 44 more (shortest_text z ++ (others ++ 93 ∷ rest)) ≡ Some (z ∷ zs, 93 ∷ rest) = rw (← count) (nums_again 44 z zs (93 ∷ rest) refl h.range refl) in
    ap (nums_in_brackets more) regrouped ∙ rw nums refl

-- six of twelve nums

pub first_range : (n : ℕ) (zs : List ℤ) → AllByRecursion IsNum zs → AllByRecursion IsNum (take n zs)
first_range zero zs h = tt
first_range (suc n) [] h = tt
first_range (suc n) (z ∷ zs) h = (h.0, first_range n zs h.1)

last_range : (n : ℕ) (zs : List ℤ) → AllByRecursion IsNum zs → AllByRecursion IsNum (drop n zs)
last_range zero zs h = h
last_range (suc n) [] h = tt
last_range (suc n) (z ∷ zs) h = last_range n zs h.1

pub first_six : (zs : List ℤ) → AreNums 12 zs → AreNums 6 (take 6 zs)
first_six zs h = record { count = length-take-le 6 zs (omega (arith, h.count)); range = first_range 6 zs h.range }

pub last_six : (zs : List ℤ) → AreNums 12 zs → AreNums 6 (drop 6 zs)
last_six zs h = record { count = length-drop 6 zs ∙ omega (arith, h.count); range = last_range 6 zs h.range }

abbrev joints_of : List ℤ → Joints
joints_of axis = record { axis = axis }

pub target_again : (joints : Joints) (rest : List ℕ) → AreNums 12 joints.axis → target_at (target_text joints.axis ++ rest) ≡ Some (joints, rest)
unfolding target_at after_word
target_again joints rest h =
    let robax = nums_text (take 6 joints.axis) in
    let extax = nums_text (drop 6 joints.axis) in
    let regrouped : target_text joints.axis ++ rest ≡ 91 ∷ (robax ++ 44 ∷ (extax ++ 93 ∷ rest)) =
    ap (λ w. 91 ∷ w) (append_assoc robax (44 ∷ extax ++ 93 ∷ []) rest ∙ ap (λ w. robax ++ 44 ∷ w) (append_assoc extax (93 ∷ []) rest)) in
    let first = brackets_again 5 (take 6 joints.axis) (44 ∷ (extax ++ 93 ∷ rest)) (first_six joints.axis h) in
    let last = brackets_again 5 (drop 6 joints.axis) (93 ∷ rest) (last_six joints.axis h) in
    ap target_at regrouped ∙ rw (first, last) (ap (λ axis. Some (joints_of axis, rest)) (take-append-drop 6 joints.axis))

-- positions of an arm: as many nums as follow each other

few_again : (room : ℕ) (zs : List ℤ) (rest : List ℕ) → length zs ≤ room → AllByRecursion IsNum zs → Stops ends_num rest → next_num 32 rest ≡ None
    → few_at (next_num 32) room (many_words 32 shortest_text zs ++ rest) ≡ (zs, rest)
unfolding few_at
few_again zero [] rest few fits stops past = refl
few_again (suc room) [] rest few fits stops past = rw past refl
few_again zero (z ∷ zs) rest few fits stops past = absurd (omega (arith, few))
few_again (suc room) (z ∷ zs) rest few fits stops past =
    let first = next_again 32 z (many_words 32 shortest_text zs ++ rest) fits.0 (many_stop 32 shortest_text zs rest refl stops) in
    let others = few_again room zs rest (omega (arith, few)) fits.1 stops past in
    ap (λ text. few_at (next_num 32) (suc room) (32 ∷ text)) (append_assoc (shortest_text z) (many_words 32 shortest_text zs) rest) ∙ rw (first, others) refl

words_again : (z : ℤ) (zs : List ℤ) (rest : List ℕ) → length zs ≤ 11 → AllByRecursion IsNum (z ∷ zs) → Stops ends_num rest → next_num 32 rest ≡ None
    → place_at (nums_words (z ∷ zs) ++ rest) ≡ Some (place_of_axes (z ∷ zs), rest)
unfolding place_at
words_again z zs rest few fits stops past =
    let others = many_words 32 shortest_text zs in
    let first = num_again z (others ++ rest) fits.0 (many_stop 32 shortest_text zs rest refl stops) in
    let more = few_again 11 zs rest few fits.1 stops past in
    ap place_at (append_assoc (shortest_text z) others rest) ∙ rw (first, more) refl

absent_is : (z : ℤ) → is_absent z ≡ true → z ≡ absent
absent_is (pos n) h = ap pos (eqb-true n 9_000_000_000_000 h)
absent_is (negsuc n) h = absurd cc

absent_are : (zs : List ℤ) → list_all is_absent zs ≡ true → zs ≡ replicate (length zs) absent
absent_are [] h = refl
absent_are (z ∷ zs) h =
    let both = and_parts (is_absent z) (list_all is_absent zs) h in
    let first : z ≡ absent = absent_is z both.0 in
    let others : zs ≡ replicate (length zs) absent = absent_are zs both.1 in
    ap (λ x. x ∷ zs) first ∙ ap (λ xs. absent ∷ xs) others

-- no axis reaches 9E9
past_reach : (b : Bool) → nat_le 9_000_000_000_000 (if b then 720_000 else 100_000_000) ≡ false
past_reach true = refl
past_reach false = refl

given_in_reach : (axis : ℕ) (z : ℤ) → is_in_reach axis z ≡ true → is_absent z ≡ false
given_in_reach axis z reach = by (is_absent z) refl
  where
    by : (b : Bool) → is_absent z ≡ b → b ≡ false
    by true is =
        let there : is_in_reach axis absent ≡ true = subst (λ (x : ℤ). is_in_reach axis x ≡ true) (absent_is z is) reach in
        absurd (false≢true (sym (past_reach (nat_lt axis 6)) ∙ there))
    by false is = refl

-- the axes before the first one that is not given, and those that follow it
abbrev given_count : List ℤ → ℕ
given_count zs = position_or_len is_absent zs

one_more : (n : ℕ) → 1 + n ≡ suc n
one_more n = omega arith

given_rest : (n axis : ℕ) (zs : List ℤ) → are_in_reach axis (take n zs) ≡ true → list_all is_absent (drop n zs) ≡ true → list_all is_absent (drop (given_count zs) zs) ≡ true
given_rest n axis [] reach none = refl
given_rest zero axis (z ∷ zs) reach none =
    let both = and_parts (is_absent z) (list_all is_absent zs) none in
    rw both.0 none
given_rest (suc n) axis (z ∷ zs) reach none =
    let both = and_parts (is_in_reach axis z) (are_in_reach (axis + 1) (take n zs)) reach in
    let more = given_rest n (axis + 1) zs both.1 none in
    rw (given_in_reach axis z both.0) (ap (λ k. list_all is_absent (drop k (z ∷ zs))) (one_more (given_count zs)) ∙ more)

-- a position of an arm with axes is read back
axes_again : (n : ℕ) (zs : List ℤ) (rest : List ℕ) → AreNums 12 zs → are_in_reach 0 (take (suc n) zs) ≡ true → list_all is_absent (drop (suc n) zs) ≡ true → Stops ends_num rest → next_num 32 rest ≡ None
    → place_at (nums_words (before_first is_absent zs) ++ rest) ≡ Some (joints_of zs, rest)
axes_again n [] rest h reach none stops past = absurd (omega (arith, h.count))
axes_again n (z ∷ zs) rest h reach none stops past =
    let both = and_parts (is_in_reach 0 z) (are_in_reach 1 (take n zs)) reach in
    let count = given_count zs in
    let within : count ≤ length zs = place_within is_absent zs in
    let front : before_first is_absent (z ∷ zs) ≡ z ∷ take count zs = rw (given_in_reach 0 z both.0) (ap (λ k. take k (z ∷ zs)) (one_more count)) in
    let long : length (take count zs) ≡ count = length-take-le count zs within in
    let behind : drop count zs ≡ absent_axes (12 - length (z ∷ take count zs)) =
    absent_are (drop count zs) (given_rest n 1 zs both.1 none) ∙ ap (λ k. replicate k absent) (length-drop count zs ∙ omega (arith, h.count, long)) in
    let whole : z ∷ take count zs ++ absent_axes (12 - length (z ∷ take count zs)) ≡ z ∷ zs =
    ap (λ axes. z ∷ axes) (ap (λ axes. take count zs ++ axes) (sym behind) ∙ take-append-drop count zs) in
    ap (λ axes. place_at (nums_words axes ++ rest)) front
    ∙ words_again z (take count zs) rest (omega (arith, h.count, long, within)) (h.range.0, first_range count zs h.range.1) stops past
    ∙ ap (λ axis. Some (joints_of axis, rest)) whole

pub place_again : (n : ℕ) (place : Joints) (rest : List ℕ) → AreNums 12 place.axis → nat_lt 0 n ≡ true → is_position n place ≡ true → Stops ends_num rest → next_num 32 rest ≡ None
    → place_at (axes_words place ++ rest) ≡ Some (place, rest)
place_again zero place rest h some position stops past = absurd cc
place_again (suc n) place rest h some position stops past =
    let parts = and_parts (length place.axis == 12 && is_reachable (suc n) place) (list_all is_absent (drop (suc n) place.axis)) position in
    axes_again n place.axis rest h (and_parts (length place.axis == 12) (is_reachable (suc n) place) parts.0).1 parts.1 stops past

-- the answer, or the end of the line, follows the nums
pub before_answer : (more : List ℕ) → next_num 32 (32 ∷ 62 ∷ more) ≡ None
unfolding next_num after_word num_at size_at minus_at number_at
before_answer more = refl

pub before_end : (more : List ℕ) → next_num 32 (10 ∷ more) ≡ None
unfolding next_num after_word
before_end more = refl
