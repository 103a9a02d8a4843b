-- Numbers of what is declared: all declarations of one thing have the same number, and things are numbered from 0 in
-- the order of their first declarations.
use Rattle.std.specs.Prelude.{◌≡◌, ◌↔◌, ℕ, ◌<◌, ◌≤◌, List, length, Some, slice_get}

-- Declarations have these numbers, which are those below the count: an earlier and a later one have the same number
-- exactly if they are the same thing, and every smaller number comes before each number.
pub record AreNumbered {A : Type 0} (AreOne : A → A → Type 0) (declared : List A) (numbers : List ℕ) (count : ℕ) : Type 0 where
  pub as_many : length numbers ≡ length declared
  pub one : (i j : ℕ) (d e : A) (k l : ℕ) → i < j → slice_get declared i ≡ Some d → slice_get declared j ≡ Some e → slice_get numbers i ≡ Some k → slice_get numbers j ≡ Some l → (k ≡ l) ↔ AreOne d e
  pub below : (i k : ℕ) → slice_get numbers i ≡ Some k → k < count
  pub each : (k : ℕ) → k < count → (i : ℕ) × (slice_get numbers i ≡ Some k)
  pub in_order : (j k l : ℕ) → slice_get numbers j ≡ Some l → k < l → (i : ℕ) × (i < j) × (slice_get numbers i ≡ Some k)

-- the declaration at this index has this number
pub record HasNumber {A : Type 0} (declared : List A) (numbers : List ℕ) (k index : ℕ) (d : A) : Type 0 where
  pub there : slice_get declared index ≡ Some d
  pub numbered : slice_get numbers index ≡ Some k

-- the first declaration with this number
pub record IsFirst {A : Type 0} (declared : List A) (numbers : List ℕ) (k : ℕ) (d : A) : Type 0 where
  pub index : ℕ
  pub has_number : HasNumber declared numbers k index d
  pub first : (other : ℕ) → slice_get numbers other ≡ Some k → index ≤ other
