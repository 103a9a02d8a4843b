-- The parts of a value made of components.
use Rattle.std.proofs.Common.{◌≡◌, ℕ, zero, suc, ◌-◌, ◌<◌, ◌≤◌, Bool, true, false, if◌then◌else◌, ℤ, List, [], ◌∷◌, ◌++◌, length, take, drop, slice_get, Option, None, Some, option_map, nat_lt, nat_eq, refl, sym, ap, ◌∙◌, subst, arith}
use Rattle.std.specs.List.{list_all}
use Rattle.std.proofs.lemmas.Bool.{and_parts, eqb-true, le-ltb}
use Rattle.std.proofs.lemmas.Option.{none-some}
use Rattle.std.proofs.Math.Seq.{take-append_seam, drop-append_seam}
use Rattle.rapid_model.specs.declared.sort.Sort.{Sort}
use Rattle.rapid_model.specs.declared.sort.Sort.TheVariants as sorts
use Rattle.rapid_model.specs.declared.value.Value.{Value}
use Rattle.rapid_model.specs.declared.value.Value.TheVariants as values
use Rattle.rapid_model.specs.declared.part_name.PartName.TheVariants as parts
use Rattle.rapid_values.specs.Components.{Component, components}
use Rattle.rapid_model.specs.Lengths.{is_full}
use Rattle.rapid_values.specs.Values.{made_of, num_at, nums_of, part_of, so_many, with_axes}
use Rattle.rapid_values.proofs.Changed.{mapped, some_same}

-- each num is that of the value at the same index
same_nums : (vs : List Value) (ns : List ℤ) → nums_of vs ≡ Some ns → (i : ℕ) → num_at ns i ≡ slice_get vs i
same_nums [] ns is i = ap (λ ns. num_at ns i) (sym (some_same is))
same_nums (values.Num n ∷ vs) ns is zero =
    let m = mapped (λ ns. n ∷ ns) (nums_of vs) ns is in
    ap (λ ns. num_at ns 0) m.2
same_nums (values.Num n ∷ vs) ns is (suc i) =
    let m = mapped (λ ns. n ∷ ns) (nums_of vs) ns is in
    ap (λ ns. num_at ns (suc i)) m.2 ∙ same_nums vs m.0 m.1 i
same_nums (_ ∷ vs) ns is i = absurd (none-some _ is)

-- the nums that a value is made of
nums_made : (count : ℕ) (make : List ℤ → Value) (r : Option (List ℤ)) (v : Value) → so_many count make r ≡ Some v → (ns : List ℤ) × (r ≡ Some ns) × (make ns ≡ v)
nums_made count make None v is = absurd (none-some _ is)
nums_made count make (Some ns) v is =
    let at : (many : Bool) → (if many then Some (make ns) else None) ≡ Some v → make ns ≡ v =
    λ many. elim many as (λ many. (if many then Some (make ns) else None) ≡ Some v → make ns ≡ v) [ true ↦ λ is. some_same is | false ↦ λ is. absurd (none-some _ is) ]
    in
    (ns, refl, at (nat_eq (length ns) count) is)

-- each component of a list is the part at its index
abbrev Stands : Value → (ℕ → Option Value) → List Component → Type 0
Stands v at [] = Unit {0}
Stands v at (c ∷ cs) = (part_of v c.part ≡ at 0) × Stands v (λ k. at (suc k)) cs

stands_there : (v : Value) (at : ℕ → Option Value) (cs : List Component) (i : ℕ) (c : Component) → Stands v at cs → slice_get cs i ≡ Some c → part_of v c.part ≡ at i
stands_there v at [] i c stands is = absurd (none-some _ is)
stands_there v at (d ∷ cs) zero c stands is = ap (λ c. part_of v c.part) (sym (some_same is)) ∙ stands.0
stands_there v at (d ∷ cs) (suc i) c stands is = stands_there v (λ k. at (suc k)) cs i c stands.1 is

target_stands : (rob ext : List ℤ) → length rob ≡ 6 → Stands (with_axes (rob ++ ext)) (slice_get (values.Rob rob ∷ values.Ext ext ∷ [])) (components sorts.JointTarget)
target_stands rob ext six = (
  ap (λ l. Some (values.Rob l)) (subst (λ n. take n (rob ++ ext) ≡ rob) six (take-append_seam rob ext)),
  (ap (λ l. Some (values.Ext l)) (subst (λ n. drop n (rob ++ ext) ≡ ext) six (drop-append_seam rob ext)), tt),
)

many_made : (count : ℕ) (sort : Sort) (make : List ℤ → Value) (vs : List Value) (v : Value) → so_many count make (nums_of vs) ≡ Some v →
    ((ns : List ℤ) → ((k : ℕ) → num_at ns k ≡ slice_get vs k) → Stands (make ns) (slice_get vs) (components sort)) → Stands v (slice_get vs) (components sort)
many_made count sort make vs v made each =
    let m = nums_made count make (nums_of vs) v made in
    subst (λ v. Stands v (slice_get vs) (components sort)) m.2 (each m.0 (same_nums vs m.0 m.1))

made_stands : (sort : Sort) (vs : List Value) (v : Value) → list_all is_full vs ≡ true → made_of sort vs ≡ Some v → Stands v (slice_get vs) (components sort)
made_stands sorts.RobJoint vs v full made = many_made 6 sorts.RobJoint values.Rob vs v made (λ ns same. (same 0, (same 1, (same 2, (same 3, (same 4, (same 5, tt)))))))
made_stands sorts.ExtJoint vs v full made = many_made 6 sorts.ExtJoint values.Ext vs v made (λ ns same. (same 0, (same 1, (same 2, (same 3, (same 4, (same 5, tt)))))))
made_stands sorts.SpeedData vs v full made = many_made 4 sorts.SpeedData values.Speed vs v made (λ ns same. (same 0, (same 1, (same 2, (same 3, tt)))))
made_stands sorts.JointTarget (values.Rob rob ∷ values.Ext ext ∷ []) v full made =
    let six : length rob ≡ 6 = eqb-true (length rob) 6 (and_parts _ _ full).0 in
    subst (λ v. Stands v (slice_get (values.Rob rob ∷ values.Ext ext ∷ [])) (components sorts.JointTarget)) (some_same made) (target_stands rob ext six)
made_stands sorts.Tasks (values.Text text ∷ []) v full made = (ap (λ v. part_of v parts.Taskname) (sym (some_same made)), tt)
made_stands _ vs v full made = absurd (none-some _ made)

pub parts_made : (sort : Sort) (vs : List Value) (v : Value) (i : ℕ) (c : Component) → list_all is_full vs ≡ true → made_of sort vs ≡ Some v → slice_get (components sort) i ≡ Some c → part_of v c.part ≡ slice_get vs i
parts_made sort vs v i c full made is = stands_there v (slice_get vs) (components sort) i c (made_stands sort vs v full made) is

taken_index : (xs : List ℤ) (n j : ℕ) → j < n → slice_get (take n xs) j ≡ slice_get xs j
taken_index [] zero j lt = absurd (omega arith)
taken_index [] (suc n) j lt = refl
taken_index (x ∷ xs) zero j lt = absurd (omega arith)
taken_index (x ∷ xs) (suc n) zero lt = refl
taken_index (x ∷ xs) (suc n) (suc j) lt = taken_index xs n j (omega arith)

left_index : (xs : List ℤ) (n j : ℕ) → n ≤ j → slice_get (drop n xs) (j - n) ≡ slice_get xs j
left_index xs zero j le = ap (slice_get xs) (omega arith)
left_index [] (suc n) j le = refl
left_index (x ∷ xs) (suc n) zero le = absurd (omega arith)
left_index (x ∷ xs) (suc n) (suc j) le =
    let same : suc j - suc n ≡ j - n = omega arith in
    ap (slice_get (drop n xs)) same ∙ left_index xs n j (omega arith)

high_index : (axes : List ℤ) (j : ℕ) → 6 ≤ j → (if nat_lt j 6 then None else num_at (drop 6 axes) (j - 6)) ≡ num_at axes j
high_index axes j le = rw (le-ltb j 6 le) (ap (option_map values.Num) (left_index axes 6 j le))

pub arm_axes : (v arm : Value) (j : ℕ) → j < 6 → part_of v parts.Robax ≡ Some arm → part_of arm (parts.Axis j) ≡ part_of v (parts.Axis j)
arm_axes (values.Target joints) arm j lt is =
    ap (λ x. part_of x (parts.Axis j)) (sym (some_same is)) ∙ ap (option_map values.Num) (taken_index joints.axis 6 j lt)
arm_axes _ arm j lt is = absurd (none-some _ is)

pub external_axes : (v external : Value) (j : ℕ) → 6 ≤ j → part_of v parts.Extax ≡ Some external → part_of external (parts.Axis j) ≡ part_of v (parts.Axis j)
external_axes (values.Target joints) external j le is =
    ap (λ x. part_of x (parts.Axis j)) (sym (some_same is)) ∙ high_index joints.axis j le
external_axes _ external j le is = absurd (none-some _ is)
