-- Persistents of sound declarations are persistents of a cell.
use Rattle.std.proofs.Common.{◌≡◌, ℕ, suc, Bool, true, ◌&&◌, ◌==◌, nat_lt, List, [], ◌∷◌, length, replicate, set, Option, None, Some, refl, ap, ◌∙◌, arith}
use Rattle.std.specs.Option.{option_or}
use Rattle.std.specs.List.{list_all}
use Rattle.std.proofs.lemmas.Bool.{and_parts, and_from, eqb-true, eq-eqb}
use Rattle.std.proofs.lemmas.List.{length-replicate, length-set}
use Rattle.std.proofs.lemmas.List.Elements.{All-set, All-replicate}
use Rattle.std.proofs.lemmas.List.Sums.{AllPass-from_list_all, list_all-from_AllPass}
use Rattle.rapid_model.specs.CellData.{is_pers_cell}
use Rattle.rapid_model.specs.Limits.{is_within, holds_where_there}
use Rattle.rapid_model.specs.Sorts.{has_values, is_value_of, are_values_of, width}
use Rattle.rapid_model.specs.declared.sort.Sort.{Sort}
use Rattle.rapid_model.specs.declared.sort.Sort.TheVariants as sorts
use Rattle.rapid_model.specs.declared.value.Value.{Value}
use Rattle.rapid_model.specs.declared.value.Value.TheVariants as values
use Rattle.named_data.specs.Wants.{same_sort}
use Rattle.typed_trees.specs.Plain.{TypedPers}
use Rattle.typed_trees.specs.Sound.{fits, is_sound}
use Rattle.cell_assembly.specs.Cells.{PersInfo, new_pers, with_declared, same_len, is_script_value, with_given}
use Rattle.cell_assembly.specs.Made.{start_of, declared_values, over, pers_cell}

-- with that many tasks
pub record IsSoundInfo (tasks : ℕ) (p : PersInfo) : Type 0 where
  pub owner : holds_where_there (λ task. nat_lt task tasks) p.owner ≡ true
  pub valued : has_values p.sort ≡ true
  pub len : holds_where_there (is_within 1 1_000) p.len ≡ true
  pub declared : holds_where_there (are_values_of p.sort p.len) p.declared ≡ true
  pub as_many : length p.given ≡ width p.len
  pub given : list_all (holds_where_there (is_value_of p.sort)) p.given ≡ true

all_alike : {X : Type 0} (p : X → Bool) (n : ℕ) (x : X) → p x ≡ true → list_all p (replicate n x) ≡ true
all_alike p n x e = list_all-from_AllPass p (replicate n x) (All-replicate (λ y. p y ≡ true) n x e)

all_but_one : {X : Type 0} (p : X → Bool) (xs : List X) (index : ℕ) (x : X) → p x ≡ true → list_all p xs ≡ true → list_all p (set xs index x) ≡ true
all_but_one p xs index x one all = list_all-from_AllPass p (set xs index x) (All-set (λ y. p y ≡ true) xs index x one (AllPass-from_list_all p xs all))

pub new_sound : (tasks : ℕ) (owner : Option ℕ) (row : TypedPers) → holds_where_there (λ task. nat_lt task tasks) owner ≡ true → is_sound row ≡ true → IsSoundInfo tasks (new_pers owner row)
new_sound tasks owner row is_task sound =
    let (front, declared) = and_parts (has_values row.sort && holds_where_there (is_within 1 1_000) row.len) (holds_where_there (fits row) row.first) sound in
    let (valued, len) = and_parts (has_values row.sort) (holds_where_there (is_within 1 1_000) row.len) front in
    record {
      owner = is_task;
      valued = valued;
      len = len;
      declared = declared;
      as_many = length-replicate (width row.len) None;
      given = all_alike (holds_where_there (is_value_of row.sort)) (width row.len) None refl;
    }

pub same_sort_is : (a b : Sort) → same_sort a b ≡ true → a ≡ b
same_sort_is sorts.Num sorts.Num e = refl
same_sort_is sorts.Bool sorts.Bool e = refl
same_sort_is sorts.Text sorts.Text e = refl
same_sort_is sorts.RobJoint sorts.RobJoint e = refl
same_sort_is sorts.ExtJoint sorts.ExtJoint e = refl
same_sort_is sorts.JointTarget sorts.JointTarget e = refl
same_sort_is sorts.SpeedData sorts.SpeedData e = refl
same_sort_is sorts.Tasks sorts.Tasks e = refl
same_sort_is sorts.IntNum sorts.IntNum e = refl
same_sort_is sorts.SyncIdent sorts.SyncIdent e = refl
same_sort_is sorts.ShapeData sorts.ShapeData e = refl
same_sort_is sorts.WzTemporary sorts.WzTemporary e = refl
same_sort_is sorts.WzStationary sorts.WzStationary e = refl
same_sort_is _ _ e = cc

pub same_len_is : (a b : Option ℕ) → same_len a b ≡ true → a ≡ b
same_len_is None None e = refl
same_len_is (Some m) (Some n) e = ap Some (eqb-true m n e)
same_len_is _ _ e = cc

either_declared : (test : List Value → Bool) (one more : Option (List Value)) → holds_where_there test one ≡ true → holds_where_there test more ≡ true → holds_where_there test (option_or one more) ≡ true
either_declared test (Some vs) more here there = here
either_declared test None more here there = there

-- what fits a declaration fits a persistent with its type and length
right_there : (sort other : Sort) (len long : Option ℕ) (first : Option (List Value)) → sort ≡ other → len ≡ long → holds_where_there (are_values_of other long) first ≡ true
    → holds_where_there (are_values_of sort len) first ≡ true
right_there sort other len long first same alike right =
    ap (λ s. holds_where_there (are_values_of s len) first) same ∙ ap (λ l. holds_where_there (are_values_of other l) first) alike ∙ right

-- one more declaration, of the same type and length
pub declared_sound : (tasks : ℕ) (p : PersInfo) (row : TypedPers) → same_sort p.sort row.sort && same_len p.len row.len ≡ true → is_sound row ≡ true → IsSoundInfo tasks p → IsSoundInfo tasks (with_declared p row)
declared_sound tasks p row alike sound is =
    let (sort, len) = and_parts (same_sort p.sort row.sort) (same_len p.len row.len) alike in
    let (_, first) = and_parts (has_values row.sort && holds_where_there (is_within 1 1_000) row.len) (holds_where_there (fits row) row.first) sound in
    let right = right_there p.sort row.sort p.len row.len row.first (same_sort_is p.sort row.sort sort) (same_len_is p.len row.len len) first in
    record {
      owner = is.owner;
      valued = is.valued;
      len = is.len;
      declared = either_declared (are_values_of p.sort p.len) p.declared row.first is.declared right;
      as_many = is.as_many;
      given = is.given;
    }

value_of_sort : (sort : Sort) (value : Value) → is_script_value sort value ≡ true → is_value_of sort value ≡ true
value_of_sort sorts.Num (values.Num n) e = refl
value_of_sort sorts.Bool (values.Bool b) e = refl
value_of_sort sorts.Text (values.Text t) e = refl
value_of_sort _ _ e = cc

-- a value that the script gives
pub given_sound : (tasks : ℕ) (p : PersInfo) (index : ℕ) (value : Value) → is_script_value p.sort value ≡ true → IsSoundInfo tasks p → IsSoundInfo tasks (with_given p index value)
given_sound tasks p index value suits is =
    record {
      owner = is.owner;
      valued = is.valued;
      len = is.len;
      declared = is.declared;
      as_many = length-set p.given index (Some value) ∙ is.as_many;
      given = all_but_one (holds_where_there (is_value_of p.sort)) p.given index (Some value) (value_of_sort p.sort value suits) is.given;
    }

start_is_right : (sort : Sort) → has_values sort ≡ true → is_value_of sort (start_of sort) ≡ true
start_is_right sorts.Num e = refl
start_is_right sorts.Bool e = refl
start_is_right sorts.Text e = refl
start_is_right sorts.Tasks e = refl
start_is_right sorts.RobJoint e = refl
start_is_right sorts.ExtJoint e = refl
start_is_right sorts.JointTarget e = refl
start_is_right sorts.SpeedData e = refl
start_is_right _ e = cc

declared_are_right : (p : PersInfo) (declared : Option (List Value)) → has_values p.sort ≡ true → holds_where_there (are_values_of p.sort p.len) declared ≡ true
    → are_values_of p.sort p.len (declared_values (record p { declared = declared })) ≡ true
declared_are_right p (Some vs) valued right = right
declared_are_right p None valued right =
    and_from (length (replicate (width p.len) (start_of p.sort)) == width p.len) (list_all (is_value_of p.sort) (replicate (width p.len) (start_of p.sort)))
    (eq-eqb _ _ (length-replicate (width p.len) (start_of p.sort)))
    (all_alike (is_value_of p.sort) (width p.len) (start_of p.sort) (start_is_right p.sort valued))

pub over_as_many : (given : List (Option Value)) (vs : List Value) → length given ≡ length vs → length (over given vs) ≡ length vs
over_as_many [] [] e = refl
over_as_many [] (v ∷ vs) e = absurd (omega arith)
over_as_many (t ∷ given) [] e = absurd (omega arith)
over_as_many (Some t ∷ given) (v ∷ vs) e = ap suc (over_as_many given vs (omega arith))
over_as_many (None ∷ given) (v ∷ vs) e = ap suc (over_as_many given vs (omega arith))

over_right : (p : Value → Bool) (given : List (Option Value)) (vs : List Value) → list_all (holds_where_there p) given ≡ true → list_all p vs ≡ true → list_all p (over given vs) ≡ true
over_right p [] vs e f = refl
over_right p (Some t ∷ given) [] e f = refl
over_right p (None ∷ given) [] e f = refl
over_right p (Some t ∷ given) (v ∷ vs) e f =
    let (here, more) = and_parts (p t) (list_all (holds_where_there p) given) e in
    let (_, rest) = and_parts (p v) (list_all p vs) f in
    and_from (p t) (list_all p (over given vs)) here (over_right p given vs more rest)
over_right p (None ∷ given) (v ∷ vs) e f =
    let (here, rest) = and_parts (p v) (list_all p vs) f in
    and_from (p v) (list_all p (over given vs)) here (over_right p given vs e rest)

pub cell_sound : (tasks : ℕ) (p : PersInfo) → IsSoundInfo tasks p → is_pers_cell tasks (pers_cell p) ≡ true
cell_sound tasks p is =
    let vs = declared_values p in
    let first = over p.given vs in
    let (many, right) = and_parts (length vs == width p.len) (list_all (is_value_of p.sort) vs) (declared_are_right p p.declared is.valued is.declared) in
    let as_many : length p.given ≡ length vs = omega (arith, is.as_many, eqb-true (length vs) (width p.len) many) in
    let owner = holds_where_there (λ task. nat_lt task tasks) p.owner in
    let len = holds_where_there (is_within 1 1_000) p.len in
    and_from (owner && len && length first == width p.len) (list_all (is_value_of p.sort) first)
    (and_from (owner && len) (length first == width p.len) (and_from owner len is.owner is.len)
    (eq-eqb _ _ (over_as_many p.given vs as_many ∙ eqb-true (length vs) (width p.len) many)))
    (over_right (is_value_of p.sort) p.given vs is.given right)
