-- The persistents and meetings of a cell: which of its tasks' trees are the same, their numbers, and the first values
-- of persistents (RAPID Overview, persistent data; RAPID Instructions, WaitSyncTask).
use Rattle.std.specs.Prelude.{ℕ, ◌+◌, ◌-◌, Bool, true, false, not, ◌&&◌, ◌==◌, nat_le, List, [], ◌∷◌, ◌++◌, codes, length, position, set, replicate, Option, Some, None, is_some, is_none, slice_get, Result, Ok, Err, if◌then◌else◌}
use Rattle.std.specs.Option.{option_or}
use Rattle.std.specs.Str.{str_eq_ignore_ascii_case}
use Rattle.rapid_model.specs.declared.pers_value.PersValue.{PersValue}
use Rattle.rapid_model.specs.declared.script_rule.ScriptRule.{ScriptRule}
use Rattle.rapid_model.specs.declared.script_rule.ScriptRule.TheVariants.{NoSuch, Kind, Range, Twice}
use Rattle.rapid_model.specs.declared.sort.Sort.{Sort}
use Rattle.rapid_model.specs.declared.sort.Sort.TheVariants as sorts
use Rattle.rapid_model.specs.declared.value.Value.{Value}
use Rattle.rapid_model.specs.declared.value.Value.TheVariants as values
use Rattle.rapid_model.specs.Sorts.{width}
use Rattle.typed_trees.specs.Plain.{TypedPers, TypedTree}
use Rattle.rule_checks.specs.Checks.{◌>>=◌, ◌>>◌, must}
use Rattle.cell_script.specs.Break.{element_key}
use Rattle.named_data.specs.Wants.{same_sort}

-- why no cell is made: two declarations of one persistent differ, and the later one is here; or a rule of the script is
-- broken at a key
pub data CellBreak : Type 0 where
  Clash : ℕ → ℕ → ℕ → CellBreak
  InScript : List ℕ → ScriptRule → CellBreak

abbrev pub Making : Type 0 → Type 0
Making A = Result A CellBreak

-- A persistent of the cell: its name as first spelled, its task unless it is global, its type, its length if it is an
-- array, the values that a declaration gives, if any, and those that the script gives to its elements.
pub record PersInfo : Type 0 where
  pub name : List ℕ
  pub owner : Option ℕ
  pub sort : Sort
  pub len : Option ℕ
  pub declared : Option (List Value)
  pub given : List (Option Value)

abbrev pub same_len : Option ℕ → Option ℕ → Bool
same_len None None = true
same_len (Some m) (Some n) = m == n
same_len _ _ = false

-- a global persistent with this name
abbrev pub is_global : List ℕ → PersInfo → Bool
is_global name p = is_none p.owner && str_eq_ignore_ascii_case name p.name

-- the number of the first global persistent with this name
abbrev pub global_number : List ℕ → List PersInfo → Option ℕ
global_number name ps = position (is_global name) ps

abbrev pub new_pers : Option ℕ → TypedPers → PersInfo
new_pers owner row = record {
  name = row.name;
  owner = owner;
  sort = row.sort;
  len = row.len;
  declared = row.first;
  given = replicate (width row.len) None;
}

-- the first declaration that gives values wins
abbrev pub with_declared : PersInfo → TypedPers → PersInfo
with_declared p row = record {
  name = p.name;
  owner = p.owner;
  sort = p.sort;
  len = p.len;
  declared = option_or p.declared row.first;
  given = p.given;
}

-- the persistents so far, and the numbers of those of the current tree
pub record Numbered : Type 0 where
  pub pers : List PersInfo
  pub numbers : List ℕ

abbrev pub added : Numbered → PersInfo → Numbered
added n p = record { pers = n.pers ++ p ∷ []; numbers = n.numbers ++ length n.pers ∷ [] }

abbrev pub joined : Numbered → ℕ → PersInfo → Numbered
joined n number p = record { pers = set n.pers number p; numbers = n.numbers ++ number ∷ [] }

-- one more declaration of a global persistent has the same type and length
abbrev pub join : Numbered → ℕ → TypedPers → ℕ → Option PersInfo → Making Numbered
join n task row number None = Ok (added n (new_pers None row))
join n task row number (Some p) =
    if same_sort p.sort row.sort && same_len p.len row.len then Ok (joined n number (with_declared p row)) else Err (Clash task row.«module» row.at)

abbrev pub global_pers : Numbered → ℕ → TypedPers → Option ℕ → Making Numbered
global_pers n task row None = Ok (added n (new_pers None row))
global_pers n task row (Some number) = join n task row number (slice_get n.pers number)

-- a PERS of a tree: the task's own, or a global one
abbrev pub one_pers : Numbered → ℕ → TypedPers → Making Numbered
one_pers n task row =
    if row.own then Ok (added n (new_pers (Some task) row)) else global_pers n task row (global_number row.name n.pers)

abbrev pub all_pers : Numbered → ℕ → List TypedPers → Making Numbered
all_pers n task [] = Ok n
all_pers n task (row ∷ rows) = one_pers n task row >>= (λ m. all_pers m task rows)

-- the persistents of the cell, and for each tree the numbers of its own
pub record PersTables : Type 0 where
  pub pers : List PersInfo
  pub lists : List (List ℕ)

abbrev pub with_list : PersTables → Numbered → PersTables
with_list t n = record { pers = n.pers; lists = t.lists ++ n.numbers ∷ [] }

-- the trees; the first is that of the task with this number
abbrev pub trees_pers : PersTables → ℕ → List TypedTree → Making PersTables
trees_pers t task [] = Ok t
trees_pers t task (tree ∷ trees) =
    all_pers (record { pers = t.pers; numbers = [] }) task tree.pers >>= (λ n. trees_pers (with_list t n) (task + 1) trees)

-- a value that a script may give to data of this type
abbrev pub is_script_value : Sort → Value → Bool
is_script_value sorts.Num (values.Num n) = true
is_script_value sorts.Bool (values.Bool b) = true
is_script_value sorts.Text (values.Text t) = true
is_script_value _ _ = false

-- an element of an array, or a whole persistent that is not an array
abbrev pub fits_index : Option ℕ → Option ℕ → Bool
fits_index len index = if is_some len then is_some index else is_none index

-- the element, from 0, that an index from 1 names
abbrev pub element : Option ℕ → ℕ
element None = 0
element (Some index) = index - 1

abbrev pub key_of : ℕ → List ℕ
key_of number = element_key (codes "pers") number

-- a rule that the value with this number breaks
abbrev pub at_value : ℕ → ScriptRule → CellBreak
at_value number rule = InScript (key_of number) rule

abbrev pub is_given : Option (Option Value) → Bool
is_given (Some (Some v)) = true
is_given _ = false

abbrev pub with_given : PersInfo → ℕ → Value → PersInfo
with_given p index value = record {
  name = p.name;
  owner = p.owner;
  sort = p.sort;
  len = p.len;
  declared = p.declared;
  given = set p.given index (Some value);
}

-- the script's value with this number, for the persistent that it names
abbrev pub give_to : List PersInfo → ℕ → PersValue → ℕ → Option PersInfo → Making (List PersInfo)
give_to ps number row k None = Err (at_value number NoSuch)
give_to ps number row k (Some p) =
    must (is_script_value p.sort row.value && fits_index p.len row.index) (at_value number Kind)
    >> (must (nat_le (element row.index + 1) (width p.len)) (at_value number Range)
    >> (must (not (is_given (slice_get p.given (element row.index)))) (at_value number Twice)
    >> Ok (set ps k (with_given p (element row.index) row.value))))

abbrev pub give_global : List PersInfo → ℕ → PersValue → Option ℕ → Making (List PersInfo)
give_global ps number row None = Err (at_value number NoSuch)
give_global ps number row (Some k) = give_to ps number row k (slice_get ps k)

abbrev pub give : List PersInfo → ℕ → PersValue → Making (List PersInfo)
give ps number row = give_global ps number row (global_number row.name ps)

-- the values of the script; the first has this number
abbrev pub give_all : List PersInfo → ℕ → List PersValue → Making (List PersInfo)
give_all ps number [] = Ok ps
give_all ps number (row ∷ rows) = give ps number row >>= (λ qs. give_all qs (number + 1) rows)

-- the number of the first meeting with this name
abbrev pub meeting_number : List ℕ → List (List ℕ) → Option ℕ
meeting_number name names = position (str_eq_ignore_ascii_case name) names

-- meetings so far, and the numbers of those of the current tree
pub record Meetings : Type 0 where
  pub names : List (List ℕ)
  pub numbers : List ℕ

abbrev pub met : Meetings → List ℕ → Option ℕ → Meetings
met m name (Some number) = record { names = m.names; numbers = m.numbers ++ number ∷ [] }
met m name None = record { names = m.names ++ name ∷ []; numbers = m.numbers ++ length m.names ∷ [] }

abbrev pub meet_all : Meetings → List (List ℕ) → Meetings
meet_all m [] = m
meet_all m (name ∷ names) = meet_all (met m name (meeting_number name m.names)) names

pub record MeetingTables : Type 0 where
  pub names : List (List ℕ)
  pub lists : List (List ℕ)

abbrev pub meetings_with : MeetingTables → Meetings → MeetingTables
meetings_with t m = record { names = m.names; lists = t.lists ++ m.numbers ∷ [] }

-- meetings with the same name are the same
abbrev pub trees_meetings : MeetingTables → List TypedTree → MeetingTables
trees_meetings t [] = t
trees_meetings t (tree ∷ trees) =
    trees_meetings (meetings_with t (meet_all (record { names = t.names; numbers = [] }) tree.meetings)) trees

-- the persistents and the meetings of a cell, and for each tree the numbers of its own
pub record CellTables : Type 0 where
  pub pers : List PersInfo
  pub pers_of : List (List ℕ)
  pub meetings : List (List ℕ)
  pub meeting_of : List (List ℕ)

abbrev pub tables : PersTables → List PersInfo → MeetingTables → CellTables
tables t ps m = record { pers = ps; pers_of = t.lists; meetings = m.names; meeting_of = m.lists }

-- for a script with these values of persistents, and the trees of its tasks
abbrev pub cell_tables : List PersValue → List TypedTree → Making CellTables
cell_tables rows trees =
    trees_pers (record { pers = []; lists = [] }) 0 trees >>= (λ t.
    give_all t.pers 0 rows >>= (λ ps.
    Ok (tables t ps (trees_meetings (record { names = []; lists = [] }) trees))))
