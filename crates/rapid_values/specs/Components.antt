-- The components of the record types (RAPID Instructions, Functions and Data types: robjoint, extjoint, jointtarget,
-- speeddata, tasks).
use Rattle.std.specs.Prelude.{ℕ, List, [], ◌∷◌, codes, Option, None, Some, if◌then◌else◌}
use Rattle.std.specs.Str.{str_eq_ignore_ascii_case}
use Rattle.rapid_model.specs.declared.sort.Sort.{Sort}
use Rattle.rapid_model.specs.declared.sort.Sort.TheVariants as sorts
use Rattle.rapid_model.specs.declared.part_name.PartName.{PartName}
use Rattle.rapid_model.specs.declared.part_name.PartName.TheVariants as parts

-- a component: its name, which part of a value it is, and its type
pub record Component : Type 0 where
  pub name : List ℕ
  pub part : PartName
  pub sort : Sort

abbrev pub axis : List ℕ → ℕ → Component
axis name number = record { name = name; part = parts.Axis number; sort = sorts.Num }

abbrev pub speed : List ℕ → ℕ → Component
speed name number = record { name = name; part = parts.SpeedPart number; sort = sorts.Num }

-- the components of a type, in order; none if it is not a record
abbrev pub components : Sort → List Component
components sorts.RobJoint =
    axis (codes "rax_1") 0 ∷ axis (codes "rax_2") 1 ∷ axis (codes "rax_3") 2 ∷ axis (codes "rax_4") 3 ∷ axis (codes "rax_5") 4
    ∷ axis (codes "rax_6") 5 ∷ []
components sorts.ExtJoint =
    axis (codes "eax_a") 6 ∷ axis (codes "eax_b") 7 ∷ axis (codes "eax_c") 8 ∷ axis (codes "eax_d") 9 ∷ axis (codes "eax_e") 10
    ∷ axis (codes "eax_f") 11 ∷ []
components sorts.JointTarget =
    record { name = codes "robax"; part = parts.Robax; sort = sorts.RobJoint }
    ∷ record { name = codes "extax"; part = parts.Extax; sort = sorts.ExtJoint } ∷ []
components sorts.SpeedData =
    speed (codes "v_tcp") 0 ∷ speed (codes "v_ori") 1 ∷ speed (codes "v_leax") 2 ∷ speed (codes "v_reax") 3 ∷ []
components sorts.Tasks = record { name = codes "taskname"; part = parts.Taskname; sort = sorts.Text } ∷ []
components _ = []

abbrev pub component_of : List ℕ → List Component → Option Component
component_of name [] = None
component_of name (c ∷ cs) = if str_eq_ignore_ascii_case c.name name then Some c else component_of name cs
