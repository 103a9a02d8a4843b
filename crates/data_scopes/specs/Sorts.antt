-- Whether two types are the same, and the types that predefined names are.
use Rattle.std.specs.Prelude.{Bool, true, false, Option, Some, None}
use Rattle.rapid_model.specs.declared.predefined.Predefined.{Predefined}
use Rattle.rapid_model.specs.declared.predefined.Predefined.TheVariants as names
use Rattle.rapid_model.specs.declared.sort.Sort.{Sort}
use Rattle.rapid_model.specs.declared.sort.Sort.TheVariants as sorts

abbrev pub same_sort : Sort → Sort → Bool
same_sort sorts.Num sorts.Num = true
same_sort sorts.Bool sorts.Bool = true
same_sort sorts.Text sorts.Text = true
same_sort sorts.RobJoint sorts.RobJoint = true
same_sort sorts.ExtJoint sorts.ExtJoint = true
same_sort sorts.JointTarget sorts.JointTarget = true
same_sort sorts.SpeedData sorts.SpeedData = true
same_sort sorts.Tasks sorts.Tasks = true
same_sort sorts.IntNum sorts.IntNum = true
same_sort sorts.SyncIdent sorts.SyncIdent = true
same_sort sorts.ShapeData sorts.ShapeData = true
same_sort sorts.WzTemporary sorts.WzTemporary = true
same_sort sorts.WzStationary sorts.WzStationary = true
same_sort _ _ = false

-- the type of data that a predefined name is, if it is one; signaldi and signaldo belong to the script's signals
abbrev pub sort_of : Predefined → Option Sort
sort_of names.Num = Some sorts.Num
sort_of names.ErrNum = Some sorts.Num
sort_of names.DioNum = Some sorts.Num
sort_of names.Bool = Some sorts.Bool
sort_of names.String = Some sorts.Text
sort_of names.RobJoint = Some sorts.RobJoint
sort_of names.ExtJoint = Some sorts.ExtJoint
sort_of names.JointTarget = Some sorts.JointTarget
sort_of names.SpeedData = Some sorts.SpeedData
sort_of names.Tasks = Some sorts.Tasks
sort_of names.IntNum = Some sorts.IntNum
sort_of names.SyncIdent = Some sorts.SyncIdent
sort_of names.ShapeData = Some sorts.ShapeData
sort_of names.WzTemporary = Some sorts.WzTemporary
sort_of names.WzStationary = Some sorts.WzStationary
sort_of _ = None
