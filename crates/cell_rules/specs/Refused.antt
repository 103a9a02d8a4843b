-- Why a script and its tasks' trees have no cell.
use Rattle.std.specs.Prelude.{◌≡◌, ℕ, ◌<◌, List, length, Some, codes, slice_get}
use Rattle.rapid_model.specs.ScriptData.{ScriptData}
use Rattle.rapid_model.specs.declared.pers_value.PersValue.{PersValue}
use Rattle.rapid_model.specs.declared.script_rule.ScriptRule.{ScriptRule}
use Rattle.typed_trees.specs.Plain.{TypedTree}
use Rattle.cell_script.specs.Break.{element_key}
use Rattle.cell_assembly.specs.Cells.{CellBreak, Clash, InScript}
use Rattle.cell_rules.specs.Declared.{AreAlike, AreAlikeBefore, AreOne, Declared, declared_by}
use Rattle.cell_rules.specs.Given.{Breaks, IsRight}

-- the first declaration that differs in type or length from an earlier one of the same persistent: its task, its module
-- and the byte of its name
pub record IsClash (declared : List Declared) (task «module» at : ℕ) : Type 0 where
  pub index : ℕ
  pub d : Declared
  pub there : slice_get declared index ≡ Some d
  pub before : ℕ
  pub e : Declared
  pub earlier : before < index
  pub stands : slice_get declared before ≡ Some e
  pub one : AreOne e d
  pub differ : AreAlike e.row d.row → ⊥
  pub alike_before : AreAlikeBefore index declared
  pub is_task : task ≡ d.task
  pub is_module : «module» ≡ d.row.«module»
  pub is_at : at ≡ d.row.at

-- declarations of the same persistent agree, and the first of the script's values that breaks a rule breaks this one
pub record IsBroken (declared : List Declared) (given : List PersValue) (key : List ℕ) (rule : ScriptRule) : Type 0 where
  pub alike : AreAlikeBefore (length declared) declared
  pub number : ℕ
  pub value : PersValue
  pub there : slice_get given number ≡ Some value
  pub is_key : key ≡ element_key (codes "pers") number
  pub breaks : Breaks declared given number value rule
  pub right_before : (before : ℕ) (other : PersValue) → before < number → slice_get given before ≡ Some other → IsRight declared given before other

-- clashes take precedence over the script's values
abbrev pub IsRefusal : List Declared → List PersValue → CellBreak → Type 0
IsRefusal declared given (Clash task «module» at) = IsClash declared task «module» at
IsRefusal declared given (InScript key rule) = IsBroken declared given key rule

abbrev pub IsRefused : ScriptData → List TypedTree → CellBreak → Type 0
IsRefused script trees broken = IsRefusal (declared_by trees) script.pers broken
