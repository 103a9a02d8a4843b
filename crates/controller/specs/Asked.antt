-- How words and files lead to an action with a cell, step by step.
use Rattle.std.specs.Prelude.{◌≡◌, ℕ, List, Option, Some, None, Result, Ok}
use Rattle.rapid_limits.specs.declared.TheConstants.{SCRIPT_BYTES}
use Rattle.outside.specs.Told.{Told}
use Rattle.rapid_model.specs.ScriptData.{ScriptData, module_names}
use Rattle.cell_assembly.specs.Made.{MadeCell}
use Rattle.state_text.specs.StateLines.{SourcesData}
use Rattle.command_words.specs.declared.command.Action.{Action}
use Rattle.cell_loading.specs.declared.refused.Refused.{Refused}
use Rattle.command_words.specs.Words.{refused_place, script_name, history_name, asked}
use Rattle.cell_loading.specs.Files.{Reads}
use Rattle.controller.specs.Accepted.{Doing, Verdict, ActionDecides, ActionReads, FilesDecide}
use Rattle.cell_loading.specs.ReadModules.{file_text}
use Rattle.cell_loading.specs.Loaded.{AreTexts, IsScriptIn}
use Rattle.controller.specs.Answered.{IsVerdict}

-- the words are taken, and ask for this action with a script of this name, and with a history of that
pub record AreFor (words : List (List ℕ)) (action : Action) (name history : List ℕ) : Type 0 where
  pub taken : refused_place words ≡ None
  pub asked_is : asked words ≡ Some action
  pub name_is : name ≡ script_name words
  pub history_is : history ≡ history_name words

-- The reads of the action's files gave this script, unless out of memory; and what the files come to is a verdict on
-- the words and the files.
pub record GiveScript (words : List (List ℕ)) (told : Option Told) (action : Action) (name history : List ℕ) (result : Result ScriptData Refused) : Type 0 where
  pub gave : Reads
  pub verdicts : (verdict : Verdict) → FilesDecide (ActionReads (Some action) gave history) gave name verdict → IsVerdict words told verdict
  pub script_is : IsScriptIn (file_text gave 0 SCRIPT_BYTES name) result

-- The same, with these texts of its modules, up to the first one that is not read.
pub record GiveTexts (words : List (List ℕ)) (told : Option Told) (action : Action) (name history : List ℕ) (script : ScriptData) (texts : List (List ℕ)) (failed : Option Refused) : Type 0 where
  pub given : GiveScript words told action name history (Ok script)
  pub texts_are : AreTexts given.gave 1 (module_names script.tasks) texts failed

-- what is done with this cell and these modules, after the files with these names, is a verdict on the words and the files
pub record IsToDo (words : List (List ℕ)) (told : Option Told) (acts : Doing) (names : List (List ℕ)) (sources : List SourcesData) (made : MadeCell) : Type 0 where
  pub verdicts : (verdict : Verdict) → acts names sources made verdict → IsVerdict words told verdict

-- The action with this cell, with these modules if it prints places, and with this text of the file that it reads last,
-- is what the words and the files come to: whatever it comes to is a verdict on them.
pub record IsAsked (words : List (List ℕ)) (told : Option Told) (action : Action) (made : MadeCell) (sources : List SourcesData) (text : List ℕ) : Type 0 where
  pub names : List (List ℕ)
  pub last : List ℕ
  pub verdicts : (verdict : Verdict) → ActionDecides (Some action) last (Ok text) names sources made verdict → IsVerdict words told verdict
