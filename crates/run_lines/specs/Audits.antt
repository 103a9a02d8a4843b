-- What is printed of the audit of a history, and its status.
use Rattle.std.specs.Prelude.{ℕ, Bool, true, false, List, ◌∷◌, ◌++◌, codes, decimal, Result, Ok, Err}
use Rattle.rapid_model.specs.declared.task_row.TaskRow.{TaskRow}
use Rattle.history_text.specs.EventWords.{answer_words, request_words}
use Rattle.history_text.specs.Lines.{task_name}
use Rattle.history_audit.specs.declared.audit_fault.AuditFault.{AuditFault}
use Rattle.history_audit.specs.declared.audit_fault.AuditFault.TheVariants as faults
use Rattle.history_audit.specs.declared.wrong.Wrong.{Wrong}
use Rattle.history_audit.specs.declared.wrong.Wrong.TheVariants as wrongs

abbrev pub whole_words : Bool → List ℕ
whole_words true = codes "whole"
whole_words false = codes "open"

-- what is wrong with an event: what its actor asks, or what the cell answers
abbrev pub wrong_words : Wrong → List ℕ
wrong_words wrongs.Ended = codes "ended"
wrong_words (wrongs.Asks request) = codes "asks " ++ request_words request
wrong_words wrongs.Waits = codes "waits"
wrong_words wrongs.Spent = codes "spent"
wrong_words (wrongs.Answers answer) = codes "answers " ++ answer_words answer

-- the words of a line between its first letter and its end, for a history of this many events
abbrev pub found_words : List TaskRow → ℕ → Result Bool AuditFault → List ℕ
found_words tasks count (Ok whole) = codes "legal " ++ (decimal count ++ (32 ∷ whole_words whole))
found_words tasks count (Err (faults.Event at wrong)) = codes "event " ++ (decimal at ++ (32 ∷ wrong_words wrong))
found_words tasks count (Err (faults.Fate task)) = codes "fate " ++ task_name tasks task

-- A, and what was found
abbrev pub audit_line : List TaskRow → ℕ → Result Bool AuditFault → List ℕ
audit_line tasks count found = codes "A " ++ (found_words tasks count found ++ codes "\n")

-- 0 for a legal history, 12 for another
abbrev pub audit_status : Result Bool AuditFault → ℕ
audit_status (Ok whole) = 0
audit_status (Err fault) = 12
