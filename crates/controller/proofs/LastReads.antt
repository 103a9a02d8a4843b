-- The file that an action reads last, after all else is accepted.
use Rattle.std.proofs.Common.{◌≡◌, ℕ, List, [], ◌∷◌, ◌++◌, length, Some, Ok, Err, refl, ap, sym, ◌∙◌, subst, ◌⊎◌, inl, inr}
use Rattle.std.specs.Prelude.{IsTrue, Option, Result, slice_get}
use Rattle.std.proofs.lemmas.Bool.{false≢true}
use Rattle.std.specs.Option.{unwrap_or}
use Rattle.outside.specs.Told.{Told}
use Rattle.rapid_model.proofs.Lists.{between}
use Rattle.cell_assembly.specs.Made.{MadeCell}
use Rattle.state_text.specs.StateLines.{SourcesData}
use Rattle.command_words.specs.declared.command.Action.{Action}
use Rattle.command_words.specs.declared.command.Action.TheVariants as actions
use Rattle.cell_loading.specs.declared.refused.Refused.{Refused}
use Rattle.cell_loading.specs.declared.refused.Refused.TheVariants as refusals
use Rattle.controller.specs.declared.report.Report.{Report}
use Rattle.rapid_limits.specs.declared.TheConstants.{HISTORY_BYTES}
use Rattle.cell_loading.specs.Files.{IsUnread, Reads}
use Rattle.controller.specs.Accepted.{Verdict, audits, refuses, states, prints_places, reads_history, ActionDecides, ActionReads, HistoryDecides}
use Rattle.cell_loading.specs.ReadModules.{file_text}
use Rattle.controller.specs.Answered.{AnswersWords, IsRefused}
use Rattle.controller.specs.Asked.{IsAsked, IsToDo}
use Rattle.sink_lines.specs.Printed.{Sunk}
use Rattle.controller.specs.RefusalLines.{name_at, refusal_line, refusal_text}
use Rattle.sink_lines.specs.Written.{TakesLine}
use Rattle.controller.proofs.Exits.{out_of_memory}

-- only actions that read a history depend on it
as_read : (action : Action) (last : List ℕ) (read : Result (List ℕ) Refused) (text : List ℕ) (names : List (List ℕ)) (sources : List SourcesData) (made : MadeCell) (verdict : Verdict)
    → (IsTrue (reads_history action) → read ≡ Ok text) → ActionDecides (Some action) last (Ok text) names sources made verdict → ActionDecides (Some action) last read names sources made verdict
as_read actions.Check last read text names sources made verdict is d = d
as_read (actions.Round full) last read text names sources made verdict is d = d
as_read (actions.Run full) last read text names sources made verdict is d = d
as_read actions.List last read text names sources made verdict is d = d
as_read (actions.Load moves) last read text names sources made verdict is d = d
as_read actions.Clearance last read text names sources made verdict is d = d
as_read actions.Trace last read text names sources made verdict is d = d
as_read actions.Migrate last read text names sources made verdict is d = d
as_read actions.Audit last read text names sources made verdict is d =
    subst (λ (r : Result (List ℕ) Refused). HistoryDecides (audits (names ++ last ∷ []) made.cell made.trees) r (names ++ last ∷ []) made.cell verdict) (sym (is refl)) d
as_read actions.State last read text names sources made verdict is d =
    subst (λ (r : Result (List ℕ) Refused). HistoryDecides (states (names ++ last ∷ []) made.cell made.trees sources) r (names ++ last ∷ []) made.cell verdict) (sym (is refl)) d

-- and only those that print places on the modules
as_kept : (action : Action) (last : List ℕ) (read : Result (List ℕ) Refused) (names : List (List ℕ)) (sources kept : List SourcesData) (made : MadeCell) (verdict : Verdict)
    → (IsTrue (prints_places action) → kept ≡ sources) → ActionDecides (Some action) last read names kept made verdict → ActionDecides (Some action) last read names sources made verdict
as_kept actions.Check last read names sources kept made verdict is d = d
as_kept (actions.Round full) last read names sources kept made verdict is d = d
as_kept (actions.Run full) last read names sources kept made verdict is d = d
as_kept actions.List last read names sources kept made verdict is d = d
as_kept (actions.Load moves) last read names sources kept made verdict is d = d
as_kept actions.Clearance last read names sources kept made verdict is d = d
as_kept actions.Trace last read names sources kept made verdict is d = subst (λ (s : List SourcesData). ActionDecides (Some actions.Trace) last read names s made verdict) (is refl) d
as_kept actions.Migrate last read names sources kept made verdict is d = d
as_kept actions.Audit last read names sources kept made verdict is d = d
as_kept actions.State last read names sources kept made verdict is d = subst (λ (s : List SourcesData). ActionDecides (Some actions.State) last read names s made verdict) (is refl) d

-- the action with the text of that file, and with the modules that it keeps
pub text_asked : (words : List (List ℕ)) (told : Option Told) (action : Action) (gave : Reads) (last text : List ℕ) (names : List (List ℕ)) (sources kept : List SourcesData) (made : MadeCell)
    → (IsTrue (reads_history action) → file_text gave (length names) HISTORY_BYTES last ≡ Ok text) → (IsTrue (prints_places action) → kept ≡ sources) → IsToDo words told (ActionReads (Some action) gave last) names sources made
    → IsAsked words told action made kept text
text_asked words told action gave last text names sources kept made is kept_is to_do = record {
  names = names;
  last = last;
  verdicts = λ verdict d.
      to_do.verdicts verdict
      (as_kept action last (file_text gave (length names) HISTORY_BYTES last) names sources kept made verdict kept_is
      (as_read action last (file_text gave (length names) HISTORY_BYTES last) text names kept made verdict is d));
}

-- the name of that file
last_name : (names : List (List ℕ)) (last : List ℕ) (file : ℕ) → file ≡ length names → name_at (names ++ last ∷ []) file ≡ last
last_name names last file is = ap (name_at (names ++ last ∷ [])) is ∙ ap (λ (name : Option (List ℕ)). unwrap_or name []) (between names [] last)

-- the line if it is not read
last_line : (names : List (List ℕ)) (last : List ℕ) (file : ℕ) (refused : Refused) → IsUnread file refused → file ≡ length names → refusal_text last refused ≡ refusal_line (names ++ last ∷ []) refused
last_line names last file (refusals.Words place) unread is = absurd unread
last_line names last file (refusals.Script key rule) unread is = absurd unread
last_line names last file (refusals.Module other place rule) unread is = absurd unread
last_line names last file (refusals.Read other) unread is = ap (λ (name : List ℕ). refusal_text name (refusals.Read other)) (sym (last_name names last other (unread ∙ is)))
last_line names last file refusals.Write unread is = absurd unread
last_line names last file refusals.Memory unread is = refl
last_line names last file (refusals.TooLong other) unread is = ap (λ (name : List ℕ). refusal_text name (refusals.TooLong other)) (sym (last_name names last other (unread ∙ is)))
last_line names last file (refusals.History line) unread is = absurd unread

pub told_last : (names : List (List ℕ)) (last : List ℕ) (file : ℕ) (refused : Refused) (err : Sunk) → IsUnread file refused → file ≡ length names → TakesLine (refusal_text last refused) err
    → TakesLine (refusal_line (names ++ last ∷ []) refused) err
told_last names last file refused err unread is told = subst (λ (line : List ℕ). TakesLine line err) (last_line names last file refused unread is) told

-- and what that answers

-- an action that reads a history is refused as the read is
history_decides : (action : Action) (last : List ℕ) (names : List (List ℕ)) (sources : List SourcesData) (made : MadeCell) (refused : Refused) → IsTrue (reads_history action)
    → ActionDecides (Some action) last (Err refused) names sources made (refuses (names ++ last ∷ []) refused)
history_decides actions.Audit last names sources made refused is = refl
history_decides actions.State last names sources made refused is = refl
history_decides actions.Check last names sources made refused is = absurd (false≢true is)
history_decides (actions.Round full) last names sources made refused is = absurd (false≢true is)
history_decides (actions.Run full) last names sources made refused is = absurd (false≢true is)
history_decides actions.List last names sources made refused is = absurd (false≢true is)
history_decides (actions.Load moves) last names sources made refused is = absurd (false≢true is)
history_decides actions.Clearance last names sources made refused is = absurd (false≢true is)
history_decides actions.Trace last names sources made refused is = absurd (false≢true is)
history_decides actions.Migrate last names sources made refused is = absurd (false≢true is)

pub last_refused : (words : List (List ℕ)) (told : Option Told) (action : Action) (gave : Reads) (last : List ℕ) (names : List (List ℕ)) (sources : List SourcesData) (made : MadeCell) (refused : Refused) (report : Report)
    (out err : Sunk) → IsTrue (reads_history action) → (refused ≡ refusals.Memory) ⊎ (file_text gave (length names) HISTORY_BYTES last ≡ Err refused)
    → IsToDo words told (ActionReads (Some action) gave last) names sources made → IsRefused (names ++ last ∷ []) refused report out err → AnswersWords words told report out err
last_refused words told action gave last names sources made refused report out err reads (inl memory) to_do r = inl (out_of_memory (names ++ last ∷ []) refused report out err memory r)
last_refused words told action gave last names sources made refused report out err reads (inr read) to_do r =
    inr (
      refuses (names ++ last ∷ []) refused,
      to_do.verdicts (refuses (names ++ last ∷ []) refused)
          (subst (λ (t : Result (List ℕ) Refused). ActionDecides (Some action) last t names sources made (refuses (names ++ last ∷ []) refused)) (sym read) (history_decides action last names sources made refused reads)),
      r,
    )
