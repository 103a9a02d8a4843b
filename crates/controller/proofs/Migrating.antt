-- A script in version 2, from the read of its file.
use Rattle.std.proofs.Common.{◌≡◌, ℕ, ◌≤◌, List, [], ◌∷◌, length, Option, Some, None, Result, Ok, Err, refl, ap, sym, ◌∙◌, subst, ◌⊎◌, inl, inr}
use Rattle.std.specs.Prelude.{IfSome, String, string_bytes}
use Rattle.std.specs.declared.alloc.Global.{Global}
use Rattle.std.proofs.lemmas.Option.{IfSome_then}
use Rattle.rapid_limits.specs.declared.TheConstants.{SCRIPT_BYTES}
use Rattle.outside.specs.Told.{Told, found}
use Rattle.outside.proofs.Counting.{after_reads-zero}
use Rattle.rapid_model.specs.declared.script_rule.ScriptRule.{ScriptRule}
use Rattle.cell_script.specs.ScriptOf.{FaultOf}
use Rattle.cell_script.specs.declared.fault.ScriptFault.{ScriptFault}
use Rattle.cell_script.specs.declared.fault.ScriptFault.TheVariants.{Rule}
use Rattle.command_words.specs.declared.command.Action.{Action}
use Rattle.command_words.specs.declared.command.Action.TheVariants as actions
use Rattle.command_words.specs.Words.{history_name, script_name}
use Rattle.controller.specs.declared.report.Report.{Report}
use Rattle.cell_loading.specs.declared.refused.Refused.{Refused}
use Rattle.cell_loading.specs.declared.refused.Refused.TheVariants as refusals
use Rattle.cell_loading.specs.Files.{Reads, told_reads, text_of, IsUnread}
use Rattle.controller.specs.Accepted.{Verdict, migrates, refuses, Accepted, AloneDecides, AskedDecides, WordsDecide, reads_script_alone}
use Rattle.cell_loading.specs.ReadModules.{file_text}
use Rattle.controller.specs.Ready.{IsMigratedIn}
use Rattle.sink_lines.specs.Printed.{Sunk}
use Rattle.controller.specs.Answered.{AnswersText, AnswersWords, IsRefused, IsVerdict, PrintsBy}
use Rattle.controller.specs.Asked.{AreFor}
use Rattle.controller.proofs.Exits.{is_printed, out_of_memory}
use Rattle.controller.proofs.GivenReads.{AreFrom}
use Rattle.cell_loading.proofs.Loads.{script_breaks, script_stops}
use Rattle.cell_loading.proofs.Untold.{text_within}

-- the script of a text that was read in full
migrated_in : (read : Result (List ℕ) Refused) (text source : List ℕ) (result : Result (String Global) Refused) → read ≡ Ok text → source ≡ text → IsMigratedIn (Ok source) result → IsMigratedIn read result
migrated_in read text source result whole same is = subst (λ (r : Result (List ℕ) Refused). IsMigratedIn r result) (sym (whole ∙ ap Ok (sym same))) is

-- the same for the first file, if the shelf may report its files
pub migrated_read : (told : Option Told) (name text source : List ℕ) (result : Result (String Global) Refused) → IfSome told (λ t. text_of 0 SCRIPT_BYTES (found t name) ≡ Ok text) → source ≡ text
    → IsMigratedIn (Ok source) result → IfSome told (λ t. IsMigratedIn (text_of 0 SCRIPT_BYTES (found t name)) result)
migrated_read told name text source result whole same is =
    IfSome_then told {P = λ t. text_of 0 SCRIPT_BYTES (found t name) ≡ Ok text} {Q = λ t. IsMigratedIn (text_of 0 SCRIPT_BYTES (found t name)) result} whole
    (λ t read. migrated_in (text_of 0 SCRIPT_BYTES (found t name)) text source result read same is)

-- and of the result of some read, whatever the shelf reports
pub migrated_gave : (text source : List ℕ) (result : Result (String Global) Refused) → length text ≤ SCRIPT_BYTES → source ≡ text → IsMigratedIn (Ok source) result
    → (gave : Option (List ℕ)) × IsMigratedIn (text_of 0 SCRIPT_BYTES gave) result
migrated_gave text source result within same is =
    (Some text, migrated_in (text_of 0 SCRIPT_BYTES (Some text)) text source result (text_within 0 SCRIPT_BYTES text within) same is)

-- the file is not read
pub migration_stops : (refused : Refused) → IsUnread 0 refused → (gave : Option (List ℕ)) × IsMigratedIn (text_of 0 SCRIPT_BYTES gave) (Err refused)
migration_stops refused is = script_stops refused is

-- a text that breaks a rule
pub migration_breaks : (text : List ℕ) (fault : ScriptFault) (key : List ℕ) (rule : ScriptRule) → FaultOf text fault → fault ≡ Rule key rule → IsMigratedIn (Ok text) (Err (refusals.Script key rule))
migration_breaks text fault key rule of_text is = script_breaks text fault key rule of_text is

-- words that ask for `migrate` come to what the script's text comes to
alone_decides : (words : List (List ℕ)) (name history : List ℕ) (gave : Reads) (verdict : Verdict) → AreFor words actions.Migrate name history → AloneDecides name (file_text gave 0 SCRIPT_BYTES name) verdict
    → Accepted words gave verdict
alone_decides words name history gave verdict is_for d = record {
  decides =
      subst (λ (o : Option ℕ). WordsDecide gave words o verdict) (sym is_for.taken)
      (subst (λ (a : Option Action). AskedDecides (reads_script_alone a) a gave (script_name words) (history_name words) verdict) (sym is_for.asked_is)
      (subst (λ (n : List ℕ). AloneDecides n (file_text gave 0 SCRIPT_BYTES n) verdict) is_for.name_is d));
}

-- what the read of the script's file came to
pub record GiveMigrated (told : Option Told) (name : List ℕ) (result : Result (String Global) Refused) : Type 0 where
  pub gave : Reads
  pub from : AreFrom told gave
  pub migrated : IsMigratedIn (file_text gave 0 SCRIPT_BYTES name) result

pub migrated_given : (told : Option Told) (name : List ℕ) (result : Result (String Global) Refused) → IfSome told (λ files. IsMigratedIn (text_of 0 SCRIPT_BYTES (found files name)) result)
    → (gave : Option (List ℕ)) × IsMigratedIn (text_of 0 SCRIPT_BYTES gave) result → GiveMigrated told name result
migrated_given None name result here some =
    let gave : Reads = λ file other. some.0 in
    record { gave = gave; from = tt; migrated = some.1 }
migrated_given (Some files) name result here some = record {
  gave = told_reads files;
  from = refl;
  migrated = subst (λ (t : Told). IsMigratedIn (text_of 0 SCRIPT_BYTES (found t name)) result) (sym (after_reads-zero files)) here;
}

-- what it decides is a verdict
alone_verdict : (words : List (List ℕ)) (told : Option Told) (name history : List ℕ) (gave : Reads) (verdict : Verdict) → AreFor words actions.Migrate name history → AreFrom told gave
    → AloneDecides name (file_text gave 0 SCRIPT_BYTES name) verdict → IsVerdict words told verdict
alone_verdict words None name history gave verdict is_for from d = (gave, alone_decides words name history gave verdict is_for d)
alone_verdict words (Some files) name history gave verdict is_for from d =
    subst (λ (g : Reads). Accepted words g verdict) (sym from) (alone_decides words name history gave verdict is_for d)

-- the script is printed
pub script_migrated : (words : List (List ℕ)) (told : Option Told) (name history : List ℕ) (printed : String Global) (seen : List ℕ) (report : Report) (out err : Sunk) → AreFor words actions.Migrate name history
    → GiveMigrated told name (Ok printed) → seen ≡ string_bytes printed → AnswersText seen report out err → AnswersWords words told report out err
script_migrated words told name history printed seen report out err is_for g same answered =
    let m = g.migrated in
    let spelled = m.2 in
    inr (
      migrates (name ∷ []) m.0,
      alone_verdict words told name history g.gave (migrates (name ∷ []) m.0) is_for g.from
          (subst (λ (r : Result (List ℕ) Refused). AloneDecides name r (migrates (name ∷ []) m.0)) (sym m.1)
          (Ok spelled.script, (spelled.text.members, spelled.text.read, spelled.before), refl)),
      (string_bytes printed, spelled, answered.0, is_printed (subst (λ (text : List ℕ). PrintsBy 0 (text ∷ []) report out err) same answered.1)),
    )

-- or refused
pub migration_refused : (words : List (List ℕ)) (told : Option Told) (name history : List ℕ) (refused : Refused) (report : Report) (out err : Sunk) → AreFor words actions.Migrate name history
    → GiveMigrated told name (Err refused) → IsRefused (name ∷ []) refused report out err → AnswersWords words told report out err
migration_refused words told name history refused report out err is_for g r = by g.migrated
  where
    from : (read : Result (List ℕ) Refused) → file_text g.gave 0 SCRIPT_BYTES name ≡ read → AloneDecides name read (refuses (name ∷ []) refused) → AnswersWords words told report out err
    from read is d =
        inr (
          refuses (name ∷ []) refused,
          alone_verdict words told name history g.gave (refuses (name ∷ []) refused) is_for g.from
              (subst (λ (t : Result (List ℕ) Refused). AloneDecides name t (refuses (name ∷ []) refused)) (sym is) d),
          r,
        )

    by : IsMigratedIn (file_text g.gave 0 SCRIPT_BYTES name) (Err refused) → AnswersWords words told report out err
    by (inl memory) = inl (out_of_memory (name ∷ []) refused report out err memory r)
    by (inr (inl read)) = from (Err refused) read refl
    by (inr (inr rule)) = from (Ok rule.0) rule.2 (Err rule.1, rule.3, ap (refuses (name ∷ [])) rule.4)
