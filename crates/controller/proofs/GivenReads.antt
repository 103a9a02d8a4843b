-- The results of a call's reads, as far as loading reports them: from a shelf that reports its files, from one that
-- reports nothing, and of the texts of the load cell.
use Rattle.std.proofs.Common.{◌≡◌, ◌≢◌, Bool, false, ℕ, suc, ◌+◌, ◌<◌, ◌≤◌, List, ◌∷◌, length, get_or, refl, ap, sym, ◌∙◌, subst, arith}
use Rattle.std.specs.Borrow.{Bor}
use Rattle.std.specs.Prelude.{Option, Some, None, IfSome, IfOk, IfErr, IsTrue, option_map, Result, Ok, Err, Vec, All}
use Rattle.std.specs.declared.alloc.Global.{Global}
use Rattle.std.proofs.lemmas.List.{length-map}
use Rattle.rapid_limits.specs.declared.TheConstants.{HISTORY_BYTES, MODULE_BYTES, SCRIPT_BYTES}
use Rattle.outside.specs.Told.{Told, found, after_reads}
use Rattle.outside.proofs.Counting.{after_reads-zero}
use Rattle.rapid_model.specs.ScriptData.{ScriptData, module_names}
use Rattle.command_words.specs.declared.command.Action.{Action}
use Rattle.command_words.specs.declared.command.Action.TheVariants as actions
use Rattle.cell_loading.specs.declared.refused.Refused.{Refused}
use Rattle.command_words.specs.Words.{history_name, script_name}
use Rattle.cell_loading.specs.Files.{GivesText, Reads, told_reads, text_of, IsUnread}
use Rattle.cell_loading.specs.LoadFiles.{load_reads}
use Rattle.controller.specs.Accepted.{Verdict, Accepted, ActionReads, AskedDecides, FilesDecide, WordsDecide, reads_for, reads_script_alone, reads_history}
use Rattle.cell_loading.specs.ReadModules.{file_text}
use Rattle.cell_loading.specs.Loaded.{names_in_turn, bytes_of, IsWithin, IsScriptIn, AreTexts}
use Rattle.controller.specs.Answered.{IsVerdict}
use Rattle.controller.specs.Asked.{AreFor, GiveScript, GiveTexts}
use Rattle.cell_loading.proofs.Untold.{Stops, unread_gave, behind, behind_end, text_within, texts_given}

-- words that are taken come to what their files come to, if the modules are among them
files_decide : (words : List (List ℕ)) (action : Action) (name history : List ℕ) (gave : Reads) (verdict : Verdict) → AreFor words action name history → reads_script_alone (Some action) ≡ false
    → FilesDecide (ActionReads (Some action) (reads_for (Some action) gave) history) (reads_for (Some action) gave) name verdict → Accepted words gave verdict
files_decide words action name history gave verdict is_for modules d = record {
  decides =
      subst (λ (o : Option ℕ). WordsDecide gave words o verdict) (sym is_for.taken)
      (subst (λ (a : Option Action). AskedDecides (reads_script_alone a) a gave (script_name words) (history_name words) verdict) (sym is_for.asked_is)
      (subst (λ (n : List ℕ). AskedDecides (reads_script_alone (Some action)) (Some action) gave n (history_name words) verdict) is_for.name_is
      (subst (λ (h : List ℕ). AskedDecides (reads_script_alone (Some action)) (Some action) gave name h verdict) is_for.history_is
      (subst (λ (b : Bool). AskedDecides b (Some action) gave name history verdict) (sym modules) d))));
}

-- the action reads the shelf's files, the modules among them
abbrev pub ReadsFiles : Action → Type 0
ReadsFiles action = ((moves : ℕ) → action ≢ actions.Load moves) × (action ≢ actions.Migrate)

reads_modules : (action : Action) → action ≢ actions.Migrate → reads_script_alone (Some action) ≡ false
reads_modules actions.Check other = refl
reads_modules (actions.Round full) other = refl
reads_modules (actions.Run full) other = refl
reads_modules actions.List other = refl
reads_modules (actions.Load moves) other = refl
reads_modules actions.Audit other = refl
reads_modules actions.State other = refl
reads_modules actions.Clearance other = refl
reads_modules actions.Trace other = refl
reads_modules actions.Migrate other = absurd (other refl)

files_read : (action : Action) (gave : Reads) → ReadsFiles action → reads_for (Some action) gave ≡ gave
files_read actions.Check gave reads = refl
files_read (actions.Round full) gave reads = refl
files_read (actions.Run full) gave reads = refl
files_read actions.List gave reads = refl
files_read actions.Audit gave reads = refl
files_read actions.State gave reads = refl
files_read actions.Clearance gave reads = refl
files_read actions.Trace gave reads = refl
files_read (actions.Load moves) gave reads = absurd (reads.0 moves refl)
files_read actions.Migrate gave reads = absurd (reads.1 refl)

-- the results of a call's reads: those that the shelf reports, if it reports its files
abbrev pub AreFrom : Option Told → Reads → Type 0
AreFrom None gave = Unit {0}
AreFrom (Some files) gave = told_reads files ≡ gave

-- what they come to is a verdict
shelf_verdict : (words : List (List ℕ)) (told : Option Told) (action : Action) (name history : List ℕ) (gave : Reads) → AreFor words action name history → ReadsFiles action → AreFrom told gave
    → (verdict : Verdict) → FilesDecide (ActionReads (Some action) gave history) gave name verdict → IsVerdict words told verdict
shelf_verdict words None action name history gave is_for reads from verdict d = (
  gave,
  files_decide words action name history gave verdict is_for (reads_modules action reads.1)
      (subst (λ (g : Reads). FilesDecide (ActionReads (Some action) g history) g name verdict) (sym (files_read action gave reads)) d),
)
shelf_verdict words (Some files) action name history gave is_for reads from verdict d =
    subst (λ (g : Reads). Accepted words g verdict) (sym from)
    (files_decide words action name history gave verdict is_for (reads_modules action reads.1)
    (subst (λ (g : Reads). FilesDecide (ActionReads (Some action) g history) g name verdict) (sym (files_read action gave reads)) d))

-- and so is what the texts of the load cell come to
pub load_verdict : (words : List (List ℕ)) (told : Option Told) (action : Action) (name history : List ℕ) (moves : ℕ) → AreFor words action name history → action ≡ actions.Load moves
    → (verdict : Verdict) → FilesDecide (ActionReads (Some action) (load_reads moves) history) (load_reads moves) name verdict → IsVerdict words told verdict
load_verdict words told action name history moves is_for same verdict d = on told
  where
    here : (gave : Reads) → Accepted words gave verdict
    here gave =
        files_decide words action name history gave verdict is_for (ap (λ (a : Action). reads_script_alone (Some a)) same)
        (subst (λ (a : Action). FilesDecide (ActionReads (Some action) (reads_for (Some a) gave) history) (reads_for (Some a) gave) name verdict) (sym same) d)

    on : (o : Option Told) → IsVerdict words o verdict
    on None = let none : Reads = λ file other. None in (none, here none)
    on (Some files) = here (told_reads files)

-- the first read, as it is reported
first_read : (files : Told) (name : List ℕ) (result : Result ScriptData Refused) → IsScriptIn (text_of 0 SCRIPT_BYTES (found files name)) result → IsScriptIn (file_text (told_reads files) 0 SCRIPT_BYTES name) result
first_read files name result is = subst (λ (t : Told). IsScriptIn (text_of 0 SCRIPT_BYTES (found t name)) result) (sym (after_reads-zero files)) is

pub script_given : (words : List (List ℕ)) (told : Option Told) (action : Action) (name history : List ℕ) (result : Result ScriptData Refused) → AreFor words action name history → ReadsFiles action
    → IfSome told (λ files. IsScriptIn (text_of 0 SCRIPT_BYTES (found files name)) result) → (gave : Option (List ℕ)) × IsScriptIn (text_of 0 SCRIPT_BYTES gave) result → GiveScript words told action name history result
script_given words None action name history result is_for reads here some =
    let gave : Reads = λ file other. some.0 in
    record { gave = gave; verdicts = shelf_verdict words None action name history gave is_for reads tt; script_is = some.1 }
script_given words (Some files) action name history result is_for reads here some = record {
  gave = told_reads files;
  verdicts = shelf_verdict words (Some files) action name history (told_reads files) is_for reads refl;
  script_is = first_read files name result here;
}

-- the result of the read after the texts: the one that stopped the others, otherwise this
last_gave : (file : ℕ) (failed : Option Refused) (Fewer : Type 0) (next : Option (List ℕ)) → IfSome failed (λ refused. IsUnread file refused × Fewer)
    → (last : Option (List ℕ)) × IfSome failed (λ refused. Stops file MODULE_BYTES refused last × Fewer) × (failed ≡ None → last ≡ next)
last_gave file None Fewer next unread = (next, tt, λ none. refl)
last_gave file (Some refused) Fewer next unread = let gave = unread_gave file MODULE_BYTES refused unread.0 in (gave.0, (gave.1, unread.1), λ none. absurd cc)

-- what is known of the texts, whatever the shelf reports
pub record AreLoaded (names : List (List ℕ)) (texts : List (Vec ℕ Global)) (failed : Option Refused) : Type 0 where
  pub within : All IsWithin texts
  pub few : length texts ≤ length names
  pub whole : failed ≡ None → length texts ≡ length names
  pub unread : IfSome failed (λ refused. IsUnread (length texts + 1) refused × (length texts < length names))

-- the texts as the results of reads, and if all are read, this as the result of the next read
record AreGiven (words : List (List ℕ)) (told : Option Told) (action : Action) (name history : List ℕ) (script : ScriptData) (texts : List (Vec ℕ Global)) (failed : Option Refused) (next : Option (List ℕ)) : Type 0 where
  pub given : GiveTexts words told action name history script (bytes_of texts) failed
  pub next_is : failed ≡ None → (k : ℕ) (other : List ℕ) → k ≡ length texts → given.given.gave (suc k) other ≡ next

untold_given : (words : List (List ℕ)) (action : Action) (name history : List ℕ) (script : ScriptData) (names : List (List ℕ)) (texts : List (Vec ℕ Global)) (failed : Option Refused) (next : Option (List ℕ))
    → AreFor words action name history → ReadsFiles action → (gave : Option (List ℕ)) × IsScriptIn (text_of 0 SCRIPT_BYTES gave) (Ok script) → AreLoaded names texts failed → names ≡ module_names script.tasks
    → AreGiven words None action name history script texts failed next
untold_given words action name history script names texts failed next is_for reads some loaded named =
    let last = last_gave (length texts + 1) failed (length texts < length names) next loaded.unread in
    let all : List (Option (List ℕ)) = some.0 ∷ behind texts last.0 in
    let gave : Reads = λ file other. get_or all file None in
    let turned : length texts + 1 ≡ 1 + length texts = omega arith in
    record {
      given = record {
        given = record { gave = gave; verdicts = shelf_verdict words None action name history gave is_for reads tt; script_is = some.1 };
        texts_are =
            subst (λ (ns : List (List ℕ)). AreTexts gave 1 ns (bytes_of texts) failed) named
            (texts_given gave 1 names texts last.0 failed (λ k other. ap (λ (n : ℕ). get_or all n None) (one_more k)) loaded.within loaded.few loaded.whole
            (subst (λ (n : ℕ). IfSome failed (λ refused. Stops n MODULE_BYTES refused last.0 × (length texts < length names))) turned last.1));
      };
      next_is = λ none k other is. behind_end texts last.0 k is ∙ last.2 none;
    }
  where
    one_more : (k : ℕ) → 1 + k ≡ suc k
    one_more k = omega arith

-- from a shelf that reports its files
told_given : (words : List (List ℕ)) (files : Told) (action : Action) (name history : List ℕ) (script : ScriptData) (names : List (List ℕ)) (texts : List (Vec ℕ Global)) (failed : Option Refused)
    → AreFor words action name history → ReadsFiles action → IsScriptIn (text_of 0 SCRIPT_BYTES (found files name)) (Ok script) → (gave : Option (List ℕ)) × IsScriptIn (text_of 0 SCRIPT_BYTES gave) (Ok script)
    → AreTexts (told_reads files) 1 names (bytes_of texts) failed → names ≡ module_names script.tasks → GiveTexts words (Some files) action name history script (bytes_of texts) failed
unfolding script_given
told_given words files action name history script names texts failed is_for reads here some are named = record {
  given = script_given words (Some files) action name history (Ok script) is_for reads here some;
  texts_are = subst (λ (ns : List (List ℕ)). AreTexts (told_reads files) 1 ns (bytes_of texts) failed) named are;
}

pub all_given : (words : List (List ℕ)) (told later : Option Told) (action : Action) (name history : List ℕ) (script : ScriptData) (names : List (List ℕ)) (texts : List (Vec ℕ Global)) (failed : Option Refused)
    → AreFor words action name history → ReadsFiles action → later ≡ option_map (after_reads 1) told
    → IfSome told (λ files. IsScriptIn (text_of 0 SCRIPT_BYTES (found files name)) (Ok script)) → (gave : Option (List ℕ)) × IsScriptIn (text_of 0 SCRIPT_BYTES gave) (Ok script)
    → ((files : Told) → later ≡ Some (after_reads 1 files) → AreTexts (told_reads files) 1 names (bytes_of texts) failed) → AreLoaded names texts failed → names ≡ module_names script.tasks
    → GiveTexts words told action name history script (bytes_of texts) failed
all_given words None later action name history script names texts failed is_for reads after here some told_texts loaded named =
    (untold_given words action name history script names texts failed None is_for reads some loaded named).given
all_given words (Some files) later action name history script names texts failed is_for reads after here some told_texts loaded named =
    told_given words files action name history script names texts failed is_for reads here some (told_texts files after) named

-- the texts, and what the read after them comes to if the action reads a history
pub record AreLast (words : List (List ℕ)) (told : Option Told) (action : Action) (name history : List ℕ) (script : ScriptData) (names : List (List ℕ)) (texts : List (Vec ℕ Global)) (failed : Option Refused)
    (result : Result (Vec ℕ Global) Refused) : Type 0 where
  pub given : GiveTexts words told action name history script (bytes_of texts) failed
  pub last : IsTrue (reads_history action) → GivesText (file_text given.given.gave (suc (length names)) HISTORY_BYTES history) result

-- what is known of the last read, whatever the shelf reports; now it reports this
pub record IsLast (now : Option Told) (action : Action) (history : List ℕ) (file : ℕ) (result : Result (Vec ℕ Global) Refused) : Type 0 where
  pub within : IfOk result (λ text. length text.items ≤ HISTORY_BYTES)
  pub unread : IfErr result (λ refused. IsTrue (reads_history action) × IsUnread file refused)
  pub gives : IsTrue (reads_history action) → IfSome now (λ files. GivesText (text_of file HISTORY_BYTES (found files history)) result)

-- some read comes to it
gave_last : (action : Action) (file : ℕ) (result : Result (Vec ℕ Global) Refused) → IfOk result (λ text. length text.items ≤ HISTORY_BYTES) → IfErr result (λ refused. IsTrue (reads_history action) × IsUnread file refused)
    → (gave : Option (List ℕ)) × GivesText (text_of file HISTORY_BYTES gave) result
gave_last action file (Ok text) within unread = (Some text.items, text_within file HISTORY_BYTES text.items within)
gave_last action file (Err refused) within unread = unread_gave file HISTORY_BYTES refused unread.1

pub last_given : (words : List (List ℕ)) (told later now : Option Told) (action : Action) (name history : List ℕ) (script : ScriptData) (names : List (List ℕ)) (texts : List (Vec ℕ Global)) (failed : Option Refused)
    (count file : ℕ) (result : Result (Vec ℕ Global) Refused) → AreFor words action name history → ReadsFiles action → later ≡ option_map (after_reads 1) told
    → IfSome told (λ files. IsScriptIn (text_of 0 SCRIPT_BYTES (found files name)) (Ok script)) → (gave : Option (List ℕ)) × IsScriptIn (text_of 0 SCRIPT_BYTES gave) (Ok script)
    → ((files : Told) → later ≡ Some (after_reads 1 files) → AreTexts (told_reads files) 1 names (bytes_of texts) failed)
    → ((files : Told) → later ≡ Some (after_reads 1 files) → now ≡ Some (after_reads (count + 1) files)) → AreLoaded names texts failed → names ≡ module_names script.tasks → failed ≡ None → count ≡ length names
    → file ≡ count + 1 → IsLast now action history file result → AreLast words told action name history script names texts failed result
unfolding told_given script_given
last_given words None later now action name history script names texts failed count file result is_for reads after here some told_texts told_now loaded named none many number last =
    let number_is : file ≡ suc (length names) = omega (arith, many, number) in
    let all = loaded.whole none in
    let same : length names ≡ length texts = sym all in
    let next = gave_last action file result last.within last.unread in
    let g = untold_given words action name history script names texts failed next.0 is_for reads some loaded named in
    record {
      given = g.given;
      last = λ reads_it.
          subst (λ (o : Option (List ℕ)). GivesText (text_of (suc (length names)) HISTORY_BYTES o) result) (sym (g.next_is none (length names) history same))
          (subst (λ (n : ℕ). GivesText (text_of n HISTORY_BYTES next.0) result) number_is next.1);
    }
last_given words (Some files) later now action name history script names texts failed count file result is_for reads after here some told_texts told_now loaded named none many number last =
    let number_is : file ≡ suc (length names) = omega (arith, many, number) in
    let read_is : count + 1 ≡ suc (length names) = omega (arith, many) in
    record {
      given = told_given words files action name history script names texts failed is_for reads here some (told_texts files after) named;
      last = λ reads_it.
          subst (λ (n : ℕ). GivesText (text_of (suc (length names)) HISTORY_BYTES (found (after_reads n files) history)) result) read_is
          (subst (λ (n : ℕ). GivesText (text_of n HISTORY_BYTES (found (after_reads (count + 1) files) history)) result) number_is
          (subst (λ (o : Option Told). IfSome o (λ f. GivesText (text_of file HISTORY_BYTES (found f history)) result)) (told_now files after) (last.gives reads_it)));
    }

-- the texts, as they are seen
pub texts_seen : (later : Option Told) (names : List (List ℕ)) (texts seen : List (Vec ℕ Global)) (failed : Option Refused) → seen ≡ texts
    → ((files : Told) → later ≡ Some (after_reads 1 files) → AreTexts (told_reads files) 1 names (bytes_of texts) failed) → (files : Told) → later ≡ Some (after_reads 1 files)
    → AreTexts (told_reads files) 1 names (bytes_of seen) failed
texts_seen later names texts seen failed same told = λ files after. subst (λ (ts : List (Vec ℕ Global)). AreTexts (told_reads files) 1 names (bytes_of ts) failed) (sym same) (told files after)

-- the same for the modules that a script names
pub loaded_names : (ms : List (Bor (List ℕ))) (texts seen : List (Vec ℕ Global)) (failed : Option Refused) → seen ≡ texts → All IsWithin texts → length texts ≤ length ms → (failed ≡ None → length texts ≡ length ms)
    → IfSome failed (λ refused. IsUnread (length texts + 1) refused × (length texts < length ms)) → AreLoaded (names_in_turn ms) seen failed
loaded_names ms texts seen failed one within few whole unread =
    let same : length (names_in_turn ms) ≡ length ms = length-map ms (λ m. m.now) in
    let loaded : AreLoaded (names_in_turn ms) texts failed = record {
      within = within;
      few = omega (arith, same, few);
      whole = λ none. let all = whole none in omega (arith, same, all);
      unread = subst (λ (n : ℕ). IfSome failed (λ refused. IsUnread (length texts + 1) refused × (length texts < n))) (sym same) unread;
    } in
    subst (λ (ts : List (Vec ℕ Global)). AreLoaded (names_in_turn ms) ts failed) (sym one) loaded
