-- Reading the text of one module after another, from a shelf that reports its files, and from one that reports nothing.
use Rattle.std.proofs.Common.{◌≡◌, ℕ, ◌+◌, ◌<◌, ◌≤◌, List, [], ◌∷◌, ◌++◌, length, drop, get_or, refl, ap, sym, ◌∙◌, subst, ◌⊎◌, inl, inr, arith, length-drop}
use Rattle.std.specs.Borrow.{Bor}
use Rattle.std.proofs.lemmas.List.{append-nil}
use Rattle.std.proofs.lemmas.Option.{IfSome_then}
use Rattle.std.specs.Prelude.{Option, Some, None, IfSome, Result, Ok, Err, Vec, All}
use Rattle.std.specs.declared.alloc.Global.{Global}
use Rattle.rapid_limits.specs.declared.TheConstants.{MODULE_BYTES, SCRIPT_BYTES}
use Rattle.outside.specs.Told.{Told, found, after_reads}
use Rattle.rapid_model.specs.declared.script_rule.ScriptRule.{ScriptRule}
use Rattle.rapid_model.specs.ScriptData.{ScriptData}
use Rattle.cell_script.specs.ScriptOf.{FaultOf}
use Rattle.cell_script.specs.declared.fault.ScriptFault.{ScriptFault}
use Rattle.cell_script.specs.declared.fault.ScriptFault.TheVariants.{Rule}
use Rattle.cell_loading.specs.ReadModules.{ReadModule, file_text, ModuleIn, ModulesOf}
use Rattle.cell_loading.specs.Files.{Reads, told_reads, text_of, IsUnread, GivesText}
use Rattle.cell_loading.specs.Loaded.{names_in_turn, bytes_of, IsScriptIn, IsWithin, AreTexts, TextsDecide}
use Rattle.cell_loading.specs.declared.refused.Refused.{Refused}
use Rattle.cell_loading.specs.declared.refused.Refused.TheVariants as refusals
use Rattle.sink_lines.proofs.Lists.{drop-at, drop-past}
use Rattle.cell_loading.proofs.Untold.{Stops, unread_gave, text_within}

-- a text that breaks a rule
pub script_breaks : (text : List ℕ) (fault : ScriptFault) (key : List ℕ) (rule : ScriptRule) → FaultOf text fault → fault ≡ Rule key rule → IsScriptIn (Ok text) (Err (refusals.Script key rule))
script_breaks text fault key rule of_text is =
    let broken : FaultOf text (Rule key rule) = subst (λ (f : ScriptFault). FaultOf text f) is of_text in
    inr (inr (text, record { key = key; rule = rule }, refl, broken, refl))

-- the script of a text that was read in full
pub script_in : (read : Result (List ℕ) Refused) (text source : List ℕ) (result : Result ScriptData Refused) → read ≡ Ok text → source ≡ text → IsScriptIn (Ok source) result → IsScriptIn read result
script_in read text source result whole same is = subst (λ (r : Result (List ℕ) Refused). IsScriptIn r result) (sym (whole ∙ ap Ok (sym same))) is

-- the same for the first file, if the shelf may report its files
pub script_read : (told : Option Told) (name text source : List ℕ) (result : Result ScriptData Refused) → IfSome told (λ t. text_of 0 SCRIPT_BYTES (found t name) ≡ Ok text) → source ≡ text
    → IsScriptIn (Ok source) result → IfSome told (λ t. IsScriptIn (text_of 0 SCRIPT_BYTES (found t name)) result)
script_read told name text source result whole same is =
    IfSome_then told {P = λ t. text_of 0 SCRIPT_BYTES (found t name) ≡ Ok text} {Q = λ t. IsScriptIn (text_of 0 SCRIPT_BYTES (found t name)) result} whole
    (λ t read. script_in (text_of 0 SCRIPT_BYTES (found t name)) text source result read same is)

-- and of the result of some read, whatever the shelf reports
pub script_gave : (text source : List ℕ) (result : Result ScriptData Refused) → length text ≤ SCRIPT_BYTES → source ≡ text → IsScriptIn (Ok source) result
    → (gave : Option (List ℕ)) × IsScriptIn (text_of 0 SCRIPT_BYTES gave) result
script_gave text source result within same is = (Some text, script_in (text_of 0 SCRIPT_BYTES (Some text)) text source result (text_within 0 SCRIPT_BYTES text within) same is)

-- the file is not read
pub script_stops : (refused : Refused) → IsUnread 0 refused → (gave : Option (List ℕ)) × IsScriptIn (text_of 0 SCRIPT_BYTES gave) (Err refused)
script_stops refused is = let found = unread_gave 0 SCRIPT_BYTES refused is in (found.0, stops found.0 found.1)
  where
    stops : (gave : Option (List ℕ)) → Stops 0 SCRIPT_BYTES refused gave → IsScriptIn (text_of 0 SCRIPT_BYTES gave) (Err refused)
    stops gave (inl memory) = inl memory
    stops gave (inr read) = inr (inl read)

-- in the middle of the modules: the texts before this one are read, and this many reads are reported
pub record Loading (start now : Option Told) (old new : ℕ) (modules : List (Bor (List ℕ))) (k : ℕ) (texts : List (Vec ℕ Global)) : Type 0 where
  pub faults : old ≤ new
  pub count : length texts ≡ k
  pub within : All IsWithin texts
  pub reads : (told : Told) → start ≡ Some (after_reads 1 told) → now ≡ Some (after_reads (k + 1) told)
  pub read : (told : Told) → start ≡ Some (after_reads 1 told) → (more : List (List ℕ)) (failed : Option Refused)
      → AreTexts (told_reads told) (k + 1) (names_in_turn (drop k modules)) more failed → AreTexts (told_reads told) 1 (names_in_turn modules) (bytes_of texts ++ more) failed

-- what is reported if a module is read
here_is : (now : Option Told) (told : Told) (k : ℕ) (name : List ℕ) (result : Result (Vec ℕ Global) Refused) → now ≡ Some (after_reads (k + 1) told)
    → IfSome now (λ t. GivesText (text_of (k + 1) MODULE_BYTES (found t name)) result) → GivesText (file_text (told_reads told) (k + 1) MODULE_BYTES name) result
here_is now told k name result is text_in =
    subst (λ (o : Option Told). IfSome o (λ t. GivesText (text_of (k + 1) MODULE_BYTES (found t name)) result)) is text_in

-- a text is not read
pub loading_fails : (start now : Option Told) (old mid : ℕ) (modules : List (Bor (List ℕ))) (k : ℕ) (texts : List (Vec ℕ Global)) (d : Bor (List ℕ)) (refused : Refused)
    → k < length modules → Loading start now old mid modules k texts → IfSome now (λ t. GivesText (text_of (k + 1) MODULE_BYTES (found t (get_or modules k d).now)) (Err refused))
    → (told : Told) → start ≡ Some (after_reads 1 told) → AreTexts (told_reads told) 1 (names_in_turn modules) (bytes_of texts) (Some refused)
loading_fails start now old mid modules k texts d refused lt p here told first =
    subst (λ (ts : List (List ℕ)). AreTexts (told_reads told) 1 (names_in_turn modules) ts (Some refused)) (append-nil (bytes_of texts))
    (p.read told first [] (Some refused)
    (subst (λ (ms : List (Bor (List ℕ))). AreTexts (told_reads told) (k + 1) (names_in_turn ms) [] (Some refused)) (sym (drop-at modules k d lt))
    (here_is now told k (get_or modules k d).now (Err refused) (p.reads told first) here)))

-- out of memory for a text
pub loading_lacks : (start now : Option Told) (old mid : ℕ) (modules : List (Bor (List ℕ))) (k : ℕ) (texts : List (Vec ℕ Global)) → k < length modules → Loading start now old mid modules k texts
    → (told : Told) → start ≡ Some (after_reads 1 told) → AreTexts (told_reads told) 1 (names_in_turn modules) (bytes_of texts) (Some refusals.Memory)
loading_lacks start now old mid modules k texts lt p told first =
    subst (λ (ts : List (List ℕ)). AreTexts (told_reads told) 1 (names_in_turn modules) ts (Some refusals.Memory)) (append-nil (bytes_of texts))
    (p.read told first [] (Some refusals.Memory) (lacks_there (drop k modules) (some_behind modules k lt)))
  where
    some_behind : (ms : List (Bor (List ℕ))) (k : ℕ) → k < length ms → 0 < length (drop k ms)
    some_behind ms k lt = omega (arith, length-drop k ms)

    lacks_there : (ms : List (Bor (List ℕ))) → 0 < length ms → AreTexts (told_reads told) (k + 1) (names_in_turn ms) [] (Some refusals.Memory)
    lacks_there [] none = absurd (omega arith)
    lacks_there (m ∷ ms) some = inl refl

-- all texts are read
pub loading_ends : (start now : Option Told) (old mid : ℕ) (modules : List (Bor (List ℕ))) (k : ℕ) (texts : List (Vec ℕ Global)) → length modules ≤ k → Loading start now old mid modules k texts
    → (told : Told) → start ≡ Some (after_reads 1 told) → AreTexts (told_reads told) 1 (names_in_turn modules) (bytes_of texts) None
loading_ends start now old mid modules k texts past p told first =
    subst (λ (ts : List (List ℕ)). AreTexts (told_reads told) 1 (names_in_turn modules) ts None) (append-nil (bytes_of texts))
    (p.read told first [] None (subst (λ (ms : List (Bor (List ℕ))). AreTexts (told_reads told) (k + 1) (names_in_turn ms) [] None) (sym (drop-past modules k past)) tt))

-- and this many reads are reported
pub loading_reads : (start now : Option Told) (old mid : ℕ) (modules : List (Bor (List ℕ))) (k : ℕ) (texts : List (Vec ℕ Global)) → length modules ≤ k → k ≤ length modules → Loading start now old mid modules k texts
    → (told : Told) → start ≡ Some (after_reads 1 told) → now ≡ Some (after_reads (length modules + 1) told)
loading_reads start now old mid modules k texts past within p told first =
    let same : k ≡ length modules = omega (arith, past, within) in
    subst (λ (n : ℕ). now ≡ Some (after_reads (n + 1) told)) same (p.reads told first)

-- what the texts come to is what the modules come to

in_file : (gave : Reads) (file : ℕ) (name text : List ℕ) (verdict : Result ReadModule Refused) → file_text gave file MODULE_BYTES name ≡ Ok text → ModuleIn file (Ok text) verdict
    → ModuleIn file (file_text gave file MODULE_BYTES name) verdict
in_file gave file name text verdict is d = subst (λ (read : Result (List ℕ) Refused). ModuleIn file read verdict) (sym is) d

pub modules_from_texts : (gave : Reads) (file : ℕ) (names texts : List (List ℕ)) (failed : Option Refused) (verdict : Result (List ReadModule) Refused) → AreTexts gave file names texts failed
    → TextsDecide file texts failed verdict → (verdict ≡ Err refusals.Memory) ⊎ ModulesOf gave file names verdict
modules_from_texts gave file [] [] None verdict a d = inr d
modules_from_texts gave file [] [] (Some r) verdict a d = absurd a
modules_from_texts gave file [] (t ∷ ts) failed verdict a d = absurd a
modules_from_texts gave file (n ∷ ns) [] None verdict a d = absurd a
modules_from_texts gave file (n ∷ ns) [] (Some r) verdict (inl memory) d = inl (d ∙ ap Err memory)
modules_from_texts gave file (n ∷ ns) [] (Some r) verdict (inr failed) d =
    inr (subst (λ (v : Result (List ReadModule) Refused). ModulesOf gave file (n ∷ ns) v) (sym d)
    (inl (subst (λ (read : Result (List ℕ) Refused). ModuleIn file read (Err r)) (sym failed) refl)))
modules_from_texts gave file (n ∷ ns) (t ∷ ts) failed (Err r) a (inl d) = inr (inl (in_file gave file n t (Err r) a.0 d))
modules_from_texts gave file (n ∷ ns) (t ∷ ts) failed (Err r) a (inr d) = elim (modules_from_texts gave (file + 1) ns ts failed (Err r) a.1 d.2) [
  | inl memory ↦ inl memory
  | inr p ↦ inr (inr (d.0, in_file gave file n t (Ok d.0) a.0 d.1, p))
]
modules_from_texts gave file (n ∷ ns) (t ∷ ts) failed (Ok []) a d = absurd d
modules_from_texts gave file (n ∷ ns) (t ∷ ts) failed (Ok (read ∷ reads)) a d = elim (modules_from_texts gave (file + 1) ns ts failed (Ok reads) a.1 d.1) [
  | inl memory ↦ cc
  | inr p ↦ inr (in_file gave file n t (Ok read) a.0 d.0, p)
]
