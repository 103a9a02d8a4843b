-- The texts of the load cell, as the results of its reads.
use Rattle.std.proofs.Common.{◌≡◌, ℕ, zero, suc, ◌+◌, ◌*◌, ◌<◌, ◌≤◌, List, [], ◌∷◌, length, map, Bool, true, false, cond, ap, sym, subst, arith, length-append}
use Rattle.std.specs.Prelude.{Option, Some, None, Result, Ok, Vec, All, bytes_eq, decimal}
use Rattle.std.specs.Map.{lookup}
use Rattle.std.specs.Option.{unwrap_or}
use Rattle.std.specs.declared.alloc.Global.{Global}
use Rattle.std.proofs.lemmas.Fmt.{length-decimal-le}
use Rattle.std.proofs.lemmas.List.Elements.{All-cons, All-nil}
use Rattle.rapid_limits.specs.declared.TheConstants.{MODULE_BYTES, SCRIPT_BYTES}
use Rattle.outside.specs.Told.{Told}
use Rattle.rapid_model.specs.ScriptData.{ScriptData, module_names}
use Rattle.cell_load.specs.Texts.{module_files, module_text, script_text}
use Rattle.command_words.specs.declared.command.Action.{Action}
use Rattle.command_words.specs.declared.command.Action.TheVariants as actions
use Rattle.cell_loading.specs.declared.refused.Refused.{Refused}
use Rattle.cell_loading.specs.ReadModules.{file_text}
use Rattle.command_words.specs.Words.{AreMoves}
use Rattle.controller.specs.Asked.{AreFor, GiveScript, GiveTexts}
use Rattle.cell_loading.specs.Files.{text_of}
use Rattle.cell_loading.specs.LoadFiles.{load_reads, module_named}
use Rattle.cell_loading.specs.Loaded.{bytes_of, AreTexts, IsScriptIn, IsWithin}
use Rattle.controller.proofs.GivenReads.{load_verdict}
use Rattle.cell_loading.proofs.Loads.{script_in}
use Rattle.cell_loading.proofs.Untold.{text_within}

-- the texts of the load cell are short

one_digit : (n : ℕ) → n ≤ 4 → length (decimal n) ≤ 1
one_digit n few = length-decimal-le 1 n (omega arith) (omega (arith, few)) (omega (arith, few))

script_short : (moves : ℕ) → AreMoves moves → length (script_text moves) ≤ 1000
script_short moves are =
    let most = are.most in
    let steps : 500 * moves + 500 < 1_000_000 = omega (arith, most) in
    let few : length (decimal (500 * moves + 500)) ≤ 6 = length-decimal-le 6 (500 * moves + 500) (omega arith) steps (omega (arith, steps)) in
    let first = one_digit 1 (omega arith) in
    let second = one_digit 2 (omega arith) in
    let third = one_digit 3 (omega arith) in
    let fourth = one_digit 4 (omega arith) in
    simp length-append (omega (arith, few, first, second, third, fourth))

module_short : (moves task : ℕ) → AreMoves moves → task ≤ 4 → length (module_text moves task) ≤ 1000
module_short moves task are few =
    let most = are.most in
    let count : length (decimal moves) ≤ 4 = length-decimal-le 4 moves (omega arith) (omega (arith, most)) (omega (arith, most)) in
    let number = one_digit task few in
    simp length-append (omega (arith, count, number))

-- so is the one of each name, among files whose texts are short
abbrev AreShort : List (List ℕ × List ℕ) → Type 0
AreShort [] = Unit {0}
AreShort (file ∷ files) = (length file.1 ≤ 1000) × AreShort files

files_short : (moves : ℕ) → AreMoves moves → AreShort (module_files moves)
files_short moves are =
    (module_short moves 1 are (omega arith), (module_short moves 2 are (omega arith), (module_short moves 3 are (omega arith), (module_short moves 4 are (omega arith), tt))))

found_short : (test : Bool) (text : List ℕ) (rest : Option (List ℕ)) → length text ≤ 1000 → length (unwrap_or rest []) ≤ 1000 → length (unwrap_or (cond test (Some text) rest) []) ≤ 1000
found_short true text rest here there = here
found_short false text rest here there = there

named_short : (files : List (List ℕ × List ℕ)) (name : List ℕ) → AreShort files → length (module_named files name) ≤ 1000
named_short [] name short = omega arith
named_short (file ∷ files) name short = found_short (bytes_eq name file.0) file.1 (lookup (bytes_eq name) files) short.0 (named_short files name short.1)

text_short : (moves : ℕ) (name : List ℕ) → AreMoves moves → length (module_named (module_files moves) name) ≤ 1000
text_short moves name are = named_short (module_files moves) name (files_short moves are)

-- the script
pub load_script_given : (words : List (List ℕ)) (told : Option Told) (action : Action) (name history : List ℕ) (moves : ℕ) (source : List ℕ) (result : Result ScriptData Refused) → AreFor words action name history
    → action ≡ actions.Load moves → AreMoves moves → source ≡ script_text moves → IsScriptIn (Ok source) result → GiveScript words told action name history result
load_script_given words told action name history moves source result is_for same are text is = record {
  gave = load_reads moves;
  verdicts = load_verdict words told action name history moves is_for same;
  script_is =
      let short = script_short moves are in
      script_in (text_of 0 SCRIPT_BYTES (Some (script_text moves))) (script_text moves) source result (text_within 0 SCRIPT_BYTES (script_text moves) (omega (arith, short))) text is;
}

-- a module
module_read : (moves file : ℕ) (name : List ℕ) → AreMoves moves → 1 ≤ file → file_text (load_reads moves) file MODULE_BYTES name ≡ Ok (module_named (module_files moves) name)
module_read moves zero name are some = absurd (omega arith)
module_read moves (suc k) name are some =
    let short = text_short moves name are in text_within (suc k) MODULE_BYTES (module_named (module_files moves) name) (omega (arith, short))

modules_read : (moves file : ℕ) (names : List (List ℕ)) → AreMoves moves → 1 ≤ file → AreTexts (load_reads moves) file names (map (module_named (module_files moves)) names) None
modules_read moves file [] are some = tt
modules_read moves file (name ∷ names) are some = (module_read moves file name are some, modules_read moves (file + 1) names are (omega arith))

-- the script and its modules
pub load_texts_given : (words : List (List ℕ)) (told : Option Told) (action : Action) (name history : List ℕ) (moves : ℕ) (source : List ℕ) (script : ScriptData) (names texts : List (List ℕ))
    → AreFor words action name history → action ≡ actions.Load moves → AreMoves moves → source ≡ script_text moves → IsScriptIn (Ok source) (Ok script) → names ≡ module_names script.tasks
    → texts ≡ map (module_named (module_files moves)) names → GiveTexts words told action name history script texts None
unfolding load_script_given
load_texts_given words told action name history moves source script names texts is_for same are text is named texts_are = record {
  given = load_script_given words told action name history moves source (Ok script) is_for same are text is;
  texts_are =
      subst (λ (ns : List (List ℕ)). AreTexts (load_reads moves) 1 ns texts None) named
      (subst (λ (ts : List (List ℕ)). AreTexts (load_reads moves) 1 names ts None) (sym texts_are) (modules_read moves 1 names are (omega arith)));
}

-- as the program keeps them they are within the limit
pub texts_within : (moves : ℕ) (texts : List (Vec ℕ Global)) (names : List (List ℕ)) → AreMoves moves → bytes_of texts ≡ map (module_named (module_files moves)) names → All IsWithin texts
texts_within moves [] names are is = All-nil IsWithin
texts_within moves (text ∷ texts) [] are is = cc
texts_within moves (text ∷ texts) (name ∷ names) are is =
    let here : text.items ≡ module_named (module_files moves) name = cc in
    let rest : bytes_of texts ≡ map (module_named (module_files moves)) names = cc in
    let short = text_short moves name are in
    let long = ap length here in
    All-cons IsWithin text texts (omega (arith, short, long)) (texts_within moves texts names are rest)
