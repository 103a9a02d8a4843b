-- The line of a refusal in pieces.
use Rattle.std.proofs.Common.{◌≡◌, ℕ, List, ◌∷◌, ◌++◌, ap, append_assoc, refl, sym, ◌∙◌}
use Rattle.std.specs.Prelude.{codes, decimal}
use Rattle.rapid_model.specs.declared.script_rule.ScriptRule.{ScriptRule}
use Rattle.rapid_model.specs.RuleNames.{rule_name}
use Rattle.rapid_lexer.specs.declared.place.Place.{Place}
use Rattle.cell_loading.specs.declared.refused.ModuleRule.{ModuleRule}
use Rattle.cell_loading.specs.declared.refused.Refused.{Refused}
use Rattle.cell_loading.specs.declared.refused.Refused.TheVariants.{Words, Script, Module, Read, TooLong, History}
use Rattle.controller.specs.RefusalLines.{refusal_text, key_words, place_words}
use Rattle.cell_loading.specs.Refusals.{module_rule_name}

pub words_pieces : (name middle : List ℕ) (place : ℕ) (r : Refused) → r ≡ Words place → middle ≡ decimal place
    → refusal_text name r ≡ codes "rapid_cell: words " ++ (middle ++ codes "\n")
words_pieces name middle place r is m = rw (is, m) refl

abbrev four : List ℕ → List ℕ → List ℕ → List ℕ → List ℕ
four a b c d = a ++ (b ++ (c ++ d))

-- the line of a rule in five pieces
pub script_pieces : (name key middle word : List ℕ) (rule : ScriptRule) (r : Refused) → r ≡ Script key rule → middle ≡ key_words key → word ≡ rule_name rule
    → refusal_text name r ≡ codes "rapid_cell: script " ++ four middle (codes " ") word (codes "\n")
script_pieces name key middle word rule r is m w =
    rw (is, m, w) (ap (λ (xs : List ℕ). codes "rapid_cell: script " ++ xs) (append_assoc (key_words key) (32 ∷ rule_name rule) (codes "\n")))

place_is : (name words rule : List ℕ) → (name ++ (32 ∷ words ++ (32 ∷ rule))) ++ codes "\n" ≡ four name (32 ∷ words ++ codes " ") rule (codes "\n")
place_is name words rule =
    append_assoc name (32 ∷ words ++ (32 ∷ rule)) (codes "\n")
    ∙ ap (λ (xs : List ℕ). name ++ (32 ∷ xs)) (append_assoc words (32 ∷ rule) (codes "\n") ∙ sym (append_assoc words (codes " ") (rule ++ codes "\n")))

pub module_pieces : (name middle at word : List ℕ) (file : ℕ) (place : Place) (rule : ModuleRule) (r : Refused) → r ≡ Module file place rule → middle ≡ name
    → at ≡ 32 ∷ place_words place ++ codes " " → word ≡ module_rule_name rule → refusal_text name r ≡ codes "rapid_cell: module " ++ four middle at word (codes "\n")
module_pieces name middle at word file place rule r is m a w =
    rw (is, m, a, w) (ap (λ (xs : List ℕ). codes "rapid_cell: module " ++ xs) (place_is name (place_words place) (module_rule_name rule)))

pub read_pieces : (name middle : List ℕ) (file : ℕ) (r : Refused) → r ≡ Read file → middle ≡ name
    → refusal_text name r ≡ codes "rapid_cell: read " ++ (middle ++ codes "\n")
read_pieces name middle file r is m = rw (is, m) refl

pub long_pieces : (name middle : List ℕ) (file : ℕ) (r : Refused) → r ≡ TooLong file → middle ≡ name
    → refusal_text name r ≡ codes "rapid_cell: long " ++ (middle ++ codes "\n")
long_pieces name middle file r is m = rw (is, m) refl

pub history_pieces : (name middle : List ℕ) (line : ℕ) (r : Refused) → r ≡ History line → middle ≡ decimal line
    → refusal_text name r ≡ codes "rapid_cell: history " ++ (middle ++ codes "\n")
history_pieces name middle line r is m = rw (is, m) refl
