-- Which command words are taken: an action and the name of a script's file, or for `load` a number instead of the name,
-- where neither starts with a minus; and `--history` anywhere, at most once.
use Rattle.std.specs.Prelude.{ℕ, ◌+◌, ◌≤◌, Bool, false, not, ◌&&◌, nat_le, nat_lt, List, [], ◌∷◌, length, filter, position, slice_get, Option, Some, None, is_some, option_map, codes, decimal, ◌==◌, if◌then◌else◌, bytes_eq}
use Rattle.std.specs.Option.{option_and_then, option_or}
use Rattle.std.specs.Str.{is_utf8}
use Rattle.std.specs.Str.Parse.{digits_value}
use Rattle.command_words.specs.declared.command.Action.{Action}
use Rattle.command_words.specs.declared.command.Action.TheVariants as actions
use Rattle.command_words.specs.declared.command.Verb.{Verb}
use Rattle.command_words.specs.declared.command.Verb.TheVariants as verbs

abbrev pub begins_with_minus : List ℕ → Bool
begins_with_minus [] = false
begins_with_minus (b ∷ bs) = b == 45

abbrev pub is_history : List ℕ → Bool
is_history word = bytes_eq word (codes "--history")

-- a word that looks like an option but is none
abbrev pub is_wrong_option : List ℕ → Bool
is_wrong_option word = begins_with_minus word && not (is_history word)

-- the action or one of its words
abbrev pub is_plain : List ℕ → Bool
is_plain word = not (is_history word)

-- the positions of the words of which a test holds, if the first word has this position
abbrev pub places : (List ℕ → Bool) → ℕ → List (List ℕ) → List ℕ
places test from [] = []
places test from (word ∷ words) = if test word then from ∷ places test (from + 1) words else places test (from + 1) words

-- what the first word asks to be done
abbrev pub verb_of : List ℕ → Option Verb
verb_of word =
    if bytes_eq word (codes "check") then Some verbs.Check
    else if bytes_eq word (codes "round") then Some verbs.Round
    else if bytes_eq word (codes "run") then Some verbs.Run
    else if bytes_eq word (codes "list") then Some verbs.List
    else if bytes_eq word (codes "load") then Some verbs.Load
    else if bytes_eq word (codes "audit") then Some verbs.Audit
    else if bytes_eq word (codes "state") then Some verbs.State
    else if bytes_eq word (codes "migrate") then Some verbs.Migrate
    else if bytes_eq word (codes "clearance") then Some verbs.Clearance
    else if bytes_eq word (codes "trace") then Some verbs.Trace
    else None

-- how many words an action has, its own among them
abbrev pub word_count : Verb → ℕ
word_count verbs.Audit = 3
word_count verbs.State = 3
word_count _ = 2

-- the word is this number, in digits without leading zeros, and an arm of the load cell may move so often
abbrev pub is_moves : List ℕ → ℕ → Bool
is_moves word moves = bytes_eq word (decimal moves) && nat_le 1 moves && nat_le moves 1000

-- how many times each arm of the load cell moves, if the word is such a number
abbrev pub moves_of : List ℕ → Option ℕ
moves_of word = let moves = digits_value 10 word in if is_moves word moves then Some moves else None

-- an arm of the load cell may move this many times
pub record AreMoves (moves : ℕ) : Type 0 where
  pub least : 1 ≤ moves
  pub most : moves ≤ 1000

-- the action, given whether the whole history is to be printed, and the second word
abbrev pub action_of : Verb → Bool → List ℕ → Option Action
action_of verbs.Check full word = Some actions.Check
action_of verbs.Round full word = Some (actions.Round full)
action_of verbs.Run full word = Some (actions.Run full)
action_of verbs.List full word = Some actions.List
action_of verbs.Load full word = option_map (λ moves. actions.Load moves) (moves_of word)
action_of verbs.Audit full word = Some actions.Audit
action_of verbs.State full word = Some actions.State
action_of verbs.Migrate full word = Some actions.Migrate
action_of verbs.Clearance full word = Some actions.Clearance
action_of verbs.Trace full word = Some actions.Trace

-- the action and its words
abbrev pub plain_words : List (List ℕ) → List (List ℕ)
plain_words words = filter is_plain words

abbrev pub first_verb : List (List ℕ) → Option Verb
first_verb [] = None
first_verb (action ∷ rest) = verb_of action

-- the second one of some words
abbrev pub second_word : List (List ℕ) → List ℕ
second_word [] = []
second_word (action ∷ []) = []
second_word (action ∷ name ∷ rest) = name

-- the third one
abbrev pub third_word : List (List ℕ) → List ℕ
third_word [] = []
third_word (action ∷ []) = []
third_word (action ∷ name ∷ []) = []
third_word (action ∷ name ∷ last ∷ rest) = last

-- whether `--history` is among the words
abbrev pub has_history : List (List ℕ) → Bool
has_history words = is_some (slice_get (places is_history 0 words) 0)

-- what the words ask for
abbrev pub asked : List (List ℕ) → Option Action
asked words = option_and_then (λ verb. action_of verb (has_history words) (second_word (plain_words words))) (first_verb (plain_words words))

-- the first of these words is `run`
abbrev pub begins_with_run : List (List ℕ) → Bool
begins_with_run [] = false
begins_with_run (action ∷ rest) = bytes_eq action (codes "run")

-- the first word other than `--history` is `run`
abbrev pub is_run : List (List ℕ) → Bool
is_run words = begins_with_run (plain_words words)

-- the same for `migrate`
abbrev pub begins_with_migrate : List (List ℕ) → Bool
begins_with_migrate [] = false
begins_with_migrate (action ∷ rest) = bytes_eq action (codes "migrate")

abbrev pub is_migrate : List (List ℕ) → Bool
is_migrate words = begins_with_migrate (plain_words words)

-- the position of the action, if it is unknown
abbrev pub unknown_action : List (List ℕ) → Option ℕ
unknown_action words = if is_some (first_verb (plain_words words)) then None else slice_get (places is_plain 0 words) 0

-- the number of all words, if one of this many is missing
abbrev pub missing_of : ℕ → List (List ℕ) → Option ℕ
missing_of count words = if nat_lt (length (plain_words words)) count then Some (length words) else None

-- the same for the words of an action, or the position of the first one too many
abbrev pub wrong_count : Option Verb → List (List ℕ) → Option ℕ
wrong_count None words = missing_of 2 words
wrong_count (Some verb) words = option_or (missing_of (word_count verb) words) (slice_get (places is_plain 0 words) (word_count verb))

-- the position of the second word of the action, if that is `load` and the word is not such a number
abbrev pub wrong_number : List (List ℕ) → Option ℕ
wrong_number words = if is_some (asked words) then None else slice_get (places is_plain 0 words) 1

-- the position of the word that is wrong, from 0, by the first cause that applies: a wrong option; a second
-- `--history`; an unknown action; a missing word; a word too many; a wrong number
abbrev pub wrong_word : List (List ℕ) → Option ℕ
wrong_word words =
    option_or (position is_wrong_option words) (option_or (slice_get (places is_history 0 words) 1)
    (option_or (unknown_action words) (option_or (wrong_count (first_verb (plain_words words)) words) (wrong_number words))))

-- the name of the script's file, for `load` the number
abbrev pub script_name : List (List ℕ) → List ℕ
script_name words = second_word (plain_words words)

-- the name of the history's file, for `audit` and `state`
abbrev pub history_name : List (List ℕ) → List ℕ
history_name words = third_word (plain_words words)

-- the position of the first of these names that is not valid UTF-8: no file has such a name
abbrev pub no_text : List (List ℕ) → Option ℕ
no_text words =
    if is_utf8 (script_name words) then (if is_utf8 (history_name words) then None else slice_get (places is_plain 0 words) 2)
    else slice_get (places is_plain 0 words) 1

-- the position of the refused word: one that is wrong, or else a name that is not valid UTF-8
abbrev pub refused_place : List (List ℕ) → Option ℕ
refused_place words = option_or (wrong_word words) (no_text words)
