-- Which action words ask for.
use Rattle.std.proofs.Common.{◌≡◌, ◌≢◌, ◌≤◌, ℕ, List, [], ◌∷◌, Bool, true, false, refl, ap, sym, subst, ◌∙◌}
use Rattle.std.specs.Prelude.{Option, Some, None, codes, bytes_eq, decimal, nat_le, option_map, ◌&&◌, if◌then◌else◌}
use Rattle.std.specs.Option.{option_and_then}
use Rattle.std.specs.Str.Parse.{digits_value}
use Rattle.std.proofs.lemmas.Bool.{leb-true}
use Rattle.std.proofs.lemmas.Slice.Eq.{bytes_eq-Decides}
use Rattle.command_words.specs.declared.command.Action.{Action}
use Rattle.command_words.specs.declared.command.Action.TheVariants as actions
use Rattle.command_words.specs.declared.command.Verb.{Verb}
use Rattle.command_words.specs.declared.command.Verb.TheVariants as verbs
use Rattle.command_words.specs.Words.{verb_of, moves_of, action_of, first_verb, has_history, second_word, asked, begins_with_migrate, begins_with_run, plain_words, is_migrate, is_run, AreMoves}

-- the action's word, and what it asks for with the others
pub record Chosen (first : Option Verb) (full : Bool) (second : List ℕ) (action : Action) : Type 0 where
  pub verb : Verb
  pub first_is : first ≡ Some verb
  pub action_is : action_of verb full second ≡ Some action

chosen : (first : Option Verb) (full : Bool) (second : List ℕ) (action : Action) → option_and_then (λ verb. action_of verb full second) first ≡ Some action → Chosen first full second action
chosen None full second action is = cc
chosen (Some verb) full second action is = record { verb = verb; first_is = refl; action_is = is }

-- the words of an action
asked_by : (words : List (List ℕ)) (action : Action) → asked words ≡ Some action → Chosen (first_verb (plain_words words)) (has_history words) (second_word (plain_words words)) action
asked_by words action is = chosen (first_verb (plain_words words)) (has_history words) (second_word (plain_words words)) action is

-- only `run` asks for a run on threads
no_run : (moves : Option ℕ) (full : Bool) → option_map (λ m. actions.Load m) moves ≡ Some (actions.Run full) → ⊥
no_run None full is = cc
no_run (Some m) full is = cc

run_verb : (verb : Verb) (full every : Bool) (second : List ℕ) → action_of verb full second ≡ Some (actions.Run every) → verb ≡ verbs.Run
run_verb verbs.Check full every second is = cc
run_verb verbs.Round full every second is = cc
run_verb verbs.Run full every second is = refl
run_verb verbs.List full every second is = cc
run_verb verbs.Load full every second is = absurd (no_run (moves_of second) every is)
run_verb verbs.Audit full every second is = cc
run_verb verbs.State full every second is = cc
run_verb verbs.Migrate full every second is = cc
run_verb verbs.Clearance full every second is = cc
run_verb verbs.Trace full every second is = cc

-- the word, by which of the ten it is
abbrev by_tests : Bool → Bool → Bool → Bool → Bool → Bool → Bool → Bool → Bool → Bool → Option Verb
by_tests check round run list load audit state migrate clearance trace =
    if check then Some verbs.Check
    else if round then Some verbs.Round
    else if run then Some verbs.Run
    else if list then Some verbs.List
    else if load then Some verbs.Load
    else if audit then Some verbs.Audit
    else if state then Some verbs.State
    else if migrate then Some verbs.Migrate
    else if clearance then Some verbs.Clearance
    else if trace then Some verbs.Trace
    else None

other : (check round list load audit state migrate clearance trace : Bool) (verb : Verb) → by_tests check round false list load audit state migrate clearance trace ≡ Some verb → verb ≢ verbs.Run
other true round list load audit state migrate clearance trace verb is = λ run. let e : Some verbs.Check ≡ Some verbs.Run = is ∙ ap Some run in cc
other false true list load audit state migrate clearance trace verb is = λ run. let e : Some verbs.Round ≡ Some verbs.Run = is ∙ ap Some run in cc
other false false true load audit state migrate clearance trace verb is = λ run. let e : Some verbs.List ≡ Some verbs.Run = is ∙ ap Some run in cc
other false false false true audit state migrate clearance trace verb is = λ run. let e : Some verbs.Load ≡ Some verbs.Run = is ∙ ap Some run in cc
other false false false false true state migrate clearance trace verb is = λ run. let e : Some verbs.Audit ≡ Some verbs.Run = is ∙ ap Some run in cc
other false false false false false true migrate clearance trace verb is = λ run. let e : Some verbs.State ≡ Some verbs.Run = is ∙ ap Some run in cc
other false false false false false false true clearance trace verb is = λ run. let e : Some verbs.Migrate ≡ Some verbs.Run = is ∙ ap Some run in cc
other false false false false false false false true trace verb is = λ run. let e : Some verbs.Clearance ≡ Some verbs.Run = is ∙ ap Some run in cc
other false false false false false false false false true verb is = λ run. let e : Some verbs.Trace ≡ Some verbs.Run = is ∙ ap Some run in cc
other false false false false false false false false false verb is = λ run. let e : None ≡ Some verbs.Run = is ∙ ap Some run in cc

-- the first of these words is not `run`
no_first : (words : List (List ℕ)) (verb : Verb) → first_verb words ≡ Some verb → begins_with_run words ≡ false → verb ≢ verbs.Run
no_first [] verb is other_word = λ run. let e : None ≡ Some verb = is in cc
no_first (word ∷ rest) verb is other_word =
    other (bytes_eq word (codes "check")) (bytes_eq word (codes "round")) (bytes_eq word (codes "list")) (bytes_eq word (codes "load")) (bytes_eq word (codes "audit")) (bytes_eq word (codes "state")) (bytes_eq word (codes "migrate")) (bytes_eq word (codes "clearance")) (bytes_eq word (codes "trace")) verb
    (subst (λ (b : Bool). by_tests (bytes_eq word (codes "check")) (bytes_eq word (codes "round")) b (bytes_eq word (codes "list")) (bytes_eq word (codes "load")) (bytes_eq word (codes "audit")) (bytes_eq word (codes "state")) (bytes_eq word (codes "migrate")) (bytes_eq word (codes "clearance")) (bytes_eq word (codes "trace")) ≡ Some verb) other_word is)

pub not_run : (words : List (List ℕ)) (action : Action) → asked words ≡ Some action → is_run words ≡ false → (full : Bool) → action ≢ actions.Run full
not_run words action is other_word = λ full same.
    let c = asked_by words action is in
    no_first (plain_words words) c.verb c.first_is other_word (run_verb c.verb (has_history words) full (second_word (plain_words words)) (c.action_is ∙ ap Some same))

-- or is
first_run : (words : List (List ℕ)) (verb : Verb) → first_verb words ≡ Some verb → begins_with_run words ≡ true → verb ≡ verbs.Run
first_run [] verb is run = let e : None ≡ Some verb = is in cc
first_run (word ∷ rest) verb is run =
    let same : word ≡ codes "run" = (bytes_eq-Decides word (codes "run")).0 run in
    let e : Some verb ≡ Some verbs.Run = sym is ∙ ap verb_of same in cc

pub is_run_action : (words : List (List ℕ)) (action : Action) → asked words ≡ Some action → is_run words ≡ true → action ≡ actions.Run (has_history words)
is_run_action words action is run =
    let c = asked_by words action is in
    let same : c.verb ≡ verbs.Run = first_run (plain_words words) c.verb c.first_is run in
    let e : Some action ≡ Some (actions.Run (has_history words)) = sym c.action_is ∙ ap (λ (v : Verb). action_of v (has_history words) (second_word (plain_words words))) same in cc

-- and only `migrate` for a script in version 2

no_migration : (moves : Option ℕ) → option_map (λ m. actions.Load m) moves ≡ Some actions.Migrate → ⊥
no_migration None is = cc
no_migration (Some m) is = cc

migrate_verb : (verb : Verb) (full : Bool) (second : List ℕ) → action_of verb full second ≡ Some actions.Migrate → verb ≡ verbs.Migrate
migrate_verb verbs.Check full second is = cc
migrate_verb verbs.Round full second is = cc
migrate_verb verbs.Run full second is = cc
migrate_verb verbs.List full second is = cc
migrate_verb verbs.Load full second is = absurd (no_migration (moves_of second) is)
migrate_verb verbs.Audit full second is = cc
migrate_verb verbs.State full second is = cc
migrate_verb verbs.Migrate full second is = refl
migrate_verb verbs.Clearance full second is = cc
migrate_verb verbs.Trace full second is = cc

no_migrate : (check round run list load audit state clearance trace : Bool) (verb : Verb) → by_tests check round run list load audit state false clearance trace ≡ Some verb → verb ≢ verbs.Migrate
no_migrate true round run list load audit state clearance trace verb is = λ same. let e : Some verbs.Check ≡ Some verbs.Migrate = is ∙ ap Some same in cc
no_migrate false true run list load audit state clearance trace verb is = λ same. let e : Some verbs.Round ≡ Some verbs.Migrate = is ∙ ap Some same in cc
no_migrate false false true list load audit state clearance trace verb is = λ same. let e : Some verbs.Run ≡ Some verbs.Migrate = is ∙ ap Some same in cc
no_migrate false false false true load audit state clearance trace verb is = λ same. let e : Some verbs.List ≡ Some verbs.Migrate = is ∙ ap Some same in cc
no_migrate false false false false true audit state clearance trace verb is = λ same. let e : Some verbs.Load ≡ Some verbs.Migrate = is ∙ ap Some same in cc
no_migrate false false false false false true state clearance trace verb is = λ same. let e : Some verbs.Audit ≡ Some verbs.Migrate = is ∙ ap Some same in cc
no_migrate false false false false false false true clearance trace verb is = λ same. let e : Some verbs.State ≡ Some verbs.Migrate = is ∙ ap Some same in cc
no_migrate false false false false false false false true trace verb is = λ same. let e : Some verbs.Clearance ≡ Some verbs.Migrate = is ∙ ap Some same in cc
no_migrate false false false false false false false false true verb is = λ same. let e : Some verbs.Trace ≡ Some verbs.Migrate = is ∙ ap Some same in cc
no_migrate false false false false false false false false false verb is = λ same. let e : None ≡ Some verbs.Migrate = is ∙ ap Some same in cc

first_other : (words : List (List ℕ)) (verb : Verb) → first_verb words ≡ Some verb → begins_with_migrate words ≡ false → verb ≢ verbs.Migrate
first_other [] verb is other_word = λ same. let e : None ≡ Some verb = is in cc
first_other (word ∷ rest) verb is other_word =
    no_migrate (bytes_eq word (codes "check")) (bytes_eq word (codes "round")) (bytes_eq word (codes "run")) (bytes_eq word (codes "list")) (bytes_eq word (codes "load")) (bytes_eq word (codes "audit")) (bytes_eq word (codes "state")) (bytes_eq word (codes "clearance")) (bytes_eq word (codes "trace")) verb
    (subst (λ (b : Bool). by_tests (bytes_eq word (codes "check")) (bytes_eq word (codes "round")) (bytes_eq word (codes "run")) (bytes_eq word (codes "list")) (bytes_eq word (codes "load")) (bytes_eq word (codes "audit")) (bytes_eq word (codes "state")) b (bytes_eq word (codes "clearance")) (bytes_eq word (codes "trace")) ≡ Some verb) other_word is)

pub not_migrate : (words : List (List ℕ)) (action : Action) → asked words ≡ Some action → is_migrate words ≡ false → action ≢ actions.Migrate
not_migrate words action is other_word = λ same.
    let c = asked_by words action is in
    first_other (plain_words words) c.verb c.first_is other_word (migrate_verb c.verb (has_history words) (second_word (plain_words words)) (c.action_is ∙ ap Some same))

-- or it does
first_migrate : (words : List (List ℕ)) (verb : Verb) → first_verb words ≡ Some verb → begins_with_migrate words ≡ true → verb ≡ verbs.Migrate
first_migrate [] verb is migrate = let e : None ≡ Some verb = is in cc
first_migrate (word ∷ rest) verb is migrate =
    let same : word ≡ codes "migrate" = (bytes_eq-Decides word (codes "migrate")).0 migrate in
    let e : Some verb ≡ Some verbs.Migrate = sym is ∙ ap verb_of same in cc

pub is_migrate_action : (words : List (List ℕ)) (action : Action) → asked words ≡ Some action → is_migrate words ≡ true → action ≡ actions.Migrate
is_migrate_action words action is migrate =
    let c = asked_by words action is in
    let same : c.verb ≡ verbs.Migrate = first_migrate (plain_words words) c.verb c.first_is migrate in
    let e : Some action ≡ Some actions.Migrate = sym c.action_is ∙ ap (λ (v : Verb). action_of v (has_history words) (second_word (plain_words words))) same in cc

pub run_is_no_migrate : (words : List (List ℕ)) (action : Action) → asked words ≡ Some action → is_run words ≡ true → action ≢ actions.Migrate
run_is_no_migrate words action is run = λ same. let e : actions.Migrate ≡ actions.Run (has_history words) = sym same ∙ is_run_action words action is run in cc

-- the number after `load`

within : (same least most : Bool) (n moves : ℕ) → (if same && least && most then Some n else None) ≡ Some moves → (n ≡ moves) × (least ≡ true) × (most ≡ true)
within true true true n moves is = let e : n ≡ moves = cc in (e, refl, refl)
within true true false n moves is = cc
within true false true n moves is = cc
within true false false n moves is = cc
within false least most n moves is = cc

are_moves : (word : List ℕ) (moves : ℕ) → moves_of word ≡ Some moves → AreMoves moves
are_moves word moves is =
    let n = digits_value 10 word in
    let w = within (bytes_eq word (decimal n)) (nat_le 1 n) (nat_le n 1000) n moves is in
    let low : 1 ≤ n = leb-true 1 n w.1 in
    let high : n ≤ 1000 = leb-true n 1000 w.2 in
    subst AreMoves w.0 (record { least = low; most = high })

number : (moves : Option ℕ) (m : ℕ) → option_map (λ n. actions.Load n) moves ≡ Some (actions.Load m) → moves ≡ Some m
number None m is = cc
number (Some n) m is = let e : n ≡ m = cc in ap Some e

load_moves : (verb : Verb) (full : Bool) (second : List ℕ) (moves : ℕ) → action_of verb full second ≡ Some (actions.Load moves) → AreMoves moves
load_moves verbs.Check full second moves is = cc
load_moves verbs.Round full second moves is = cc
load_moves verbs.Run full second moves is = cc
load_moves verbs.List full second moves is = cc
load_moves verbs.Load full second moves is = are_moves second moves (number (moves_of second) moves is)
load_moves verbs.Audit full second moves is = cc
load_moves verbs.State full second moves is = cc
load_moves verbs.Migrate full second moves is = cc
load_moves verbs.Clearance full second moves is = cc
load_moves verbs.Trace full second moves is = cc

pub asked_moves : (words : List (List ℕ)) (action : Action) → asked words ≡ Some action → (moves : ℕ) → action ≡ actions.Load moves → AreMoves moves
asked_moves words action is = λ moves same.
    let c = asked_by words action is in
    load_moves c.verb (has_history words) (second_word (plain_words words)) moves (c.action_is ∙ ap Some same)
