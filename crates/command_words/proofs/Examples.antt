-- Command words worked by hand.
use Rattle.std.proofs.Common.{◌≡◌, [], ◌∷◌, true, false, refl, rules}
use Rattle.std.specs.Prelude.{codes, Some, None}
use Rattle.std.specs.Fmt.{digits}
use Rattle.std.proofs.lemmas.Str.{IsUtf8-from_ascii}
use Rattle.command_words.specs.declared.command.Action.TheVariants as actions
use Rattle.command_words.specs.Words.{asked, is_migrate, is_run, refused_place}
use Rattle.command_words.proofs.Texts.{text_names}

-- words that ask for `run`, refused or not, and others
run_cell : is_run (codes "run" ∷ codes "c" ∷ []) ≡ true
run_cell = refl

run_later : is_run (codes "--history" ∷ codes "run" ∷ []) ≡ true
run_later = refl

run_as_name : is_run (codes "round" ∷ codes "run" ∷ []) ≡ false
run_as_name = refl

no_words : is_run [] ≡ false
no_words = refl

-- the same of `migrate`, whose name is one word
migrate_cell : is_migrate (codes "migrate" ∷ codes "c" ∷ []) ≡ true
migrate_cell = refl

migrate_as_name : is_migrate (codes "check" ∷ codes "migrate" ∷ []) ≡ false
migrate_as_name = refl

migration : asked (codes "migrate" ∷ codes "--history" ∷ codes "c" ∷ []) ≡ Some actions.Migrate
migration = refl

migrate_without : refused_place (codes "migrate" ∷ []) ≡ Some 1
migrate_without = refl

-- `--history` before or after the other words; it changes no load
whole_round : asked (codes "--history" ∷ codes "round" ∷ codes "c" ∷ []) ≡ Some (actions.Round true)
whole_round = refl

whole_run : asked (codes "run" ∷ codes "c" ∷ codes "--history" ∷ []) ≡ Some (actions.Run true)
whole_run = refl

short_round : asked (codes "round" ∷ codes "c" ∷ []) ≡ Some (actions.Round false)
short_round = refl

load_two : asked (codes "load" ∷ codes "--history" ∷ codes "2" ∷ []) ≡ Some (actions.Load 2)
unfolding digits
load_two = refl

load_most : asked (codes "load" ∷ codes "1000" ∷ []) ≡ Some (actions.Load 1000)
unfolding digits
load_most = refl

-- words after `load` that are no such number
load_none : refused_place (codes "load" ∷ codes "0" ∷ []) ≡ Some 1
unfolding digits
load_none = refl

load_past : refused_place (codes "load" ∷ codes "1001" ∷ []) ≡ Some 1
unfolding digits
load_past = refl

load_zero_first : refused_place (codes "--history" ∷ codes "load" ∷ codes "02" ∷ []) ≡ Some 2
unfolding digits
load_zero_first = refl

load_without : refused_place (codes "load" ∷ []) ≡ Some 1
load_without = refl

-- a word too many comes first
load_too_many : refused_place (codes "load" ∷ codes "0" ∷ codes "1" ∷ []) ≡ Some 2
load_too_many = refl

-- `audit` takes a third word, and no fourth
audit_asked : asked (codes "audit" ∷ codes "c" ∷ codes "h" ∷ []) ≡ Some actions.Audit
audit_asked = refl

audit_without : refused_place (codes "audit" ∷ codes "--history" ∷ codes "c" ∷ []) ≡ Some 3
audit_without = refl

audit_too_many : refused_place (codes "audit" ∷ codes "c" ∷ codes "h" ∷ codes "--history" ∷ codes "h" ∷ []) ≡ Some 4
audit_too_many = refl

audit_taken : refused_place (codes "audit" ∷ codes "c" ∷ codes "h" ∷ []) ≡ None
audit_taken = text_names (codes "audit" ∷ codes "c" ∷ codes "h" ∷ []) (IsUtf8-from_ascii (codes "c") (search rules)) (IsUtf8-from_ascii (codes "h") (search rules))

-- a name that is text, and words that are not, before other causes
text_taken : refused_place (codes "round" ∷ codes "c" ∷ []) ≡ None
text_taken = text_names (codes "round" ∷ codes "c" ∷ []) (IsUtf8-from_ascii (codes "c") (search rules)) (IsUtf8-from_ascii [] (search rules))

no_text_action : refused_place ((255 ∷ []) ∷ codes "c" ∷ []) ≡ Some 0
no_text_action = refl

no_text_before : refused_place (codes "round" ∷ (255 ∷ []) ∷ codes "more" ∷ []) ≡ Some 2
no_text_before = refl

-- `clearance` takes two
clearance_asked : asked (codes "clearance" ∷ codes "c" ∷ []) ≡ Some actions.Clearance
clearance_asked = refl

clearance_too_many : refused_place (codes "clearance" ∷ codes "c" ∷ codes "h" ∷ []) ≡ Some 2
clearance_too_many = refl

-- so does `trace`, with `--history` or without
trace_asked : asked (codes "trace" ∷ codes "--history" ∷ codes "c" ∷ []) ≡ Some actions.Trace
trace_asked = refl

trace_without : refused_place (codes "trace" ∷ []) ≡ Some 1
trace_without = refl

-- `state` takes three
state_asked : asked (codes "state" ∷ codes "c" ∷ codes "h" ∷ []) ≡ Some actions.State
state_asked = refl

state_without : refused_place (codes "state" ∷ codes "c" ∷ []) ≡ Some 2
state_without = refl
