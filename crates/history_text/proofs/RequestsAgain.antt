-- A request that was written is read back before its answer.
use Rattle.std.proofs.Common.{◌≡◌, ℕ, ◌^◌, Bool, true, false, List, ◌∷◌, ◌++◌, Option, Some, None, ℤ, refl, ap, ◌∙◌, arith, decimal, append_assoc}
use Rattle.std.proofs.lemmas.Bool.{and_parts}
use Rattle.std.specs.Option.{option_and_then}
use Rattle.rapid_num.specs.Range.{IsNum}
use Rattle.rapid_num.specs.Reach.{is_position}
use Rattle.rapid_num.specs.declared.shape.Shape.{Shape}
use Rattle.rapid_model.specs.Fits.{fits_pers}
use Rattle.rapid_model.specs.Lengths.{is_full}
use Rattle.rapid_model.specs.Paths.{fits_part, part_sort}
use Rattle.rapid_model.specs.Sorts.{is_value_of}
use Rattle.rapid_model.specs.declared.fate.Fate.{Fate}
use Rattle.rapid_model.specs.declared.fate.Fate.TheVariants as fates
use Rattle.rapid_model.specs.declared.fate.Fault.{Fault}
use Rattle.rapid_model.specs.declared.fate.Fault.TheVariants as faults
use Rattle.rapid_model.specs.declared.part_name.PartName.{PartName}
use Rattle.rapid_model.specs.declared.path.Path.{Path}
use Rattle.rapid_model.specs.declared.request.Request.{Request}
use Rattle.rapid_model.specs.declared.request.Request.TheVariants as requests
use Rattle.rapid_model.specs.declared.sort.Sort.{Sort}
use Rattle.rapid_model.specs.declared.tail.Tail.{Tail}
use Rattle.rapid_model.specs.declared.tail.Tail.TheVariants as tails
use Rattle.rapid_model.specs.declared.value.Value.{Value}
use Rattle.rapid_model.specs.declared.watched.Watched.{Watched}
use Rattle.rapid_model.specs.declared.watched.Watched.TheVariants as watched
use Rattle.value_text.specs.ValueText.{quoted_text, value_text}
use Rattle.history_text.specs.EventWords.{bit_words, kind_words, path_words, request_words, said_words, set_words, shape_words, signal_words, single_words, two_words, watched_words, zone_words}
use Rattle.history_text.specs.InRange.{IsFate, IsFault, IsRequest, IsShape, IsTail, IsU8, IsU16, IsU32, IsValue, IsWatched}
use Rattle.history_text.specs.Lines.{fate_words, fault_words}
use Rattle.history_text.specs.Named.{NamesData, axes_of, has_arm, has_part, has_pers, is_part, pers_sort, request_fits}
use Rattle.history_text.specs.Reading.{after_word, ends_num, ends_whole, minus_at, next_num, num_at, number_at, size_at}
use Rattle.history_text.specs.EventReading.{arrive_at, bit_at, connect_at, course_request_at, fate_at, fault_at, interrupt_request_at, kind_at, named_at, order_at, part_value_at, request_at, said_at, set_at, set_zone_at, signal_at, single_at, tail_at, tie_at, unhandled_at, watched_at, written_at, zone_at, zone_request_at}
use Rattle.history_text.proofs.NumbersAgain.{next_again, whole_again}
use Rattle.history_text.proofs.NumsAgain.{before_answer, place_again}
use Rattle.history_text.proofs.PathsAgain.{path_again}
use Rattle.history_text.proofs.QuotesAgain.{no_quote, quoted_again}
use Rattle.history_text.proofs.ShapesAgain.{shape_again}
use Rattle.history_text.proofs.Stops.{Stops}
use Rattle.history_text.proofs.ValuesAgain.{value_again}

-- signals and what interrupts are ordered on

signal_again : (signal : ℕ) (rest : List ℕ) → IsU32 signal → Stops ends_whole rest → signal_at (signal_words signal ++ rest) ≡ Some (signal, rest)
unfolding signal_at after_word
signal_again signal rest small stops = whole_again (2 ^ 32) signal rest small small stops

pub bit_again : (value : Bool) (rest : List ℕ) → bit_at (bit_words value ++ rest) ≡ Some (value, rest)
unfolding bit_at after_word
bit_again true rest = refl
bit_again false rest = refl

set_again : (signal : ℕ) (value : Bool) (rest : List ℕ) → IsU32 signal → set_at (set_words signal value ++ rest) ≡ Some ((signal, value), rest)
unfolding set_at after_word
set_again signal value rest small =
    let regrouped : set_words signal value ++ rest ≡ signal_words signal ++ 32 ∷ (bit_words value ++ rest) = simp append_assoc in
    ap set_at regrouped ∙ rw (signal_again signal (32 ∷ (bit_words value ++ rest)) small refl, bit_again value rest) refl

watched_again : (on : Watched) (rest : List ℕ) → IsWatched on → Stops ends_whole rest → watched_at (watched_words on ++ rest) ≡ Some (on, rest)
unfolding watched_at after_word
watched_again (watched.Signal signal value) rest small stops = rw (set_again signal value rest small) refl
watched_again (watched.Pers pers) rest small stops = rw (whole_again (2 ^ 32) pers rest small small stops) refl

single_again : (single : Bool) (more : List ℕ) → single_at (single_words single ++ 32 ∷ 62 ∷ more) ≡ Some (single, 32 ∷ 62 ∷ more)
unfolding single_at after_word
single_again true more = refl
single_again false more = refl

single_stops : (single : Bool) (more : List ℕ) → Stops ends_whole (single_words single ++ 32 ∷ more)
single_stops true more = refl
single_stops false more = refl

order_again : (number : ℕ) (on : Watched) (single : Bool) (more : List ℕ) → IsU8 number → IsWatched on
    → order_at (decimal number ++ (32 ∷ watched_words on ++ single_words single) ++ 32 ∷ 62 ∷ more) ≡ Some (requests.Order number on single, 32 ∷ 62 ∷ more)
unfolding order_at after_word
order_again number on single more small fits =
    let tail = single_words single ++ 32 ∷ 62 ∷ more in
    let regrouped : decimal number ++ (32 ∷ watched_words on ++ single_words single) ++ 32 ∷ 62 ∷ more ≡ decimal number ++ 32 ∷ (watched_words on ++ tail) = simp append_assoc in
    ap order_at regrouped ∙ rw (whole_again (2 ^ 8) number (32 ∷ (watched_words on ++ tail)) small (omega arith) refl, watched_again on tail fits (single_stops single (62 ∷ more)), single_again single more) refl

-- two numbers

connect_again : (old trap : ℕ) (more : List ℕ) → IsU8 old → IsU32 trap → connect_at (two_words old trap ++ 32 ∷ more) ≡ Some (requests.Connect old trap, 32 ∷ more)
unfolding connect_at after_word
connect_again old trap more first second =
    let regrouped : two_words old trap ++ 32 ∷ more ≡ decimal old ++ 32 ∷ (decimal trap ++ 32 ∷ more) = simp append_assoc in
    ap connect_at regrouped ∙ rw (whole_again (2 ^ 8) old (32 ∷ (decimal trap ++ 32 ∷ more)) first (omega arith) refl, whole_again (2 ^ 32) trap (32 ∷ more) second second refl) refl

arrive_again : (meeting tasks : ℕ) (more : List ℕ) → IsU32 meeting → IsU16 tasks → arrive_at (two_words meeting tasks ++ 32 ∷ more) ≡ Some (requests.Arrive meeting tasks, 32 ∷ more)
unfolding arrive_at after_word
arrive_again meeting tasks more first second =
    let regrouped : two_words meeting tasks ++ 32 ∷ more ≡ decimal meeting ++ 32 ∷ (decimal tasks ++ 32 ∷ more) = simp append_assoc in
    ap arrive_at regrouped ∙ rw (whole_again (2 ^ 32) meeting (32 ∷ (decimal tasks ++ 32 ∷ more)) first first refl, whole_again (2 ^ 16) tasks (32 ∷ more) second (omega arith) refl) refl

-- zones

kind_again : (kind : Bool) (rest : List ℕ) → kind_at (kind_words kind ++ rest) ≡ Some (kind, rest)
unfolding kind_at after_word
kind_again true rest = refl
kind_again false rest = refl

zone_again : (old : ℕ) (kind : Bool) (shape : Shape) (more : List ℕ) → IsU8 old → IsShape shape → zone_at (zone_words old kind shape ++ 32 ∷ more) ≡ Some ((old, kind, shape), 32 ∷ more)
unfolding zone_at after_word
zone_again old kind shape more small fits =
    let tail = shape_words shape ++ 32 ∷ more in
    let regrouped : zone_words old kind shape ++ 32 ∷ more ≡ decimal old ++ 32 ∷ (kind_words kind ++ 32 ∷ tail) = simp append_assoc in
    ap zone_at regrouped ∙ rw (whole_again (2 ^ 8) old (32 ∷ (kind_words kind ++ 32 ∷ tail)) small (omega arith) refl, kind_again kind (32 ∷ tail), shape_again shape (32 ∷ more) fits refl) refl

tie_again : (old : ℕ) (kind : Bool) (shape : Shape) (signal : ℕ) (value : Bool) (more : List ℕ) → IsU8 old → IsShape shape → IsU32 signal
    → tie_at ((zone_words old kind shape ++ 32 ∷ set_words signal value) ++ 32 ∷ more) ≡ Some (requests.ZoneTie old kind shape signal value, 32 ∷ more)
unfolding tie_at after_word
tie_again old kind shape signal value more small fits wide =
    let tail = set_words signal value ++ 32 ∷ more in
    let regrouped : (zone_words old kind shape ++ 32 ∷ set_words signal value) ++ 32 ∷ more ≡ zone_words old kind shape ++ 32 ∷ tail = append_assoc (zone_words old kind shape) (32 ∷ set_words signal value) (32 ∷ more) in
    ap tie_at regrouped ∙ rw (zone_again old kind shape tail small fits, set_again signal value (32 ∷ more) wide) refl

-- fates

fault_again : (fault : Fault) (rest : List ℕ) → IsFault fault → Stops ends_whole rest → fault_at (fault_words fault ++ rest) ≡ Some (fault, rest)
unfolding fault_at named_at unhandled_at after_word
fault_again (faults.Unhandled number) rest fits stops = rw (whole_again (2 ^ 8) number rest fits (omega arith) stops) refl
fault_again _ rest fits stops = refl

pub fate_again : (fate : Fate) (rest : List ℕ) → IsFate fate → Stops ends_whole rest → fate_at (fate_words fate ++ rest) ≡ Some (fate, rest)
unfolding fate_at after_word
fate_again (fates.Fault fault) rest fits stops = rw (fault_again fault rest fits stops) refl
fate_again _ rest fits stops = refl

-- texts to the operator

no_tail_again : (more : List ℕ) → tail_at (32 ∷ 62 ∷ more) ≡ Some (tails.None, 32 ∷ 62 ∷ more)
unfolding tail_at next_num num_at minus_at size_at number_at after_word
no_tail_again more = refl

truth_tail_again : (b : Bool) (more : List ℕ) → tail_at (said_words (tails.Bool b) ++ 32 ∷ 62 ∷ more) ≡ Some (tails.Bool b, 32 ∷ 62 ∷ more)
unfolding tail_at next_num num_at minus_at size_at number_at after_word
truth_tail_again true more = refl
truth_tail_again false more = refl

num_tail_again : (n : ℤ) (more : List ℕ) → IsNum n → tail_at (said_words (tails.Num n) ++ 32 ∷ 62 ∷ more) ≡ Some (tails.Num n, 32 ∷ 62 ∷ more)
unfolding tail_at
num_tail_again n more fits = rw (next_again 32 n (32 ∷ 62 ∷ more) fits refl) refl

tail_again : (tail : Tail) (more : List ℕ) → IsTail tail → tail_at (said_words tail ++ 32 ∷ 62 ∷ more) ≡ Some (tail, 32 ∷ 62 ∷ more)
tail_again tails.None more fits = no_tail_again more
tail_again (tails.Num n) more fits = num_tail_again n more fits
tail_again (tails.Bool b) more fits = truth_tail_again b more

said_stops : (tail : Tail) (more : List ℕ) → Stops no_quote (said_words tail ++ 32 ∷ more)
said_stops tails.None more = refl
said_stops (tails.Num n) more = refl
said_stops (tails.Bool b) more = refl

said_again : (text : List ℕ) (tail : Tail) (more : List ℕ) → IsRequest (requests.Say text tail) → said_at ((quoted_text text ++ said_words tail) ++ 32 ∷ 62 ∷ more) ≡ Some (requests.Say text tail, 32 ∷ 62 ∷ more)
unfolding said_at
said_again text tail more fits =
    ap said_at (append_assoc (quoted_text text) (said_words tail) (32 ∷ 62 ∷ more))
    ∙ rw (quoted_again text (said_words tail ++ 32 ∷ 62 ∷ more) fits.0 (said_stops tail (62 ∷ more)), tail_again tail more fits.1) refl

-- values of persistents

fitting_part : (sort : Sort) (part : PartName) (value : Value) (inner : Option Sort) → part_sort sort part ≡ inner → fits_part sort part value ≡ true
    → (s : Sort) × (part_sort sort part ≡ Some s) × (is_value_of s value ≡ true)
fitting_part sort part value None e h = let k = rw e at h in absurd cc
fitting_part sort part value (Some inner) e h = let k = rw e at h in (inner, e, (and_parts (is_value_of inner value) (is_full value) k).0)

fitting_value : (sort : Option Sort) (part : PartName) (value : Value) → fits_pers sort part value ≡ true
    → (s : Sort) × (option_and_then (λ x. part_sort x part) sort ≡ Some s) × (is_value_of s value ≡ true)
fitting_value None part value h = absurd cc
fitting_value (Some sort) part value h = fitting_part sort part value (part_sort sort part) refl h

pub part_value_again : (names : NamesData) (pers : ℕ) (path : Path) (value : Value) (rest : List ℕ) → fits_pers (pers_sort names pers) path.part value ≡ true → IsValue value → Stops ends_num rest → Stops no_quote rest
    → part_value_at names pers path (value_text value ++ rest) ≡ Some (value, rest)
unfolding part_value_at
part_value_again names pers path value rest h fits num quote =
    let sort = fitting_value (pers_sort names pers) path.part value h in
    rw sort.1 (value_again sort.0 value rest sort.2 fits num quote)

written_again : (names : NamesData) (pers : ℕ) (path : Path) (value : Value) (more : List ℕ) → IsRequest (requests.WriteP pers path value) → is_part path.part ≡ true → fits_pers (pers_sort names pers) path.part value ≡ true
    → written_at names ((path_words pers path ++ 32 ∷ value_text value) ++ 32 ∷ more) ≡ Some (requests.WriteP pers path value, 32 ∷ more)
unfolding written_at after_word
written_again names pers path value more fits named typed =
    let tail = value_text value ++ 32 ∷ more in
    let regrouped : (path_words pers path ++ 32 ∷ value_text value) ++ 32 ∷ more ≡ path_words pers path ++ 32 ∷ tail = append_assoc (path_words pers path) (32 ∷ value_text value) (32 ∷ more) in
    ap (written_at names) regrouped ∙ rw (path_again pers path tail fits.0 fits.1 named, part_value_again names pers path value (32 ∷ more) typed fits.2 refl refl) refl

-- requests; an answer follows, after a mark

pub request_again : (names : NamesData) (actor : ℕ) (request : Request) (more : List ℕ) → IsRequest request → request_fits names actor request ≡ true
    → request_at names (request_words request ++ 32 ∷ 62 ∷ more) ≡ Some (request, 32 ∷ 62 ∷ more)
unfolding request_at course_request_at interrupt_request_at zone_request_at set_zone_at after_word
request_again names actor (requests.ReadP pers path) more fits h = rw (path_again pers path (62 ∷ more) fits.0 fits.1 (and_parts _ (is_part path.part) h).1) refl
request_again names actor (requests.WriteP pers path value) more fits h =
    let both = and_parts (has_part names pers path.part) (fits_pers (pers_sort names pers) path.part value) h in
    rw (written_again names pers path value (62 ∷ more) fits (and_parts (has_pers names pers) (is_part path.part) both.0).1 both.1) refl
request_again names actor (requests.TestSet pers path) more fits h = rw (path_again pers path (62 ∷ more) fits.0 fits.1 (and_parts (has_pers names pers) (is_part path.part) h).1) refl
request_again names actor (requests.ReadS signal) more fits h = rw (signal_again signal (32 ∷ 62 ∷ more) fits refl) refl
request_again names actor (requests.WriteS signal value) more fits h = rw (set_again signal value (32 ∷ 62 ∷ more) fits) refl
request_again names actor (requests.Setpoint to) more fits h =
    let both = and_parts (has_arm names actor) (is_position (axes_of names actor) to) h in
    rw (place_again (axes_of names actor) to (32 ∷ 62 ∷ more) fits both.0 both.1 refl (before_answer more)) refl
request_again names actor (requests.Connect old trap) more fits h = connect_again old trap (62 ∷ more) fits.0 fits.1
request_again names actor (requests.Order number on single) more fits h = order_again number on single more fits.0 fits.1
request_again names actor (requests.Sleep number) more fits h = rw (whole_again (2 ^ 8) number (32 ∷ 62 ∷ more) fits (omega arith) refl) refl
request_again names actor (requests.Watch number) more fits h = rw (whole_again (2 ^ 8) number (32 ∷ 62 ∷ more) fits (omega arith) refl) refl
request_again names actor (requests.Delete number) more fits h = rw (whole_again (2 ^ 8) number (32 ∷ 62 ∷ more) fits (omega arith) refl) refl
request_again names actor (requests.ZoneSet old temporary shape) more fits h = rw (zone_again old temporary shape (62 ∷ more) fits.0 fits.1) refl
request_again names actor (requests.ZoneTie old temporary shape signal value) more fits h = tie_again old temporary shape signal value (62 ∷ more) fits.0 fits.1 fits.2
request_again names actor (requests.ZoneOn zone) more fits h = rw (whole_again (2 ^ 8) zone (32 ∷ 62 ∷ more) fits (omega arith) refl) refl
request_again names actor (requests.ZoneOff zone) more fits h = rw (whole_again (2 ^ 8) zone (32 ∷ 62 ∷ more) fits (omega arith) refl) refl
request_again names actor (requests.ZoneFree zone) more fits h = rw (whole_again (2 ^ 8) zone (32 ∷ 62 ∷ more) fits (omega arith) refl) refl
request_again names actor (requests.Arrive meeting tasks) more fits h = arrive_again meeting tasks (62 ∷ more) fits.0 fits.1
request_again names actor (requests.Hold seen) more fits h = rw (whole_again (2 ^ 32) seen (32 ∷ 62 ∷ more) fits fits refl) refl
request_again names actor (requests.Input index) more fits h = rw (whole_again (2 ^ 32) index (32 ∷ 62 ∷ more) fits fits refl) refl
request_again names actor (requests.Say text tail) more fits h = said_again text tail more fits
request_again names actor (requests.End fate) more fits h = rw (fate_again fate (32 ∷ 62 ∷ more) fits refl) refl
request_again names actor _ more fits h = refl
