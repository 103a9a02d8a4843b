-- An answer that was written is read back, given its request.
use Rattle.std.proofs.Common.{◌≡◌, ℕ, ◌^◌, Bool, true, false, nat_lt, List, ◌∷◌, ◌++◌, Some, refl, ap, ◌∙◌, arith, decimal, append_assoc}
use Rattle.rapid_num.specs.Reach.{is_position}
use Rattle.rapid_num.specs.declared.joints.Joints.{Joints}
use Rattle.rapid_model.specs.declared.answer.Answer.{Answer}
use Rattle.rapid_model.specs.declared.answer.Answer.TheVariants as answers
use Rattle.rapid_model.specs.declared.path.Path.{Path}
use Rattle.rapid_model.specs.declared.request.Request.{Request}
use Rattle.rapid_model.specs.declared.request.Request.TheVariants as requests
use Rattle.rapid_model.specs.declared.value.Value.{Value}
use Rattle.rapid_model.specs.declared.zone_name.ZoneName.{ZoneName}
use Rattle.rapid_model.specs.declared.zone_name.ZoneName.TheVariants as zones
use Rattle.value_text.specs.ValueText.{truth_text, value_text}
use Rattle.history_text.specs.EventWords.{answer_words, axes_words, bit_words, two_words, zone_name_words}
use Rattle.history_text.specs.InRange.{AreNums, IsAnswer, IsU8, IsU32, IsValue, IsZoneName}
use Rattle.history_text.specs.Named.{NamesData, answer_fits, axes_of, request_fits}
use Rattle.history_text.specs.Reading.{after_word}
use Rattle.history_text.specs.EventReading.{answer_at, interrupt_answer_at, plain_answer_at, trap_at, zone_answer_at, zone_name_at}
use Rattle.history_text.proofs.NumbersAgain.{whole_again}
use Rattle.history_text.proofs.NumsAgain.{before_end, place_again}
use Rattle.history_text.proofs.RequestsAgain.{bit_again, part_value_again}
use Rattle.history_text.proofs.ValuesAgain.{truth_again}

-- the words of the answer alone identify it
abbrev is_plain : Answer → Bool
is_plain (answers.Val value) = false
is_plain (answers.Yes met) = false
is_plain (answers.Bit bit) = false
is_plain (answers.At place) = false
is_plain _ = true

-- the answers of the request are read from their words alone
abbrev tells_alone : Request → Bool
tells_alone (requests.ReadP pers path) = false
tells_alone (requests.TestSet pers path) = false
tells_alone (requests.ReadS signal) = false
tells_alone requests.Position = false
tells_alone _ = true

zone_name_again : (zone : ZoneName) (more : List ℕ) → IsZoneName zone → zone_name_at (zone_name_words zone ++ 10 ∷ more) ≡ Some (zone, 10 ∷ more)
unfolding zone_name_at after_word
zone_name_again (zones.Own number) more fits = rw (whole_again (2 ^ 8) number (10 ∷ more) fits (omega arith) refl) refl
zone_name_again (zones.Cell number) more fits = rw (whole_again (2 ^ 8) number (10 ∷ more) fits (omega arith) refl) refl

trap_again : (number trap : ℕ) (more : List ℕ) → IsU8 number → IsU32 trap → trap_at (two_words number trap ++ 10 ∷ more) ≡ Some (answers.Trap number trap, 10 ∷ more)
unfolding trap_at after_word
trap_again number trap more first second =
    let regrouped : two_words number trap ++ 10 ∷ more ≡ decimal number ++ 32 ∷ (decimal trap ++ 10 ∷ more) = simp append_assoc in
    ap trap_at regrouped ∙ rw (whole_again (2 ^ 8) number (32 ∷ (decimal trap ++ 10 ∷ more)) first (omega arith) refl, whole_again (2 ^ 32) trap (10 ∷ more) second second refl) refl

plain_again : (answer : Answer) (more : List ℕ) → IsAnswer answer → is_plain answer ≡ true → plain_answer_at (answer_words answer ++ 10 ∷ more) ≡ Some (answer, 10 ∷ more)
unfolding plain_answer_at interrupt_answer_at zone_answer_at after_word
plain_again (answers.Go seen) more fits plain = rw (whole_again (2 ^ 32) seen (10 ∷ more) fits fits refl) refl
plain_again (answers.Trap number trap) more fits plain = trap_again number trap more fits.0 fits.1
plain_again (answers.Val value) more fits plain = absurd cc
plain_again (answers.Yes met) more fits plain = absurd cc
plain_again (answers.Bit bit) more fits plain = absurd cc
plain_again (answers.At place) more fits plain = absurd cc
plain_again (answers.Stopped zone) more fits plain = rw (zone_name_again zone more fits) refl
plain_again (answers.Number number) more fits plain = rw (whole_again (2 ^ 8) number (10 ∷ more) fits (omega arith) refl) refl
plain_again _ more fits plain = refl

-- if the words alone identify the answer, the request does not matter
plain_answer : (names : NamesData) (request : Request) (text : List ℕ) → tells_alone request ≡ true → answer_at names request text ≡ plain_answer_at text
unfolding answer_at
plain_answer names (requests.ReadP pers path) text h = absurd cc
plain_answer names (requests.TestSet pers path) text h = absurd cc
plain_answer names (requests.ReadS signal) text h = absurd cc
plain_answer names requests.Position text h = absurd cc
plain_answer names _ text h = refl

-- such a request has such answers
plain_fits : (names : NamesData) (actor : ℕ) (request : Request) (answer : Answer) → tells_alone request ≡ true → answer_fits names actor request answer ≡ true → is_plain answer ≡ true
plain_fits names actor (requests.ReadP pers path) answer alone h = absurd cc
plain_fits names actor (requests.TestSet pers path) answer alone h = absurd cc
plain_fits names actor (requests.ReadS signal) answer alone h = absurd cc
plain_fits names actor requests.Position answer alone h = absurd cc
plain_fits names actor request (answers.Val value) alone h = absurd cc
plain_fits names actor request (answers.Yes met) alone h = absurd cc
plain_fits names actor request (answers.Bit bit) alone h = absurd cc
plain_fits names actor request (answers.At place) alone h = absurd cc
plain_fits names actor request _ alone h = refl

-- an answer that is read with the help of its request

value_answer : (names : NamesData) (actor pers : ℕ) (path : Path) (value : Value) (more : List ℕ) → IsValue value → answer_fits names actor (requests.ReadP pers path) (answers.Val value) ≡ true
    → answer_at names (requests.ReadP pers path) (value_text value ++ 10 ∷ more) ≡ Some (answers.Val value, 10 ∷ more)
unfolding answer_at
value_answer names actor pers path value more fits h = rw (part_value_again names pers path value (10 ∷ more) h fits refl refl) refl

truth_answer : (names : NamesData) (pers : ℕ) (path : Path) (met : Bool) (more : List ℕ) → answer_at names (requests.TestSet pers path) (truth_text met ++ 10 ∷ more) ≡ Some (answers.Yes met, 10 ∷ more)
unfolding answer_at
truth_answer names pers path met more = rw (truth_again met (10 ∷ more)) refl

bit_answer : (names : NamesData) (signal : ℕ) (bit : Bool) (more : List ℕ) → answer_at names (requests.ReadS signal) (bit_words bit ++ 10 ∷ more) ≡ Some (answers.Bit bit, 10 ∷ more)
unfolding answer_at
bit_answer names signal bit more = rw (bit_again bit (10 ∷ more)) refl

place_answer : (names : NamesData) (axes : ℕ) (place : Joints) (more : List ℕ) → AreNums 12 place.axis → nat_lt 0 axes ≡ true → is_position axes place ≡ true → answer_at names requests.Position (axes_words place ++ 10 ∷ more) ≡ Some (answers.At place, 10 ∷ more)
unfolding answer_at
place_answer names axes place more fits some h = rw (place_again axes place (10 ∷ more) fits some h refl (before_end more)) refl

pub answer_again : (names : NamesData) (actor : ℕ) (request : Request) (answer : Answer) (more : List ℕ) → IsAnswer answer → request_fits names actor request ≡ true → answer_fits names actor request answer ≡ true
    → answer_at names request (answer_words answer ++ 10 ∷ more) ≡ Some (answer, 10 ∷ more)
answer_again names actor (requests.ReadP pers path) (answers.Val value) more fits asked h = value_answer names actor pers path value more fits h
answer_again names actor (requests.ReadP pers path) _ more fits asked h = absurd cc
answer_again names actor (requests.TestSet pers path) (answers.Yes met) more fits asked h = truth_answer names pers path met more
answer_again names actor (requests.TestSet pers path) _ more fits asked h = absurd cc
answer_again names actor (requests.ReadS signal) (answers.Bit bit) more fits asked h = bit_answer names signal bit more
answer_again names actor (requests.ReadS signal) _ more fits asked h = absurd cc
answer_again names actor requests.Position (answers.At place) more fits asked h = place_answer names (axes_of names actor) place more fits asked h
answer_again names actor requests.Position _ more fits asked h = absurd cc
answer_again names actor request answer more fits asked h =
    plain_answer names request (answer_words answer ++ 10 ∷ more) refl ∙ plain_again answer more fits (plain_fits names actor request answer refl h)
