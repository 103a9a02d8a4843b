-- A Hold carries the count that answered the last Look of its own routine.
use Rattle.std.proofs.Common.{◌≡◌, ◌≢◌, refl, sym, ap, ◌∙◌, subst, ℕ, zero, suc, ◌≤◌, Bool, List, [], ◌∷◌, ◌++◌, length, drop, arith, append_assoc}
use Rattle.std.proofs.lemmas.List.{append-nil, length-map}
use Rattle.std.specs.Prelude.{⊤}
use Rattle.rapid_model.specs.Fits.{Fitting}
use Rattle.rapid_model.specs.declared.answer.Answer.{Answer}
use Rattle.rapid_model.specs.declared.answer.Answer.TheVariants.{Go}
use Rattle.rapid_model.specs.declared.request.Request.{Request}
use Rattle.rapid_model.specs.declared.request.Request.TheVariants as requests
use Rattle.rapid_model.specs.declared.request.Request.TheVariants.{Hold, Look}
use Rattle.typed_trees.specs.Plain.{TypedTree}
use Rattle.rapid_meaning.specs.Answering.{Outcome, Gave, Raised, Asking, Ended, Misfits, Unfit, NoFuel, fitting_of}
use Rattle.rapid_meaning.specs.Data.{Data, Frame, seen_in}
use Rattle.rapid_meaning.specs.Runs.{state_after}
use Rattle.rapid_meaning.proofs.Counts.{AreKept, IsLeft, counts, found}
use Rattle.rapid_meaning.proofs.Fuel.{enough}
use Rattle.rapid_meaning.proofs.Growth.{Grows, grows_state}
use Rattle.rapid_meaning.proofs.Kept.{carries}
use Rattle.rapid_meaning.proofs.Next.{IsGoing, asked_next}

-- the count with this many counts after it, if there is one
abbrev IsAt : ℕ → ℕ → List ℕ → Type 0
IsAt below seen [] = ⊤
IsAt below seen (count ∷ more) = (length more ≡ below → count ≡ seen) × IsAt below seen more

at_fewer : (below seen fewer : ℕ) (before : List ℕ) → IsAt below seen before → IsAt below seen (drop fewer before)
at_fewer below seen zero before at = at
at_fewer below seen (suc fewer) [] at = tt
at_fewer below seen (suc fewer) (count ∷ more) at = at_fewer below seen fewer more at.1

at_left : (below seen : ℕ) (here before : List ℕ) → IsLeft here before → IsAt below seen before → IsAt below seen here
at_left below seen here before left at = subst (λ (xs : List ℕ). IsAt below seen xs) (sym left.is) (at_fewer below seen left.fewer before at)

-- a new frame that looks is not the one
at_new : (below seen : ℕ) (here : List ℕ) → length here ≢ suc below → IsAt below seen (drop 1 here) → IsAt below seen here
at_new below seen [] other at = tt
at_new below seen (count ∷ more) other at = (λ same. absurd (other (ap suc same)), at)

at_next : (below seen : ℕ) (request : Request) (here before : List ℕ) → IsGoing request → AreKept request here before → (request ≡ Look → length here ≢ suc below)
    → IsAt below seen before → IsAt below seen here
at_next below seen requests.Look here before going kept other at = at_new below seen here (other refl) (at_left below seen (drop 1 here) before kept at)
at_next below seen (requests.End fate) here before going kept other at = absurd going
at_next below seen _ here before going kept other at = at_left below seen here before kept at

at_found : (below seen : ℕ) (request : Request) (a : Answer) (before : List ℕ) → (request ≡ Look → length before ≢ suc below) → IsAt below seen before → IsAt below seen (found request a before)
at_found below seen requests.Look (Go count) [] other at = tt
at_found below seen requests.Look (Go count) (old ∷ more) other at = (λ same. absurd (other refl (ap suc same)), at.1)
at_found below seen requests.Look _ before other at = at
at_found below seen _ a before other at = at

-- right after the Look
at_first : (below seen : ℕ) (before : List ℕ) → length before ≡ suc below → IsAt below seen (found Look (Go seen) before)
at_first below seen [] many = absurd cc
at_first below seen (old ∷ more) many = (λ same. refl, short below seen more (omega (arith, many)))
  where
    short : (below seen : ℕ) (xs : List ℕ) → length xs ≤ below → IsAt below seen xs
    short below seen [] few = tt
    short below seen (count ∷ more) few = (λ same. absurd (omega (arith, few, same)), short below seen more (omega (arith, few)))

-- a task that asks asked before its last answer
asked_of : (by : Bool → Fitting) (a : Answer) (o p : Outcome ⊤) → Grows by a o p → (o ≡ NoFuel → ⊥) → (request : Request) (d : Data) → p ≡ Asking request d
    → (earlier : Request) × (e : Data) × (o ≡ Asking earlier e)
asked_of by a (Asking earlier e) p grown fuel request d is = (earlier, e, refl)
asked_of by a (Gave v e left) p grown fuel request d is = absurd cc
asked_of by a (Raised n e left) p grown fuel request d is = absurd cc
asked_of by a (Ended e) p grown fuel request d is = absurd cc
asked_of by a Misfits p grown fuel request d is = absurd cc
asked_of by a Unfit p grown fuel request d is = absurd cc
asked_of by a NoFuel p grown fuel request d is = absurd (fuel refl)

asked_before : (tree : TypedTree) (answers : List Answer) (a : Answer) (request : Request) (d : Data) → state_after tree (answers ++ a ∷ []) ≡ Asking request d
    → (earlier : Request) × (e : Data) × (state_after tree answers ≡ Asking earlier e)
asked_before tree answers a request d is =
    asked_of (fitting_of tree) a (state_after tree answers) (state_after tree (answers ++ a ∷ [])) (grows_state tree answers a) (enough tree answers) request d is

-- a pending request that is not End
record Pending (tree : TypedTree) (answers : List Answer) : Type 0 where
  request : Request
  at : Data
  asks : state_after tree answers ≡ Asking request at
  going : IsGoing request

after_one : (tree : TypedTree) (answers more : List Answer) (a : Answer) (o : Outcome ⊤) → state_after tree (answers ++ a ∷ more) ≡ o → state_after tree ((answers ++ a ∷ []) ++ more) ≡ o
after_one tree answers more a o is = subst (λ (xs : List Answer). state_after tree xs ≡ o) (sym (append_assoc answers (a ∷ []) more)) is

-- a task that asks asked after fewer answers
pending_at : (tree : TypedTree) (answers more : List Answer) (request : Request) (e : Data) → IsGoing request → state_after tree (answers ++ more) ≡ Asking request e → Pending tree answers
pending_at tree answers [] request e going is = record {
  request = request;
  at = e;
  asks = subst (λ (xs : List Answer). state_after tree xs ≡ Asking request e) (append-nil answers) is;
  going = going;
}
pending_at tree answers (a ∷ more) request e going is =
    let later : Pending tree (answers ++ a ∷ []) = pending_at tree (answers ++ a ∷ []) more request e going (after_one tree answers more a (Asking request e) is) in
    let here = asked_before tree answers a later.request later.at later.asks in
    record {
      request = here.0;
      at = here.1;
      asks = here.2;
      going = (asked_next tree answers a here.0 here.1 later.request later.at here.2 later.asks).going;
    }

-- no Look from here on has as many frames
abbrev NoneSince : TypedTree → ℕ → List Answer → List Answer → Type 0
NoneSince tree below answers more =
    (some rest : List Answer) (f : Data) → more ≡ some ++ rest → state_after tree (answers ++ some) ≡ Asking Look f → length f.frames ≢ suc below

none_further : (tree : TypedTree) (below : ℕ) (answers more : List Answer) (a : Answer) → NoneSince tree below answers (a ∷ more) → NoneSince tree below (answers ++ a ∷ []) more
none_further tree below answers more a none = λ some rest f is looks.
    none (a ∷ some) rest f (ap (λ (xs : List Answer). a ∷ xs) is) (subst (λ (xs : List Answer). state_after tree xs ≡ Asking Look f) (append_assoc answers (a ∷ []) some) looks)

as_many : (frames : List Frame) → length (counts frames) ≡ length frames
as_many frames = length-map frames (λ (f : Frame). f.seen)

other_look : (tree : TypedTree) (below : ℕ) (answers more : List Answer) → NoneSince tree below answers more → (request : Request) (d : Data) → state_after tree answers ≡ Asking request d
    → request ≡ Look → length (counts d.frames) ≢ suc below
other_look tree below answers more none request d asks look = λ many.
    none [] more d refl (subst (λ (xs : List Answer). state_after tree xs ≡ Asking Look d) (sym (append-nil answers)) (asks ∙ ap (λ (r : Request). Asking r d) look)) (sym (as_many d.frames) ∙ many)

at_later : (tree : TypedTree) (below seen : ℕ) (answers more : List Answer) (first : Pending tree answers) → IsAt below seen (counts first.at.frames) → NoneSince tree below answers more
    → (request : Request) (e : Data) → IsGoing request → state_after tree (answers ++ more) ≡ Asking request e → IsAt below seen (counts e.frames)
at_later tree below seen answers [] first at none request e going is =
    let there : state_after tree answers ≡ Asking request e = subst (λ (xs : List Answer). state_after tree xs ≡ Asking request e) (append-nil answers) is in
    let same : first.at ≡ e = cc (first.asks, there) in
    subst (λ (d : Data). IsAt below seen (counts d.frames)) same at
at_later tree below seen answers (a ∷ more) first at none request e going is =
    let on : state_after tree ((answers ++ a ∷ []) ++ more) ≡ Asking request e = after_one tree answers more a (Asking request e) is in
    let second : Pending tree (answers ++ a ∷ []) = pending_at tree (answers ++ a ∷ []) more request e going on in
    let next = asked_next tree answers a first.request first.at second.request second.at first.asks second.asks in
    let since : NoneSince tree below (answers ++ a ∷ []) more = none_further tree below answers more a none in
    at_later tree below seen (answers ++ a ∷ []) more second
    (at_next below seen second.request (counts second.at.frames) (found first.request a (counts first.at.frames)) second.going next.kept
    (other_look tree below (answers ++ a ∷ []) more since second.request second.at second.asks)
    (at_found below seen first.request a (counts first.at.frames) (other_look tree below answers (a ∷ more) none first.request first.at first.asks) at)) since request e going on

innermost : (below seen : ℕ) (frames : List Frame) → length frames ≡ suc below → IsAt below seen (counts frames) → seen_in frames ≡ seen
innermost below seen [] many at = absurd cc
innermost below seen (frame ∷ rest) many at = at.0 (omega (arith, many, as_many rest))

pub own : (tree : TypedTree) (before more : List Answer) (seen count below : ℕ) (d e : Data) → state_after tree before ≡ Asking Look d → length d.frames ≡ suc below
    → state_after tree (before ++ Go seen ∷ more) ≡ Asking (Hold count) e → length e.frames ≡ suc below
    → ((some rest : List Answer) (f : Data) → more ≡ some ++ rest → state_after tree (before ++ Go seen ∷ some) ≡ Asking Look f → length f.frames ≢ suc below) → count ≡ seen
own tree before more seen count below d e looks first_many holds many none =
    let answers : List Answer = before ++ Go seen ∷ [] in
    let since : NoneSince tree below answers more = λ some rest f is asks.
    none some rest f is (subst (λ (xs : List Answer). state_after tree xs ≡ Asking Look f) (append_assoc before (Go seen ∷ []) some) asks) in
    let on : state_after tree (answers ++ more) ≡ Asking (Hold count) e = after_one tree before more (Go seen) (Asking (Hold count) e) holds in
    let first : Pending tree answers = pending_at tree answers more (Hold count) e tt on in
    let next = asked_next tree before (Go seen) Look d first.request first.at looks first.asks in
    let start : IsAt below seen (counts first.at.frames) =
    at_next below seen first.request (counts first.at.frames) (found Look (Go seen) (counts d.frames)) first.going next.kept
    (other_look tree below answers more since first.request first.at first.asks) (at_first below seen (counts d.frames) (as_many d.frames ∙ first_many)) in
    carries tree (before ++ Go seen ∷ more) count e holds ∙ innermost below seen e.frames many (at_later tree below seen answers more first start since (Hold count) e tt on)
