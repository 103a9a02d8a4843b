-- What a task does, as a tree of actions: what it asks, what it does with each answer, and how its data change.
use Rattle.std.specs.Prelude.{ℕ, List, Option, None, Some, ⊤}
use Rattle.rapid_model.specs.declared.answer.Answer.{Answer}
use Rattle.rapid_model.specs.declared.answer.Answer.TheVariants as answers
use Rattle.rapid_model.specs.declared.fate.Fate.{Fate}
use Rattle.rapid_model.specs.declared.fate.Fate.TheVariants as fates
use Rattle.rapid_model.specs.declared.fate.Fault.{Fault}
use Rattle.rapid_model.specs.declared.request.Request.{Request}
use Rattle.typed_trees.specs.declared.datum.Datum.{Datum}
use Rattle.rapid_meaning.specs.Data.{Data}
use Rattle.rapid_meaning.specs.Flows.{Flow, Part, Call}

-- Gives: done, with this result. Raises: an error with this number. Asks: a request, and what follows its answer. Ends:
-- the task ends. Misfit: no checked tree does this. Reads: what follows, from the current data. Writes: the data become
-- these. Does: a part of the program, what follows its end, and what follows an error that leaves it.
pub data Doing (A : Type 0) : Type 0 where
  Gives : A → Doing A
  Raises : ℕ → Doing A
  Asks : Request → (Answer → Doing A) → Doing A
  Ends : Fate → Doing A
  Misfit : Doing A
  Reads : (Data → Doing A) → Doing A
  Writes : Data → Doing A → Doing A
  Does : Part → (Flow → Doing A) → (ℕ → Doing A) → Doing A

-- a doing, then what follows its result or the error that it raises
unfoldable pub after : {A B : Type 0} → Doing A → (A → Doing B) → (ℕ → Doing B) → Doing B
after (Gives v) next failed = next v
after (Raises n) next failed = failed n
after (Asks request answered) next failed = Asks request (λ a. after (answered a) next failed)
after (Ends fate) next failed = Ends fate
after Misfit next failed = Misfit
after (Reads with_data) next failed = Reads (λ d. after (with_data d) next failed)
after (Writes d more) next failed = Writes d (after more next failed)
after (Does part ended raised) next failed = Does part (λ flow. after (ended flow) next failed) (λ n. after (raised n) next failed)

-- one after the other; an error skips the second
infixl 10 ◌>>=◌
abbrev pub ◌>>=◌ : {A B : Type 0} → Doing A → (A → Doing B) → Doing B
m >>= next = after m next Raises

infixl 10 ◌>>◌
abbrev pub ◌>>◌ : {A B : Type 0} → Doing A → Doing B → Doing B
m >> next = after m (λ _. next) Raises

-- a doing without a result
abbrev pub Act : Type 0
Act = Doing ⊤

abbrev pub done : Act
done = Gives tt

abbrev pub or_misfit : {A : Type 0} → Option A → Doing A
or_misfit None = Misfit
or_misfit (Some v) = Gives v

-- changes the data
abbrev pub change : (Data → Data) → Act
change to = Reads (λ d. Writes (to d) done)

-- ends the task with a fault
abbrev pub fault : {A : Type 0} → Fault → Doing A
fault f = Ends (fates.Fault f)

abbrev pub when_ok : Answer → Act
when_ok answers.Ok = done
when_ok _ = Misfit

-- asks a request whose only answer is Ok
abbrev pub tells : Request → Act
tells request = Asks request when_ok

-- does a part of the program, and ends as that does
abbrev pub goes_to : Part → Doing Flow
goes_to part = Does part Gives Raises

-- calls a routine, by its number
abbrev pub calls : ℕ → List Datum → Doing Flow
calls routine args = goes_to (Call routine args)
