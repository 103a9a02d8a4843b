-- Doings of a FOR with its three data that raise no error.
use Rattle.std.proofs.Common.{ℕ, Option, None, Some}
use Rattle.std.specs.Prelude.{ℤ}
use Rattle.rapid_model.specs.declared.answer.Answer.{Answer}
use Rattle.rapid_model.specs.declared.answer.Answer.TheVariants as answers
use Rattle.rapid_model.specs.declared.part_name.PartName.{PartName}
use Rattle.rapid_model.specs.declared.value.Value.{Value}
use Rattle.rapid_model.specs.declared.value.Value.TheVariants as values
use Rattle.typed_trees.specs.declared.datum.Datum.{Datum}
use Rattle.typed_trees.specs.declared.datum.Datum.TheVariants as datums
use Rattle.typed_trees.specs.declared.datum.Root.{Root}
use Rattle.typed_trees.specs.declared.datum.Root.TheVariants as roots
use Rattle.rapid_meaning.specs.Data.{Data}
use Rattle.rapid_meaning.specs.Doings.{Doing, Gives, Raises, Asks, Ends, Misfit, Reads, Writes, Does, after, or_misfit}
use Rattle.rapid_meaning.specs.Places.{load, load_from, own_place, read_value, store_at, when_read, write_value, writes_at}
use Rattle.rapid_meaning.specs.Values.{num_in, value_in}
use Rattle.stack_code.specs.Steps.{counter_at, set_counter_at}
use Rattle.code_laws.proofs.Looks.{ok_calm}
use Rattle.code_laws.proofs.Same.{IsCalm}

calm_then : {A B : Type 0} (m : Doing A) (f : A → Doing B) → IsCalm m → ((v : A) → IsCalm (f v)) → IsCalm (after m f Raises)
unfolding after
calm_then (Gives v) f own next = next v
calm_then (Raises n) f own next = absurd own
calm_then (Asks request k) f own next = λ a. calm_then (k a) f (own a) next
calm_then (Ends fate) f own next = tt
calm_then Misfit f own next = tt
calm_then (Reads k) f own next = λ d. calm_then (k d) f (own d) next
calm_then (Writes d m) f own next = calm_then m f own next
calm_then (Does p k h) f own next = absurd own

or_misfit_calm : {A : Type 0} (o : Option A) → IsCalm (or_misfit o)
or_misfit_calm None = tt
or_misfit_calm (Some v) = tt

value_calm : (x : Datum) → IsCalm (value_in x)
value_calm (datums.Plain v) = tt
value_calm x = tt

num_calm : (v : Value) → IsCalm (num_in v)
num_calm (values.Num n) = tt
num_calm v = tt

read_calm : (a : Answer) → IsCalm (when_read a)
read_calm (answers.Val v) = tt
read_calm a = tt

load_calm : (root : Root) (part : PartName) → IsCalm (load_from root part)
load_calm (roots.Pers pers index) part = λ a. read_calm a
load_calm root part = λ d. or_misfit_calm _

writes_calm : (root : Root) (d : Data) (new : Option Datum) → IsCalm (writes_at root d new)
writes_calm root d None = tt
writes_calm root d (Some new) = tt

store_calm : (root : Root) (part : PartName) (new : Datum) → IsCalm (store_at root part new)
store_calm (roots.Pers pers index) part new = calm_then (value_in new) _ (value_calm new) (λ v. λ a. ok_calm a)
store_calm root part new = λ d. writes_calm root d _

pub counter_calm : (k : ℕ) → IsCalm (counter_at k)
counter_calm k =
    calm_then (Reads (λ d. Gives (own_place k d.frames))) (λ p. after (read_value p) num_in Raises) (λ d. tt)
    (λ p. calm_then (read_value p) num_in (calm_then (load p) value_in (load_calm p.root p.part) value_calm) num_calm)

pub set_counter_calm : (k : ℕ) (n : ℤ) → IsCalm (set_counter_at k n)
set_counter_calm k n =
    calm_then (Reads (λ d. Gives (own_place k d.frames))) (λ p. write_value p (values.Num n)) (λ d. tt)
    (λ p. store_calm p.root p.part (datums.Plain (values.Num n)))
