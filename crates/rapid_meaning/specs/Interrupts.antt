-- Interrupts (RAPID Instructions: CONNECT, ISignalDI, ISignalDO, IPers, ISleep, IWatch, IDelete).
use Rattle.std.specs.Prelude.{ℕ, Bool}
use Rattle.rapid_model.specs.declared.answer.Answer.{Answer}
use Rattle.rapid_model.specs.declared.answer.Answer.TheVariants as answers
use Rattle.rapid_model.specs.declared.request.Request.{Request}
use Rattle.rapid_model.specs.declared.request.Request.TheVariants.{Connect, Order}
use Rattle.rapid_model.specs.declared.watched.Watched.{Watched}
use Rattle.rapid_model.specs.declared.errors.TheConstants.{ERR_ALRDYCNT, ERR_INOMAX, ERR_UNKINO}
use Rattle.typed_trees.specs.declared.datum.Datum.TheVariants.{Mark}
use Rattle.typed_trees.specs.declared.datum.Lvalue.{Lvalue}
use Rattle.typed_trees.specs.declared.datum.Root.{Root}
use Rattle.typed_trees.specs.declared.datum.Root.TheVariants as roots
use Rattle.rapid_meaning.specs.Doings.{Doing, Gives, Raises, Misfit, Asks, Act, ◌>>=◌, done}
use Rattle.rapid_meaning.specs.Places.{load, store}
use Rattle.rapid_meaning.specs.Values.{mark_in}

-- the number that a variable holds
abbrev pub number_at : Lvalue → Doing ℕ
number_at place = load place >>= mark_in

abbrev pub when_connected : Lvalue → Answer → Act
when_connected place (answers.Number number) = store place (Mark number)
when_connected place answers.Already = Raises ERR_ALRDYCNT
when_connected place answers.NoMore = Raises ERR_INOMAX
when_connected place _ = Misfit

-- connects the interrupt of a variable, which holds the old number, to a trap
abbrev pub connect : Lvalue → ℕ → ℕ → Act
connect place old trap = Asks (Connect old trap) (when_connected place)

abbrev pub when_ordered : Answer → Act
when_ordered answers.Ok = done
when_ordered answers.Unknown = Raises ERR_UNKINO
when_ordered answers.Already = Raises ERR_ALRDYCNT
when_ordered _ = Misfit

abbrev pub order : ℕ → Watched → Bool → Act
order number on single = Asks (Order number on single) when_ordered

abbrev pub when_known : Answer → Act
when_known answers.Ok = done
when_known answers.Unknown = Raises ERR_UNKINO
when_known _ = Misfit

-- sleeps, watches or deletes
abbrev pub asks_of_number : Request → Act
asks_of_number request = Asks request when_known

-- the number of the persistent at a root
abbrev pub pers_at : Root → Doing ℕ
pers_at (roots.Pers pers index) = Gives pers
pers_at _ = Misfit
