-- Doings of operations that do no part of a program.
use Rattle.std.proofs.Common.{ℕ, Bool, true, false, Option, None, Some}
use Rattle.rapid_model.specs.declared.answer.Answer.{Answer}
use Rattle.rapid_model.specs.declared.answer.Answer.TheVariants as answers
use Rattle.rapid_model.specs.declared.function.Function.{Function}
use Rattle.rapid_model.specs.declared.function.Function.TheVariants as functions
use Rattle.rapid_model.specs.declared.part_name.PartName.{PartName}
use Rattle.rapid_model.specs.declared.value.Value.{Value}
use Rattle.rapid_model.specs.declared.value.Value.TheVariants as values
use Rattle.rapid_values.specs.declared.applied.Applied.{Applied}
use Rattle.rapid_values.specs.declared.applied.Applied.TheVariants as applies
use Rattle.rapid_values.specs.Elements.{element_number}
use Rattle.typed_trees.specs.declared.datum.Datum.{Datum}
use Rattle.typed_trees.specs.declared.datum.Datum.TheVariants as datums
use Rattle.typed_trees.specs.declared.datum.Lvalue.{Lvalue}
use Rattle.typed_trees.specs.declared.datum.Root.{Root}
use Rattle.typed_trees.specs.declared.datum.Root.TheVariants as roots
use Rattle.rapid_meaning.specs.Data.{Data}
use Rattle.rapid_meaning.specs.Doings.{Gives, or_misfit, when_ok}
use Rattle.rapid_meaning.specs.Functions.{read_signal, when_at, when_bit}
use Rattle.rapid_meaning.specs.Places.{at_element, element_or_fault, element_root, indexed, load, load_from, part_at, place_of_element, read_value, set_unless, store, store_at, test_and_set, test_at, there_in, when_read, when_tested, writes_at}
use Rattle.rapid_meaning.specs.Values.{applied, num_in, opposite, text_in, truth_in, value_in, with_sign}
use Rattle.stack_code.specs.Functions.{of_value, of_values}
use Rattle.code_laws.proofs.Same.{NoPart, no_part_then}

pub or_misfit_alone : {A : Type 0} (o : Option A) → NoPart (or_misfit o)
or_misfit_alone None = tt
or_misfit_alone (Some v) = tt

-- answers

pub ok_alone : (a : Answer) → NoPart (when_ok a)
ok_alone answers.Ok = tt
ok_alone a = tt

bit_alone : (a : Answer) → NoPart (when_bit a)
bit_alone (answers.Bit bit) = tt
bit_alone a = tt

pub at_alone : (a : Answer) → NoPart (when_at a)
at_alone (answers.At position) = tt
at_alone a = tt

read_alone : (a : Answer) → NoPart (when_read a)
read_alone (answers.Val v) = tt
read_alone a = tt

tested_alone : (a : Answer) → NoPart (when_tested a)
tested_alone (answers.Yes met) = tt
tested_alone a = tt

pub signal_alone : (signal : ℕ) → NoPart (read_signal signal)
signal_alone signal = λ a. bit_alone a

-- forms of values

pub value_alone : (x : Datum) → NoPart (value_in x)
value_alone (datums.Plain v) = tt
value_alone x = tt

pub num_alone : (v : Value) → NoPart (num_in v)
num_alone (values.Num n) = tt
num_alone v = tt

pub truth_alone : (v : Value) → NoPart (truth_in v)
truth_alone (values.Bool b) = tt
truth_alone v = tt

pub text_alone : (v : Value) → NoPart (text_in v)
text_alone (values.Text text) = tt
text_alone v = tt

pub opposite_alone : (v : Value) → NoPart (opposite v)
opposite_alone (values.Bool b) = tt
opposite_alone v = tt

pub sign_alone : (minus : Bool) (v : Value) → NoPart (with_sign minus v)
sign_alone minus (values.Num n) = tt
sign_alone minus v = tt

pub applied_alone : (x : Applied) → NoPart (applied x)
applied_alone (applies.Gives v) = tt
applied_alone (applies.Raises n) = tt
applied_alone applies.OutOfRange = tt
applied_alone applies.Unfit = tt

pub of_value_alone : (function : Function) (v : Value) → NoPart (of_value function v)
of_value_alone functions.Abs v = no_part_then (num_in v) _ (num_alone v) (λ n. tt)
of_value_alone functions.Trunc v = no_part_then (num_in v) _ (num_alone v) (λ n. tt)
of_value_alone functions.StrLen v = no_part_then (text_in v) _ (text_alone v) (λ text. tt)
of_value_alone function v = tt

pub of_values_alone : (function : Function) (v w : Value) → NoPart (of_values function v w)
of_values_alone functions.NumToStr v w = no_part_then (num_in v) _ (num_alone v) (λ n. no_part_then (num_in w) _ (num_alone w) (λ count. tt))
of_values_alone function v w = tt

-- places

pub part_alone : (part : PartName) (p : Lvalue) → NoPart (part_at part p)
part_alone part p = or_misfit_alone _

pub there_alone : (p : Lvalue) (number : ℕ) → NoPart (at_element p number)
there_alone p number = λ d. or_misfit_alone (there_in d (place_of_element p number) (element_root p.root number))

element_alone : (p : Lvalue) (number : Option ℕ) → NoPart (element_or_fault p number)
element_alone p None = tt
element_alone p (Some number) = there_alone p number

pub indexed_alone : (len : Option ℕ) (p : Lvalue) (v : Value) → NoPart (indexed len p v)
indexed_alone None p v = tt
indexed_alone (Some len) p v = no_part_then (num_in v) (λ n. element_or_fault p (element_number len n)) (num_alone v) (λ n. element_alone p (element_number len n))

load_from_alone : (root : Root) (part : PartName) → NoPart (load_from root part)
load_from_alone (roots.Pers pers index) part = λ a. read_alone a
load_from_alone root part = λ d. or_misfit_alone _

pub load_alone : (p : Lvalue) → NoPart (load p)
load_alone p = load_from_alone p.root p.part

pub read_value_alone : (p : Lvalue) → NoPart (read_value p)
read_value_alone p = no_part_then (load p) value_in (load_alone p) value_alone

writes_alone : (root : Root) (d : Data) (new : Option Datum) → NoPart (writes_at root d new)
writes_alone root d None = tt
writes_alone root d (Some new) = tt

store_at_alone : (root : Root) (part : PartName) (new : Datum) → NoPart (store_at root part new)
store_at_alone (roots.Pers pers index) part new = no_part_then (value_in new) _ (value_alone new) (λ v. λ a. ok_alone a)
store_at_alone root part new = λ d. writes_alone root d _

pub store_alone : (p : Lvalue) (new : Datum) → NoPart (store p new)
store_alone p new = store_at_alone p.root p.part new

unless_alone : (p : Lvalue) (b : Bool) → NoPart (set_unless p b)
unless_alone p true = tt
unless_alone p false = no_part_then (store p (datums.Plain (values.Bool true))) (λ _. Gives true) (store_alone p (datums.Plain (values.Bool true))) (λ _. tt)

test_at_alone : (root : Root) (p : Lvalue) → NoPart (test_at root p)
test_at_alone (roots.Pers pers index) p = λ a. tested_alone a
test_at_alone root p = no_part_then (read_value p) _ (read_value_alone p) (λ v. no_part_then (truth_in v) (set_unless p) (truth_alone v) (unless_alone p))

pub test_alone : (p : Lvalue) → NoPart (test_and_set p)
test_alone p = test_at_alone p.root p
