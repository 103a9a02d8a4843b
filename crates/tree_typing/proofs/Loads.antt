-- Reading and writing at a place of a type.
use Rattle.std.proofs.Common.{◌≡◌, refl, sym, ap, ◌∙◌, subst, ℕ, Bool, true, false, Option, Some, is_some, IsTrue}
use Rattle.std.specs.Prelude.{⊤}
use Rattle.std.specs.Option.{option_and_then}
use Rattle.rapid_model.specs.Fits.{fits_pers}
use Rattle.rapid_model.specs.Paths.{fits_part, has_sort, part_sort}
use Rattle.rapid_model.specs.Sorts.{has_values}
use Rattle.rapid_model.specs.declared.answer.Answer.TheVariants as answers
use Rattle.rapid_model.specs.declared.part_name.PartName.{PartName}
use Rattle.rapid_model.specs.declared.path.Path.{Path}
use Rattle.rapid_model.specs.declared.request.Request.TheVariants.{ReadP, WriteP, TestSet}
use Rattle.rapid_model.specs.declared.sort.Sort.{Sort}
use Rattle.rapid_model.specs.declared.sort.Sort.TheVariants as sorts
use Rattle.rapid_model.specs.declared.value.Value.{Value}
use Rattle.rapid_model.specs.declared.value.Value.TheVariants as values
use Rattle.typed_trees.specs.declared.datum.Datum.{Datum}
use Rattle.typed_trees.specs.declared.datum.Datum.TheVariants as datums
use Rattle.typed_trees.specs.declared.datum.Lvalue.{Lvalue}
use Rattle.typed_trees.specs.declared.datum.Root.{Root}
use Rattle.typed_trees.specs.declared.datum.Root.TheVariants as roots
use Rattle.rapid_meaning.specs.Answering.{sort_of_pers}
use Rattle.rapid_meaning.specs.Data.{Data, datum_at, put_at}
use Rattle.rapid_meaning.specs.Doings.{Gives, ◌>>=◌, done, or_misfit, tells, when_ok}
use Rattle.rapid_meaning.specs.Places.{load, load_from, part_in, path_of, put_in, read_value, set_unless, store, store_at, test_and_set, test_at, when_read, when_tested, write_value, writes_at}
use Rattle.rapid_meaning.specs.Values.{mark_in, truth_in, value_in}
use Rattle.rapid_meaning.proofs.Begins.{Anything}
use Rattle.tree_typing.specs.States.{IsRootOf}
use Rattle.tree_typing.specs.WellTyped.{is_datum_of, is_marked}
use Rattle.tree_typing.proofs.Data.{datum_part, datum_put, frame_datum, frame_put, mark_form, part_valued, plain_form, slot_datum, slot_put}
use Rattle.tree_typing.proofs.Forms.{bool_form}
use Rattle.tree_typing.proofs.Places.{IsThere}
use Rattle.tree_typing.proofs.Safe.{Answered, Safe, safe_any, safe_asks, safe_done, safe_gives, safe_or, safe_reads, safe_then, safe_writes}
use Rattle.tree_typing.proofs.Meets.{Meets}
use Rattle.tree_typing.proofs.Scene.{InScene, Scene, rules_of}
use Rattle.tree_typing.proofs.OwnState.{calm}

-- what is asked about a persistent's part
fits_inner : (whole : Sort) (part : PartName) (sort : Sort) (v : Value) → part_sort whole part ≡ Some sort → fits_part whole part v ≡ has_sort sort v
fits_inner whole part sort v e = rw e refl

is_inner : (whole : Sort) (part : PartName) (sort : Sort) → part_sort whole part ≡ Some sort → IsTrue (is_some (part_sort whole part))
is_inner whole part sort e = ap is_some e

read_answered : (s : Scene) (written : Bool) (pers index : ℕ) (part : PartName) (whole sort : Sort) → IsRootOf s.c.tree s.frames written (roots.Pers pers index) whole → part_sort whole part ≡ Some sort
    → Answered s (λ x. IsTrue (is_datum_of sort x)) (ReadP pers (path_of index part)) when_read
read_answered s written pers index part whole sort is e trapped (answers.Val v) fits =
    let own : sort_of_pers s.c.tree.pers_of s.c.tree.pers pers ≡ Some whole = s.facts.sorts pers is.0 is.1 ∙ ap Some is.3 in (
      refl,
      safe_gives s (λ x. IsTrue (is_datum_of sort x)) (datums.Plain v)
          (sym (fits_inner whole part sort v e) ∙ ap (λ (o : Option Sort). fits_pers o part v) (sym own) ∙ fits),
    )
read_answered s written pers index part whole sort is e trapped a fits = absurd cc

-- reads a datum of the place's type
load_at : (s : Scene) (written : Bool) (root : Root) (part : PartName) (whole sort : Sort) → IsRootOf s.c.tree s.frames written root whole → part_sort whole part ≡ Some sort
    → Safe s (λ x. IsTrue (is_datum_of sort x)) (load_from root part)
load_at s written (roots.Slot slot) part whole sort is e =
    safe_reads s (λ x. IsTrue (is_datum_of sort x)) (λ d. or_misfit (option_and_then (part_in part) (datum_at (roots.Slot slot) d)))
    (λ d state.
    let held : (x : Datum) × (datum_at (roots.Slot slot) d ≡ Some x) × IsTrue (is_datum_of whole x) = slot_datum s.c.tree s.trapped s.frames d written slot whole state is in
    let inner : (x : Datum) × (part_in part held.0 ≡ Some x) × IsTrue (is_datum_of sort x) = datum_part whole part sort held.0 held.2 e in
    safe_or s (λ x. IsTrue (is_datum_of sort x)) (option_and_then (part_in part) (datum_at (roots.Slot slot) d)) inner.0 (ap (option_and_then (part_in part)) held.1 ∙ inner.1) inner.2)
load_at s written (roots.Frame k at) part whole sort is e =
    safe_reads s (λ x. IsTrue (is_datum_of sort x)) (λ d. or_misfit (option_and_then (part_in part) (datum_at (roots.Frame k at) d)))
    (λ d state.
    let held : (x : Datum) × (datum_at (roots.Frame k at) d ≡ Some x) × IsTrue (is_datum_of whole x) = frame_datum s.c.tree s.trapped s.frames d written k at whole state is in
    let inner : (x : Datum) × (part_in part held.0 ≡ Some x) × IsTrue (is_datum_of sort x) = datum_part whole part sort held.0 held.2 e in
    safe_or s (λ x. IsTrue (is_datum_of sort x)) (option_and_then (part_in part) (datum_at (roots.Frame k at) d)) inner.0 (ap (option_and_then (part_in part)) held.1 ∙ inner.1) inner.2)
load_at s written (roots.Pers pers index) part whole sort is e =
    safe_asks s (λ x. IsTrue (is_datum_of sort x)) (ReadP pers (path_of index part)) when_read (record { no_rise = refl; no_hold = refl; no_leave = refl; no_end = refl })
    (λ d. (is.0, is.1, is.2, subst (λ (y : Sort). IsTrue (is_some (part_sort y part))) (sym is.3) (is_inner whole part sort e)))
    (read_answered s written pers index part whole sort is e)

pub load_safe : (s : Scene) (written : Bool) (q : Lvalue) (sort : Sort) → IsThere s written q sort → Safe s (λ x. IsTrue (is_datum_of sort x)) (load q)
load_safe s written q sort is = load_at s written q.root q.part is.0 sort is.1 is.2

pub value_safe : (s : Scene) (sort : Sort) (x : Datum) → IsTrue (has_values sort) → IsTrue (is_datum_of sort x) → Safe s (λ v. IsTrue (has_sort sort v)) (value_in x)
value_safe s sort x holds is =
    let f : (v : Value) × (x ≡ datums.Plain v) × IsTrue (has_sort sort v) = plain_form sort x holds is in
    subst (λ (y : Datum). Safe s (λ v. IsTrue (has_sort sort v)) (value_in y)) (sym f.1) (safe_gives s (λ v. IsTrue (has_sort sort v)) f.0 f.2)

pub read_safe : (s : Scene) (written : Bool) (q : Lvalue) (sort : Sort) → IsTrue (has_values sort) → IsThere s written q sort → Safe s (λ v. IsTrue (has_sort sort v)) (read_value q)
read_safe s written q sort holds is =
    safe_then s (λ x. IsTrue (is_datum_of sort x)) (λ v. IsTrue (has_sort sort v)) (load q) value_in (load_safe s written q sort is) (λ x typed. value_safe s sort x holds typed)

pub mark_safe : (s : Scene) (sort : Sort) (x : Datum) → IsTrue (is_marked sort) → IsTrue (is_datum_of sort x) → Safe s Anything (mark_in x)
mark_safe s sort x marked is =
    let f : (n : ℕ) × (x ≡ datums.Mark n) = mark_form sort x marked is in
    subst (λ (y : Datum). Safe s Anything (mark_in y)) (sym f.1) (safe_any s f.0)

ok_answered : (s : Scene) (pers : ℕ) (path : Path) (v : Value) → Answered s Anything (WriteP pers path v) when_ok
ok_answered s pers path v trapped answers.Ok fits = (refl, safe_done s)
ok_answered s pers path v trapped a fits = absurd cc

written_meets : (s : Scene) (root : Root) (d : Data) (o : Option Datum) (x : Datum) → o ≡ Some x → InScene s d → InScene s (put_at root x d)
    → Meets (rules_of s.c) (λ (v : ⊤) e. Anything v × InScene s e) (λ n e. InScene s e) (writes_at root d o) (calm d) d
written_meets s root d o x e is also =
    subst (λ (y : Option Datum). Meets (rules_of s.c) (λ (v : ⊤) z. Anything v × InScene s z) (λ n z. InScene s z) (writes_at root d y) (calm d) d) (sym e)
    (safe_writes s Anything done d (put_at root x d) is also (safe_done s))

-- writes a datum of the place's type
store_there : (s : Scene) (root : Root) (part : PartName) (whole sort : Sort) (new : Datum) → IsRootOf s.c.tree s.frames true root whole → part_sort whole part ≡ Some sort
    → IsTrue (is_datum_of sort new) → Safe s Anything (store_at root part new)
store_there s (roots.Slot slot) part whole sort new is e also = λ d state.
    let held : (x : Datum) × (datum_at (roots.Slot slot) d ≡ Some x) × IsTrue (is_datum_of whole x) = slot_datum s.c.tree s.trapped s.frames d true slot whole state is in
    let put : (x : Datum) × (put_in part new held.0 ≡ Some x) × IsTrue (is_datum_of whole x) = datum_put whole part sort held.0 new held.2 e also in
    written_meets s (roots.Slot slot) d (option_and_then (put_in part new) (datum_at (roots.Slot slot) d)) put.0 (ap (option_and_then (put_in part new)) held.1 ∙ put.1) state
    (slot_put s.c.tree s.trapped s.frames d slot whole put.0 state is put.2)
store_there s (roots.Frame k at) part whole sort new is e also = λ d state.
    let held : (x : Datum) × (datum_at (roots.Frame k at) d ≡ Some x) × IsTrue (is_datum_of whole x) = frame_datum s.c.tree s.trapped s.frames d true k at whole state is in
    let put : (x : Datum) × (put_in part new held.0 ≡ Some x) × IsTrue (is_datum_of whole x) = datum_put whole part sort held.0 new held.2 e also in
    written_meets s (roots.Frame k at) d (option_and_then (put_in part new) (datum_at (roots.Frame k at) d)) put.0 (ap (option_and_then (put_in part new)) held.1 ∙ put.1) state
    (frame_put s.c.tree s.trapped s.frames d k at whole put.0 state is put.2)
store_there s (roots.Pers pers index) part whole sort new is e also =
    let holds : IsTrue (has_values sort) = part_valued whole part sort (subst (λ (y : Sort). IsTrue (has_values y)) is.3 (s.facts.valued pers is.0 is.1)) e in
    safe_then s (λ v. IsTrue (has_sort sort v)) Anything (value_in new) (λ v. tells (WriteP pers (path_of index part) v)) (value_safe s sort new holds also)
    (λ v typed.
    safe_asks s Anything (WriteP pers (path_of index part) v) when_ok (record { no_rise = refl; no_hold = refl; no_leave = refl; no_end = refl })
    (λ d. (is.0, is.1, is.2, subst (λ (y : Sort). IsTrue (fits_part y part v)) (sym is.3) (fits_inner whole part sort v e ∙ typed)))
    (ok_answered s pers (path_of index part) v))

pub store_safe : (s : Scene) (q : Lvalue) (sort : Sort) (new : Datum) → IsThere s true q sort → IsTrue (is_datum_of sort new) → Safe s Anything (store q new)
store_safe s q sort new is also = store_there s q.root q.part is.0 sort new is.1 is.2 also

pub truth_safe : (s : Scene) (v : Value) → IsTrue (has_sort sorts.Bool v) → Safe s Anything (truth_in v)
truth_safe s v h = let f : (b : Bool) × (v ≡ values.Bool b) = bool_form v h in subst (λ (x : Value). Safe s Anything (truth_in x)) (sym f.1) (safe_any s f.0)

set_safe : (s : Scene) (q : Lvalue) (b : Bool) → IsThere s true q sorts.Bool → Safe s Anything (set_unless q b)
set_safe s q true is = safe_any s false
set_safe s q false is =
    safe_then s Anything Anything (write_value q (values.Bool true)) (λ _. Gives true) (store_safe s q sorts.Bool (datums.Plain (values.Bool true)) is refl) (λ _ _. safe_any s true)

tested_answered : (s : Scene) (pers : ℕ) (path : Path) → Answered s Anything (TestSet pers path) when_tested
tested_answered s pers path trapped (answers.Yes met) fits = (refl, safe_any s met)
tested_answered s pers path trapped a fits = absurd cc

silent_test : (s : Scene) (q : Lvalue) → IsThere s true q sorts.Bool → Safe s Anything (read_value q >>= λ v. truth_in v >>= set_unless q)
silent_test s q is =
    safe_then s (λ v. IsTrue (has_sort sorts.Bool v)) Anything (read_value q) (λ v. truth_in v >>= set_unless q) (read_safe s true q sorts.Bool refl is)
    (λ v typed. safe_then s Anything Anything (truth_in v) (set_unless q) (truth_safe s v typed) (λ b _. set_safe s q b is))

test_there : (s : Scene) (root : Root) (q : Lvalue) (whole : Sort) → IsRootOf s.c.tree s.frames true root whole → part_sort whole q.part ≡ Some sorts.Bool → IsThere s true q sorts.Bool
    → Safe s Anything (test_at root q)
test_there s (roots.Slot slot) q whole is e there = silent_test s q there
test_there s (roots.Frame k at) q whole is e there = silent_test s q there
test_there s (roots.Pers pers index) q whole is e there =
    safe_asks s Anything (TestSet pers (path_of index q.part)) when_tested (record { no_rise = refl; no_hold = refl; no_leave = refl; no_end = refl })
    (λ d. (is.0, is.1, is.2, ap (λ (y : Sort). part_sort y q.part) is.3 ∙ e)) (tested_answered s pers (path_of index q.part))

pub test_safe : (s : Scene) (q : Lvalue) → IsThere s true q sorts.Bool → Safe s Anything (test_and_set q)
test_safe s q is = test_there s q.root q is.0 is.1 is.2 is
