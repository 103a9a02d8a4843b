-- What one more event says of a task: whether it is held, in a trap, or past its End, and which traps it connected.
use Rattle.std.proofs.Common.{◌≡◌, ◌⊎◌, inl, inr, ⊎_elim, refl, sym, ap, ◌∙◌, subst, ℕ, ◌+◌, ◌==◌, Bool, true, false, not, ◌||◌, cond, List, [], ◌∷◌, ◌++◌, Option, Some, None, is_some, slice_get, if◌then◌else◌, IsTrue, arith}
use Rattle.std.specs.Prelude.{count_by}
use Rattle.std.specs.List.{list_any}
use Rattle.std.specs.Option.{option_or}
use Rattle.std.proofs.lemmas.Bool.{and_parts, eq-eqb, eqb-true, ne_eqb, not-true}
use Rattle.std.proofs.lemmas.List.Folds.{list_any-append}
use Rattle.std.proofs.lemmas.List.Sums.{sum_by_push}
use Rattle.rapid_model.specs.Fits.{Fitting, fits_request}
use Rattle.rapid_model.specs.Own.{connects_with, end_of, fate_of, has_connected, has_ended, is_leave, is_trap, is_trapped}
use Rattle.rapid_model.specs.declared.answer.Answer.{Answer}
use Rattle.rapid_model.specs.declared.answer.Answer.TheVariants as answers
use Rattle.rapid_model.specs.declared.event.Event.{Event}
use Rattle.rapid_model.specs.declared.fate.Fate.{Fate}
use Rattle.rapid_model.specs.declared.request.Request.{Request}
use Rattle.rapid_model.specs.declared.request.Request.TheVariants as requests
use Rattle.typed_trees.specs.Plain.{TypedTree}
use Rattle.rapid_meaning.specs.Answering.{fitting_of, is_trap_row}
use Rattle.rapid_meaning.specs.Data.{Data}
use Rattle.tree_typing.specs.Asked.{IsAsked}
use Rattle.tree_typing.specs.Setting.{Setting}
use Rattle.tree_typing.proofs.OwnState.{trapped_after}

ended_or : (told : Option Fate) (first last : Option Fate) → (is_some first ≡ false → is_some last ≡ false) → is_some (option_or told first) ≡ false → is_some (option_or told last) ≡ false
ended_or None first last more e = more e
ended_or (Some fate) first last more e = absurd cc

pub going_last : (mine : List Event) (e : Event) → fate_of e.request ≡ None → has_ended mine ≡ false → has_ended (mine ++ e ∷ []) ≡ false
going_last [] e told going = ap (λ (o : Option Fate). is_some (option_or o None)) told
going_last (x ∷ more) e told going = ended_or (fate_of x.request) (end_of more) (end_of (more ++ e ∷ [])) (going_last more e told) going

-- as many traps were left as begun, except for one that is running
abbrev pub IsBalanced : List Event → Bool → Type 0
IsBalanced mine trapped = count_by (λ (e : Event). is_trap e.answer) mine ≡ count_by (λ (e : Event). is_leave e.request) mine + cond trapped 1 0

by_counts : (begun left : ℕ) (trapped : Bool) → begun ≡ left + cond trapped 1 0 → not (begun == left) ≡ trapped
by_counts begun left true e = ap not (ne_eqb begun left (λ (same : begun ≡ left). omega (arith, e, same)))
by_counts begun left false e = ap not (eq-eqb begun left (omega (arith, e)))

pub told_trapped : (mine : List Event) (trapped : Bool) → IsBalanced mine trapped → is_trapped mine ≡ trapped
told_trapped mine trapped balanced = by_counts (count_by (λ (e : Event). is_trap e.answer) mine) (count_by (λ (e : Event). is_leave e.request) mine) trapped balanced

-- a trap begins at a Look outside traps, and Leave is asked inside it
abbrev pub IsOrdered : Bool → Bool → Bool → Type 0
IsOrdered trap leave trapped = (trap ≡ true → (leave ≡ false) × (trapped ≡ false)) × (leave ≡ true → trapped ≡ true)

count_next : (begun left : ℕ) (trap leave trapped : Bool) → IsOrdered trap leave trapped → begun ≡ left + cond trapped 1 0
    → begun + cond trap 1 0 ≡ (left + cond leave 1 0) + cond (if trap then true else if leave then false else trapped) 1 0
count_next begun left true true trapped ordered e = let no : true ≡ false = (ordered.0 refl).0 in absurd cc
count_next begun left true false true ordered e = let no : true ≡ false = (ordered.0 refl).1 in absurd cc
count_next begun left true false false ordered e = omega (arith, e)
count_next begun left false true true ordered e = omega (arith, e)
count_next begun left false true false ordered e = let no : false ≡ true = ordered.1 refl in absurd cc
count_next begun left false false true ordered e = omega (arith, e)
count_next begun left false false false ordered e = omega (arith, e)

pub balanced_last : (mine : List Event) (e : Event) (trapped : Bool) → IsOrdered (is_trap e.answer) (is_leave e.request) trapped → IsBalanced mine trapped
    → IsBalanced (mine ++ e ∷ []) (trapped_after trapped e.request e.answer)
balanced_last mine e trapped ordered balanced =
    sum_by_push (λ (x : Event). cond (is_trap x.answer) 1 0) mine e
    ∙ count_next (count_by (λ (x : Event). is_trap x.answer) mine) (count_by (λ (x : Event). is_leave x.request) mine) (is_trap e.answer) (is_leave e.request) trapped ordered balanced
    ∙ ap (λ (n : ℕ). n + cond (trapped_after trapped e.request e.answer) 1 0) (sym (sum_by_push (λ (x : Event). cond (is_leave x.request) 1 0) mine e))

trap_fits : (by : Fitting) (request : Request) (a : Answer) → IsTrue (fits_request by request a) → is_trap a ≡ true → (is_leave request ≡ false) × (by.trapped ≡ false)
trap_fits by requests.Look (answers.Trap number trap) fits is = (refl, not-true by.trapped (and_parts (by.traps trap) (not by.trapped) fits).1)
trap_fits by request (answers.Trap number trap) fits is = absurd cc
trap_fits by request a fits is = absurd cc

in_trap : (c : Setting) (d : Data) (request : Request) → IsAsked c d request → is_leave request ≡ true → d.trapped ≡ true
in_trap c d requests.Leave asked is = asked
in_trap c d request asked is = absurd cc

pub in_order : (c : Setting) (d : Data) (request : Request) (a : Answer) → IsAsked c d request → IsTrue (fits_request (fitting_of c.tree d.trapped) request a)
    → IsOrdered (is_trap a) (is_leave request) d.trapped
in_order c d request a asked fits = (λ trap. trap_fits (fitting_of c.tree d.trapped) request a fits trap, λ leave. in_trap c d request asked leave)

-- routines that a task asked to connect are traps
abbrev pub AreTraps : TypedTree → List Event → Type 0
AreTraps tree mine = (trap : ℕ) → has_connected mine trap ≡ true → IsTrue (is_trap_row (slice_get tree.routines trap))

either : (b c : Bool) → (b || c) ≡ true → (b ≡ true) ⊎ (c ≡ true)
either true c e = inl refl
either false c e = inr e

connects_trap : (c : Setting) (d : Data) (request : Request) (trap : ℕ) → IsAsked c d request → connects_with trap request ≡ true → IsTrue (is_trap_row (slice_get c.tree.routines trap))
connects_trap c d (requests.Connect old number) trap asked is = subst (λ (n : ℕ). IsTrue (is_trap_row (slice_get c.tree.routines n))) (eqb-true number trap is) asked
connects_trap c d request trap asked is = absurd cc

pub traps_last : (c : Setting) (d : Data) (mine : List Event) (e : Event) → IsAsked c d e.request → AreTraps c.tree mine → AreTraps c.tree (mine ++ e ∷ [])
traps_last c d mine e asked are trap is =
    let connects : Event → Bool = λ x. connects_with trap x.request in
    ⊎_elim (λ (before : has_connected mine trap ≡ true). are trap before)
    (λ (last : (connects_with trap e.request || false) ≡ true). ⊎_elim (λ (it : connects_with trap e.request ≡ true). connects_trap c d e.request trap asked it)
    (λ (no : false ≡ true). absurd cc) (either (connects_with trap e.request) false last))
    (either (has_connected mine trap) (list_any connects (e ∷ [])) (sym (list_any-append connects mine (e ∷ [])) ∙ is))
