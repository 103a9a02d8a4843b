-- What a prefix of a history says of the whole.
use Rattle.std.proofs.Common.{◌≡◌, ℕ, zero, suc, ◌+◌, ◌≤◌, Bool, true, false, cond, not, List, [], ◌∷◌, ◌++◌, length, length-append, Option, Some, None, refl, sym, ◌∙◌, ap, arith}
use Rattle.std.specs.Prelude.{◌||◌, ◌==◌, is_some, nat_lt}
use Rattle.std.specs.Option.{option_or}
use Rattle.std.proofs.lemmas.Bool.{and_from, and_parts, false≢true, le-ltb, ltb-false}
use Rattle.std.proofs.lemmas.List.Elements.{filter-append}
use Rattle.std.proofs.lemmas.List.Sums.{sum_by-append}
use mathlib.Core.List.{IsPrefix}
use Rattle.rapid_model.specs.CellData.{CellData}
use Rattle.rapid_model.specs.Own.{part_of, end_of, fate_of, has_ended}
use Rattle.rapid_model.specs.declared.event.Event.{Event}
use Rattle.rapid_model.specs.declared.fate.Fate.{Fate}
use Rattle.rapid_model.specs.declared.request.Request.{Request}
use Rattle.cell_meaning.specs.Counted.{can_be_served, counted, is_counted}
use Rattle.cell_meaning.specs.Fates.{all_ended}
use Rattle.cell_meaning.specs.Inputs.{inputs_done}

part_longer : (actor : ℕ) (seen more : List Event) → part_of actor (seen ++ more) ≡ part_of actor seen ++ part_of actor more
part_longer actor seen more = filter-append (λ e. e.actor == actor) seen more

-- the count does not fall
pub counted_longer : (seen history : List Event) → IsPrefix seen history → counted seen ≤ counted history
counted_longer seen history begins =
    let all : counted (seen ++ begins.0) ≡ counted seen + counted begins.0 = sum_by-append (λ (e : Event). cond (is_counted e.request) 1 0) seen begins.0 in
    let same : counted (seen ++ begins.0) ≡ counted history = ap (λ (es : List Event). counted es) begins.1 in
    omega (arith, all, same)

-- what could not be served cannot be served later
pub unserved_later : (cell : CellData) (seen history : List Event) (request : Request) → IsPrefix seen history → can_be_served cell seen request ≡ false → can_be_served cell history request ≡ false
unserved_later cell seen history request begins unserved = by (is_counted request) unserved
  where
    by : (b : Bool) → (not b || nat_lt (counted seen) cell.steps) ≡ false → (not b || nat_lt (counted history) cell.steps) ≡ false
    by false h = absurd (false≢true (sym h))
    by true h = le-ltb (counted history) cell.steps (let few = ltb-false (counted seen) cell.steps h in let more = counted_longer seen history begins in omega (arith, few, more))

-- a task that has ended stays ended
ended_more : (mine more : List Event) → has_ended mine ≡ true → has_ended (mine ++ more) ≡ true
ended_more [] more ended = absurd (false≢true ended)
ended_more (e ∷ es) more ended = by (fate_of e.request) ended (ended_more es more)
  where
    by : (told : Option Fate) → is_some (option_or told (end_of es)) ≡ true → (has_ended es ≡ true → has_ended (es ++ more) ≡ true) → is_some (option_or told (end_of (es ++ more))) ≡ true
    by (Some fate) h rest = refl
    by None h rest = rest h

pub all_ended_later : (tasks : ℕ) (seen history : List Event) → IsPrefix seen history → all_ended tasks seen ≡ true → all_ended tasks history ≡ true
all_ended_later zero seen history begins ended = refl
all_ended_later (suc tasks) seen history begins ended =
    let w = and_parts (all_ended tasks seen) (has_ended (part_of tasks seen)) ended in
    let last : has_ended (part_of tasks history) ≡ true =
    ap (λ (es : List Event). has_ended (part_of tasks es)) (sym begins.1) ∙ ap (λ (es : List Event). has_ended es) (part_longer tasks seen begins.0)
    ∙ ended_more (part_of tasks seen) (part_of tasks begins.0) w.1 in
    and_from (all_ended tasks history) (has_ended (part_of tasks history)) (all_ended_later tasks seen history begins w.0) last

pub done_later : (cell : CellData) (seen history : List Event) → IsPrefix seen history → inputs_done cell seen ≤ inputs_done cell history
done_later cell seen history begins =
    let script = length cell.tasks in
    let all : length (part_of script (seen ++ begins.0)) ≡ length (part_of script seen) + length (part_of script begins.0) =
    ap (λ (es : List Event). length es) (part_longer script seen begins.0) ∙ length-append (part_of script seen) (part_of script begins.0) in
    let same : length (part_of script (seen ++ begins.0)) ≡ length (part_of script history) = ap (λ (es : List Event). length (part_of script es)) begins.1 in
    omega (arith, all, same)
