use Rattle.std.proofs.Common.{◌≡◌, ◌-◌, ◌+◌, [], ◌∷◌, take, Some, None, sym, ap, ◌∙◌, arith, rules}
use Rattle.history_text.specs.Reading.{few_at, next_num, num_at}
use Rattle.history_text.specs.ValueReading.{place_at}
use Rattle.history_text.proofs.ManyThings.{absent_more, few_all, few_more, few_none, place_read, take_set_more, with_front}
use Rattle.history_text.proofs.value_reading.place_at.Goals as goal

pub loop-place-preserved : goal.loop-place-preserved
loop-place-preserved c =
    let so_far = take c.loop-place.place c.loop-place.axis in
    let number = c.in-Some-next_num.next.0 in
    let more = c.in-Some-next_num.next.1.now in
    let one : next_num 32 c.loop-place.rest.now ≡ Some (number, more) = search rules in
    record {
      count = search rules;
      behind = absent_more c.loop-place.axis c.loop-place.place 12 number (omega (arith, c.loop-place.invariant.count)) c.loop-place.invariant.behind;
      same = c.loop-place.invariant.same ∙ few_more (next_num 32) 12 c.loop-place.place so_far c.loop-place.rest.now number more (omega arith) one
          ∙ ap (λ front. with_front front (few_at (next_num 32) (12 - (c.loop-place.place + 1)) more)) (sym (take_set_more c.loop-place.axis c.loop-place.place number (omega (arith, c.loop-place.invariant.count))));
    }

pub returns-in_default-next_num : goal.returns-in_default-next_num
unfolding place_at
returns-in_default-next_num c =
    let first = c.in-Some.first.0 in
    let after = c.in-Some.first.1.now in
    let read : num_at c.args.text.now ≡ Some (first, after) = search rules in
    let begun : take 1 c.first_axis-axis.result ≡ first ∷ [] = ap (take 1) c.first_axis-axis.ensures in
    let none : next_num 32 c.loop-place.rest.now ≡ None = search rules in
    let all = ap (λ front. with_front front (few_at (next_num 32) 11 after)) (sym begun) ∙ c.loop-place.invariant.same
    ∙ few_none (next_num 32) 12 c.loop-place.place (take c.loop-place.place c.loop-place.axis) c.loop-place.rest.now (omega arith) none in
    rw read (sym (place_read first c.loop-place.rest.now c.loop-place.axis c.loop-place.place (few_at (next_num 32) 11 after) c.loop-place.invariant.count c.loop-place.invariant.behind (omega arith) all))

pub returns : goal.returns
unfolding place_at
returns c =
    let first = c.in-Some.first.0 in
    let after = c.in-Some.first.1.now in
    let read : num_at c.args.text.now ≡ Some (first, after) = search rules in
    let begun : take 1 c.first_axis-axis.result ≡ first ∷ [] = ap (take 1) c.first_axis-axis.ensures in
    let all = ap (λ front. with_front front (few_at (next_num 32) 11 after)) (sym begun) ∙ c.loop-place.invariant.same
    ∙ few_all (next_num 32) 12 c.loop-place.place (take c.loop-place.place c.loop-place.axis) c.loop-place.rest.now (omega arith) in
    rw read (sym (place_read first c.loop-place.rest.now c.loop-place.axis c.loop-place.place (few_at (next_num 32) 11 after) c.loop-place.invariant.count c.loop-place.invariant.behind (omega arith) all))
