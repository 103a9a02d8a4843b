use Rattle.std.proofs.Common.{◌≡◌, ◌+◌, ◌<◌, ap, ◌∙◌, List, ◌++◌, length, replicate, slice_set, arith}
use Rattle.std.proofs.lemmas.List.{length-append, length-replicate}
use Rattle.typed_trees.specs.declared.datum.Datum.{Datum}
use Rattle.typed_trees.specs.declared.datum.Datum.TheVariants.{Mark}
use Rattle.machine_stacks.proofs.Rows.{filled, put_behind, put_over}
use Rattle.machine_stacks.proofs.apart.put_apart.Goals as goal

pub returns-then-index-len-clause-put : goal.returns-then-index-len-clause-put
returns-then-index-len-clause-put c = λ words h.
    let apart = c.args.apart.now.items in
    let more : List Datum = apart ++ replicate c.saturating_sub-missing.result (Mark 0) in
    let within : c.args.index < length c.fill.new.apart.items = omega arith in
    let there : c.args.index < length more = rw c.fill.ensures.appended at within in
    rw (c.replace.ensures.after, c.fill.ensures.appended)
    (put_over words more c.args.index c.args.datum there h ∙ ap (λ (xs : List Datum). slice_set xs c.args.index c.args.datum) (filled words apart c.saturating_sub-missing.result))

pub returns-else-index-len-clause-put : goal.returns-else-index-len-clause-put
returns-else-index-len-clause-put c = λ words h.
    let apart = c.args.apart.now.items in
    let more : List Datum = apart ++ replicate c.saturating_sub-missing.result (Mark 0) in
    let all : length c.fill.new.apart.items ≡ length more = ap length c.fill.ensures.appended in
    let count : length more ≡ length apart + length (replicate c.saturating_sub-missing.result (Mark 0)) = length-append apart (replicate c.saturating_sub-missing.result (Mark 0)) in
    let zeros : length (replicate c.saturating_sub-missing.result (Mark 0)) ≡ c.saturating_sub-missing.result = length-replicate c.saturating_sub-missing.result (Mark 0) in
    let there : c.args.index ≡ length more = omega arith in
    rw (c.push_reserved.ensures.items, c.fill.ensures.appended)
    (put_behind words more c.args.index c.args.datum there h ∙ ap (λ (xs : List Datum). slice_set xs c.args.index c.args.datum) (filled words apart c.saturating_sub-missing.result))
