use Rattle.std.proofs.Common.{◌≡◌, ap, sym, ◌∙◌, List, Option, Some, None, slice_get}
use Rattle.std.specs.Option.{option_and_then}
use Rattle.typed_trees.specs.declared.datum.Datum.{Datum}
use Rattle.machine_stacks.specs.Forms.{as_num}
use Rattle.machine_stacks.specs.Words.{DataRow, apart_of, datum_in}
use Rattle.machine_stacks.specs.declared.word.Word.{Word}
use Rattle.machine_stacks.proofs.Rows.{found, not_found}
use Rattle.machine_stacks.proofs.words.Words.num.Goals as goal

pub returns-in-Some : goal.returns-in-Some
returns-in-Some c =
    let w = c.self.inside in
    let there : slice_get w.words.items c.args.index ≡ Some c.in-Some.word = ap (λ (ws : List Word). slice_get ws c.args.index) (sym c.deref.ensures.value) ∙ sym c.in-Some.ensures in
    let near = ap (λ (xs : List Datum). slice_get xs c.args.index) c.deref-in-Some.ensures.value in
    found as_num w.words.items w.apart.items c.args.index c.in-Some.word c.num_of.result there (c.num_of.ensures ∙ ap (λ (o : Option Datum). as_num (datum_in c.in-Some.word (apart_of o))) near)
    ∙ ap (λ (row : DataRow). option_and_then as_num (slice_get row.items c.args.index)) c.self.view_is

pub returns-in-None : goal.returns-in-None
returns-in-None c =
    let w = c.self.inside in
    let none : slice_get w.words.items c.args.index ≡ None = ap (λ (ws : List Word). slice_get ws c.args.index) (sym c.deref.ensures.value) ∙ sym c.in-None.ensures in
    not_found as_num w.words.items w.apart.items c.args.index none ∙ ap (λ (row : DataRow). option_and_then as_num (slice_get row.items c.args.index)) c.self.view_is
