use Rattle.std.proofs.Common.{◌≡◌, ap, sym, ◌∙◌, List, Option, Some, None, slice_get}
use Rattle.typed_trees.specs.declared.datum.Datum.{Datum}
use Rattle.machine_stacks.specs.Words.{DataRow, apart_of, datum_in}
use Rattle.machine_stacks.specs.declared.word.Word.{Word}
use Rattle.machine_stacks.proofs.Rows.{found_there, none_there}
use Rattle.machine_stacks.proofs.words.Words.datum.Goals as goal

pub returns-in-Some : goal.returns-in-Some
returns-in-Some c =
    let w = c.self.inside in
    let there : slice_get w.words.items c.args.index ≡ Some c.in-Some.word = ap (λ (ws : List Word). slice_get ws c.args.index) (sym c.deref.ensures.value) ∙ sym c.in-Some.ensures in
    let near = ap (λ (xs : List Datum). slice_get xs c.args.index) c.deref-in-Some.ensures.value in
    found_there w.words.items w.apart.items c.args.index c.in-Some.word c.datum_of.result there (c.datum_of.ensures ∙ ap (λ (o : Option Datum). datum_in c.in-Some.word (apart_of o)) near)
    ∙ ap (λ (row : DataRow). slice_get row.items c.args.index) c.self.view_is

pub returns-in-None : goal.returns-in-None
returns-in-None c =
    let w = c.self.inside in
    let none : slice_get w.words.items c.args.index ≡ None = ap (λ (ws : List Word). slice_get ws c.args.index) (sym c.deref.ensures.value) ∙ sym c.in-None.ensures in
    none_there w.words.items w.apart.items c.args.index none ∙ ap (λ (row : DataRow). slice_get row.items c.args.index) c.self.view_is
