use Rattle.std.specs.Prelude.{map}
use Rattle.cell_loading.specs.Files.{IsLoadFault}
use Rattle.controller.proofs.Causes.{no_words, no_write, read_counted}
use Rattle.command_words.proofs.Choosing.{asked_moves}
use Rattle.controller.proofs.Exits.{words_refused}
use Rattle.sink_lines.proofs.Gains.{gained_none}
use Rattle.controller.proofs.accepted.accepted_cell.Goals as goal

pub returns-in-Err-clause-refused : goal.returns-in-Err-clause-refused
returns-in-Err-clause-refused g c = λ held.
    words_refused _ _ c.in-Err.place _ _ _ c.in-Err.ensures.refused (record {
      refused_is = c.refuse.ensures.refused;
      status = c.refuse.ensures.status;
      history = c.refuse.ensures.history;
      fates = c.refuse.ensures.fates;
      printed = gained_none _;
      calls = gained_none _;
      told = c.refuse.ensures.told;
    })

pub commanded_cell-requires-clause-moves : goal.commanded_cell-requires-clause-moves
commanded_cell-requires-clause-moves g c = asked_moves (map g.W.AsSlice.items c.args.words.now) c.in-Ok.command.action c.in-Ok.ensures.action

pub commanded_cell-requires-clause-cell : goal.commanded_cell-requires-clause-cell
commanded_cell-requires-clause-cell g c = c.requires c.in-Ok.command.action c.in-Ok.ensures.action

pub returns-in-Ok-commanded_cell-clause-asked : goal.returns-in-Ok-commanded_cell-clause-asked
returns-in-Ok-commanded_cell-clause-asked g c =
    c.in-Ok-commanded_cell.ensures.asked (map g.W.AsSlice.items c.args.words.now) (record { taken = c.in-Ok.ensures.taken; asked_is = c.in-Ok.ensures.action; name_is = c.in-Ok.ensures.name; history_is = c.in-Ok.ensures.history })

pub returns-in-Err-commanded_cell-clause-refused : goal.returns-in-Err-commanded_cell-clause-refused
returns-in-Err-commanded_cell-clause-refused g c = λ held.
    c.in-Err-commanded_cell.ensures.refused (map g.W.AsSlice.items c.args.words.now) held (record { taken = c.in-Ok.ensures.taken; asked_is = c.in-Ok.ensures.action; name_is = c.in-Ok.ensures.name; history_is = c.in-Ok.ensures.history })

pub returns-in-Err-commanded_cell-clause-words : goal.returns-in-Err-commanded_cell-clause-words
returns-in-Err-commanded_cell-clause-words g c =
    no_words (IsLoadFault (g.S.Shelf.faults c.args.shelf.now) (g.S.Shelf.faults c.commanded_cell.new.shelf)) (map g.W.AsSlice.items c.args.words.now) _ (λ place never. never) c.in-Ok.ensures.taken c.in-Err-commanded_cell.ensures.causes

pub returns-in-Err-commanded_cell-clause-read : goal.returns-in-Err-commanded_cell-clause-read
returns-in-Err-commanded_cell-clause-read g c = read_counted (g.S.Shelf.faults c.args.shelf.now) (g.S.Shelf.faults c.commanded_cell.new.shelf) _ c.in-Err-commanded_cell.ensures.causes

pub returns-in-Err-commanded_cell-clause-write : goal.returns-in-Err-commanded_cell-clause-write
returns-in-Err-commanded_cell-clause-write g c = no_write (g.S.Shelf.faults c.args.shelf.now) (g.S.Shelf.faults c.commanded_cell.new.shelf) _ c.in-Err-commanded_cell.ensures.causes
