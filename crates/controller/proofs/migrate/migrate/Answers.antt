use Rattle.std.proofs.Common.{◌≡◌, ap, sym, ◌∙◌}
use Rattle.std.specs.Prelude.{Err, Ok, Some, map}
use Rattle.command_words.proofs.Choosing.{is_migrate_action}
use Rattle.controller.specs.Done.{IsDoneFault}
use Rattle.cell_loading.specs.Files.{IsLoadFault}
use Rattle.cell_loading.specs.declared.refused.Refused.TheVariants.{Words, Write}
use Rattle.controller.proofs.Causes.{known_fault, no_read, no_words, no_write, read_counted, text_told, write_counted}
use Rattle.controller.proofs.Complete.{done}
use Rattle.controller.proofs.Exits.{words_refused}
use Rattle.sink_lines.proofs.Gains.{gained_none}
use Rattle.controller.proofs.Migrating.{migrated_given, migration_refused, script_migrated}
use Rattle.controller.proofs.migrate.migrate.Goals as goal

-- the words are refused

pub returns-in-Err-clause-answers : goal.returns-in-Err-clause-answers
returns-in-Err-clause-answers g c =
    words_refused _ _ c.in-Err.place _ _ _ c.in-Err.ensures.refused (record {
      refused_is = c.refuse.ensures.refused;
      status = c.refuse.ensures.status;
      history = c.refuse.ensures.history;
      fates = c.refuse.ensures.fates;
      printed = gained_none _;
      calls = gained_none _;
      told = c.refuse.ensures.told;
    })

pub returns-in-Err-clause-write : goal.returns-in-Err-clause-write
returns-in-Err-clause-write g c = λ same. let e : Some (Words c.in-Err.place) ≡ Some Write = sym c.refuse.ensures.refused ∙ same in cc

pub returns-in-Err-clause-done : goal.returns-in-Err-clause-done
returns-in-Err-clause-done g c = done (map g.W.AsSlice.items c.args.words.now) (g.S.Shelf.told c.args.shelf.now) _ _ _ (returns-in-Err-clause-answers g c) (returns-in-Err-clause-write g c)

-- the script is printed

pub returns-in-Ok-load_migrated-clause-answers : goal.returns-in-Ok-load_migrated-clause-answers
returns-in-Ok-load_migrated-clause-answers g c =
    script_migrated (map g.W.AsSlice.items c.args.words.now) (g.S.Shelf.told c.args.shelf.now) c.in-Ok.command.script.now c.in-Ok.command.history.now c.in-Ok-load_migrated.printed c.as_bytes.result.now _ _ _ (record {
      taken = c.in-Ok.ensures.taken;
      asked_is = c.in-Ok.ensures.action ∙ ap Some (is_migrate_action (map g.W.AsSlice.items c.args.words.now) c.in-Ok.command.action c.in-Ok.ensures.action c.requires);
      name_is = c.in-Ok.ensures.name;
      history_is = c.in-Ok.ensures.history;
    })
    (migrated_given (g.S.Shelf.told c.args.shelf.now) c.in-Ok.command.script.now (Ok c.in-Ok-load_migrated.printed) c.in-Ok-load_migrated.ensures.told c.in-Ok-load_migrated.ensures.read)
    (c.as_bytes.ensures.value ∙ c.as_str.ensures.value) c.report_text.ensures

pub returns-in-Ok-load_migrated-clause-words : goal.returns-in-Ok-load_migrated-clause-words
returns-in-Ok-load_migrated-clause-words g c = no_words (IsDoneFault (g.O.Sink.faults c.args.out.now) (g.O.Sink.faults c.report_text.new.out)) (map g.W.AsSlice.items c.args.words.now) _ (λ place never. never) c.in-Ok.ensures.taken (text_told c.as_bytes.result.now _ _ _ c.report_text.ensures)

pub returns-in-Ok-load_migrated-clause-read : goal.returns-in-Ok-load_migrated-clause-read
returns-in-Ok-load_migrated-clause-read g c = no_read (g.O.Sink.faults c.args.out.now) (g.O.Sink.faults c.report_text.new.out) _ (text_told c.as_bytes.result.now _ _ _ c.report_text.ensures)

pub returns-in-Ok-load_migrated-clause-write : goal.returns-in-Ok-load_migrated-clause-write
returns-in-Ok-load_migrated-clause-write g c = write_counted (g.O.Sink.faults c.args.out.now) (g.O.Sink.faults c.report_text.new.out) _ (text_told c.as_bytes.result.now _ _ _ c.report_text.ensures)

pub returns-in-Ok-load_migrated-clause-done : goal.returns-in-Ok-load_migrated-clause-done
returns-in-Ok-load_migrated-clause-done g c =
    done (map g.W.AsSlice.items c.args.words.now) (g.S.Shelf.told c.args.shelf.now) _ _ _ (returns-in-Ok-load_migrated-clause-answers g c) (returns-in-Ok-load_migrated-clause-write g c)

-- the script is refused

pub returns-in-Err-load_migrated-clause-answers : goal.returns-in-Err-load_migrated-clause-answers
returns-in-Err-load_migrated-clause-answers g c =
    migration_refused (map g.W.AsSlice.items c.args.words.now) (g.S.Shelf.told c.args.shelf.now) c.in-Ok.command.script.now c.in-Ok.command.history.now c.in-Err-load_migrated.refused _ _ _ (record {
      taken = c.in-Ok.ensures.taken;
      asked_is = c.in-Ok.ensures.action ∙ ap Some (is_migrate_action (map g.W.AsSlice.items c.args.words.now) c.in-Ok.command.action c.in-Ok.ensures.action c.requires);
      name_is = c.in-Ok.ensures.name;
      history_is = c.in-Ok.ensures.history;
    })
    (migrated_given (g.S.Shelf.told c.args.shelf.now) c.in-Ok.command.script.now (Err c.in-Err-load_migrated.refused) c.in-Err-load_migrated.ensures.told c.in-Err-load_migrated.ensures.read) (record {
      refused_is = c.refuse_file.ensures.refused;
      status = c.refuse_file.ensures.status;
      history = c.refuse_file.ensures.history;
      fates = c.refuse_file.ensures.fates;
      printed = gained_none _;
      calls = gained_none _;
      told = c.refuse_file.ensures.told;
    })

pub returns-in-Err-load_migrated-clause-words : goal.returns-in-Err-load_migrated-clause-words
returns-in-Err-load_migrated-clause-words g c = no_words (IsLoadFault (g.S.Shelf.faults c.args.shelf.now) (g.S.Shelf.faults c.load_migrated.new.shelf)) (map g.W.AsSlice.items c.args.words.now) _ (λ place never. never) c.in-Ok.ensures.taken (known_fault (IsLoadFault (g.S.Shelf.faults c.args.shelf.now) (g.S.Shelf.faults c.load_migrated.new.shelf)) c.in-Err-load_migrated.refused _ c.in-Err-load_migrated.ensures.causes c.refuse_file.ensures.refused)

pub returns-in-Err-load_migrated-clause-read : goal.returns-in-Err-load_migrated-clause-read
returns-in-Err-load_migrated-clause-read g c = read_counted (g.S.Shelf.faults c.args.shelf.now) (g.S.Shelf.faults c.load_migrated.new.shelf) _ (known_fault (IsLoadFault (g.S.Shelf.faults c.args.shelf.now) (g.S.Shelf.faults c.load_migrated.new.shelf)) c.in-Err-load_migrated.refused _ c.in-Err-load_migrated.ensures.causes c.refuse_file.ensures.refused)

pub returns-in-Err-load_migrated-clause-write : goal.returns-in-Err-load_migrated-clause-write
returns-in-Err-load_migrated-clause-write g c = λ same. absurd (no_write (g.S.Shelf.faults c.args.shelf.now) (g.S.Shelf.faults c.load_migrated.new.shelf) _ (known_fault (IsLoadFault (g.S.Shelf.faults c.args.shelf.now) (g.S.Shelf.faults c.load_migrated.new.shelf)) c.in-Err-load_migrated.refused _ c.in-Err-load_migrated.ensures.causes c.refuse_file.ensures.refused) same)

pub returns-in-Err-load_migrated-clause-done : goal.returns-in-Err-load_migrated-clause-done
returns-in-Err-load_migrated-clause-done g c =
    done (map g.W.AsSlice.items c.args.words.now) (g.S.Shelf.told c.args.shelf.now) _ _ _ (returns-in-Err-load_migrated-clause-answers g c) (returns-in-Err-load_migrated-clause-write g c)
