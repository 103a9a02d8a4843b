use Rattle.std.proofs.Common.{◌≡◌, ℕ, ◌+◌, suc, List, length, ap, refl, subst, sym, ◌∙◌, inl, arith}
use Rattle.std.specs.Prelude.{Ok, Err, Vec}
use Rattle.std.specs.declared.alloc.Global.{Global}
use Rattle.std.proofs.lemmas.List.{length-map}
use Rattle.controller.specs.Answered.{AnswersWords, untouched}
use Rattle.cell_loading.specs.Files.{IsLoadFault}
use Rattle.state_lines.specs.Sources.{sources_in}
use Rattle.cell_loading.specs.Loaded.{bytes_of, file_names, made_of, names_in_turn}
use Rattle.sink_lines.specs.Printed.{sunk}
use Rattle.cell_loading.specs.declared.refused.Refused.TheVariants.{Memory}
use Rattle.controller.proofs.Causes.{fault_since, known_fault}
use Rattle.controller.proofs.Exits.{memory_refused, script_refused}
use Rattle.sink_lines.proofs.Gains.{gained_none}
use Rattle.controller.proofs.GivenReads.{all_given, last_given, loaded_names, script_given, texts_seen}
use Rattle.controller.proofs.LastReads.{last_refused, told_last, text_asked}
use Rattle.controller.proofs.shelf_cell.shelf_cell.Goals as goal

pub returns-in-Err-clause-refused : goal.returns-in-Err-clause-refused
returns-in-Err-clause-refused g c = λ words held is_for.
    script_refused words (g.S.Shelf.told c.args.shelf.now) c.args.command.now.action c.args.command.now.script.now c.args.command.now.history.now c.in-Err.refused _ _ _
    (script_given words (g.S.Shelf.told c.args.shelf.now) c.args.command.now.action c.args.command.now.script.now c.args.command.now.history.now (Err c.in-Err.refused) is_for (c.requires.moves, c.requires.cell) c.in-Err.ensures.told c.in-Err.ensures.read) (record {
      refused_is = c.refuse_file.ensures.refused;
      status = c.refuse_file.ensures.status;
      history = c.refuse_file.ensures.history;
      fates = c.refuse_file.ensures.fates;
      printed = gained_none _;
      calls = gained_none _;
      told = c.refuse_file.ensures.told;
    })

pub returns-in-Err-clause-causes : goal.returns-in-Err-clause-causes
returns-in-Err-clause-causes g c =
    known_fault (IsLoadFault (g.S.Shelf.faults c.args.shelf.now) (g.S.Shelf.faults c.load_script.new.shelf)) c.in-Err.refused _ c.in-Err.ensures.causes c.refuse_file.ensures.refused

pub returns-in-Err-module_files-clause-refused : goal.returns-in-Err-module_files-clause-refused
returns-in-Err-module_files-clause-refused g c = λ words held is_for.
    inl (memory_refused _ held _ c.refuse.ensures.refused c.refuse.ensures.status c.refuse.ensures.history c.refuse.ensures.fates c.refuse.ensures.told)

pub returns-in-Err-module_files-clause-causes : goal.returns-in-Err-module_files-clause-causes
returns-in-Err-module_files-clause-causes g c =
    known_fault (IsLoadFault (g.S.Shelf.faults c.args.shelf.now) (g.S.Shelf.faults c.load_script.new.shelf)) Memory _ tt c.refuse.ensures.refused

pub texts_cell-requires-clause-named : goal.texts_cell-requires-clause-named
texts_cell-requires-clause-named g c = ap names_in_turn c.as_slice-files.ensures.value ∙ c.in-Ok-module_files.ensures.named

pub returns-in-Err-texts_cell-clause-refused : goal.returns-in-Err-texts_cell-clause-refused
returns-in-Err-texts_cell-clause-refused g c = λ words held is_for.
    c.in-Err-texts_cell.ensures.refused words (g.S.Shelf.told c.args.shelf.now) held
    (all_given words (g.S.Shelf.told c.args.shelf.now) (g.S.Shelf.told c.load_script.new.shelf) c.args.command.now.action c.args.command.now.script.now c.args.command.now.history.now c.in-Ok.script
    (names_in_turn c.as_slice-files.result.now) c.as_slice-read.result.now c.load_texts-texts.result.failed is_for (c.requires.moves, c.requires.cell) c.in-Ok.ensures.told_after c.in-Ok.ensures.told c.in-Ok.ensures.read
    (texts_seen (g.S.Shelf.told c.load_script.new.shelf) (names_in_turn c.as_slice-files.result.now) c.load_texts-texts.result.texts.items c.as_slice-read.result.now c.load_texts-texts.result.failed c.as_slice-read.ensures.value c.load_texts-texts.ensures.told)
    (loaded_names c.as_slice-files.result.now c.load_texts-texts.result.texts.items c.as_slice-read.result.now c.load_texts-texts.result.failed c.as_slice-read.ensures.value c.load_texts-texts.ensures.within c.load_texts-texts.ensures.few c.load_texts-texts.ensures.whole c.load_texts-texts.ensures.unread)
    (ap names_in_turn c.as_slice-files.ensures.value ∙ c.in-Ok-module_files.ensures.named))

pub returns-in-Err-texts_cell-clause-causes : goal.returns-in-Err-texts_cell-clause-causes
returns-in-Err-texts_cell-clause-causes g c =
    c.in-Err-texts_cell.ensures.causes (g.S.Shelf.faults c.args.shelf.now) (g.S.Shelf.faults c.load_texts-texts.new.shelf)
    (fault_since (g.S.Shelf.faults c.args.shelf.now) (g.S.Shelf.faults c.load_script.new.shelf) (g.S.Shelf.faults c.load_texts-texts.new.shelf) c.load_texts-texts.result.failed
    c.in-Ok.ensures.faults c.load_texts-texts.ensures.faults c.load_texts-texts.ensures.causes)

-- the texts, and what the last read came to

pub returns-in-Ok-load_last-clause-asked : goal.returns-in-Ok-load_last-clause-asked
returns-in-Ok-load_last-clause-asked g c = λ words is_for.
    let names = names_in_turn c.as_slice-files.result.now in
    let last = last_given words (g.S.Shelf.told c.args.shelf.now) (g.S.Shelf.told c.load_script.new.shelf) (g.S.Shelf.told c.load_texts-texts.new.shelf) c.args.command.now.action c.args.command.now.script.now
    c.args.command.now.history.now c.in-Ok.script names c.as_slice-read.result.now c.load_texts-texts.result.failed (length c.as_slice-files.result.now) (length c.as_slice-files.result.now + 1)
    (Ok c.in-Ok-load_last.text) is_for (c.requires.moves, c.requires.cell) c.in-Ok.ensures.told_after c.in-Ok.ensures.told c.in-Ok.ensures.read (texts_seen (g.S.Shelf.told c.load_script.new.shelf) (names_in_turn c.as_slice-files.result.now) c.load_texts-texts.result.texts.items c.as_slice-read.result.now c.load_texts-texts.result.failed c.as_slice-read.ensures.value c.load_texts-texts.ensures.told)
    (λ files first. c.load_texts-texts.ensures.told_after c.in-Ok-texts_cell.ensures.whole files first)
    (loaded_names c.as_slice-files.result.now c.load_texts-texts.result.texts.items c.as_slice-read.result.now c.load_texts-texts.result.failed c.as_slice-read.ensures.value c.load_texts-texts.ensures.within c.load_texts-texts.ensures.few c.load_texts-texts.ensures.whole c.load_texts-texts.ensures.unread)
    (ap names_in_turn c.as_slice-files.ensures.value ∙ c.in-Ok-module_files.ensures.named) c.in-Ok-texts_cell.ensures.whole (sym (length-map c.as_slice-files.result.now (λ m. m.now))) refl
    (record { within = c.in-Ok-load_last.ensures.within; unread = tt; gives = λ reads. c.in-Ok-load_last.ensures.gives reads }) in
    text_asked words (g.S.Shelf.told c.args.shelf.now) c.args.command.now.action last.given.given.gave c.args.command.now.history.now c.in-Ok-load_last.text.items
    (file_names c.args.command.now.script.now c.as_slice-files.result.now) (sources_in c.in-Ok.script.tasks (bytes_of c.as_slice-read.result.now)) _ (made_of c.in-Ok-texts_cell.accepted) last.last
    (λ prints. c.kept_modules.ensures.kept prints ∙ ap (λ (texts : List (Vec ℕ Global)). sources_in c.in-Ok.script.tasks (bytes_of texts)) (sym c.as_slice-read.ensures.value))
    (c.in-Ok-texts_cell.ensures.asked words (g.S.Shelf.told c.args.shelf.now) last.given)

pub returns-in-Err-load_last-clause-refused : goal.returns-in-Err-load_last-clause-refused
returns-in-Err-load_last-clause-refused g c = λ words held is_for.
    let names = names_in_turn c.as_slice-files.result.now in
    let same : length names ≡ length c.as_slice-files.result.now = length-map c.as_slice-files.result.now (λ m. m.now) in
    let file_is : length c.as_slice-files.result.now + 1 ≡ suc (length names) = omega (arith, same) in
    let unread = c.in-Err-load_last.ensures.unread in
    let last = last_given words (g.S.Shelf.told c.args.shelf.now) (g.S.Shelf.told c.load_script.new.shelf) (g.S.Shelf.told c.load_texts-texts.new.shelf) c.args.command.now.action c.args.command.now.script.now
    c.args.command.now.history.now c.in-Ok.script names c.as_slice-read.result.now c.load_texts-texts.result.failed (length c.as_slice-files.result.now) (length c.as_slice-files.result.now + 1)
    (Err c.in-Err-load_last.refused) is_for (c.requires.moves, c.requires.cell) c.in-Ok.ensures.told_after c.in-Ok.ensures.told c.in-Ok.ensures.read (texts_seen (g.S.Shelf.told c.load_script.new.shelf) (names_in_turn c.as_slice-files.result.now) c.load_texts-texts.result.texts.items c.as_slice-read.result.now c.load_texts-texts.result.failed c.as_slice-read.ensures.value c.load_texts-texts.ensures.told)
    (λ files first. c.load_texts-texts.ensures.told_after c.in-Ok-texts_cell.ensures.whole files first)
    (loaded_names c.as_slice-files.result.now c.load_texts-texts.result.texts.items c.as_slice-read.result.now c.load_texts-texts.result.failed c.as_slice-read.ensures.value c.load_texts-texts.ensures.within c.load_texts-texts.ensures.few c.load_texts-texts.ensures.whole c.load_texts-texts.ensures.unread)
    (ap names_in_turn c.as_slice-files.ensures.value ∙ c.in-Ok-module_files.ensures.named) c.in-Ok-texts_cell.ensures.whole (sym same) refl
    (record { within = tt; unread = unread; gives = λ reads. c.in-Err-load_last.ensures.gives reads }) in
    subst (λ (e : g.row.E.Denot). AnswersWords words (g.S.Shelf.told c.args.shelf.now) c.refuse-in-Err-load_last.result (untouched held) (sunk g.E.Sink.told g.E.Sink.calls g.E.Sink.faults e c.refuse-in-Err-load_last.new.err))
    c.in-Ok-texts_cell.ensures.untold
    (last_refused words (g.S.Shelf.told c.args.shelf.now) c.args.command.now.action last.given.given.gave c.args.command.now.history.now (file_names c.args.command.now.script.now c.as_slice-files.result.now)
    (sources_in c.in-Ok.script.tasks (bytes_of c.as_slice-read.result.now)) (made_of c.in-Ok-texts_cell.accepted) c.in-Err-load_last.refused _ _ _ unread.0 (last.last unread.0) (c.in-Ok-texts_cell.ensures.asked words (g.S.Shelf.told c.args.shelf.now) last.given) (record {
      refused_is = c.refuse-in-Err-load_last.ensures.refused;
      status = c.refuse-in-Err-load_last.ensures.status;
      history = c.refuse-in-Err-load_last.ensures.history;
      fates = c.refuse-in-Err-load_last.ensures.fates;
      printed = gained_none _;
      calls = gained_none _;
      told =
          told_last (file_names c.args.command.now.script.now c.as_slice-files.result.now) c.args.command.now.history.now (length c.as_slice-files.result.now + 1) c.in-Err-load_last.refused _ unread.1 file_is
          c.refuse-in-Err-load_last.ensures.told;
    }))

pub returns-in-Err-load_last-clause-causes : goal.returns-in-Err-load_last-clause-causes
returns-in-Err-load_last-clause-causes g c =
    fault_since (g.S.Shelf.faults c.args.shelf.now) (g.S.Shelf.faults c.load_texts-texts.new.shelf) (g.S.Shelf.faults c.load_last.new.shelf) _
    (omega (arith, c.in-Ok.ensures.faults, c.load_texts-texts.ensures.faults)) c.load_last.ensures.faults
    (known_fault (IsLoadFault (g.S.Shelf.faults c.load_texts-texts.new.shelf) (g.S.Shelf.faults c.load_last.new.shelf)) c.in-Err-load_last.refused _ c.in-Err-load_last.ensures.causes
    c.refuse-in-Err-load_last.ensures.refused)
