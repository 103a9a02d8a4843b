use Rattle.std.proofs.lemmas.Result.{IfErr-weaker, IfOk-weaker}
use Rattle.cell_loading.specs.Files.{IsLoadFault}
use Rattle.cell_loading.specs.Loaded.{bytes_of, made_of}
use Rattle.controller.proofs.Accepting.{texts_spell}
use Rattle.controller.proofs.Causes.{known_fault}
use Rattle.controller.proofs.Exits.{all_asked, all_read, module_refused, parsed_here}
use Rattle.sink_lines.proofs.Gains.{gained_none}
use Rattle.controller.proofs.texts_cell.texts_cell.Goals as goal

pub cell_of-cell-requires-clause-spelled : goal.cell_of-cell-requires-clause-spelled
cell_of-cell-requires-clause-spelled g c =
    texts_spell 1 (bytes_of c.args.texts.now) c.args.failed _
    (parsed_here c.args.texts.now c.in-Ok.trees.items c.as_slice.result.now c.args.failed c.as_slice.ensures.value c.in-Ok.ensures.parsed)

pub returns-in-Ok-clause-refused : goal.returns-in-Ok-clause-refused
returns-in-Ok-clause-refused g c =
    let parsed = parsed_here c.args.texts.now c.in-Ok.trees.items c.as_slice.result.now c.args.failed c.as_slice.ensures.value c.in-Ok.ensures.parsed in
    IfErr-weaker c.cell_of-cell.result _ _ (λ report answers. λ words told held given.
    all_read words told _ _ _ c.args.script.now c.args.files.now _ c.args.failed _ report _ _ c.requires.named given parsed (answers given.given.gave held)) c.cell_of-cell.ensures.refused

pub returns-in-Ok-clause-causes : goal.returns-in-Ok-clause-causes
returns-in-Ok-clause-causes g c = IfErr-weaker c.cell_of-cell.result _ _ (λ report causes. λ old new fault. causes old new) c.cell_of-cell.ensures.causes

pub returns-in-Ok-clause-asked : goal.returns-in-Ok-clause-asked
returns-in-Ok-clause-asked g c =
    let parsed = parsed_here c.args.texts.now c.in-Ok.trees.items c.as_slice.result.now c.args.failed c.as_slice.ensures.value c.in-Ok.ensures.parsed in
    IfOk-weaker c.cell_of-cell.result _ _ (λ accepted gives. λ words told given.
    all_asked words told _ _ _ c.args.script.now c.args.files.now _ c.args.failed _ (made_of accepted) c.requires.named given parsed gives) c.cell_of-cell.ensures.gives

pub returns-in-Ok-clause-whole : goal.returns-in-Ok-clause-whole
returns-in-Ok-clause-whole g c = IfOk-weaker c.cell_of-cell.result _ _ (λ accepted gives. c.in-Ok.ensures.whole) c.cell_of-cell.ensures.gives

pub returns-in-Err-clause-refused : goal.returns-in-Err-clause-refused
returns-in-Err-clause-refused g c = λ words told held given.
    module_refused words told _ _ _ c.args.script.now c.args.files.now _ c.args.failed c.in-Err.refused _ _ _ c.requires.named given (record {
      refused_is = c.refuse_file.ensures.refused;
      status = c.refuse_file.ensures.status;
      history = c.refuse_file.ensures.history;
      fates = c.refuse_file.ensures.fates;
      printed = gained_none _;
      calls = gained_none _;
      told = c.refuse_file.ensures.told;
    })
    c.in-Err.ensures.parsed

pub returns-in-Err-clause-causes : goal.returns-in-Err-clause-causes
returns-in-Err-clause-causes g c = λ old new fault. known_fault (IsLoadFault old new) c.in-Err.refused _ (c.in-Err.ensures.causes old new fault) c.refuse_file.ensures.refused
