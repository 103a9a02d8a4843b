use Rattle.std.proofs.Common.{◌≡◌, ℕ, List, [], false, true, ap, inl, map, sym, ◌∙◌}
use Rattle.std.specs.Prelude.{Err, IsTrue}
use Rattle.std.proofs.lemmas.Result.{IfErr-weaker, IfOk-weaker}
use Rattle.cell_load.specs.Texts.{module_files}
use Rattle.cell_load.specs.Views.{view_modules}
use Rattle.command_words.specs.declared.command.Action.{Action}
use Rattle.command_words.specs.declared.command.Action.TheVariants as actions
use Rattle.controller.specs.Accepted.{prints_places, reads_history}
use Rattle.state_lines.specs.Sources.{sources_in}
use Rattle.cell_loading.specs.Files.{IsLoadFault}
use Rattle.cell_loading.specs.LoadFiles.{module_named}
use Rattle.cell_loading.specs.Loaded.{bytes_of, file_names, made_of, names_in_turn}
use Rattle.cell_loading.specs.declared.refused.Refused.TheVariants.{Memory}
use Rattle.controller.proofs.Causes.{known_fault}
use Rattle.controller.proofs.Exits.{memory_refused, script_refused}
use Rattle.sink_lines.proofs.Gains.{gained_none}
use Rattle.controller.proofs.LastReads.{text_asked}
use Rattle.controller.proofs.LoadTexts.{load_script_given, load_texts_given, texts_within}
use Rattle.controller.proofs.load_cell.load_cell.Goals as goal

pub returns-in-Err-clause-refused : goal.returns-in-Err-clause-refused
returns-in-Err-clause-refused g c = λ words told held is_for.
    inl (memory_refused _ held _ c.refuse.ensures.refused c.refuse.ensures.status c.refuse.ensures.history c.refuse.ensures.fates c.refuse.ensures.told)

pub returns-in-Err-clause-causes : goal.returns-in-Err-clause-causes
returns-in-Err-clause-causes g c = λ old new. known_fault (IsLoadFault old new) Memory _ tt c.refuse.ensures.refused

pub returns-in-Err-script_of-clause-refused : goal.returns-in-Err-script_of-clause-refused
returns-in-Err-script_of-clause-refused g c = λ words told held is_for.
    script_refused words told c.args.command.now.action c.args.command.now.script.now c.args.command.now.history.now c.in-Err-script_of.refused _ _ _
    (load_script_given words told c.args.command.now.action c.args.command.now.script.now c.args.command.now.history.now c.args.moves c.as_slice.result.now (Err c.in-Err-script_of.refused) is_for c.requires.action c.requires.moves
    (c.as_slice.ensures.value ∙ c.in-Ok.ensures.script) c.in-Err-script_of.ensures.script) (record {
      refused_is = c.refuse_file.ensures.refused;
      status = c.refuse_file.ensures.status;
      history = c.refuse_file.ensures.history;
      fates = c.refuse_file.ensures.fates;
      printed = gained_none _;
      calls = gained_none _;
      told = c.refuse_file.ensures.told;
    })

pub returns-in-Err-script_of-clause-causes : goal.returns-in-Err-script_of-clause-causes
returns-in-Err-script_of-clause-causes g c = λ old new.
    known_fault (IsLoadFault old new) c.in-Err-script_of.refused _ (c.in-Err-script_of.ensures.causes old new) c.refuse_file.ensures.refused

pub returns-in-Err-module_files-clause-refused : goal.returns-in-Err-module_files-clause-refused
returns-in-Err-module_files-clause-refused g c = λ words told held is_for.
    inl (memory_refused _ held _ c.refuse-in-Err-module_files.ensures.refused c.refuse-in-Err-module_files.ensures.status c.refuse-in-Err-module_files.ensures.history c.refuse-in-Err-module_files.ensures.fates
    c.refuse-in-Err-module_files.ensures.told)

pub returns-in-Err-module_files-clause-causes : goal.returns-in-Err-module_files-clause-causes
returns-in-Err-module_files-clause-causes g c = λ old new. known_fault (IsLoadFault old new) Memory _ tt c.refuse-in-Err-module_files.ensures.refused

pub returns-in-Err-own_texts-clause-refused : goal.returns-in-Err-own_texts-clause-refused
returns-in-Err-own_texts-clause-refused g c = λ words told held is_for.
    inl (memory_refused _ held _ c.refuse-in-Err-own_texts.ensures.refused c.refuse-in-Err-own_texts.ensures.status c.refuse-in-Err-own_texts.ensures.history c.refuse-in-Err-own_texts.ensures.fates
    c.refuse-in-Err-own_texts.ensures.told)

pub returns-in-Err-own_texts-clause-causes : goal.returns-in-Err-own_texts-clause-causes
returns-in-Err-own_texts-clause-causes g c = λ old new. known_fault (IsLoadFault old new) Memory _ tt c.refuse-in-Err-own_texts.ensures.refused

-- the texts, by the modules that are made
own : (files : List (List ℕ × List ℕ)) (modules : List (List ℕ × List ℕ)) (names texts : List (List ℕ)) → modules ≡ files → texts ≡ map (module_named modules) names → texts ≡ map (module_named files) names
own files modules names texts same is = is ∙ ap (λ (ms : List (List ℕ × List ℕ)). map (module_named ms) names) same

pub texts_cell-requires-clause-named : goal.texts_cell-requires-clause-named
texts_cell-requires-clause-named g c = ap names_in_turn c.as_slice-files.ensures.value ∙ c.in-Ok-module_files.ensures.named

pub texts_cell-requires-clause-within : goal.texts_cell-requires-clause-within
texts_cell-requires-clause-within g c =
    let names = names_in_turn c.as_slice-files.result.now in
    texts_within c.args.moves c.as_slice-3.result.now names c.requires.moves
    (own (module_files c.args.moves) (view_modules c.as_slice-2.result.now) names (bytes_of c.as_slice-3.result.now) (ap view_modules c.as_slice-2.ensures.value ∙ c.in-Ok.ensures.modules)
    (ap bytes_of c.as_slice-3.ensures.value ∙ c.in-Ok-own_texts.ensures))

pub returns-clause-refused : goal.returns-clause-refused
returns-clause-refused g c =
    let names = names_in_turn c.as_slice-files.result.now in
    let texts = own (module_files c.args.moves) (view_modules c.as_slice-2.result.now) names (bytes_of c.as_slice-3.result.now) (ap view_modules c.as_slice-2.ensures.value ∙ c.in-Ok.ensures.modules)
    (ap bytes_of c.as_slice-3.ensures.value ∙ c.in-Ok-own_texts.ensures) in
    IfErr-weaker c.texts_cell.result _ _ (λ report answers. λ words told held is_for. answers words told held
    (load_texts_given words told c.args.command.now.action c.args.command.now.script.now c.args.command.now.history.now c.args.moves c.as_slice.result.now c.in-Ok-script_of.script names (bytes_of c.as_slice-3.result.now) is_for
    c.requires.action c.requires.moves (c.as_slice.ensures.value ∙ c.in-Ok.ensures.script) c.in-Ok-script_of.ensures.script
    (ap names_in_turn c.as_slice-files.ensures.value ∙ c.in-Ok-module_files.ensures.named) texts)) c.texts_cell.ensures.refused

pub returns-clause-causes : goal.returns-clause-causes
returns-clause-causes g c = IfErr-weaker c.texts_cell.result _ _ (λ report causes. λ old new. causes old new tt) c.texts_cell.ensures.causes

-- the action reads no history, and prints no places
no_history : (action : Action) (moves : ℕ) → action ≡ actions.Load moves → IsTrue (reads_history action) → ⊥
no_history action moves is reads = let e : false ≡ true = sym (ap reads_history is) ∙ reads in cc

no_places : (action : Action) (moves : ℕ) → action ≡ actions.Load moves → IsTrue (prints_places action) → ⊥
no_places action moves is prints = let e : false ≡ true = sym (ap prints_places is) ∙ prints in cc

pub returns-clause-asked : goal.returns-clause-asked
returns-clause-asked g c =
    let names = names_in_turn c.as_slice-files.result.now in
    let seen = bytes_of c.as_slice-3.result.now in
    let texts = own (module_files c.args.moves) (view_modules c.as_slice-2.result.now) names seen (ap view_modules c.as_slice-2.ensures.value ∙ c.in-Ok.ensures.modules)
    (ap bytes_of c.as_slice-3.ensures.value ∙ c.in-Ok-own_texts.ensures) in
    IfOk-weaker c.texts_cell.result _ _ (λ accepted is_to_do. λ words told text is_for.
    let given = load_texts_given words told c.args.command.now.action c.args.command.now.script.now c.args.command.now.history.now c.args.moves c.as_slice.result.now c.in-Ok-script_of.script names seen is_for c.requires.action
    c.requires.moves (c.as_slice.ensures.value ∙ c.in-Ok.ensures.script) c.in-Ok-script_of.ensures.script (ap names_in_turn c.as_slice-files.ensures.value ∙ c.in-Ok-module_files.ensures.named) texts in
    text_asked words told c.args.command.now.action given.given.gave c.args.command.now.history.now text (file_names c.args.command.now.script.now c.as_slice-files.result.now) (sources_in c.in-Ok-script_of.script.tasks seen) []
    (made_of accepted) (λ reads. absurd (no_history c.args.command.now.action c.args.moves c.requires.action reads))
    (λ prints. absurd (no_places c.args.command.now.action c.args.moves c.requires.action prints)) (is_to_do words told given)) c.texts_cell.ensures.asked
