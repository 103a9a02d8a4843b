use Rattle.std.proofs.Common.{◌++◌, ap, ◌∙◌}
use Rattle.std.specs.Prelude.{decimal}
use Rattle.controller.specs.RefusalLines.{refusal_text, key_words}
use Rattle.sink_lines.proofs.Gains.{in_words}
use Rattle.controller.proofs.RefusalLines.{words_pieces, script_pieces, module_pieces, read_pieces, long_pieces, history_pieces}
use Rattle.controller.proofs.refusal.write_refusal.Goals as goal

pub returns-in-Words : goal.returns-in-Words
returns-in-Words g c =
    in_words _ _ _ _
    (words_pieces c.args.name.now _ c.in-Words.place c.args.refused.now c.in-Words.is
    (c.as_bytes-text.ensures.value ∙ c.as_str.ensures.value ∙ c.push_count.ensures.text ∙ ap (λ b. b ++ decimal c.in-Words.place) c.new-digits.ensures))
    c.write_line.ensures

pub returns-in-Script : goal.returns-in-Script
returns-in-Script g c =
    in_words _ _ _ _ (script_pieces c.args.name.now c.in-Script.key _ _ c.in-Script.rule c.args.refused.now c.in-Script.is (c.shown-key.ensures ∙ ap key_words c.bytes.ensures.same) c.name.ensures.same)
    c.write_line-in-Script.ensures

pub returns-in-Module : goal.returns-in-Module
returns-in-Module g c =
    in_words _ _ _ _ (module_pieces c.args.name.now _ _ _ c.in-Module.file c.in-Module.place c.in-Module.rule c.args.refused.now c.in-Module.is c.as_bytes-name.ensures.value
    (c.as_bytes-at.ensures.value ∙ c.as_str-in-Module.ensures.value ∙ c.push_place.ensures) c.name-in-Module.ensures)
    c.write_line-in-Module.ensures

pub returns-in-Read : goal.returns-in-Read
returns-in-Read g c = in_words _ _ _ _ (read_pieces c.args.name.now _ c.in-Read.file c.args.refused.now c.in-Read.is c.as_bytes-name.ensures.value) c.write_line-in-Read.ensures

pub returns-in-Write : goal.returns-in-Write
returns-in-Write g c = in_words _ _ _ _ (ap (refusal_text c.args.name.now) c.in-Write.is) c.write_line-in-Write.ensures

pub returns-in-Memory : goal.returns-in-Memory
returns-in-Memory g c = in_words _ _ _ _ (ap (refusal_text c.args.name.now) c.in-Memory.is) c.write_line-in-Memory.ensures

pub returns-in-TooLong : goal.returns-in-TooLong
returns-in-TooLong g c = in_words _ _ _ _ (long_pieces c.args.name.now _ c.in-TooLong.file c.args.refused.now c.in-TooLong.is c.as_bytes-name.ensures.value) c.write_line-in-TooLong.ensures

pub returns-in-History : goal.returns-in-History
returns-in-History g c =
    in_words _ _ _ _
    (history_pieces c.args.name.now _ c.in-History.line c.args.refused.now c.in-History.is
    (c.as_bytes-text-in-History.ensures.value ∙ c.as_str-in-History.ensures.value ∙ c.push_count-in-History.ensures.text
    ∙ ap (λ b. b ++ decimal c.in-History.line) c.new-digits-in-History.ensures))
    c.write_line-in-History.ensures
