use Rattle.std.proofs.Common.{◌≡◌, ◌/◌, ◌%◌, slice_index, to_z, of_z, sym, ap, ◌∙◌}
use Rattle.std.proofs.lemmas.Int.{to_z-of_z}
use Rattle.std.specs.Int.{cast_unsigned, to_le_bytes, w64}
use Rattle.history_pages.specs.Words.{no_num}
use Rattle.history_pages.proofs.Reading.{word_at}
use Rattle.history_pages.proofs.words.byte_from.Goals as goal

pub returns : goal.returns
returns c =
    let back : to_z w64 (of_z w64 c.at.result) ≡ c.at.result = to_z-of_z w64 c.at.result (record { sfits = c.at.type_inv }) in
    ap (λ bytes. slice_index bytes (c.args.k % 8)) c.to_le_bytes-bytes.ensures
    ∙ ap (λ word. slice_index (to_le_bytes w64 (cast_unsigned w64 word)) (c.args.k % 8)) (back ∙ sym (word_at c.args.words.now.items c.args.from (c.args.k / 8) c.at.result no_num c.at.ensures))
