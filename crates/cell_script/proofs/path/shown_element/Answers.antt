use Rattle.std.proofs.Common.{◌≡◌, [], ◌∷◌, ◌++◌, decimal, ap, ◌∙◌, append_assoc}
use Rattle.cell_script.specs.Break.{shown}
use Rattle.cell_script.proofs.path.shown_element.Goals as goal

pub returns : goal.returns
returns c =
    let array = c.args.array.now in
    let name : c.show.new.text ≡ shown array = c.show.ensures [] c.new-text.ensures ∙ ap shown c.as_bytes.ensures.value in
    let digits : c.as_bytes-2.result.now ≡ decimal c.args.index = c.as_bytes-2.ensures.value ∙ c.format.ensures.text in
    let number : c.show-3.new.text ≡ shown ((array ++ 91 ∷ []) ++ decimal c.args.index) = c.show-3.ensures (array ++ 91 ∷ []) (c.show-2.ensures array name) ∙ ap (λ d. shown ((array ++ 91 ∷ []) ++ d)) digits in
    c.show-4.ensures ((array ++ 91 ∷ []) ++ decimal c.args.index) number ∙ ap shown (simp append_assoc)
