use Rattle.std.proofs.Common.{◌≡◌, [], ◌∷◌, ◌++◌, ap, sym, ◌∙◌, append_assoc}
use Rattle.cell_script.specs.Break.{shown, key_in, element_key}
use Rattle.cell_script.specs.Gives.{path_of}
use Rattle.cell_script.proofs.Shown.{in_element}
use Rattle.cell_script.proofs.path.Path.shown_key.Goals as goal

pub returns-in-Script : goal.returns-in-Script
returns-in-Script c =
    let path : path_of c.args.self.now ≡ [] = ap path_of c.in-Script.is in
    c.show.ensures [] (c.shown-text.ensures ∙ ap shown path) ∙ ap shown (c.as_bytes.ensures.value ∙ ap (λ p. key_in p c.args.key.now) (sym path))

pub returns-in-Element : goal.returns-in-Element
returns-in-Element c =
    let element = element_key c.in-Element.array.now c.in-Element.index in
    let path : path_of c.args.self.now ≡ element = ap path_of c.in-Element.is in
    let point = c.show-in-Element.ensures element (c.shown-text.ensures ∙ ap shown path) in
    c.show-in-Element-2.ensures (element ++ 46 ∷ []) point
    ∙ ap shown (ap (λ key. (element ++ 46 ∷ []) ++ key) c.as_bytes-in-Element.ensures.value ∙ append_assoc element (46 ∷ []) c.args.key.now
    ∙ sym (in_element c.in-Element.array.now c.args.key.now c.in-Element.index) ∙ ap (λ p. key_in p c.args.key.now) (sym path))
