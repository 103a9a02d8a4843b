use Rattle.std.proofs.Common.{◌≡◌, List, [], ◌∷◌, ◌++◌, ◌⊎◌, inl, inr, Option, Some, None, Ok, refl, ap, sym, ◌∙◌, append-nil}
use Rattle.std.proofs.lemmas.Slice.Zip.{either_empty_from_Zip}
use Rattle.std.specs.Iterator.Adapters.{zip_first, zip_second}
use Rattle.std.specs.Slice.Iter.{iter_rest}
use Rattle.rapid_model.specs.declared.value.Value.{Value}
use Rattle.cell_assembly.specs.Made.{over}
use Rattle.cell_assembly.proofs.pers_cells.over.Goals as goal

over_none : (given : List (Option Value)) (vs : List Value) → (given ≡ []) ⊎ (vs ≡ []) → over given vs ≡ []
over_none given vs (inl e) = ap (λ ts. over ts vs) e
over_none [] vs (inr e) = refl
over_none (Some t ∷ given) vs (inr e) = ap (over (Some t ∷ given)) e
over_none (None ∷ given) vs (inr e) = ap (over (None ∷ given)) e

pub returns : goal.returns
returns c =
    let it = c.loop-given.given-iterator in
    let none = over_none (iter_rest (zip_first it)) (iter_rest (zip_second it)) (either_empty_from_Zip it c.next.new.self c.next.result c.in-None.is c.next.ensures.steps) in
    ap Ok (sym c.loop-given.invariant ∙ ap (λ rest. c.loop-given.first.items ++ rest) none ∙ append-nil c.loop-given.first.items)
