-- The answers that fit a checked tree are those that fit its code, which is live.
use Rattle.std.proofs.Common.{◌≡◌, sym, ap, ◌∙◌, subst, ℕ, ◌+◌, Bool, List, [], ◌∷◌, ◌++◌, IsTrue, append_assoc, arith}
use Rattle.std.specs.Prelude.{⊤}
use Rattle.std.proofs.lemmas.List.{append-nil}
use Rattle.rapid_model.specs.Fits.{Fitting, fits_request}
use Rattle.rapid_model.specs.declared.answer.Answer.{Answer}
use Rattle.rapid_model.specs.declared.request.Request.{Request}
use Rattle.rapid_model.proofs.Cuts.{cut_before, cut_more, cut_none}
use Rattle.typed_trees.specs.Plain.{TypedTree}
use Rattle.rapid_meaning.specs.Answering.{Outcome, Asking, Ended, fitting_of}
use Rattle.rapid_meaning.specs.Data.{Data}
use Rattle.rapid_meaning.specs.Runs.{FitsNext, FitsSteps, asked_after, next_of, state_after}
use Rattle.tree_typing.specs.Goes.{Goes}
use Rattle.tree_typing.proofs.Whole as typings
use Rattle.stack_code.specs.CodeRuns.{code_after, fitting_by}
use Rattle.stack_code.specs.Compiled.{compiled}
use Rattle.stack_code.specs.Entering.{initial, started}
use Rattle.task_code.specs.Live.{CodeFits, CodeFitsNext, IsLive, Stands}
use Rattle.code_laws.specs.Standing.{Fine, StandsBy}
use Rattle.code_laws.proofs.Compiles.{compiled_is}
use Rattle.code_laws.proofs.Operations.{goes_more}
use Rattle.code_laws.proofs.WellTyped.{orderly}
use Rattle.code_laws.proofs.Whole.{typed_stands}
use Rattle.code_laws.specs.Asking.{AsksAs}
use Rattle.code_laws.specs.Checked.{IsChecked}

pub stands : (tree : TypedTree) (answers : List Answer) → IsChecked tree → FitsSteps tree answers → (k : ℕ) × StandsBy tree answers k
stands tree answers checked fits = typed_stands checked.signals checked.cell checked.number tree answers checked.typed checked.numbered checked.labels fits

fits_alike : (tree : TypedTree) → IsChecked tree → fitting_by (compiled tree) ≡ fitting_of tree
fits_alike tree checked = let is = compiled_is tree (orderly checked.signals tree checked.typed checked.labels) in is.fits

-- whatever the number of operations after which code asks, the tree asks the same
pub asks_same : (tree : TypedTree) (answers : List Answer) (k : ℕ) (request : Request) (d : Data) → IsChecked tree → FitsSteps tree answers
    → code_after (compiled tree) k answers ≡ Asking request d → state_after tree answers ≡ Asking request d
asks_same tree answers k request d checked fits asked =
    let by : (j : ℕ) × StandsBy tree answers j = stands tree answers checked fits in
    let moved : by.0 + k ≡ k + by.0 = omega arith in
    let fine : Fine (code_after (compiled tree) k answers) = subst (λ (o : Outcome ⊤). Fine o) (sym asked) tt in
    sym (by.1 k)
    ∙ (ap (λ (n : ℕ). code_after (compiled tree) n answers) moved
    ∙ (goes_more (fitting_by (compiled tree)) (compiled tree) k by.0 (started (compiled tree)) (initial (compiled tree)) answers fine ∙ asked))

-- answers that fit the tree fit its code

fits_before : (tree : TypedTree) (answers before after : List Answer) → answers ≡ before ++ after → FitsSteps tree answers → FitsSteps tree before
fits_before tree answers before after cut fits = record { at = cut_before (FitsNext tree) answers before after cut (λ first left e is. fits.at first left e is) }

code_next : (tree : TypedTree) (before : List Answer) (a : Answer) → IsChecked tree → FitsSteps tree before → FitsNext tree before a → CodeFitsNext (compiled tree) before a
code_next tree before a checked fits next =
    let by : (j : ℕ) × StandsBy tree before j = stands tree before checked fits in
    record {
      operations = by.0 + 0;
      request = next.request;
      standing = next.standing;
      asked = by.1 0 ∙ next.asked;
      fits = subst (λ (f : Bool → Fitting). IsTrue (fits_request (f next.standing.trapped) next.request a)) (sym (fits_alike tree checked)) next.fits;
    }

pub fits_code : (tree : TypedTree) (answers : List Answer) → IsChecked tree → FitsSteps tree answers → CodeFits (compiled tree) answers
fits_code tree answers checked fits = record {
  at = λ before after a cut. code_next tree before a checked (fits_before tree answers before (a ∷ after) cut fits) (fits.at before after a cut);
}

-- and the reverse

tree_next : (tree : TypedTree) (before : List Answer) (a : Answer) → IsChecked tree → FitsSteps tree before → CodeFitsNext (compiled tree) before a → FitsNext tree before a
tree_next tree before a checked fits next = record {
  request = next.request;
  standing = next.standing;
  asked = asks_same tree before next.operations next.request next.standing checked fits next.asked;
  fits = subst (λ (f : Bool → Fitting). IsTrue (fits_request (f next.standing.trapped) next.request a)) (fits_alike tree checked) next.fits;
}

fits_along : (tree : TypedTree) (answers left first : List Answer) → IsChecked tree → answers ≡ first ++ left → CodeFits (compiled tree) answers → FitsSteps tree first → FitsSteps tree answers
fits_along tree answers [] first checked cut fits so_far = subst (λ (az : List Answer). FitsSteps tree az) (sym (cut ∙ append-nil first)) so_far
fits_along tree answers (a ∷ left) first checked cut fits so_far =
    fits_along tree answers left (first ++ a ∷ []) checked (cut ∙ sym (append_assoc first (a ∷ []) left)) fits
    (record { at = cut_more (FitsNext tree) first a (λ before after e is. so_far.at before after e is) (tree_next tree first a checked so_far (fits.at first left a cut)) })

pub fits_tree : (tree : TypedTree) (answers : List Answer) → IsChecked tree → CodeFits (compiled tree) answers → FitsSteps tree answers
fits_tree tree answers checked fits = fits_along tree answers answers [] checked (λ i. answers) fits (record { at = cut_none (FitsNext tree) })

-- so it is live

goes_stands : (o : Outcome ⊤) → Goes (next_of o) → Stands o
goes_stands (Asking request d) goes = tt
goes_stands (Ended d) goes = tt
goes_stands o goes = absurd goes

tree_stands : (tree : TypedTree) (answers : List Answer) → IsChecked tree → FitsSteps tree answers → Stands (state_after tree answers)
unfolding asked_after
tree_stands tree answers checked fits =
    goes_stands (state_after tree answers) (typings.goes checked.signals checked.cell checked.number tree answers checked.typed checked.numbered fits)

pub live : (tree : TypedTree) → IsChecked tree → IsLive (compiled tree)
live tree checked = record {
  goes_on = λ answers fits.
      let steps : FitsSteps tree answers = fits_tree tree answers checked fits in
      let by : (k : ℕ) × StandsBy tree answers k = stands tree answers checked steps in
      (by.0, λ more. subst (λ (o : Outcome ⊤). Stands o) (sym (by.1 more)) (tree_stands tree answers checked steps));
}

pub asks_as : (tree : TypedTree) → IsChecked tree → AsksAs tree (compiled tree)
asks_as tree checked = record {
  fits = λ answers. (fits_tree tree answers checked, fits_code tree answers checked);
  stands = λ answers fits. stands tree answers checked fits;
  asks = λ answers k request d fits asked. asks_same tree answers k request d checked fits asked;
}
