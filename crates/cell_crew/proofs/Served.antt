-- What an answered request makes of a legal history.
use Rattle.std.proofs.Common.{◌≡◌, ℕ, List, [], ◌∷◌, ◌++◌, sym, subst}
use Rattle.std.specs.Prelude.{IsTrue}
use Rattle.rapid_model.specs.CellData.{CellData}
use Rattle.rapid_model.specs.Own.{answers_of}
use Rattle.rapid_model.specs.declared.answer.Answer.{Answer}
use Rattle.rapid_model.specs.declared.event.Event.{Event}
use Rattle.rapid_model.specs.declared.request.Request.{Request}
use Rattle.cell_meaning.specs.Asking.{Asking}
use Rattle.cell_meaning.specs.Histories.{Follows, is_fit, IsLegal}
use Rattle.rapid_model.proofs.Cuts.{cut_more}
use Rattle.cell_core.specs.Serving.{IsAnswered, event_of}

-- with one more event that follows, whose answer fits
legal_more : (asks : Asking) (cell : CellData) (history : List Event) (e : Event) → IsLegal asks cell history → Follows asks cell history e → IsTrue (is_fit cell history e) → IsLegal asks cell (history ++ e ∷ [])
legal_more asks cell history e legal follows fit = record {
  at = cut_more (λ before x. Follows asks cell before x) history e legal.at follows;
  fits = cut_more (λ before x. IsTrue (is_fit cell before x)) history e legal.fits fit;
}

-- with one more event, of a request that is asked and answered
pub legal_answered : (asks : Asking) (cell : CellData) (history after : List Event) (actor : ℕ) (request : Request) (answer : Answer) → asks actor (answers_of actor history) request → IsLegal asks cell history
    → IsAnswered cell history actor request answer → IsTrue (is_fit cell history (event_of actor request answer)) → after ≡ history ++ event_of actor request answer ∷ [] → IsLegal asks cell after
legal_answered asks cell history after actor request answer asked legal is fit more =
    let follows : Follows asks cell history (event_of actor request answer) = record { asked = asked; enabled = is.enabled; served = is.served; answered = is.answered } in
    subst (λ (h : List Event). IsLegal asks cell h) (sym more) (legal_more asks cell history (event_of actor request answer) legal follows fit)
