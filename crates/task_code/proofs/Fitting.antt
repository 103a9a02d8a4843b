-- Answers that fit step by step.
use Rattle.std.proofs.Common.{◌≡◌, ℕ, List, [], ◌∷◌, ◌++◌, IsTrue}
use Rattle.rapid_model.specs.Fits.{fits_request}
use Rattle.rapid_model.specs.declared.answer.Answer.{Answer}
use Rattle.rapid_model.specs.declared.request.Request.{Request}
use Rattle.rapid_model.proofs.Cuts.{cut_more, cut_none}
use Rattle.rapid_meaning.specs.Answering.{Asking}
use Rattle.rapid_meaning.specs.Data.{Data}
use Rattle.rapid_meaning.specs.Doings.{Doing, Asks}
use Rattle.stack_code.specs.CodeData.{CodeData}
use Rattle.stack_code.specs.CodeRuns.{code_after, fitting_by}
use Rattle.stack_code.specs.Confs.{Conf}
use Rattle.task_code.specs.Live.{CodeFits, CodeFitsNext}
use Rattle.task_code.specs.Reached.{Reached}
use Rattle.task_code.proofs.Reaching.{asks_it}

pub fits_none : (code : CodeData) → CodeFits code []
fits_none code = record { at = cut_none (CodeFitsNext code) }

pub fits_next : (code : CodeData) (answers : List Answer) (a : Answer) → CodeFits code answers → CodeFitsNext code answers a → CodeFits code (answers ++ a ∷ [])
fits_next code answers a fit next = record { at = cut_more (CodeFitsNext code) answers a (λ before after e cut. fit.at before after e cut) next }

pub fits_asked : (code : CodeData) (r : Request) (f : Answer → Doing Conf) (d : Data) (answers : List Answer) (a : Answer) → CodeFits code answers → Reached code (Asks r f) d answers
    → IsTrue (fits_request (fitting_by code d.trapped) r a) → CodeFits code (answers ++ a ∷ [])
fits_asked code r f d answers a fit here fits =
    let it : (k : ℕ) × (code_after code k answers ≡ Asking r d) = asks_it code r f d answers here in
    fits_next code answers a fit (record { operations = it.0; request = r; standing = d; asked = it.1; fits = fits })
