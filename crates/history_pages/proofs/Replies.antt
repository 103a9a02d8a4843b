-- An answer that fits a request is of a form that the request has.
use Rattle.std.proofs.Common.{◌≡◌, true, refl}
use Rattle.rapid_model.specs.Fits.{Fitting, fits_request}
use Rattle.rapid_model.specs.declared.answer.Answer.{Answer}
use Rattle.rapid_model.specs.declared.answer.Answer.TheVariants as answers
use Rattle.rapid_model.specs.declared.request.Request.{Request}
use Rattle.rapid_model.specs.declared.request.Request.TheVariants as requests
use Rattle.history_pages.specs.Replies.{is_reply_to}

pub is_reply_to-fits : (by : Fitting) (request : Request) (answer : Answer) → fits_request by request answer ≡ true → is_reply_to request answer ≡ true
is_reply_to-fits by requests.Look (answers.Trap number trap) fits = refl
is_reply_to-fits by (requests.ReadP pers path) (answers.Val value) fits = refl
is_reply_to-fits by requests.Position (answers.At position) fits = refl
is_reply_to-fits by (requests.Connect old trap) (answers.Number number) fits = refl
is_reply_to-fits by (requests.ZoneSet old temporary shape) (answers.Number number) fits = refl
is_reply_to-fits by (requests.ZoneTie old temporary shape signal value) (answers.Number number) fits = refl
is_reply_to-fits by _ _ fits = fits
