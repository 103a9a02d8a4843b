-- Which answers have a form that a request has.
use Rattle.std.specs.Prelude.{Bool, true, false}
use Rattle.rapid_model.specs.declared.answer.Answer.{Answer}
use Rattle.rapid_model.specs.declared.answer.Answer.TheVariants as answers
use Rattle.rapid_model.specs.declared.request.Request.{Request}
use Rattle.rapid_model.specs.declared.request.Request.TheVariants as requests

abbrev pub is_reply_to : Request → Answer → Bool
is_reply_to requests.Look (answers.Go seen) = true
is_reply_to requests.Look (answers.Trap number trap) = true
is_reply_to requests.Look answers.Flood = true
is_reply_to (requests.ReadP pers path) (answers.Val value) = true
is_reply_to (requests.WriteP pers path value) answers.Ok = true
is_reply_to (requests.TestSet pers path) (answers.Yes met) = true
is_reply_to (requests.ReadS signal) (answers.Bit bit) = true
is_reply_to (requests.WriteS signal value) answers.Ok = true
is_reply_to (requests.WriteS signal value) answers.Tied = true
is_reply_to requests.Position (answers.At position) = true
is_reply_to (requests.Setpoint to) answers.Given = true
is_reply_to (requests.Setpoint to) (answers.Stopped zone) = true
is_reply_to (requests.Connect old trap) (answers.Number number) = true
is_reply_to (requests.Connect old trap) answers.Already = true
is_reply_to (requests.Connect old trap) answers.NoMore = true
is_reply_to (requests.Order number on single) answers.Ok = true
is_reply_to (requests.Order number on single) answers.Unknown = true
is_reply_to (requests.Order number on single) answers.Already = true
is_reply_to (requests.Sleep number) answers.Ok = true
is_reply_to (requests.Sleep number) answers.Unknown = true
is_reply_to (requests.Watch number) answers.Ok = true
is_reply_to (requests.Watch number) answers.Unknown = true
is_reply_to (requests.Delete number) answers.Ok = true
is_reply_to (requests.Delete number) answers.Unknown = true
is_reply_to requests.Disable answers.Ok = true
is_reply_to requests.Enable answers.Ok = true
is_reply_to requests.Leave answers.Ok = true
is_reply_to (requests.ZoneSet old temporary shape) (answers.Number number) = true
is_reply_to (requests.ZoneSet old temporary shape) answers.ZoneUsed = true
is_reply_to (requests.ZoneSet old temporary shape) answers.ZoneFull = true
is_reply_to (requests.ZoneTie old temporary shape signal value) (answers.Number number) = true
is_reply_to (requests.ZoneTie old temporary shape signal value) answers.ZoneUsed = true
is_reply_to (requests.ZoneTie old temporary shape signal value) answers.ZoneFull = true
is_reply_to (requests.ZoneTie old temporary shape signal value) answers.Tied = true
is_reply_to (requests.ZoneOn zone) answers.Ok = true
is_reply_to (requests.ZoneOn zone) answers.NoZone = true
is_reply_to (requests.ZoneOff zone) answers.Ok = true
is_reply_to (requests.ZoneOff zone) answers.NoZone = true
is_reply_to (requests.ZoneFree zone) answers.Ok = true
is_reply_to (requests.ZoneFree zone) answers.NoZone = true
is_reply_to (requests.Arrive meeting tasks) answers.Met = true
is_reply_to (requests.Arrive meeting tasks) answers.Apart = true
is_reply_to (requests.Hold seen) answers.Ok = true
is_reply_to requests.Rise answers.Ok = true
is_reply_to (requests.Input index) answers.Ok = true
is_reply_to (requests.Say text tail) answers.Ok = true
is_reply_to (requests.End fate) answers.Ok = true
is_reply_to _ _ = false
