-- Which events may give a signal a value, from the event alone.
use Rattle.std.specs.Prelude.{Bool, true, false}
use Rattle.rapid_model.specs.declared.answer.Answer.{Answer}
use Rattle.rapid_model.specs.declared.answer.Answer.TheVariants as answers
use Rattle.rapid_model.specs.declared.request.Request.{Request}
use Rattle.rapid_model.specs.declared.request.Request.TheVariants.{WriteS, Input, Setpoint, ZoneTie, ZoneOn}

-- a write, an input, a zone that is given with an output or switched on, and a setpoint that is given; a zone that is
-- freed or switched off leaves its output
abbrev pub may_set : Request → Answer → Bool
may_set (WriteS signal value) answers.Ok = true
may_set (Input index) answers.Ok = true
may_set (ZoneTie old temporary shape signal value) (answers.Number number) = true
may_set (ZoneOn number) answers.Ok = true
may_set (Setpoint to) answers.Given = true
may_set _ _ = false
