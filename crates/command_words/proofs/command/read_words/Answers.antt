use Rattle.std.specs.Prelude.{map}
use Rattle.command_words.proofs.Texts.{taken, refused_history, refused_name, refused_word}
use Rattle.command_words.proofs.command.read_words.Goals as goal

pub returns-in-Ok-from_utf8-2-clause-taken : goal.returns-in-Ok-from_utf8-2-clause-taken
returns-in-Ok-from_utf8-2-clause-taken g c =
    taken (map g.W.AsSlice.items c.args.words.now) _ _ c.in-Ok.ensures.taken c.in-Ok.ensures.name c.in-Ok.ensures.history c.in-Ok-from_utf8.ensures.cases.1 c.in-Ok-from_utf8-2.ensures.cases.1

pub returns-in_default-clause-refused : goal.returns-in_default-clause-refused
returns-in_default-clause-refused g c =
    refused_name (map g.W.AsSlice.items c.args.words.now) _ _ c.in-Ok.ensures.taken c.in-Ok.ensures.name c.in-Ok.ensures.place c.in_default.ensures.cases.0

pub returns-in-Err-from_utf8-clause-refused : goal.returns-in-Err-from_utf8-clause-refused
returns-in-Err-from_utf8-clause-refused g c =
    refused_history (map g.W.AsSlice.items c.args.words.now) _ _ _ c.in-Ok.ensures.taken c.in-Ok.ensures.name c.in-Ok.ensures.history c.in-Ok.ensures.last c.in-Ok-from_utf8.ensures.cases.1
    c.in-Err-from_utf8.ensures.cases.0

pub returns-in-Err-clause-refused : goal.returns-in-Err-clause-refused
returns-in-Err-clause-refused g c = refused_word (map g.W.AsSlice.items c.args.words.now) _ c.in-Err.ensures.refused
