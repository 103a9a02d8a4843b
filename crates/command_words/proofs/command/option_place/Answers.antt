use Rattle.std.proofs.Common.{sym, ◌∙◌, rules, tests}
use Rattle.std.proofs.lemmas.Iterator.{YieldsList-from_slice}
use Rattle.std.proofs.lemmas.Iterator.Search.{position_from_yields_List}
use Rattle.command_words.specs.Words.{is_wrong_option}
use Rattle.command_words.proofs.Positions.{position-map}
use Rattle.command_words.proofs.command.option_place.Goals as goal

pub returns : goal.returns
returns g c =
    position_from_yields_List (λ word. is_wrong_option (g.W.AsSlice.items word)) _ _ c.position.result c.position.ensures.ran (YieldsList-from_slice _ c.iter.ensures.rest) (λ x b q k. search (rules, tests))
    ∙ sym (position-map g.W.AsSlice.items is_wrong_option c.args.words.now)
