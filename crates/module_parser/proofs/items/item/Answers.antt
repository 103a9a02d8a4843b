use Rattle.std.proofs.Common.{sym, ◌∙◌, option_map, subst}
use Rattle.rapid_limits.specs.declared.TheConstants.{MOST_LEVELS}
use Rattle.rapid_lexer.specs.Tokens.{view}
use Rattle.raw_trees.specs.Views.{view_item}
use Rattle.rapid_forms.specs.Reading.{Gives, either_read, rest_from}
use Rattle.module_parser.specs.Reads.{item_read}
use Rattle.module_parser.proofs.Nested.{local_behind}
use Rattle.module_parser.proofs.items.item.Goals as goal

pub returns : goal.returns
unfolding item_read either_read
returns c =
    let tokens = c.args.p.now.tokens in
    rw (sym c.sees.ensures ∙ c.if-sees.false)
    (subst (λ read. Gives tokens view_item c.behind_local.result read)
    (sym (local_behind MOST_LEVELS c.byte_at.result (rest_from tokens c.args.at) (option_map view c.in_ok-local.local) _ c.byte_at.ensures c.in_ok-local.ensures))
    c.behind_local.ensures)
