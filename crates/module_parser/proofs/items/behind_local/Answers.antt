use Rattle.std.proofs.Common.{sym, ◌∙◌, option_map, subst}
use Rattle.rapid_limits.specs.declared.TheConstants.{MOST_LEVELS}
use Rattle.rapid_lexer.specs.Tokens.{view}
use Rattle.raw_trees.specs.Views.{view_item}
use Rattle.rapid_forms.specs.Reading.{Gives, rest_from}
use Rattle.module_parser.proofs.Nested.{datum_behind, proc_behind, func_behind, trap_behind}
use Rattle.module_parser.proofs.items.behind_local.Goals as goal

pub returns-then-sees : goal.returns-then-sees
returns-then-sees c =
    let tokens = c.args.p.now.tokens in
    subst (λ read. Gives tokens view_item c.local_datum.result read)
    (sym (datum_behind MOST_LEVELS c.args.byte (option_map view c.args.local) (rest_from tokens c.args.at) (sym c.sees.ensures ∙ c.if-sees.true)))
    c.local_datum.ensures

pub returns-then-sees-2 : goal.returns-then-sees-2
returns-then-sees-2 c =
    let tokens = c.args.p.now.tokens in
    subst (λ read. Gives tokens view_item c.procedure.result read)
    (sym (proc_behind MOST_LEVELS c.args.byte (option_map view c.args.local) (rest_from tokens c.args.at) (sym c.sees.ensures ∙ c.if-sees.false) (sym c.sees-2.ensures ∙ c.if-sees-2.true)))
    c.procedure.ensures

pub returns-then-sees-3 : goal.returns-then-sees-3
returns-then-sees-3 c =
    let tokens = c.args.p.now.tokens in
    subst (λ read. Gives tokens view_item c.function.result read)
    (sym (func_behind MOST_LEVELS c.args.byte (option_map view c.args.local) (rest_from tokens c.args.at) (sym c.sees.ensures ∙ c.if-sees.false) (sym c.sees-2.ensures ∙ c.if-sees-2.false) (sym c.sees-3.ensures ∙ c.if-sees-3.true)))
    c.function.ensures

pub returns : goal.returns
returns c =
    let tokens = c.args.p.now.tokens in
    subst (λ read. Gives tokens view_item c.trap.result read)
    (sym (trap_behind MOST_LEVELS c.args.byte (option_map view c.args.local) (rest_from tokens c.args.at) (sym c.sees.ensures ∙ c.if-sees.false) (sym c.sees-2.ensures ∙ c.if-sees-2.false) (sym c.sees-3.ensures ∙ c.if-sees-3.false)))
    c.trap.ensures
