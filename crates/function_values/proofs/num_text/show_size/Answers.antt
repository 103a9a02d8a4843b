use Rattle.std.proofs.Common.{◌≡◌, ◌+◌, ◌/◌, ◌%◌, [], ◌∷◌, ◌++◌, ap, sym, ◌∙◌}
use Rattle.rapid_meaning.specs.Functions.{size_text}
use Rattle.function_values.proofs.Shown.{shown_one, shown_two, shown_three}
use Rattle.function_values.proofs.num_text.show_size.Goals as goal

pub returns-in-1 : goal.returns-in-1
returns-in-1 c =
    c.show_digit.ensures
    ∙ ap (λ t. t ++ (48 + c.args.size % 10) ∷ []) (c.show_point.ensures ∙ ap (λ t. t ++ 46 ∷ []) c.show_whole-in-1.ensures.whole)
    ∙ shown_one c.args.text.now c.args.size
    ∙ ap (λ k. c.args.text.now ++ size_text k c.args.size) (sym c.in-1.is)

pub returns-in-2 : goal.returns-in-2
returns-in-2 c =
    c.show_digit-in-2-2.ensures
    ∙ ap (λ t. t ++ (48 + c.args.size % 100 % 10) ∷ [])
    (c.show_digit-in-2.ensures ∙ ap (λ t. t ++ (48 + c.args.size % 100 / 10 % 10) ∷ []) (c.show_point-in-2.ensures ∙ ap (λ t. t ++ 46 ∷ []) c.show_whole-in-2.ensures.whole))
    ∙ shown_two c.args.text.now c.args.size
    ∙ ap (λ k. c.args.text.now ++ size_text k c.args.size) (sym c.in-2.is)

pub returns-in-3 : goal.returns-in-3
returns-in-3 c =
    c.show_digit-in-3-3.ensures
    ∙ ap (λ t. t ++ (48 + c.args.size % 1_000 % 10) ∷ [])
    (c.show_digit-in-3-2.ensures ∙ ap (λ t. t ++ (48 + c.args.size % 1_000 / 10 % 10) ∷ [])
    (c.show_digit-in-3.ensures ∙ ap (λ t. t ++ (48 + c.args.size % 1_000 / 10 / 10 % 10) ∷ []) (c.show_point-in-3.ensures ∙ ap (λ t. t ++ 46 ∷ []) c.show_whole-in-3.ensures.whole)))
    ∙ shown_three c.args.text.now c.args.size
    ∙ ap (λ k. c.args.text.now ++ size_text k c.args.size) (sym c.in-3.is)
