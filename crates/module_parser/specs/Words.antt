-- The meaning of the words of declarations.
use Rattle.std.specs.Prelude.{ℕ, Bool, [], ◌∷◌, if◌then◌else◌}
use Rattle.rapid_lexer.specs.Tokens.{Lexeme}
use Rattle.raw_trees.specs.declared.raw_module.Attribute.{Attribute}
use Rattle.raw_trees.specs.declared.raw_module.Attribute.TheVariants as attributes
use Rattle.raw_trees.specs.declared.raw_datum.DatumKind.{DatumKind}
use Rattle.raw_trees.specs.declared.raw_datum.DatumKind.TheVariants as kinds
use Rattle.rapid_model.specs.declared.mode.Mode.{Mode}
use Rattle.rapid_model.specs.declared.mode.Mode.TheVariants as modes
use Rattle.rapid_forms.specs.declared.sign.Sign.{Sign}
use Rattle.rapid_forms.specs.declared.sign.Sign.TheVariants as signs
use Rattle.rapid_forms.specs.Signs.{has, sign_of}

abbrev is : Sign → Lexeme → Bool
is sign t = has (sign ∷ []) (sign_of t)

unfoldable pub kind_of : Lexeme → DatumKind
kind_of t = if is signs.Const t then kinds.Const else if is signs.Var t then kinds.Var else kinds.Pers

unfoldable pub mode_of : Lexeme → Mode
mode_of t = if is signs.Inout t then modes.Inout else if is signs.Var t then modes.Var else modes.Pers

unfoldable pub attribute_of : ℕ → Lexeme → Attribute
attribute_of at t =
    if is signs.SysModule t then attributes.SysModule
    else if is signs.NoView t then attributes.NoView
    else if is signs.NoStepIn t then attributes.NoStepIn
    else if is signs.ViewOnly t then attributes.ViewOnly
    else attributes.ReadOnly
