-- The two kinds of words.
use Rattle.std.specs.Prelude.{ℕ, Bool, true, false, List}
use Rattle.command_words.specs.Words.{is_history, is_plain}

-- whether it is `--history`, or whether it is not
abbrev pub is_kind : Bool → List ℕ → Bool
is_kind true word = is_history word
is_kind false word = is_plain word
