-- A name is at the byte of its token.
use Rattle.std.proofs.Common.{◌≡◌, ℕ, List, Ok, Err, refl, ap, ◌∙◌}
use Rattle.rapid_lexer.specs.Tokens.{Lexeme}
use Rattle.raw_trees.specs.Plain.{PlainName}
use Rattle.rapid_forms.specs.Forms.{first_byte}
use Rattle.rapid_forms.specs.Reading.{Read, then_read, made_read}
use Rattle.expr_parser.specs.Grammar.{name_tree}
use Rattle.expr_parser.specs.Reads.{name_read}

-- the byte of the name that was read, else this one
abbrev place_read : ℕ → Read PlainName → ℕ
place_read at (Ok p) = p.0.at
place_read at (Err h) = at

tree_placed : (read : Read Lexeme) (at : ℕ) → at ≡ place_read at (then_read read λ t left. Ok (name_tree at t, left))
unfolding then_read
tree_placed (Ok p) at = refl
tree_placed (Err h) at = refl

pub name_placed : (ts : List Lexeme) (n : PlainName) (rest : List Lexeme) → name_read ts ≡ Ok (n, rest) → first_byte ts ≡ n.at
unfolding name_read made_read
name_placed ts n rest e = tree_placed _ (first_byte ts) ∙ ap (place_read (first_byte ts)) e
