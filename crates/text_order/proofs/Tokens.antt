-- Tokens of a text come one after the other, and so do statements that start at them.
use Rattle.std.proofs.Common.{inl, inr, ℕ, ◌+◌, ◌<◌, List, [], ◌∷◌, length, map, sym, subst, arith}
use Rattle.rapid_lexer.specs.Tokens.{Lexeme, Passes, Tiles}
use Rattle.rapid_lexer.proofs.GapWalks.{token_no_gap}
use Rattle.raw_trees.specs.Plain.{PlainStmt}
use Rattle.text_order.specs.Stated.{byte_of, IsBelow, AreAscending}
use Rattle.text_order.proofs.Stands.{Stand}

-- tokens from a place on are there or after it
from_on : (at : ℕ) (bytes : List ℕ) (ts : List Lexeme) (there : ℕ) (left : List ℕ) (n : ℕ) → n < at → Passes at bytes ts there left → IsBelow n (map (λ (t : Lexeme). t.at) ts)
from_on at bytes [] there left n less passes = tt
from_on at bytes (t ∷ ts) there left n less passes =
    let (after, follows, more) = passes in
    (omega (arith, less, follows.is_at), from_on (t.at + length t.text) after ts there left n (omega (arith, less, follows.is_at)) more)

ascending_from : (at : ℕ) (bytes : List ℕ) (ts : List Lexeme) (there : ℕ) (left : List ℕ) → Passes at bytes ts there left → AreAscending (map (λ (t : Lexeme). t.at) ts)
ascending_from at bytes [] there left passes = tt
ascending_from at bytes (t ∷ ts) there left passes =
    let (after, follows, more) = passes in
    let some = (token_no_gap t.kind t.text after follows.is_token).1 in
    (from_on (t.at + length t.text) after ts there left t.at (omega (arith, some)) more, ascending_from (t.at + length t.text) after ts there left more)

pub tokens_ascend : (source : List ℕ) (ts : List Lexeme) → Tiles source ts → AreAscending (map (λ t. t.at) ts)
tokens_ascend source ts tiles = ascending_from _ _ ts tiles.there tiles.left tiles.begins.passes

-- a number below the tokens' places is below the bytes of statements that start at them
stand_behind : (n : ℕ) (ss : List PlainStmt) (ts : List Lexeme) → IsBelow n (map (λ (t : Lexeme). t.at) ts) → Stand ss ts → IsBelow n (map byte_of ss)
stand_behind n [] ts below stand = tt
stand_behind n (s ∷ ss) [] below stand = absurd stand
stand_behind n (s ∷ ss) (t ∷ ts) below (inl here) = (omega (arith, below.0, here.0.at), stand_behind n ss ts below.1 here.1)
stand_behind n (s ∷ ss) (t ∷ ts) below (inr more) = stand_behind n (s ∷ ss) ts below.1 more

pub stand_ascend : (ss : List PlainStmt) (ts : List Lexeme) → AreAscending (map (λ t. t.at) ts) → Stand ss ts → AreAscending (map byte_of ss)
stand_ascend [] ts ascend stand = tt
stand_ascend (s ∷ ss) [] ascend stand = absurd stand
stand_ascend (s ∷ ss) (t ∷ ts) ascend (inl here) = (subst (λ n. IsBelow n (map byte_of ss)) (sym here.0.at) (stand_behind t.at ss ts ascend.0 here.1), stand_ascend ss ts ascend.1 here.1)
stand_ascend (s ∷ ss) (t ∷ ts) ascend (inr more) = stand_ascend (s ∷ ss) ts ascend.1 more
