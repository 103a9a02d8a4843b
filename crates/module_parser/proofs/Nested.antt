-- What follows an optional LOCAL, made into an item.
use Rattle.std.proofs.Common.{◌≡◌, ℕ, true, false, List, [], ◌∷◌, Option, Ok, Err, refl, sym, ap, ◌∙◌}
use mathlib.Core.Logic.{inl, inr}
use Rattle.rapid_lexer.specs.Tokens.{Lexeme}
use Rattle.raw_trees.specs.Plain.{PlainItem}
use Rattle.rapid_forms.specs.declared.sign.Sign.TheVariants as signs
use Rattle.rapid_forms.specs.Signs.{begins_with}
use Rattle.rapid_forms.specs.Forms.{first_byte}
use Rattle.rapid_forms.specs.Reading.{Read, then_read, seq_read, either_read, made_read}
use Rattle.module_parser.specs.Grammar.{datum_item, proc_tree, func_tree, trap_tree}
use Rattle.module_parser.specs.Reads.{datum_signs, datum_read, proc_read, func_read, trap_read, behind_local_read, local_read, local_tree}

-- something made of what was read, and then something of that
pub made_twice : {A B C : Type 0} (read : Read A) (f : A → B) (g : B → C) → then_read (then_read read λ x rest. Ok (f x, rest)) (λ y rest. Ok (g y, rest)) ≡ then_read read (λ x rest. Ok (g (f x), rest))
unfolding then_read
made_twice (Ok x) f g = refl
made_twice (Err h) f g = refl

made_thrice : {A B C D : Type 0} (read : Read A) (f : A → B) (g : B → C) (h : C → D) → then_read (then_read (then_read read λ x rest. Ok (f x, rest)) (λ y rest. Ok (g y, rest))) (λ z rest. Ok (h z, rest)) ≡ then_read read (λ x rest. Ok (h (g (f x)), rest))
unfolding then_read
made_thrice (Ok x) f g h = refl
made_thrice (Err e) f g h = refl

made_often : {A B C D E : Type 0} (read : Read A) (f : A → B) (g : B → C) (h : C → D) (k : D → E) → then_read (then_read (then_read (then_read read λ x rest. Ok (f x, rest)) (λ y rest. Ok (g y, rest))) (λ z rest. Ok (h z, rest))) (λ u rest. Ok (k u, rest)) ≡ then_read read (λ x rest. Ok (k (h (g (f x))), rest))
unfolding then_read
made_often (Ok x) f g h k = refl
made_often (Err e) f g h k = refl

module _ (n at : ℕ) (local : Option Lexeme) (ts : List Lexeme) where
  -- an item that starts at a byte, with LOCAL or without
  abbrev pub placed_read : Read PlainItem
  placed_read = then_read (behind_local_read n ts) λ x rest. Ok (local_tree at (local, x), rest)

  pub datum_behind : begins_with datum_signs ts ≡ true → placed_read ≡ then_read (datum_read datum_signs n ts) (λ x rest. Ok (datum_item at (local, x), rest))
  unfolding behind_local_read either_read made_read
  datum_behind e = rw e (made_twice (datum_read datum_signs n ts) (λ x. inl x) (λ x. local_tree at (local, x)))

  module _ (no_datum : begins_with datum_signs ts ≡ false) where
    pub proc_behind : begins_with (signs.Proc ∷ []) ts ≡ true → placed_read ≡ then_read (proc_read n ts) (λ x rest. Ok (proc_tree at (local, x), rest))
    unfolding behind_local_read either_read made_read
    proc_behind e = rw (no_datum, e) (made_thrice (proc_read n ts) (λ x. inl x) (λ x. inr x) (λ x. local_tree at (local, x)))

    module _ (no_proc : begins_with (signs.Proc ∷ []) ts ≡ false) where
      pub func_behind : begins_with (signs.Func ∷ []) ts ≡ true → placed_read ≡ then_read (func_read n ts) (λ x rest. Ok (func_tree at (local, x), rest))
      unfolding behind_local_read either_read made_read
      func_behind e = rw (no_datum, no_proc, e) (made_often (func_read n ts) (λ x. inl x) (λ x. inr x) (λ x. inr x) (λ x. local_tree at (local, x)))

      pub trap_behind : begins_with (signs.Func ∷ []) ts ≡ false → placed_read ≡ then_read (trap_read n ts) (λ x rest. Ok (trap_tree at (local, x), rest))
      unfolding behind_local_read either_read made_read
      trap_behind e = rw (no_datum, no_proc, e) (made_often (trap_read n ts) (λ x. inr x) (λ x. inr x) (λ x. inr x) (λ x. local_tree at (local, x)))

-- an item at the byte of its first token, after an optional LOCAL was read
pub local_behind : (n at : ℕ) (ts : List Lexeme) (local : Option Lexeme) (rest : List Lexeme) → at ≡ first_byte ts → local_read ts ≡ Ok (local, rest) → made_read local_tree (seq_read local_read (behind_local_read n)) ts ≡ placed_read n at local rest
unfolding made_read seq_read then_read
local_behind n at ts local rest here e = rw e (made_twice (behind_local_read n rest) (λ x. (local, x)) (λ x. local_tree (first_byte ts) x) ∙ ap (λ p. placed_read n p local rest) (sym here))
