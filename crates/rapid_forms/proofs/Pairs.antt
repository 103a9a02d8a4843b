-- Readers of forms made of two: one after the other, one after a token, one between two tokens.
use Rattle.std.proofs.Common.{◌≡◌, ℕ, ◌≤◌, Bool, false, ◌&&◌, true, List, ◌++◌, refl, subst}
use Rattle.rapid_lexer.specs.Tokens.{Lexeme}
use Rattle.rapid_forms.specs.declared.sign.Sign.{Sign}
use Rattle.rapid_forms.specs.Forms.{Form, one, seq, made}
use Rattle.rapid_forms.specs.Reading.{Reader, one_read, seq_read, made_read}
use Rattle.rapid_forms.proofs.Sets.{apart, when}
use Rattle.rapid_forms.proofs.Laws.{LL, one_ll, seq_ll, made_ll}
use Rattle.rapid_forms.proofs.Up.{Up, up_refl}
use Rattle.rapid_forms.proofs.Right.{Reads, one_reads, seq_reads, made_reads}
use Rattle.rapid_forms.proofs.Loops.{Takes, reads_take}

-- two forms, one after the other, at least one of which takes a token, and what is made of them
pub both_reads : {A B C : Type 0} {na nb : Bool} {fa ma fb mb : List Sign} {F : ℕ → Form A} {G : ℕ → Form B} {n : ℕ} {a : Reader A} {b : Reader B} (f : ℕ → A × B → C) → Reads F n a → Reads G n b → ((m : ℕ) → LL na fa ma (F m)) → ((m : ℕ) → LL nb fb mb (G m)) → apart ma fb ≡ true → (na && nb) ≡ false → ((k m : ℕ) → k ≤ m → Up (F k) (F m)) → Reads (λ m. made f (seq (F m) (G m))) n (made_read f (seq_read a b))
both_reads {na = na} {nb} {fa} {ma} {fb} {mb} {F} {G} f ra rb lf lg e some up =
    made_reads f (seq_reads ra rb lf lg e up) (λ m. subst (λ null. LL null (fa ++ when na fb) (mb ++ when nb ma) (seq (F m) (G m))) some (seq_ll (lf m) (lg m) e))

-- a token, then a form
pub token_reads : {B C : Type 0} {null : Bool} {first more : List Sign} {G : ℕ → Form B} {n : ℕ} {b : Reader B} (set : List Sign) (f : ℕ → Lexeme × B → C) → Reads G n b → ((m : ℕ) → LL null first more (G m)) → Reads (λ m. made f (seq (one set) (G m))) n (made_read f (seq_read (one_read set) b))
token_reads set f r l = both_reads f (one_reads set) r (λ m. one_ll set) l refl refl (λ k m le. up_refl _)

-- a form between two tokens
pub between_reads : {B C : Type 0} {null : Bool} {first more : List Sign} {G : ℕ → Form B} {n : ℕ} {b : Reader B} (front back : List Sign) (f : ℕ → Lexeme × (B × Lexeme) → C) → Reads G n b → ((m : ℕ) → LL null first more (G m)) → apart more back ≡ true → ((k m : ℕ) → k ≤ m → Up (G k) (G m)) → Reads (λ m. made f (seq (one front) (seq (G m) (one back)))) n (made_read f (seq_read (one_read front) (seq_read b (one_read back))))
between_reads front back f r l e up = token_reads front f (seq_reads r (one_reads back) l (λ m. one_ll back) e up) (λ m. seq_ll (l m) (one_ll back) e)

-- so a token is taken
pub token_takes : {B C : Type 0} {null : Bool} {first more : List Sign} {G : ℕ → Form B} {n : ℕ} {b : Reader B} (set : List Sign) (f : ℕ → Lexeme × B → C) → Reads G n b → ((m : ℕ) → LL null first more (G m)) → Takes (made_read f (seq_read (one_read set) b))
token_takes {n = n} set f r l = reads_take (token_reads set f r l) (made_ll f (seq_ll (one_ll set) (l n) refl))
