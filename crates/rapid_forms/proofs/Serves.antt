-- A correct reader of a form, with everything that reading needs to know about the form: at each level one token of
-- lookahead is enough, and a form within some levels is also within more. Each way to build forms from others preserves
-- all three.
use Rattle.std.proofs.Common.{◌≡◌, ℕ, ◌≤◌, Bool, true, false, ◌&&◌, List, [], ◌++◌, refl}
use Rattle.rapid_forms.specs.declared.sign.Sign.{Sign}
use Rattle.rapid_forms.specs.Forms.{Form, one, seq, either, optional, many, made}
use Rattle.rapid_forms.specs.Reading.{Reader, one_read, seq_read, either_read, optional_read, many_read, made_read}
use Rattle.rapid_forms.proofs.Sets.{apart, covered, when}
use Rattle.rapid_forms.proofs.Laws.{LL, larger_ll, one_ll, seq_ll, either_ll, optional_ll, many_ll, made_ll}
use Rattle.rapid_forms.proofs.Up.{Up, up_refl, up_trans, seq_up, either_up, optional_up, many_up, made_up}
use Rattle.rapid_forms.proofs.Opens.{Opens}
use Rattle.rapid_forms.proofs.Same.{Same, same_ll}
use Rattle.rapid_forms.proofs.Right.{Reads, one_reads, seq_reads, either_reads, optional_reads, many_reads, made_reads, remade_reads, same_reads}
use Rattle.rapid_forms.proofs.Loops.{Takes, reads_take}

pub record Serves {A : Type 0} (null : Bool) (first more : List Sign) (F : ℕ → Form A) (n : ℕ) (a : Reader A) : Type 0 where
  pub reads : Reads F n a
  pub ahead : (m : ℕ) → LL null first more (F m)
  pub above : (k m : ℕ) → k ≤ m → Up (F k) (F m)

module _ {n : ℕ} where
  pub one_serves : (signs : List Sign) → Serves false signs [] (λ m. one signs) n (one_read signs)
  one_serves signs = record { reads = one_reads signs; ahead = λ m. one_ll signs; above = λ k m le. up_refl _ }

  module _ {A : Type 0} {null : Bool} {first more : List Sign} {F : ℕ → Form A} {a : Reader A} (x : Serves null first more F n a) where
    pub larger_serves : {first' more' : List Sign} → covered first first' ≡ true → covered more more' ≡ true → Serves null first' more' F n a
    larger_serves e e' = record { reads = x.reads; ahead = λ m. larger_ll (x.ahead m) e e'; above = x.above }

    pub same_serves : {G : ℕ → Form A} → ((m : ℕ) → Same (F m) (G m)) → Serves null first more G n a
    same_serves s = record {
      reads = same_reads x.reads s;
      ahead = λ m. same_ll (s m) (x.ahead m);
      above = λ k m le. up_trans (s k).back (up_trans (x.above k m le) (s m).to);
    }

    -- premise: the signs that continue the first form and those that start the second are disjoint
    pub both_serve : {B : Type 0} {null' : Bool} {first' more' : List Sign} {G : ℕ → Form B} {b : Reader B} → Serves null' first' more' G n b → apart more first' ≡ true → Serves (null && null') (first ++ when null first') (more' ++ when null' more) (λ m. seq (F m) (G m)) n (seq_read a b)
    both_serve y e = record {
      reads = seq_reads x.reads y.reads x.ahead y.ahead e x.above;
      ahead = λ m. seq_ll (x.ahead m) (y.ahead m) e;
      above = λ k m le. seq_up (x.above k m le) (y.above k m le);
    }

  pub made_serves : {A B : Type 0} {first more : List Sign} {F : ℕ → Form A} {a : Reader A} (f : ℕ → A → B) → Serves false first more F n a → Serves false first more (λ m. made f (F m)) n (made_read f a)
  made_serves f x = record { reads = made_reads f x.reads x.ahead; ahead = λ m. made_ll f (x.ahead m); above = λ k m le. made_up f (x.above k m le) }

  -- premise: the byte does not matter
  pub remade_serves : {A B : Type 0} {null : Bool} {first more : List Sign} {F : ℕ → Form A} {a : Reader A} (f : ℕ → A → B) → Serves null first more F n a → ((p q : ℕ) (x : A) → f p x ≡ f q x) → Serves null first more (λ m. made f (F m)) n (made_read f a)
  remade_serves f x same = record { reads = remade_reads f x.reads same; ahead = λ m. made_ll f (x.ahead m); above = λ k m le. made_up f (x.above k m le) }

  module _ {A : Type 0} {first more : List Sign} {F : ℕ → Form A} {a : Reader A} (x : Serves false first more F n a) where
    pub serves_take : Takes a
    serves_take = reads_take x.reads (x.ahead n)

    -- premise: the signs that start the two forms are disjoint
    pub either_serves : {first' more' : List Sign} {G : ℕ → Form A} {b : Reader A} → Serves false first' more' G n b → apart first first' ≡ true → Serves false (first ++ first') (more ++ more' ++ [] ++ []) (λ m. either (F m) (G m)) n (either_read first a b)
    either_serves y e = record {
      reads = either_reads x.reads y.reads x.ahead y.ahead e (λ no. cc) x.above;
      ahead = λ m. either_ll (x.ahead m) (y.ahead m) e refl;
      above = λ k m le. either_up (x.above k m le) (y.above k m le);
    }

    -- premise: each first sign opens the form
    pub optional_serves : Opens first F → Serves true first (more ++ first) (λ m. optional (F m)) n (optional_read first a)
    optional_serves o = record { reads = optional_reads x.reads x.ahead o x.above; ahead = λ m. optional_ll (x.ahead m); above = λ k m le. optional_up (x.above k m le) }

    -- premises: each first sign opens the form; the signs that continue it and those that start it are disjoint
    pub many_serves : Opens first F → apart more first ≡ true → Serves true first (more ++ first) (λ m. many (F m)) n (many_read first a)
    many_serves o e = record { reads = many_reads x.reads x.ahead e o x.above; ahead = λ m. many_ll (x.ahead m) e; above = λ k m le. many_up (x.above k m le) }
