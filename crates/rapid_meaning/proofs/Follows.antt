-- Composition of doings is associative.
use Rattle.std.proofs.Common.{◌≡◌, refl, ℕ}
use Rattle.rapid_meaning.specs.Doings.{Doing, Gives, Raises, Asks, Ends, Misfit, Reads, Writes, Does, after}

pub after_after : {A B C : Type 0} (m : Doing A) (f : A → Doing B) (r : ℕ → Doing B) (g : B → Doing C) (h : ℕ → Doing C)
    → after (after m f r) g h ≡ after m (λ v. after (f v) g h) (λ n. after (r n) g h)
unfolding after
after_after (Gives v) f r g h = refl
after_after (Raises n) f r g h = refl
after_after (Asks request k) f r g h = λ i. Asks request (λ a. after_after (k a) f r g h i)
after_after (Ends fate) f r g h = refl
after_after Misfit f r g h = refl
after_after (Reads k) f r g h = λ i. Reads (λ d. after_after (k d) f r g h i)
after_after (Writes d m) f r g h = λ i. Writes d (after_after m f r g h i)
after_after (Does p k q) f r g h = λ i. Does p (λ flow. after_after (k flow) f r g h i) (λ n. after_after (q n) f r g h i)
