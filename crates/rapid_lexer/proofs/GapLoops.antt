-- The length of gaps with one more byte.
use Rattle.std.proofs.Common.{◌≡◌, ℕ, suc, ◌+◌, ◌≤◌, ◌<◌, Bool, true, false, List, length, get_or, drop, refl}
use Rattle.std.proofs.lemmas.List.{drop_more, drop_all}
use Rattle.std.proofs.lemmas.Bool.{ne_eqb}
use Rattle.rapid_lexer.specs.Bytes.{is_blank}
use Rattle.rapid_lexer.specs.Reading.{gap_len}

pub gap_len_end : (comment : Bool) (s : List ℕ) (i : ℕ) → length s ≤ i → gap_len comment (drop i s) ≡ 0
unfolding gap_len
gap_len_end comment s i le = rw (drop_all i s le) refl

pub gap_len_comment : (s : List ℕ) (i : ℕ) → i < length s → (get_or s i 0 ≡ 10 → ⊥) → gap_len true (drop i s) ≡ suc (gap_len true (drop (i + 1) s))
unfolding gap_len
gap_len_comment s i lt ne = rw (drop_more s i 0 lt, ne_eqb (get_or s i 0) 10 ne) refl

pub gap_len_line_end : (s : List ℕ) (i : ℕ) → i < length s → get_or s i 0 ≡ 10 → gap_len true (drop i s) ≡ gap_len false (drop i s)
unfolding gap_len
gap_len_line_end s i lt e = rw (drop_more s i 0 lt, e) refl

pub gap_len_bang : (s : List ℕ) (i : ℕ) → i < length s → get_or s i 0 ≡ 33 → gap_len false (drop i s) ≡ suc (gap_len true (drop (i + 1) s))
unfolding gap_len
gap_len_bang s i lt e = rw (drop_more s i 0 lt, e) refl

pub gap_len_blank : (s : List ℕ) (i : ℕ) → i < length s → (get_or s i 0 ≡ 33 → ⊥) → is_blank (get_or s i 0) ≡ true → gap_len false (drop i s) ≡ suc (gap_len false (drop (i + 1) s))
unfolding gap_len
gap_len_blank s i lt ne e = rw (drop_more s i 0 lt, ne_eqb (get_or s i 0) 33 ne, e) refl

pub gap_len_other : (s : List ℕ) (i : ℕ) → i < length s → (get_or s i 0 ≡ 33 → ⊥) → is_blank (get_or s i 0) ≡ false → gap_len false (drop i s) ≡ 0
unfolding gap_len
gap_len_other s i lt ne e = rw (drop_more s i 0 lt, ne_eqb (get_or s i 0) 33 ne, e) refl
