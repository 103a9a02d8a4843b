-- How a key is shown, byte by byte.
use Rattle.std.proofs.Common.{◌+◌, get_or, ◌≡◌, ℕ, ◌<◌, Bool, true, false, nat_lt, List, [], ◌∷◌, ◌++◌, length, map, take, if◌then◌else◌, inl, inr, refl, sym, ap, ◌∙◌, arith, append_assoc}
use Rattle.std.proofs.lemmas.Bool.{cases_lt, lt-ltb, le-ltb}
use Rattle.std.proofs.lemmas.List.{map-append, take-append-le, take_all, length-take-le, length-append, take_more}
use Rattle.rapid_num.specs.Characters.{is_printable}
use Rattle.rapid_model.specs.Printable.{takes}
use Rattle.cell_script.specs.Break.{shown, shown_byte, element_key, key_in}

pub take_one : (n : ℕ) (xs : List ℕ) (y : ℕ) → take n (xs ++ y ∷ []) ≡ (if nat_lt (length (take n xs)) n then take n xs ++ y ∷ [] else take n xs)
take_one n xs y =
    elim (cases_lt (length xs) n) [
      | inl lt ↦
          let all : take n xs ≡ xs = take_all n xs (omega arith) in
          let more : take n (xs ++ y ∷ []) ≡ xs ++ y ∷ [] = take_all n (xs ++ y ∷ []) (simp length-append (omega arith)) in
          rw (more, all, lt-ltb (length xs) n lt) refl
      | inr le ↦
          let full : length (take n xs) ≡ n = length-take-le n xs le in
          rw (take-append-le n xs (y ∷ []) le, full, le-ltb n n (omega arith)) refl
    ]

pub printable_shown : (b : ℕ) → is_printable (shown_byte b) ≡ true
printable_shown b = by_test (is_printable b) refl
  where
    by_test : (test : Bool) → is_printable b ≡ test → is_printable (if test then b else 63) ≡ true
    by_test true e = e
    by_test false e = refl

pub shown_more : (front : List ℕ) (b : ℕ) → shown (front ++ b ∷ []) ≡ (if takes 80 (shown front) (shown_byte b) then shown front ++ shown_byte b ∷ [] else shown front)
shown_more front b = rw (map-append shown_byte front (b ∷ []), printable_shown b) (take_one 80 (map shown_byte front) (shown_byte b))

-- one more byte
pub shown_next : (front bytes text : List ℕ) (i d : ℕ) (taken : Bool) (now : List ℕ) → i < length bytes → text ≡ shown (front ++ take i bytes)
    → taken ≡ takes 80 text (shown_byte (get_or bytes i d)) → now ≡ (if taken then text ++ shown_byte (get_or bytes i d) ∷ [] else text)
    → now ≡ shown (front ++ take (i + 1) bytes)
shown_next front bytes text i d taken now lt before took is =
    let b = get_or bytes i d in
    let all : front ++ take (i + 1) bytes ≡ (front ++ take i bytes) ++ b ∷ [] = ap (λ t. front ++ t) (take_more bytes i d lt) ∙ sym (append_assoc front (take i bytes) (b ∷ [])) in
    is ∙ rw (took, before) (sym (ap shown all ∙ shown_more (front ++ take i bytes) b))

pub in_element : (path key : List ℕ) (index : ℕ) → key_in (element_key path index) key ≡ element_key path index ++ (46 ∷ key)
in_element [] key index = refl
in_element (b ∷ bs) key index = refl
