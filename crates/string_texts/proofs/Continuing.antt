-- A text grows character by character.
use Rattle.std.proofs.Common.{◌≡◌, ℕ, ◌<◌, true, List, [], ◌∷◌, ◌++◌, length, map, drop, Some, None, nat_lt, refl, sym, ap, ◌∙◌, append_assoc, append-nil, length-append, arith}
use Rattle.std.specs.List.{concat}
use Rattle.rapid_model.specs.Printable.{takes}
use Rattle.std.proofs.lemmas.Bool.Decides.{nat_tests}
use Rattle.std.proofs.Math.Seq.{drop-append_seam}
use Rattle.rapid_lexer.specs.Strings.{AreCharacters}
use Rattle.string_texts.specs.Spelled.{character_of, Spells}
use Rattle.string_texts.specs.Reading.{first_of}
use Rattle.string_texts.proofs.Firsts.{found_parts, character_first, first_is}

-- the bytes are characters and a quote, and the characters continue the text
pub record Continues (bytes begun text : List ℕ) : Type 0 where
  pub characters : List (List ℕ)
  pub are : AreCharacters characters
  pub whole : bytes ≡ concat characters ++ 34 ∷ []
  pub text_is : text ≡ begun ++ map character_of characters

-- if no character comes first, the text ends
pub nothing_more : (bytes begun t : List ℕ) → first_of bytes ≡ None → Continues bytes begun t → (bytes ≡ 34 ∷ []) × (t ≡ begun)
nothing_more bytes begun t none h = at h.characters h.are h.whole h.text_is
  where
    at : (cs : List (List ℕ)) → AreCharacters cs → bytes ≡ concat cs ++ 34 ∷ [] → t ≡ begun ++ map character_of cs → (bytes ≡ 34 ∷ []) × (t ≡ begun)
    at [] are whole is = (whole, is ∙ append-nil begun)
    at (c ∷ cs) are whole is =
        let x = character_first c (concat cs ++ 34 ∷ []) are.0 in
        let y : bytes ≡ c ++ (concat cs ++ 34 ∷ []) = whole ∙ append_assoc c (concat cs) (34 ∷ []) in
        absurd (let z : None ≡ Some (character_of c, length c) = sym none ∙ ap first_of y ∙ x in cc)

-- what is left after the character
drop_first : (bytes c rest : List ℕ) (len : ℕ) → len ≡ length c → bytes ≡ c ++ rest → drop len bytes ≡ rest
drop_first bytes c rest len l e = rw (l, e) (drop-append_seam c rest)

-- one character, and the text of the rest
pub one_more : (bytes begun t : List ℕ) (byte len : ℕ) → first_of bytes ≡ Some (byte, len) → Continues (drop len bytes) (begun ++ byte ∷ []) t → Continues bytes begun t
one_more bytes begun t byte len e h =
    let f = first_is bytes byte len e in
    let d : drop len bytes ≡ f.rest = drop_first bytes f.character f.rest len f.len_is f.whole in
    record {
      characters = f.character ∷ h.characters;
      are = (f.is, h.are);
      whole = f.whole ∙ ap (λ (r : List ℕ). f.character ++ r) (sym d ∙ h.whole) ∙ sym (append_assoc f.character (concat h.characters) (34 ∷ []));
      text_is = h.text_is ∙ append_assoc begun (byte ∷ []) (map character_of h.characters) ∙ ap (λ (b : ℕ). begun ++ b ∷ map character_of h.characters) f.byte_is;
    }

-- what follows the first character continues to the same text, which is longer than the begun one
pub record Goes (bytes begun t : List ℕ) (byte len : ℕ) : Type 0 where
  pub on : Continues (drop len bytes) (begun ++ byte ∷ []) t
  pub longer : length begun < length t

pub goes : (bytes begun t : List ℕ) (byte len : ℕ) → first_of bytes ≡ Some (byte, len) → Continues bytes begun t → Goes bytes begun t byte len
goes bytes begun t byte len e h = at h.characters h.are h.whole h.text_is
  where
    at : (cs : List (List ℕ)) → AreCharacters cs → bytes ≡ concat cs ++ 34 ∷ [] → t ≡ begun ++ map character_of cs → Goes bytes begun t byte len
    at [] are whole is = absurd (let z : None ≡ Some (byte, len) = sym (ap first_of whole) ∙ e in cc)
    at (c ∷ cs) are whole is =
        let x = character_first c (concat cs ++ 34 ∷ []) are.0 in
        let y : bytes ≡ c ++ (concat cs ++ 34 ∷ []) = whole ∙ append_assoc c (concat cs) (34 ∷ []) in
        let z = found_parts (character_of c) (length c) byte len (sym x ∙ sym (ap first_of y) ∙ e) in
        let b = z.0 in
        let l = sym z.1 in
        record {
          on = record {
            characters = cs;
            are = are.1;
            whole = drop_first bytes c (concat cs ++ 34 ∷ []) len l y;
            text_is = is ∙ ap (λ (b : ℕ). begun ++ b ∷ map character_of cs) b ∙ sym (append_assoc begun (byte ∷ []) (map character_of cs));
          };
          longer = omega (arith, ap length is, length-append begun (character_of c ∷ map character_of cs));
        }

-- from what follows the quote to the token
pub spells : (bytes t : List ℕ) → Continues bytes [] t → Spells (34 ∷ bytes) t
spells bytes t h = record {
  characters = h.characters;
  string = record { characters = h.are; whole = ap (λ (r : List ℕ). 34 ∷ r) h.whole };
  text_is = h.text_is;
}

-- from the token to what follows the quote
pub after_quote : (bytes t : List ℕ) → Spells (34 ∷ bytes) t → Continues bytes [] t
after_quote bytes t h = record {
  characters = h.characters;
  are = h.string.characters;
  whole = ap (drop 1) h.string.whole;
  text_is = h.text_is;
}

-- a text that is not full accepts the character
pub takes_it : (bytes begun : List ℕ) (byte len : ℕ) → first_of bytes ≡ Some (byte, len) → length begun < 80 → takes 80 begun byte ≡ true
takes_it bytes begun byte len e h =
    let p = (first_is bytes byte len e).printable in
    let x : nat_lt (length begun) 80 ≡ true = grind (arith, nat_tests) in
    rw (p, x) refl
