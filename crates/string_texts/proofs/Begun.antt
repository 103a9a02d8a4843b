-- A string that is read in part: the text so far, and the bytes left.
use Rattle.std.proofs.Common.{◌≡◌, ℕ, ◌≤◌, true, false, List, [], ◌∷◌, ◌++◌, length, drop, Some, None, sym, ap, ◌∙◌, append-nil, arith}
use Rattle.rapid_model.specs.Printable.{takes}
use Rattle.string_texts.specs.Spelled.{Spells, text_behind, text_in}
use Rattle.string_texts.specs.Reading.{first_of}
use Rattle.string_texts.proofs.Continuing.{Continues, nothing_more, one_more, goes, spells, after_quote, takes_it}
use Rattle.string_texts.proofs.Behind.{continued_by, behind_nothing, goes_text, too_long}

-- what continues the text so far is what all the bytes after the quote give
pub record IsBegun (bytes left begun : List ℕ) : Type 0 where
  pub back : (t : List ℕ) → Continues left begun t → Continues bytes [] t
  pub on : (t : List ℕ) → Continues bytes [] t → Continues left begun t
  pub text : continued_by begun (text_behind left) ≡ text_in (34 ∷ bytes)

-- one more character
pub begun_more : (bytes left begun : List ℕ) (byte len : ℕ) → first_of left ≡ Some (byte, len) → takes 80 begun byte ≡ true → IsBegun bytes left begun
    → IsBegun bytes (drop len left) (begun ++ byte ∷ [])
begun_more bytes left begun byte len first taken b = record {
  back = λ t h. b.back t (one_more left begun t byte len first h);
  on = λ t h. (goes left begun t byte len first (b.on t h)).on;
  text = goes_text left begun byte len first taken ∙ b.text;
}

-- a character that does not fit
pub full_only : (bytes left begun : List ℕ) (byte len : ℕ) → first_of left ≡ Some (byte, len) → takes 80 begun byte ≡ false → IsBegun bytes left begun
    → (t : List ℕ) → Spells (34 ∷ bytes) t → length t ≤ 80 → None ≡ Some t
full_only bytes left begun byte len first refused b t h le =
    let g = goes left begun t byte len first (b.on t (after_quote bytes t h)) in
    let yes = takes_it left begun byte len first (omega (arith, g.longer, le)) in
    absurd (let no : true ≡ false = sym yes ∙ refused in cc)

pub full_text : (bytes left begun : List ℕ) (byte len : ℕ) → first_of left ≡ Some (byte, len) → takes 80 begun byte ≡ false → IsBegun bytes left begun → None ≡ text_in (34 ∷ bytes)
full_text bytes left begun byte len first refused b = too_long left begun byte len first refused ∙ b.text

-- the closing quote
pub ended_spells : (bytes left begun : List ℕ) → left ≡ 34 ∷ [] → IsBegun bytes left begun → Spells (34 ∷ bytes) begun
ended_spells bytes left begun last b =
    spells bytes begun (b.back begun (record { characters = []; are = tt; whole = last; text_is = sym (append-nil begun) }))

pub ended_only : (bytes left begun : List ℕ) → first_of left ≡ None → IsBegun bytes left begun → (t : List ℕ) → Spells (34 ∷ bytes) t → Some begun ≡ Some t
ended_only bytes left begun none b t h = ap Some (sym (nothing_more left begun t none (b.on t (after_quote bytes t h))).1)

-- neither a character nor the closing quote
pub stopped_only : (bytes left begun : List ℕ) → first_of left ≡ None → (left ≡ 34 ∷ [] → ⊥) → IsBegun bytes left begun → (t : List ℕ) → Spells (34 ∷ bytes) t → ⊥
stopped_only bytes left begun none not_last b t h = not_last (nothing_more left begun t none (b.on t (after_quote bytes t h))).0

pub stopped_text : (bytes left begun : List ℕ) → first_of left ≡ None → (left ≡ 34 ∷ [] → ⊥) → IsBegun bytes left begun → None ≡ text_in (34 ∷ bytes)
stopped_text bytes left begun none not_last b = sym (ap (continued_by begun) (behind_nothing left none not_last)) ∙ b.text
