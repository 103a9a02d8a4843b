-- The results of reads from a shelf that reports nothing: the texts that they gave.
use Rattle.std.proofs.Common.{◌≡◌, ℕ, zero, suc, ◌+◌, ◌<◌, ◌≤◌, List, [], ◌∷◌, length, get_or, refl, ap, sym, ◌∙◌, subst, ◌⊎◌, inl, inr, arith, Bool}
use Rattle.std.specs.Prelude.{Option, Some, None, IfSome, Result, Ok, Err, Vec, All, if◌then◌else◌}
use Rattle.std.specs.declared.alloc.Global.{Global}
use Rattle.std.proofs.lemmas.Bool.{le-leb, lt-leb}
use Rattle.std.proofs.lemmas.List.Elements.{All-tail}
use Rattle.rapid_limits.specs.declared.TheConstants.{MODULE_BYTES}
use Rattle.cell_loading.specs.ReadModules.{file_text}
use Rattle.cell_loading.specs.Files.{Reads, text_of, IsUnread}
use Rattle.cell_loading.specs.Loaded.{bytes_of, IsWithin, AreTexts}
use Rattle.cell_loading.specs.declared.refused.Refused.{Refused}
use Rattle.cell_loading.specs.declared.refused.Refused.TheVariants as refusals

-- bytes that more bytes follow
longer : (n : ℕ) → (bytes : List ℕ) × (n < length bytes)
longer zero = (0 ∷ [], omega arith)
longer (suc n) = let more = longer n in (0 ∷ more.0, let many = more.1 in omega (arith, many))

pub text_within : (file limit : ℕ) (text : List ℕ) → length text ≤ limit → text_of file limit (Some text) ≡ Ok text
text_within file limit text within =
    ap (λ (b : Bool). let r : Result (List ℕ) Refused = (if b then Ok text else Err (refusals.TooLong file)) in r) (le-leb (length text) limit within)

text_past : (file limit : ℕ) (text : List ℕ) → limit < length text → text_of file limit (Some text) ≡ Err (refusals.TooLong file)
text_past file limit text past =
    ap (λ (b : Bool). let r : Result (List ℕ) Refused = (if b then Ok text else Err (refusals.TooLong file)) in r) (lt-leb (length text) limit past)

-- the result of reading a file that is refused, unless out of memory
abbrev pub Stops : ℕ → ℕ → Refused → Option (List ℕ) → Type 0
Stops file limit refused gave = (refused ≡ refusals.Memory) ⊎ (text_of file limit gave ≡ Err refused)

pub unread_gave : (file limit : ℕ) (refused : Refused) → IsUnread file refused → (gave : Option (List ℕ)) × Stops file limit refused gave
unread_gave file limit (refusals.Words place) is = absurd is
unread_gave file limit (refusals.Script key rule) is = absurd is
unread_gave file limit (refusals.Module other place rule) is = absurd is
unread_gave file limit (refusals.Read other) is = (None, inr (ap (λ (n : ℕ). Err (refusals.Read n)) (sym is)))
unread_gave file limit refusals.Write is = absurd is
unread_gave file limit refusals.Memory is = (None, inl refl)
unread_gave file limit (refusals.TooLong other) is =
    let more = longer limit in
    (Some more.0, inr (text_past file limit more.0 more.1 ∙ ap (λ (n : ℕ). Err (refusals.TooLong n)) (sym is)))
unread_gave file limit (refusals.History line) is = absurd is

-- the texts, and the result of the read after them
abbrev pub behind : List (Vec ℕ Global) → Option (List ℕ) → List (Option (List ℕ))
behind [] last = last ∷ []
behind (text ∷ texts) last = Some text.items ∷ behind texts last

pub behind_end : (texts : List (Vec ℕ Global)) (last : Option (List ℕ)) (k : ℕ) → k ≡ length texts → get_or (behind texts last) k None ≡ last
behind_end [] last zero is = refl
behind_end [] last (suc k) is = absurd (omega (arith, is))
behind_end (text ∷ texts) last zero is = absurd (omega (arith, is))
behind_end (text ∷ texts) last (suc k) is = behind_end texts last k (omega (arith, is))

-- if the reads from a file on gave these, they come to the texts and to what stopped them
pub texts_given : (gave : Reads) (file : ℕ) (names : List (List ℕ)) (texts : List (Vec ℕ Global)) (last : Option (List ℕ)) (failed : Option Refused)
    → ((k : ℕ) (name : List ℕ) → gave (file + k) name ≡ get_or (behind texts last) k None) → All IsWithin texts → length texts ≤ length names → (failed ≡ None → length texts ≡ length names)
    → IfSome failed (λ refused. Stops (file + length texts) MODULE_BYTES refused last × (length texts < length names)) → AreTexts gave file names (bytes_of texts) failed
texts_given gave file [] [] last None at within few whole stops = tt
texts_given gave file [] [] last (Some refused) at within few whole stops = absurd (let none = stops.1 in omega (arith, none))
texts_given gave file [] (text ∷ texts) last failed at within few whole stops = absurd (omega (arith, few))
texts_given gave file (name ∷ names) [] last None at within few whole stops = absurd (let all = whole refl in omega (arith, all))
texts_given gave file (name ∷ names) [] last (Some refused) at within few whole stops = here stops.0
  where
    same : file + 0 ≡ file
    same = omega arith

    here : Stops (file + 0) MODULE_BYTES refused last → (refused ≡ refusals.Memory) ⊎ (file_text gave file MODULE_BYTES name ≡ Err refused)
    here (inl memory) = inl memory
    here (inr is) =
        inr (ap (λ (o : Option (List ℕ)). text_of file MODULE_BYTES o) (ap (λ (n : ℕ). gave n name) (sym same) ∙ at 0 name) ∙ ap (λ (n : ℕ). text_of n MODULE_BYTES last) (sym same) ∙ is)
texts_given gave file (name ∷ names) (text ∷ texts) last failed at within few whole stops = (
  ap (λ (o : Option (List ℕ)). text_of file MODULE_BYTES o) (ap (λ (n : ℕ). gave n name) (first file) ∙ at 0 name) ∙ text_within file MODULE_BYTES text.items (within 0 text (omega arith)),
  texts_given gave (file + 1) names texts last failed (λ k other. ap (λ (n : ℕ). gave n other) (next file k) ∙ at (suc k) other) (All-tail IsWithin text texts within) (omega (arith, few))
      (λ none. let all = whole none in omega (arith, all)) (later failed stops),
)
  where
    first : (n : ℕ) → n ≡ n + 0
    first n = omega arith

    next : (n k : ℕ) → n + 1 + k ≡ n + suc k
    next n k = omega arith

    later : (o : Option Refused) → IfSome o (λ refused. Stops (file + length (text ∷ texts)) MODULE_BYTES refused last × (length (text ∷ texts) < length (name ∷ names)))
        → IfSome o (λ refused. Stops (file + 1 + length texts) MODULE_BYTES refused last × (length texts < length names))
    later None p = tt
    later (Some refused) p =
        (subst (λ (n : ℕ). Stops n MODULE_BYTES refused last) (sym (next file (length texts))) p.0, let fewer = p.1 in omega (arith, fewer))
