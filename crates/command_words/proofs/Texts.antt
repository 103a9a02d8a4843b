-- Whether the names of files among the words are text.
use Rattle.std.proofs.Common.{◌≡◌, ◌⊎◌, inl, inr, ℕ, List, [], Bool, true, false, refl, rules, subst}
use Rattle.std.specs.Prelude.{Some, None, slice_get}
use Rattle.std.specs.Str.{IsUtf8, is_utf8}
use Rattle.std.proofs.lemmas.Str.{IsUtf8-from_ascii, IsUtf8-from_is_utf8, is_utf8-from_IsUtf8}
use Rattle.command_words.specs.Words.{history_name, is_plain, places, no_text, refused_place, script_name, wrong_word}

pub text_names : (words : List (List ℕ)) → IsUtf8 (script_name words) → IsUtf8 (history_name words) → no_text words ≡ None
text_names words text last = rw (is_utf8-from_IsUtf8 (script_name words) text, is_utf8-from_IsUtf8 (history_name words) last) refl

-- the words are taken
pub taken : (words : List (List ℕ)) (name history : List ℕ) → wrong_word words ≡ None → name ≡ script_name words → history ≡ history_name words → IsUtf8 name → IsUtf8 history → refused_place words ≡ None
taken words name history right is is_last text last = rw (right) (text_names words (subst IsUtf8 is text) (subst IsUtf8 is_last last))

never_true : (b : Bool) → (b ≡ true → ⊥) → b ≡ false
never_true true never = absurd (never refl)
never_true false never = refl

not_text : (name seen : List ℕ) → name ≡ seen → (IsUtf8 name → ⊥) → is_utf8 seen ≡ false
not_text name seen is broken = never_true (is_utf8 seen) (λ t. subst (λ (bytes : List ℕ). IsUtf8 bytes → ⊥) is broken (IsUtf8-from_is_utf8 seen t))

-- the name of the script is refused
pub refused_name : (words : List (List ℕ)) (name : List ℕ) (place : ℕ) → wrong_word words ≡ None → name ≡ script_name words → slice_get (places is_plain 0 words) 1 ≡ Some place → (IsUtf8 name → ⊥)
    → refused_place words ≡ Some place
refused_name words name place right is at broken = rw (right, not_text name (script_name words) is broken) at

-- or that of the history, which is there
pub refused_history : (words : List (List ℕ)) (name history : List ℕ) (place : ℕ) → wrong_word words ≡ None → name ≡ script_name words → history ≡ history_name words
    → (slice_get (places is_plain 0 words) 2 ≡ Some place) ⊎ (history ≡ []) → IsUtf8 name → (IsUtf8 history → ⊥) → refused_place words ≡ Some place
refused_history words name history place right is is_last (inl at) text broken =
    rw (right, is_utf8-from_IsUtf8 (script_name words) (subst IsUtf8 is text), not_text history (history_name words) is_last broken) at
refused_history words name history place right is is_last (inr none) text broken = absurd (subst (λ (bytes : List ℕ). IsUtf8 bytes → ⊥) none broken (IsUtf8-from_ascii [] (search rules)))

-- a wrong word is refused
pub refused_word : (words : List (List ℕ)) (place : ℕ) → wrong_word words ≡ Some place → refused_place words ≡ Some place
refused_word words place wrong = rw wrong refl
