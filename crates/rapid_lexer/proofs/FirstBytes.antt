-- Tokens whose kind the first byte gives: names, and marks that no longer mark starts with.
use Rattle.std.proofs.Common.{◌≡◌, ℕ, ◌+◌, ◌<◌, Bool, true, false, cond, List, [], ◌∷◌, length, get_or, Some, None, refl, sym, ap, ◌∙◌, arith}
use Rattle.std.specs.List.{AllByRecursion, prefix_len}
use Rattle.std.specs.Str.{bytes_eq}
use Rattle.std.proofs.lemmas.Slice.Eq.{bytes_eq-Decides}
use Rattle.rapid_num.specs.Characters.{is_letter, is_name_byte}
use Rattle.rapid_lexer.specs.declared.kind.Kind.TheVariants.{Name, Mark}
use Rattle.rapid_lexer.specs.declared.mark.Mark.{Mark as OneMark}
use Rattle.rapid_lexer.specs.declared.state.State.TheVariants.{Start, InName, Single, Dead}
use Rattle.rapid_lexer.specs.Marks.{mark_text}
use Rattle.rapid_lexer.specs.Scanning.{singles, mark_in, single_of, after_start, behind, longest}
use Rattle.rapid_lexer.proofs.Scan.{dead_none}

-- the rest of a name
rest_of_name : (bs : List ℕ) → longest InName bs ≡ Some (Name, prefix_len is_name_byte bs)
unfolding longest
rest_of_name [] = refl
rest_of_name (b ∷ bs) = at (is_name_byte b) (rest_of_name bs)
  where
    at : (goes_on : Bool) → longest InName bs ≡ Some (Name, prefix_len is_name_byte bs)
        → behind (Some (Name, 0)) 1 (longest (cond goes_on InName Dead) bs) ≡ Some (Name, cond goes_on (1 + prefix_len is_name_byte bs) 0)
    at true rest = rw rest refl
    at false rest = rw (dead_none bs) refl

pub name_longest : (bs : List ℕ) → 0 < length bs → is_letter (get_or bs 0 0) ≡ true → Some (Name, prefix_len is_name_byte bs) ≡ longest Start bs
unfolding longest
name_longest [] some e = absurd (omega (arith, some))
name_longest (b ∷ bs) some e = rw (e, rest_of_name bs) refl

-- the first byte of the mark is the whole mark to the scanner
abbrev IsSingle : OneMark → Type 0
IsSingle m = after_start (get_or (mark_text m) 0 0) ≡ Single m

are_single : AllByRecursion IsSingle singles
are_single = search

single_at : (one m : OneMark) (ms : List OneMark) (b : ℕ) (same : Bool) → IsSingle one → bytes_eq (mark_text one) (b ∷ []) ≡ same → (mark_in ms b ≡ Some m → after_start b ≡ Single m)
    → cond same (Some one) (mark_in ms b) ≡ Some m → after_start b ≡ Single m
single_at one m ms b true single is rest e =
    let byte : get_or (mark_text one) 0 0 ≡ b = ap (λ (text : List ℕ). get_or text 0 0) ((bytes_eq-Decides (mark_text one) (b ∷ [])).0 is) in
    let mark : one ≡ m = cc in
    ap after_start (sym byte) ∙ single ∙ ap Single mark
single_at one m ms b false single is rest e = rest e

single_in : (ms : List OneMark) (b : ℕ) (m : OneMark) → AllByRecursion IsSingle ms → mark_in ms b ≡ Some m → after_start b ≡ Single m
single_in [] b m h e = absurd cc
single_in (one ∷ ms) b m h e = single_at one m ms b (bytes_eq (mark_text one) (b ∷ [])) h.0 refl (single_in ms b m h.1) e

rest_of_single : (m : OneMark) (bs : List ℕ) → longest (Single m) bs ≡ Some (Mark m, 0)
unfolding longest
rest_of_single m [] = refl
rest_of_single m (b ∷ bs) = rw (dead_none bs) refl

pub single_longest : (bs : List ℕ) (m : OneMark) → 0 < length bs → Some m ≡ single_of (get_or bs 0 0) → Some (Mark m, 1) ≡ longest Start bs
unfolding longest
single_longest [] m some e = absurd (omega (arith, some))
single_longest (b ∷ bs) m some e = rw (single_in singles b m are_single (sym e), rest_of_single m bs) refl

pub nothing_longest : (bs : List ℕ) → length bs ≡ 0 → None ≡ longest Start bs
unfolding longest
nothing_longest [] e = refl
nothing_longest (b ∷ bs) e = absurd (omega (arith, e))
