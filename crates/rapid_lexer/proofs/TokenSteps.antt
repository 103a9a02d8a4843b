-- What a text starts with at a position, put together from what the parts find.
use Rattle.std.proofs.Common.{◌≡◌, ℕ, suc, ◌+◌, ◌-◌, ◌≤◌, ◌<◌, Bool, true, false, cond, ltb, List, ◌∷◌, length, get_or, take, drop, Option, Some, None, Result, Err, refl, sym, ap, ◌∙◌, arith}
use Rattle.std.specs.Option.{option_map}
use Rattle.std.proofs.lemmas.List.{drop_more, drop-drop, take_rest, length-drop}
use Rattle.std.proofs.lemmas.Bool.{lt-ltb, le-ltb}
use Rattle.rapid_lexer.specs.declared.kind.Kind.{Kind}
use Rattle.rapid_lexer.specs.declared.fault.LexFault.{LexFault}
use Rattle.rapid_lexer.specs.declared.state.State.TheVariants.{Start}
use Rattle.rapid_lexer.specs.Gaps.{is_fence, before_fence}
use Rattle.rapid_lexer.specs.Tokens.{Lexeme}
use Rattle.rapid_lexer.specs.Scanning.{longest}
use Rattle.rapid_lexer.specs.Reading.{gap_len, misfit, token_of, token_at, next_of}

plus_suc : (i : ℕ) (o : Option ℕ) → option_map (λ n. i + n) (option_map suc o) ≡ option_map (λ n. i + 1 + n) o
plus_suc i None = refl
plus_suc i (Some n) = ap (λ (m : ℕ). Some m) (let e : i + suc n ≡ i + 1 + n = omega arith in e)

fence_more : (bytes : List ℕ) (i : ℕ) → i < length bytes → is_fence (drop i bytes) ≡ false → before_fence (drop i bytes) ≡ option_map suc (before_fence (drop (i + 1) bytes))
fence_more bytes i lt none =
    let b = get_or bytes i 0 in
    let e = drop_more bytes i 0 lt in
    let here : is_fence (b ∷ drop (i + 1) bytes) ≡ false = ap is_fence (sym e) ∙ none in
    ap before_fence e ∙ ap (λ (t : Bool). cond t (Some 0) (option_map suc (before_fence (drop (i + 1) bytes)))) here

pub before_fence_more : (bytes : List ℕ) (i : ℕ) (all : Option ℕ) → i < length bytes → is_fence (take (length bytes - i) (drop i bytes)) ≡ false
    → option_map (λ n. i + n) (before_fence (drop i bytes)) ≡ all → option_map (λ n. i + 1 + n) (before_fence (drop (i + 1) bytes)) ≡ all
before_fence_more bytes i all lt none h =
    sym (plus_suc i (before_fence (drop (i + 1) bytes))) ∙ ap (option_map (λ n. i + n)) (sym (fence_more bytes i lt (ap is_fence (sym (take_rest bytes i)) ∙ none))) ∙ h

pub token_none : (at : ℕ) (source : List ℕ) (f : LexFault) → ◌≡◌ {A = Option (Kind × ℕ)} None (longest Start (take (length source - at) (drop at source)))
    → f ≡ misfit at (take (length source - at) (drop at source)) → ◌≡◌ {A = Result Lexeme LexFault} (Err f) (token_at at (drop at source))
unfolding token_at
token_none at source f none is =
    let here : ◌≡◌ {A = Result Lexeme LexFault} (Err f) (token_at at (take (length source - at) (drop at source))) = rw (← none, is) refl in
    here ∙ ap (token_at at) (take_rest source at)

pub token_some : (at : ℕ) (source : List ℕ) (r : Result Lexeme LexFault) (k : Kind) (n : ℕ) → Some (k, n) ≡ longest Start (take (length source - at) (drop at source))
    → r ≡ token_of k at (take n (take (length source - at) (drop at source))) → r ≡ token_at at (drop at source)
unfolding token_at
token_some at source r k n some is =
    let here : r ≡ token_at at (take (length source - at) (drop at source)) = rw (← some) is in
    here ∙ ap (token_at at) (take_rest source at)

pub next_none : (at here : ℕ) (source : List ℕ) → at ≤ length source → here ≡ at + gap_len false (drop at source) → here ≡ length source
    → ◌≡◌ {A = Option (Result Lexeme LexFault)} None (next_of at (drop at source))
unfolding next_of
next_none at here source le is end =
    let past : ltb (gap_len false (drop at source)) (length (drop at source)) ≡ false = le-ltb _ _ (omega (arith, length-drop at source)) in
    rw past refl

pub next_some : (at here : ℕ) (source : List ℕ) (r : Result Lexeme LexFault) → at ≤ length source → here ≡ at + gap_len false (drop at source) → here ≤ length source → (here ≡ length source → ⊥)
    → r ≡ token_at here (drop here source) → Some r ≡ next_of at (drop at source)
unfolding next_of
next_some at here source r le is within ne e =
    let yes : ltb (gap_len false (drop at source)) (length (drop at source)) ≡ true = lt-ltb _ _ (omega (arith, length-drop at source)) in
    rw (yes, drop-drop (gap_len false (drop at source)) at source, ← is, e) refl
