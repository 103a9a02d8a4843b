-- The invariant of a loop over the tokens.
use Rattle.std.proofs.Common.{◌≡◌, ℕ, ◌+◌, ◌-◌, ◌≤◌, ◌<◌, List, [], ◌∷◌, ◌++◌, length, take, drop, Option, Some, None, Result, Ok, Err, refl, sym, ap, subst, ◌∙◌, arith, inl, inr}
use Rattle.std.specs.Prelude.{IfOk}
use Rattle.std.specs.List.{All, AllByRecursion}
use Rattle.std.proofs.lemmas.List.{drop-drop, drop_at, take_at, length-drop, length-append}
use Rattle.std.proofs.lemmas.List.Elements.{All-from_recursion}
use Rattle.rapid_lexer.specs.declared.fault.LexFault.{LexFault}
use Rattle.rapid_lexer.specs.declared.fault.TokensFault.{TokensFault}
use Rattle.rapid_lexer.specs.declared.fault.TokensFault.TheVariants.{Lex, Memory}
use Rattle.rapid_lexer.specs.declared.token.Token.{Token}
use Rattle.rapid_lexer.specs.Gaps.{front_of}
use Rattle.rapid_lexer.specs.Tokens.{Lexeme, view, views, Follows, Passes, Begins, Tiles, IsSliceOf}
use Rattle.rapid_lexer.specs.Faults.{IsNext, IsFirstMisfit, seen}
use Rattle.rapid_lexer.specs.Lexing.{Lexing, IsAtFront, IsAnswerBehind, IsAnswer, lexing_after, FindsTokens, FindsFault}
use Rattle.rapid_lexer.proofs.GapWalks.{token_no_gap}
use Rattle.rapid_lexer.proofs.Tilings.{after_is, one_tiling, no_fault, one_fault}

-- these tokens were read, or an error was found
abbrev IsReadBehind : Option LexFault → List ℕ → Lexing → List Lexeme → Type 0
IsReadBehind None source l ts = Begins source ts l.at (drop l.at source)
IsReadBehind (Some f) source l ts = IsFirstMisfit source f

pub record IsRead (source : List ℕ) (l : Lexing) (ts : List Lexeme) : Type 0 where
  pub same : l.source ≡ source
  pub read : IsReadBehind l.fault source l ts

pub read_first : (source : List ℕ) (l : Lexing) → l.source ≡ source → IsAtFront l (front_of source) → IsRead source l []
read_first source l same h = record { same = same; read = at (front_of source) refl h }
  where
    at : (o : Result ℕ ℕ) → front_of source ≡ o → IsAtFront l o → IsReadBehind l.fault source l []
    at (Ok n) e (p, f) = subst (λ (x : Option LexFault). IsReadBehind x source l []) (sym f) (record { front = l.at; is_front = e ∙ ap (λ (m : ℕ). Ok m) (sym p); passes = (refl, refl) })
    at (Err p) e f = subst (λ (x : Option LexFault). IsReadBehind x source l []) (sym f) (inl (refl, e))

passes_push : (ts : List Lexeme) (at : ℕ) (bytes : List ℕ) (there : ℕ) (left : List ℕ) (t : Lexeme) (after : List ℕ) → Passes at bytes ts there left → Follows there left t after
    → Passes at bytes (ts ++ t ∷ []) (t.at + length t.text) after
passes_push [] at bytes there left t after p h =
    (after, subst (λ (n : ℕ). Follows n bytes t after) p.0 (subst (λ (r : List ℕ). Follows there r t after) p.1 h), (refl, refl))
passes_push (u ∷ ts) at bytes there left t after p h = (p.0, p.1, passes_push ts (u.at + length u.text) p.0 there left t after p.2 h)

pub follows_more : (at : ℕ) (bytes : List ℕ) (t : Lexeme) (after : List ℕ) → Follows at bytes t after → (at < t.at + length t.text) × (t.at + length t.text ≤ at + length bytes)
follows_more at bytes t after h =
    let some = (token_no_gap t.kind t.text after h.is_token).1 in
    (omega (arith, some, h.is_at), omega (arith, h.is_at, ap length h.whole, length-append h.gap (t.text ++ after), length-append t.text after))

left_behind : (at : ℕ) (source : List ℕ) (t : Lexeme) (after : List ℕ) → Follows at (drop at source) t after → after ≡ drop (t.at + length t.text) source
left_behind at source t after h =
    let n : at + (t.at + length t.text - at) ≡ t.at + length t.text = (let lt = (follows_more at (drop at source) t after h).0 in omega arith) in
    after_is at (drop at source) t after h ∙ drop-drop (t.at + length t.text - at) at source ∙ ap (λ (m : ℕ). drop m source) n

-- ---- texts are slices

follows_slice : (at : ℕ) (source : List ℕ) (t : Lexeme) (after : List ℕ) → Follows at (drop at source) t after → IsSliceOf source t
follows_slice at source t after h =
    let behind : t.text ++ after ≡ drop t.at source =
    sym (drop_at h.gap (t.text ++ after) (length h.gap) refl) ∙ ap (drop (length h.gap)) (sym h.whole) ∙ drop-drop (length h.gap) at source ∙ ap (λ (n : ℕ). drop n source) (sym h.is_at) in
    sym (take_at t.text after (length t.text) refl) ∙ ap (take (length t.text)) behind

passes_slices : (ts : List Lexeme) (at : ℕ) (source : List ℕ) (there : ℕ) (left : List ℕ) → Passes at (drop at source) ts there left → AllByRecursion (IsSliceOf source) ts
passes_slices [] at source there left p = tt
passes_slices (t ∷ ts) at source there left p =
    (follows_slice at source t p.0 p.1, passes_slices ts (t.at + length t.text) source there left (subst (λ (r : List ℕ). Passes (t.at + length t.text) r ts there left) (left_behind at source t p.0 p.1) p.2))

pub tiles_slices : (source : List ℕ) (ts : List Lexeme) → Tiles source ts → All (IsSliceOf source) ts
tiles_slices source ts t = All-from_recursion (IsSliceOf source) ts (passes_slices ts t.begins.front source t.there t.left t.begins.passes)

-- a token in an answer comes next
pub answer_follows : (l : Lexing) (t : Lexeme) → IsAnswer l (Some (Ok t)) → (l.fault ≡ None) × (after : List ℕ) × Follows l.at (drop l.at l.source) t after
answer_follows l t h = at l.fault refl h
  where
    at : (o : Option LexFault) → l.fault ≡ o → IsAnswerBehind o l (Some (Ok t)) → (l.fault ≡ None) × (after : List ℕ) × Follows l.at (drop l.at l.source) t after
    at None e k = (e, k.0, k.1)
    at (Some f) e k = absurd cc

pub read_more : (source : List ℕ) (l newer : Lexing) (ts : List Lexeme) (t : Lexeme) → IsRead source l ts → IsAnswer l (Some (Ok t)) → newer ≡ lexing_after l (Some (Ok t)) → IsRead source newer (ts ++ t ∷ [])
read_more source l newer ts t r h e =
    let f = answer_follows l t h in
    let begins : Begins source ts l.at (drop l.at source) = subst (λ (o : Option LexFault). IsReadBehind o source l ts) f.0 r.read in
    let follows : Follows l.at (drop l.at source) t f.1 = subst (λ (s : List ℕ). Follows l.at (drop l.at s) t f.1) r.same f.2 in
    let after : f.1 ≡ drop (t.at + length t.text) source = left_behind l.at source t f.1 follows in
    let more : Begins source (ts ++ t ∷ []) (t.at + length t.text) (drop (t.at + length t.text) source) =
    record { front = begins.front; is_front = begins.is_front; passes = subst (λ (s : List ℕ). Passes begins.front (drop begins.front source) (ts ++ t ∷ []) (t.at + length t.text) s) after (passes_push ts begins.front (drop begins.front source) l.at (drop l.at source) t f.1 begins.passes follows) } in
    let there : IsRead source (lexing_after l (Some (Ok t))) (ts ++ t ∷ []) = record { same = r.same; read = more } in
    subst (λ (n : Lexing). IsRead source n (ts ++ t ∷ [])) (sym e) there

-- the same, if the answer is known to be a token
pub read_token : (source : List ℕ) (l newer : Lexing) (ts : List Lexeme) (next : Result Token LexFault) (t : Token) → next ≡ Ok t → IsRead source l ts
    → IsAnswer l (Some (seen next)) → newer ≡ lexing_after l (Some (seen next)) → IsRead source newer (ts ++ view t ∷ [])
read_token source l newer ts next t is r h e =
    let a : IsAnswer l (Some (Ok (view t))) = subst (λ (n : Result Token LexFault). IsAnswer l (Some (seen n))) is h in
    read_more source l newer ts (view t) r a (e ∙ ap (λ (n : Result Token LexFault). lexing_after l (Some (seen n))) is)

-- fewer bytes are left
pub read_falls : (source : List ℕ) (l newer : Lexing) (ts : List Lexeme) (next : Result Token LexFault) (t : Token) → next ≡ Ok t → IsRead source l ts
    → IsAnswer l (Some (seen next)) → newer ≡ lexing_after l (Some (seen next)) → length source - newer.at < length source - l.at
read_falls source l newer ts next t is r h e =
    let a : IsAnswer l (Some (Ok (view t))) = subst (λ (n : Result Token LexFault). IsAnswer l (Some (seen n))) is h in
    let f = answer_follows l (view t) a in
    let m = follows_more l.at (drop l.at l.source) (view t) f.1 f.2 in
    let at : newer.at ≡ t.at + length t.text.now = ap (λ (x : Lexing). x.at) (e ∙ ap (λ (n : Result Token LexFault). lexing_after l (Some (seen n))) is) in
    omega (arith, m.0, m.1, at, length-drop l.at l.source, ap length r.same)

pub read_fault : (source : List ℕ) (l : Lexing) (ts : List Lexeme) (f : LexFault) → IsRead source l ts → IsAnswer l (Some (Err f)) → IsFirstMisfit source f
read_fault source l ts f r h = at l.fault r.read h
  where
    at : (o : Option LexFault) → IsReadBehind o source l ts → IsAnswerBehind o l (Some (Err f)) → IsFirstMisfit source f
    at None begins k = inr (ts, l.at, drop l.at source, begins, subst (λ (s : List ℕ). IsNext l.at (drop l.at s) (Some (Err f))) r.same k)
    at (Some g) x k = let same : g ≡ f = cc in subst (IsFirstMisfit source) same x

pub read_error : (source : List ℕ) (l : Lexing) (ts : List Lexeme) (next : Result Token LexFault) (e f : LexFault) → next ≡ Err e → IsRead source l ts → IsAnswer l (Some (seen next)) → e ≡ f → IsFirstMisfit source f
read_error source l ts next e f is r h same =
    subst (IsFirstMisfit source) same (read_fault source l ts e r (subst (λ (n : Result Token LexFault). IsAnswer l (Some (seen n))) is h))

-- ---- no other answer is correct

pub finds_tokens : {Z : Type 0} (items : Z → List Token) (source : List ℕ) (r : Result Z TokensFault) → IfOk r (λ v. Tiles source (views (items v))) → ((f : LexFault) → r ≡ Err (Lex f) → IsFirstMisfit source f)
    → (ts : List Lexeme) → Tiles source ts → FindsTokens items r ts
finds_tokens items source (Ok v) tiles fault ts t = one_tiling source (views (items v)) ts tiles t
finds_tokens items source (Err Memory) tiles fault ts t = refl
finds_tokens items source (Err (Lex f)) tiles fault ts t = absurd (no_fault source ts f t (fault f refl))

pub finds_fault : {Z : Type 0} (items : Z → List Token) (source : List ℕ) (r : Result Z TokensFault) → IfOk r (λ v. Tiles source (views (items v))) → ((f : LexFault) → r ≡ Err (Lex f) → IsFirstMisfit source f)
    → (f : LexFault) → IsFirstMisfit source f → FindsFault r f
finds_fault items source (Ok v) tiles fault f h = no_fault source (views (items v)) f tiles h
finds_fault items source (Err Memory) tiles fault f h = inl refl
finds_fault items source (Err (Lex g)) tiles fault f h = inr (ap (λ (x : LexFault). Lex x) (one_fault source g f (fault g refl) h))
