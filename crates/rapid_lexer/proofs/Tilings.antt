-- A text has at most one list of tokens, or one first error.
use Rattle.std.proofs.Common.{◌≡◌, ℕ, ◌+◌, ◌-◌, List, [], ◌∷◌, ◌++◌, length, drop, Option, Some, None, Result, Ok, Err, refl, sym, ap, subst, ◌∙◌, append_assoc, arith, inl, inr}
use Rattle.std.proofs.lemmas.List.{drop_at, length-append}
use Rattle.rapid_lexer.specs.declared.fault.LexRule.{LexRule}
use Rattle.rapid_lexer.specs.declared.fault.LexFault.{LexFault}
use Rattle.rapid_lexer.specs.Gaps.{front_of}
use Rattle.rapid_lexer.specs.Tokens.{Lexeme, Follows, Passes, Begins, Tiles}
use Rattle.rapid_lexer.specs.Faults.{IsNext, IsFirstMisfit}
use Rattle.rapid_lexer.proofs.Nexts.{next_is}

next_one : (at : ℕ) (bytes : List ℕ) (a b : Option (Result Lexeme LexFault)) → IsNext at bytes a → IsNext at bytes b → a ≡ b
next_one at bytes a b h k = next_is at bytes a h ∙ sym (next_is at bytes b k)

-- an answer after which nothing more is asked
abbrev IsFinal : Option (Result Lexeme LexFault) → Type 0
IsFinal None = Unit {0}
IsFinal (Some (Ok t)) = ⊥
IsFinal (Some (Err f)) = Unit {0}

-- tokens, and the answer after the last
pub record Ends (at : ℕ) (bytes : List ℕ) (ts : List Lexeme) (answer : Option (Result Lexeme LexFault)) : Type 0 where
  pub there : ℕ
  pub left : List ℕ
  pub passes : Passes at bytes ts there left
  pub next : IsNext there left answer
  pub final : IsFinal answer

-- the text after a token
pub after_is : (at : ℕ) (bytes : List ℕ) (t : Lexeme) (after : List ℕ) → Follows at bytes t after → after ≡ drop (t.at + length t.text - at) bytes
after_is at bytes t after h =
    let n : length (h.gap ++ t.text) ≡ t.at + length t.text - at = omega (arith, h.is_at, length-append h.gap t.text) in
    sym (ap (drop (t.at + length t.text - at)) (h.whole ∙ sym (append_assoc h.gap t.text after)) ∙ drop_at (h.gap ++ t.text) after (t.at + length t.text - at) n)

not_final : (at : ℕ) (bytes : List ℕ) (a : Option (Result Lexeme LexFault)) (t : Lexeme) (after : List ℕ) → IsNext at bytes a → IsFinal a → Follows at bytes t after → ⊥
not_final at bytes a t after next final h = subst IsFinal (next_one at bytes a (Some (Ok t)) next (after, h)) final

ends_here : (at : ℕ) (bytes : List ℕ) (a : Option (Result Lexeme LexFault)) → Ends at bytes [] a → IsNext at bytes a
ends_here at bytes a e = subst (λ (n : ℕ). IsNext n bytes a) e.passes.0 (subst (λ (r : List ℕ). IsNext e.there r a) e.passes.1 e.next)

ends_later : (at : ℕ) (bytes : List ℕ) (t : Lexeme) (ts : List Lexeme) (a : Option (Result Lexeme LexFault)) (e : Ends at bytes (t ∷ ts) a) → Ends (t.at + length t.text) e.passes.0 ts a
ends_later at bytes t ts a e = record { there = e.there; left = e.left; passes = e.passes.2; next = e.next; final = e.final }

some_is : (t u : Lexeme) → ◌≡◌ {A = Option (Result Lexeme LexFault)} (Some (Ok t)) (Some (Ok u)) → t ≡ u
some_is t u e = cc

pub ends_same : (ts us : List Lexeme) (at : ℕ) (bytes : List ℕ) (a b : Option (Result Lexeme LexFault)) → Ends at bytes ts a → Ends at bytes us b → (ts ≡ us) × (a ≡ b)
ends_same [] [] at bytes a b e f = (refl, next_one at bytes a b (ends_here at bytes a e) (ends_here at bytes b f))
ends_same [] (u ∷ us) at bytes a b e f = absurd (not_final at bytes a u f.passes.0 (ends_here at bytes a e) e.final f.passes.1)
ends_same (t ∷ ts) [] at bytes a b e f = absurd (not_final at bytes b t e.passes.0 (ends_here at bytes b f) f.final e.passes.1)
ends_same (t ∷ ts) (u ∷ us) at bytes a b e f =
    let same : t ≡ u = some_is t u (next_one at bytes (Some (Ok t)) (Some (Ok u)) (e.passes.0, e.passes.1) (f.passes.0, f.passes.1)) in
    let left : f.passes.0 ≡ e.passes.0 =
    after_is at bytes u f.passes.0 f.passes.1 ∙ ap (λ (x : Lexeme). drop (x.at + length x.text - at) bytes) (sym same) ∙ sym (after_is at bytes t e.passes.0 e.passes.1) in
    let other : Ends (t.at + length t.text) e.passes.0 us b =
    subst (λ (r : List ℕ). Ends (t.at + length t.text) r us b) left (subst (λ (x : Lexeme). Ends (x.at + length x.text) f.passes.0 us b) (sym same) (ends_later at bytes u us b f)) in
    let rest = ends_same ts us (t.at + length t.text) e.passes.0 a b (ends_later at bytes t ts a e) other in
    (ap (λ (x : Lexeme). x ∷ ts) same ∙ ap (λ (x : List Lexeme). u ∷ x) rest.0, rest.1)

-- what a source is: its tokens, and the answer after the last
pub record Is (source : List ℕ) (ts : List Lexeme) (answer : Option (Result Lexeme LexFault)) : Type 0 where
  pub front : ℕ
  pub is_front : front_of source ≡ Ok front
  pub ends : Ends front (drop front source) ts answer

is_same : (source : List ℕ) (ts us : List Lexeme) (a b : Option (Result Lexeme LexFault)) → Is source ts a → Is source us b → (ts ≡ us) × (a ≡ b)
is_same source ts us a b x y =
    let fronts : ◌≡◌ {A = Result ℕ ℕ} (Ok x.front) (Ok y.front) = sym x.is_front ∙ y.is_front in
    let same : x.front ≡ y.front = cc in
    ends_same ts us y.front (drop y.front source) a b (subst (λ (n : ℕ). Ends n (drop n source) ts a) same x.ends) y.ends

pub tiles_is : (source : List ℕ) (ts : List Lexeme) → Tiles source ts → Is source ts None
tiles_is source ts t = record { front = t.begins.front; is_front = t.begins.is_front; ends = record { there = t.there; left = t.left; passes = t.begins.passes; next = t.is_gap; final = tt } }

fault_is : (source : List ℕ) (f : LexFault) (tokens : List Lexeme) (there : ℕ) (left : List ℕ) → Begins source tokens there left → IsNext there left (Some (Err f)) → Is source tokens (Some (Err f))
fault_is source f tokens there left b n = record { front = b.front; is_front = b.is_front; ends = record { there = there; left = left; passes = b.passes; next = n; final = tt } }

pub one_tiling : (source : List ℕ) (ts us : List Lexeme) → Tiles source ts → Tiles source us → ts ≡ us
one_tiling source ts us t u = (is_same source ts us None None (tiles_is source ts t) (tiles_is source us u)).0

pub no_fault : (source : List ℕ) (ts : List Lexeme) (f : LexFault) → Tiles source ts → IsFirstMisfit source f → ⊥
no_fault source ts f t (inl h) = let e : ◌≡◌ {A = Result ℕ ℕ} (Ok t.begins.front) (Err f.at) = sym t.begins.is_front ∙ h.1 in cc
no_fault source ts f t (inr (us, there, left, b, n)) =
    let e : ◌≡◌ {A = Option (Result Lexeme LexFault)} None (Some (Err f)) = (is_same source ts us None (Some (Err f)) (tiles_is source ts t) (fault_is source f us there left b n)).1 in
    cc

header_place : (f g : LexFault) → f.rule ≡ g.rule → f.at ≡ g.at → f ≡ g
header_place f g r a =
    let first : f ≡ record { rule = g.rule; at = f.at } = ap (λ (x : LexRule). record { rule = x; at = f.at }) r in
    first ∙ ap (λ (x : ℕ). record { rule = g.rule; at = x }) a

pub one_fault : (source : List ℕ) (f g : LexFault) → IsFirstMisfit source f → IsFirstMisfit source g → f ≡ g
one_fault source f g (inl h) (inl k) =
    let e : ◌≡◌ {A = Result ℕ ℕ} (Err f.at) (Err g.at) = sym h.1 ∙ k.1 in
    let place : f.at ≡ g.at = cc in
    header_place f g (h.0 ∙ sym k.0) place
one_fault source f g (inl h) (inr (us, there, left, b, n)) = absurd (let e : ◌≡◌ {A = Result ℕ ℕ} (Ok b.front) (Err f.at) = sym b.is_front ∙ h.1 in cc)
one_fault source f g (inr (us, there, left, b, n)) (inl k) = absurd (let e : ◌≡◌ {A = Result ℕ ℕ} (Ok b.front) (Err g.at) = sym b.is_front ∙ k.1 in cc)
one_fault source f g (inr (us, there, left, b, n)) (inr (vs, yonder, rest, c, m)) =
    let e : ◌≡◌ {A = Option (Result Lexeme LexFault)} (Some (Err f)) (Some (Err g)) =
    (is_same source us vs (Some (Err f)) (Some (Err g)) (fault_is source f us there left b n) (fault_is source g vs yonder rest c m)).1 in
    cc
