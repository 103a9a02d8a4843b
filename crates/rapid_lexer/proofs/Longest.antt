-- The longest token that the scanner finds is the longest one. If it finds none, there is none.
use Rattle.std.proofs.Common.{◌≡◌, ℕ, ◌≤◌, List, ◌++◌, length, take, drop, Option, Some, None, refl, sym, ap, subst, ◌∙◌, arith}
use Rattle.std.proofs.lemmas.List.{take-append-drop, length-take-le, take_at}
use Rattle.rapid_lexer.specs.declared.kind.Kind.{Kind}
use Rattle.rapid_lexer.specs.declared.kind.Kind.TheVariants.{Name, Word, Number, Quoted, Mark}
use Rattle.rapid_lexer.specs.declared.word.Word.{Word as OneWord}
use Rattle.rapid_lexer.specs.declared.state.State.TheVariants.{Start}
use Rattle.rapid_lexer.specs.Tokens.{IsToken, IsLongest}
use Rattle.rapid_lexer.specs.Faults.{NoToken}
use Rattle.rapid_lexer.specs.Scanning.{accepted, longest}
use Rattle.rapid_lexer.specs.Words.{word_of}
use Rattle.rapid_lexer.proofs.Scan.{found, at_most}
use Rattle.rapid_lexer.proofs.Shapes.{IsShape, shape_of, shape_accepted}
use Rattle.rapid_lexer.proofs.Reserved.{word_yes, word_no}

-- the kind that the scanner finds, which treats words as names
abbrev pub scanned : Kind → Kind
scanned Name = Name
scanned (Word w) = Name
scanned Number = Number
scanned Quoted = Quoted
scanned (Mark m) = Mark m

pub token_shape : (k : Kind) (u : List ℕ) → IsToken k u → IsShape (scanned k) u
token_shape Name u h = h.0
token_shape (Word w) u h = h.0
token_shape Number u h = h
token_shape Quoted u h = h
token_shape (Mark m) u h = h

-- a shape is that of a token
name_token : (u : List ℕ) (o : Option OneWord) → word_of u ≡ o → IsShape Name u → (k : Kind) × IsToken k u
name_token u (Some w) e h = (Word w, (h, word_yes u w e))
name_token u None e h = (Name, (h, word_no u e))

shape_token : (k : Kind) (u : List ℕ) → IsShape k u → (j : Kind) × IsToken j u
shape_token Name u h = name_token u (word_of u) refl h
shape_token (Word w) u h = absurd h
shape_token Number u h = (Number, h)
shape_token Quoted u h = (Quoted, h)
shape_token (Mark m) u h = (Mark m, h)

-- the scanner finds a token, and no longer one starts there
pub record IsFoundLongest (bytes : List ℕ) (k : Kind) (n : ℕ) : Type 0 where
  pub len : length (take n bytes) ≡ n
  pub shape : IsShape k (take n bytes)
  pub is_longest : IsLongest (take n bytes) (drop n bytes)

bounded : (bytes other rest : List ℕ) (kind : Kind) (x : Kind × ℕ) → longest Start bytes ≡ Some x → bytes ≡ other ++ rest → IsToken kind other → length other ≤ x.1
bounded bytes other rest kind x e whole h =
    let m = at_most Start other rest (scanned kind) (shape_accepted (scanned kind) other (token_shape kind other h)) in
    let same : Some m.0 ≡ Some x = sym m.1 ∙ ap (longest Start) (sym whole) ∙ e in
    let eq : m.0 ≡ x = cc in
    subst (λ (y : Kind × ℕ). length other ≤ y.1) eq m.2

pub longest_some : (bytes : List ℕ) (x : Kind × ℕ) → longest Start bytes ≡ Some x → IsFoundLongest bytes x.0 x.1
longest_some bytes x e =
    let f = found Start bytes x e in
    let len : length (take x.1 bytes) ≡ x.1 = length-take-le x.1 bytes f.1 in
    record {
      len = len;
      shape = shape_of (take x.1 bytes) x.0 f.0;
      is_longest = λ kind other rest whole h. omega (arith, len, bounded bytes other rest kind x e (sym (take-append-drop x.1 bytes) ∙ whole) h);
    }

pub longest_none : (bytes : List ℕ) → longest Start bytes ≡ None → NoToken bytes
longest_none bytes e kind text after whole h =
    let m = at_most Start text after (scanned kind) (shape_accepted (scanned kind) text (token_shape kind text h)) in
    let same : Some m.0 ≡ None = sym m.1 ∙ ap (longest Start) (sym whole) ∙ e in
    cc

-- the longest token found is the longest token
found_is : (text after : List ℕ) (k : Kind) (x : Kind × ℕ) → accepted Start text ≡ Some (scanned k) → IsLongest text after → longest Start (text ++ after) ≡ Some x → length text ≤ x.1
    → longest Start (text ++ after) ≡ Some (scanned k, length text)
found_is text after k x a most e le =
    let f = longest_some (text ++ after) x e in
    let j = shape_token x.0 (take x.1 (text ++ after)) f.shape in
    let back : length (take x.1 (text ++ after)) ≤ length text = most j.0 (take x.1 (text ++ after)) (drop x.1 (text ++ after)) (sym (take-append-drop x.1 (text ++ after))) j.1 in
    let n : length text ≡ x.1 = omega (arith, back, le, f.len) in
    let kinds : Some (scanned k) ≡ Some x.0 = sym a ∙ ap (accepted Start) (sym (take_at text after x.1 n)) ∙ (found Start (text ++ after) x e).0 in
    let kind : x.0 ≡ scanned k = cc in
    e ∙ ap (λ (p : Kind). Some (p, x.1)) kind ∙ ap (λ (p : ℕ). Some (scanned k, p)) (sym n)

pub longest_is : (bytes text after : List ℕ) (k : Kind) → bytes ≡ text ++ after → IsToken k text → IsLongest text after → longest Start bytes ≡ Some (scanned k, length text)
longest_is bytes text after k whole h most =
    let a = shape_accepted (scanned k) text (token_shape k text h) in
    let m = at_most Start text after (scanned k) a in
    ap (longest Start) whole ∙ found_is text after k m.0 a most m.1 m.2

pub none_longest : (bytes : List ℕ) → NoToken bytes → longest Start bytes ≡ None
none_longest bytes none = at (longest Start bytes) refl
  where
    at : (o : Option (Kind × ℕ)) → longest Start bytes ≡ o → o ≡ None
    at None e = refl
    at (Some x) e =
        let f = longest_some bytes x e in
        let j = shape_token x.0 (take x.1 bytes) f.shape in
        absurd (none j.0 (take x.1 bytes) (drop x.1 bytes) (sym (take-append-drop x.1 bytes)) j.1)
