-- Labels at bytes that ascend, since the bytes of the tokens that spell them do.
use Rattle.std.proofs.Common.{◌≡◌, ℕ, suc, ◌≤◌, ◌<◌, ◌+◌, List, [], ◌∷◌, ◌++◌, length, map, Option, Some, None, sym, subst, arith}
use Rattle.std.proofs.Math.Logic.{⊎_elim}
use Rattle.std.proofs.lemmas.List.{append-nil, map-append}
use Rattle.raw_trees.specs.Plain.{PlainName}
use Rattle.rapid_lexer.specs.Tokens.{Lexeme, Passes, Tiles}
use Rattle.rapid_lexer.proofs.GapWalks.{token_no_gap}
use Rattle.rapid_forms.specs.Forms.{Form, WholeEach, either, first_byte, made, many, optional, seq}
use Rattle.name_laws.specs.Jumps.{AreApart, IsApart}

-- numbers that ascend from one number, to below another
abbrev pub Ascend : ℕ → List ℕ → ℕ → Type 0
Ascend low [] high = low ≤ high
Ascend low (x ∷ xs) high = (low ≤ x) × Ascend (suc x) xs high

sooner : (low middle : ℕ) (xs : List ℕ) (high : ℕ) → low ≤ middle → Ascend middle xs high → Ascend low xs high
sooner low middle [] high few h = omega (arith, few, h)
sooner low middle (x ∷ xs) high few h = let first : middle ≤ x = h.0 in (omega (arith, few, first), h.1)

joined : (low : ℕ) (xs : List ℕ) (middle : ℕ) (ys : List ℕ) (high : ℕ) → Ascend low xs middle → Ascend middle ys high → Ascend low (xs ++ ys) high
joined low [] middle ys high h k = sooner low middle ys high h k
joined low (x ∷ xs) middle ys high h k = (h.0, joined (suc x) xs middle ys high h.1 k)

none_between : (low : ℕ) (xs : List ℕ) (high : ℕ) → Ascend low xs high → low ≤ high
none_between low [] high h = h
none_between low (x ∷ xs) high h = let first : low ≤ x = h.0 in let rest : suc x ≤ high = none_between (suc x) xs high h.1 in omega (arith, first, rest)

below : (x low : ℕ) (ys : List ℕ) (high : ℕ) → x < low → Ascend low ys high → IsApart x ys
below x low [] high few h = tt
below x low (y ∷ ys) high few h = let first : low ≤ y = h.0 in (λ same. let e : x ≡ y = same in omega (arith, few, first, e), below x (suc y) ys high (omega (arith, few, first)) h.1)

pub apart : (low : ℕ) (xs : List ℕ) (high : ℕ) → Ascend low xs high → AreApart xs
apart low [] high h = tt
apart low (x ∷ xs) high h = (below x (suc x) xs high (omega arith) h.1, apart (suc x) xs high h.1)

abbrev at_of : PlainName → ℕ
at_of name = name.at

abbrev pub bytes_of : List PlainName → List ℕ
bytes_of names = map at_of names

abbrev pub places : List Lexeme → List ℕ
places ts = map (λ (t : Lexeme). t.at) ts

-- the tokens of two forms, one after the other
pub record Halves (low : ℕ) (u v : List Lexeme) (high : ℕ) : Type 0 where
  pub middle : ℕ
  pub front : Ascend low (places u) middle
  pub back : Ascend middle (places v) high

halves_of : (low : ℕ) (u v : List Lexeme) (high : ℕ) → Ascend low (places (u ++ v)) high → Halves low u v high
halves_of low [] v high h = record { middle = low; front = omega arith; back = h }
halves_of low (t ∷ u) v high h = let rest = halves_of (suc t.at) u v high h.1 in record { middle = rest.middle; front = (h.0, rest.front); back = rest.back }

pub halves : (low : ℕ) (ts u v : List Lexeme) (high : ℕ) → ts ≡ u ++ v → Ascend low (places ts) high → Halves low u v high
halves low ts u v high is h = halves_of low u v high (subst (λ x. Ascend low (places x) high) is h)

passed : (at : ℕ) (bytes : List ℕ) (ts : List Lexeme) (there : ℕ) (left : List ℕ) → Passes at bytes ts there left → Ascend at (places ts) there
passed at bytes [] there left (same, is) = omega (arith, same)
passed at bytes (t ∷ ts) there left (after, follows, rest) =
    let stands = follows.is_at in
    let long = (token_no_gap t.kind t.text after follows.is_token).1 in
    let more = passed (t.at + length t.text) after ts there left rest in
    (omega (arith, stands), sooner (suc t.at) (t.at + length t.text) (places ts) there (omega (arith, long)) more)

-- the tokens of a text ascend
pub tiled : (source : List ℕ) (ts : List Lexeme) (tiles : Tiles source ts) → Ascend tiles.begins.front (places ts) tiles.there
tiled source ts tiles = passed tiles.begins.front _ ts tiles.there tiles.left tiles.begins.passes

-- names whose bytes ascend if these tokens' bytes do
abbrev pub Under : List PlainName → List Lexeme → Type 0
Under names ts = (low high : ℕ) → Ascend low (places ts) high → Ascend low (bytes_of names) high

pub none_under : (ts : List Lexeme) → Under [] ts
none_under ts low high h = none_between low (places ts) high h

-- these names of a form do so
abbrev pub Each : {A : Type 0} → Form A → (A → List PlainName) → Type 0
Each {A} form names = (x : A) (ts : List Lexeme) → form.Whole x ts → Under (names x) ts

append_under : (a b : List PlainName) (ts u v : List Lexeme) → ts ≡ u ++ v → Under a u → Under b v → Under (a ++ b) ts
append_under a b ts u v is ha hb low high h =
    let parts = halves low ts u v high is h in
    subst (λ xs. Ascend low xs high) (sym (map-append at_of a b)) (joined low (bytes_of a) parts.middle (bytes_of b) high (ha low parts.middle parts.front) (hb parts.middle high parts.back))

-- a form that has none
none : {A : Type 0} (form : Form A) → Each form (λ x. [])
none form x ts whole = none_under ts

pub both : {A B : Type 0} (a : Form A) (b : Form B) (f : A → List PlainName) (g : B → List PlainName) → Each a f → Each b g → Each (seq a b) (λ x. f x.0 ++ g x.1)
unfolding seq
both a b f g ha hb x ts (u, v, is, first, second) = append_under (f x.0) (g x.1) ts u v is (ha x.0 u first) (hb x.1 v second)

pub former : {A B : Type 0} (a : Form A) (b : Form B) (f : A → List PlainName) → Each a f → Each (seq a b) (λ x. f x.0)
former a b f ha x ts whole = subst (λ l. Under l ts) (append-nil (f x.0)) (both a b f (λ y. []) ha (none b) x ts whole)

pub latter : {A B : Type 0} (a : Form A) (b : Form B) (g : B → List PlainName) → Each b g → Each (seq a b) (λ x. g x.1)
latter a b g hb = both a b (λ x. []) g (none a) hb

pub one_of : {A : Type 0} (a b : Form A) (f : A → List PlainName) → Each a f → Each b f → Each (either a b) f
unfolding either
one_of a b f ha hb x ts whole = ⊎_elim (λ here. ha x ts here) (λ there. hb x ts there) whole

pub made_of : {A B : Type 0} (a : Form A) (tree : ℕ → A → B) (f : A → List PlainName) (g : B → List PlainName) → ((at : ℕ) (x : A) → f x ≡ g (tree at x)) → Each a f → Each (made tree a) g
unfolding made
made_of a tree f g same ha y ts (x, whole, is) = subst (λ z. Under (g z) ts) (sym is) (subst (λ l. Under l ts) (same (first_byte ts) x) (ha x ts whole))

pub perhaps : {A : Type 0} (a : Form A) (f : A → List PlainName) (g : Option A → List PlainName) → [] ≡ g None → ((x : A) → f x ≡ g (Some x)) → Each a f → Each (optional a) g
unfolding optional
perhaps a f g none_is some_is ha None ts is = subst (λ l. Under l ts) none_is (none_under ts)
perhaps a f g none_is some_is ha (Some x) ts whole = subst (λ l. Under l ts) (some_is x) (ha x ts whole)

each_of : {A : Type 0} (a : Form A) (f : A → List PlainName) (g : List A → List PlainName) → [] ≡ g [] → ((x : A) (xs : List A) → f x ++ g xs ≡ g (x ∷ xs)) → Each a f
    → (xs : List A) (ts : List Lexeme) → WholeEach a xs ts → Under (g xs) ts
each_of a f g none_is more_is ha [] ts is = subst (λ l. Under l ts) none_is (none_under ts)
each_of a f g none_is more_is ha (x ∷ xs) ts (u, v, is, first, rest) =
    subst (λ l. Under l ts) (more_is x xs) (append_under (f x) (g xs) ts u v is (ha x u first) (each_of a f g none_is more_is ha xs v rest))

pub some_of : {A : Type 0} (a : Form A) (f : A → List PlainName) (g : List A → List PlainName) → [] ≡ g [] → ((x : A) (xs : List A) → f x ++ g xs ≡ g (x ∷ xs)) → Each a f → Each (many a) g
unfolding many
some_of a f g none_is more_is ha = each_of a f g none_is more_is ha
