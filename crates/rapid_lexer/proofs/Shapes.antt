-- The scanner accepts exactly the tokens.
use Rattle.std.proofs.Common.{◌≡◌, ℕ, Bool, true, false, cond, eqb, List, [], ◌∷◌, Option, Some, None, refl, sym, ap, subst, ◌∙◌, arith}
use Rattle.std.specs.Prelude.{IsSome}
use Rattle.std.specs.List.{list_all}
use Rattle.std.specs.Str.{bytes_eq}
use Rattle.std.proofs.lemmas.Bool.{eqb-true, and_parts}
use Rattle.std.proofs.lemmas.Bool.Decides.{nat_tests}
use Rattle.std.proofs.lemmas.Slice.Eq.{bytes_eq-Decides}
use Rattle.rapid_num.specs.Literal.{spelled_thousandths, is_point}
use Rattle.rapid_lexer.specs.declared.kind.Kind.{Kind}
use Rattle.rapid_lexer.specs.declared.kind.Kind.TheVariants.{Name, Word, Number, Quoted, Mark}
use Rattle.rapid_lexer.specs.declared.mark.Mark.{Mark as OneMark}
use Rattle.rapid_lexer.specs.declared.mark.Mark.TheVariants as marks
use Rattle.rapid_lexer.specs.declared.state.State.{State}
use Rattle.rapid_lexer.specs.declared.state.State.TheVariants.{Start, InName, Zero, Whole, Dot, Inside, Colon, Less, Greater, Single, Dead}
use Rattle.rapid_num.specs.Characters.{is_digit, is_letter, is_name, is_name_byte}
use Rattle.rapid_lexer.specs.Strings.{IsString}
use Rattle.rapid_lexer.specs.Marks.{mark_text}
use Rattle.rapid_lexer.specs.Scanning.{singles, mark_in, single_of, where_single, after_start, step, kind_at, accepted, where_so}
use Rattle.rapid_lexer.proofs.Scan.{dead_accepted}
use Rattle.rapid_lexer.proofs.Runs.{kind_if, run, kind_from}
use Rattle.rapid_lexer.proofs.Numbers.{is_number, zero_all, digit_all, dot_all, no_number}
use Rattle.rapid_lexer.proofs.Characters.{inside_is, characters_step}

-- the shape of a text that the scanner accepts, with a reserved word as a name
abbrev pub IsShape : Kind → List ℕ → Type 0
IsShape Name u = is_name u ≡ true
IsShape (Word w) u = ⊥
IsShape Number u = IsSome (spelled_thousandths u)
IsShape Quoted u = (cs : List (List ℕ)) × IsString u cs
IsShape (Mark m) u = u ≡ mark_text m

name_all : (bs : List ℕ) → accepted InName bs ≡ kind_if Name (list_all is_name_byte bs)
name_all bs = run InName is_name_byte Name (λ b. refl) refl bs

some_number : (u : List ℕ) → is_number u ≡ true → IsSome (spelled_thousandths u)
some_number u e = e

shape_if : (j k : Kind) (t : Bool) (u : List ℕ) → (t ≡ true → IsShape j u) → kind_if j t ≡ Some k → IsShape k u
shape_if j k t u made e =
    let f = kind_from j k t e in
    subst (λ (x : Kind). IsShape x u) f.1 (made f.0)

-- ---- marks

single_end : (m : OneMark) (bs : List ℕ) (k : Kind) → accepted (Single m) bs ≡ Some k → (bs ≡ []) × (Mark m ≡ k)
unfolding accepted
single_end m [] k e = (refl, cc)
single_end m (c ∷ cs) k e = absurd (let x : None ≡ Some k = sym (dead_accepted cs) ∙ e in cc)

-- what ends in a mark is that mark
ends_shape : (m : OneMark) (front : List ℕ → List ℕ) (bs : List ℕ) (k : Kind) → front [] ≡ mark_text m → accepted (Single m) bs ≡ Some k → IsShape k (front bs)
ends_shape m front bs k is e =
    let s = single_end m bs k e in
    subst (λ (x : Kind). IsShape x (front bs)) s.1 (ap front s.0 ∙ is)

single_at : (m : OneMark) (b : ℕ) (bs : List ℕ) (k : Kind) (o : Option OneMark) (same : Bool) → bytes_eq (mark_text m) (b ∷ []) ≡ same → (accepted (where_single o) bs ≡ Some k → IsShape k (b ∷ bs))
    → accepted (where_single (cond same (Some m) o)) bs ≡ Some k → IsShape k (b ∷ bs)
single_at m b bs k o true is rest e = ends_shape m (λ r. b ∷ r) bs k (sym ((bytes_eq-Decides (mark_text m) (b ∷ [])).0 is)) e
single_at m b bs k o false is rest e = rest e

single_shape : (ms : List OneMark) (b : ℕ) (bs : List ℕ) (k : Kind) → accepted (where_single (mark_in ms b)) bs ≡ Some k → IsShape k (b ∷ bs)
single_shape [] b bs k e = absurd (let x : None ≡ Some k = sym (dead_accepted bs) ∙ e in cc)
single_shape (m ∷ ms) b bs k e = single_at m b bs k (mark_in ms b) (bytes_eq (mark_text m) (b ∷ [])) refl (single_shape ms b bs k) e

-- a mark that one more byte turns into another
two_shape : (a : ℕ) (s : State) (one two : OneMark) (bs : List ℕ) (k : Kind) → kind_at s ≡ Some (Mark one) → ((c : ℕ) → step s c ≡ where_so (eqb c 61) (Single two))
    → a ∷ [] ≡ mark_text one → a ∷ 61 ∷ [] ≡ mark_text two → accepted s bs ≡ Some k → IsShape k (a ∷ bs)
unfolding accepted
two_shape a s one two [] k is goes single pair e =
    let h : Some (Mark one) ≡ Some k = sym is ∙ e in
    let same : Mark one ≡ k = cc in
    subst (λ (x : Kind). IsShape x (a ∷ [])) same single
two_shape a s one two (c ∷ cs) k is goes single pair e = at (eqb c 61) refl (ap (λ (n : State). accepted n cs) (sym (goes c)) ∙ e)
  where
    at : (u : Bool) → eqb c 61 ≡ u → accepted (where_so u (Single two)) cs ≡ Some k → IsShape k (a ∷ c ∷ cs)
    at true h f = ends_shape two (λ r. a ∷ c ∷ r) cs k (ap (λ (n : ℕ). a ∷ n ∷ []) (eqb-true c 61 h) ∙ pair) f
    at false h f = absurd (let x : None ≡ Some k = sym (dead_accepted cs) ∙ f in cc)

less_shape : (bs : List ℕ) (k : Kind) → accepted Less bs ≡ Some k → IsShape k (60 ∷ bs)
unfolding accepted
less_shape [] k e =
    let h : Some (Mark marks.Less) ≡ Some k = e in
    let same : Mark marks.Less ≡ k = cc in
    subst (λ (x : Kind). IsShape x (60 ∷ [])) same refl
less_shape (c ∷ cs) k e = at (eqb c 61) (eqb c 62) refl refl e
  where
    at : (t u : Bool) → eqb c 61 ≡ t → eqb c 62 ≡ u → accepted (cond t (Single marks.LessEqual) (cond u (Single marks.NotEqual) Dead)) cs ≡ Some k → IsShape k (60 ∷ c ∷ cs)
    at true u h g f = ends_shape marks.LessEqual (λ r. 60 ∷ c ∷ r) cs k (ap (λ (n : ℕ). 60 ∷ n ∷ []) (eqb-true c 61 h)) f
    at false true h g f = ends_shape marks.NotEqual (λ r. 60 ∷ c ∷ r) cs k (ap (λ (n : ℕ). 60 ∷ n ∷ []) (eqb-true c 62 g)) f
    at false false h g f = absurd (let x : None ≡ Some k = sym (dead_accepted cs) ∙ f in cc)

-- ---- what is accepted has a shape

dot_shape : (bs : List ℕ) (k : Kind) → accepted Dot bs ≡ Some k → IsShape k (46 ∷ bs)
unfolding accepted
dot_shape [] k e =
    let h : Some (Mark marks.Dot) ≡ Some k = e in
    let same : Mark marks.Dot ≡ k = cc in
    subst (λ (x : Kind). IsShape x (46 ∷ [])) same refl
dot_shape (b ∷ bs) k e = shape_if Number k (is_number (46 ∷ b ∷ bs)) (46 ∷ b ∷ bs) (some_number (46 ∷ b ∷ bs)) (sym (dot_all b bs) ∙ e)

inside_shape : (bs : List ℕ) (k : Kind) → accepted Inside bs ≡ Some k → IsShape k (34 ∷ bs)
inside_shape bs k e =
    let h = inside_is bs k e in
    subst (λ (x : Kind). IsShape x (34 ∷ bs)) (sym h.kind) (h.characters, record { characters = h.are; whole = ap (λ (r : List ℕ). 34 ∷ r) h.whole })

start_from : (b : ℕ) (bs : List ℕ) (k : Kind) (letter zeroed digit quote point colon less greater : Bool)
    → is_letter b ≡ letter → eqb b 48 ≡ zeroed → is_digit b ≡ digit → eqb b 34 ≡ quote → eqb b 46 ≡ point → eqb b 58 ≡ colon → eqb b 60 ≡ less → eqb b 62 ≡ greater
    → accepted (cond letter InName (cond zeroed Zero (cond digit Whole (cond quote Inside (cond point Dot (cond colon Colon (cond less Less (cond greater Greater (where_single (single_of b)))))))))) bs ≡ Some k
    → IsShape k (b ∷ bs)
start_from b bs k true z d q p c l g hl hz hd hq hp hc hs hg e =
    shape_if Name k (list_all is_name_byte bs) (b ∷ bs) (λ all. rw (hl, all) refl) (sym (name_all bs) ∙ e)
start_from b bs k false true d q p c l g hl hz hd hq hp hc hs hg e =
    subst (λ (n : ℕ). IsShape k (n ∷ bs)) (sym (eqb-true b 48 hz)) (shape_if Number k (is_number (48 ∷ bs)) (48 ∷ bs) (some_number (48 ∷ bs)) (sym (zero_all bs) ∙ e))
start_from b bs k false false true q p c l g hl hz hd hq hp hc hs hg e =
    shape_if Number k (is_number (b ∷ bs)) (b ∷ bs) (some_number (b ∷ bs)) (sym (digit_all b bs hd hz) ∙ e)
start_from b bs k false false false true p c l g hl hz hd hq hp hc hs hg e = subst (λ (n : ℕ). IsShape k (n ∷ bs)) (sym (eqb-true b 34 hq)) (inside_shape bs k e)
start_from b bs k false false false false true c l g hl hz hd hq hp hc hs hg e = subst (λ (n : ℕ). IsShape k (n ∷ bs)) (sym (eqb-true b 46 hp)) (dot_shape bs k e)
start_from b bs k false false false false false true l g hl hz hd hq hp hc hs hg e =
    subst (λ (n : ℕ). IsShape k (n ∷ bs)) (sym (eqb-true b 58 hc)) (two_shape 58 Colon marks.Colon marks.Assign bs k refl (λ c. refl) refl refl e)
start_from b bs k false false false false false false true g hl hz hd hq hp hc hs hg e = subst (λ (n : ℕ). IsShape k (n ∷ bs)) (sym (eqb-true b 60 hs)) (less_shape bs k e)
start_from b bs k false false false false false false false true hl hz hd hq hp hc hs hg e =
    subst (λ (n : ℕ). IsShape k (n ∷ bs)) (sym (eqb-true b 62 hg)) (two_shape 62 Greater marks.Greater marks.GreaterEqual bs k refl (λ c. refl) refl refl e)
start_from b bs k false false false false false false false false hl hz hd hq hp hc hs hg e = single_shape singles b bs k e

pub shape_of : (u : List ℕ) (k : Kind) → accepted Start u ≡ Some k → IsShape k u
unfolding accepted
shape_of [] k e = absurd (let x : None ≡ Some k = e in cc)
shape_of (b ∷ bs) k e =
    start_from b bs k (is_letter b) (eqb b 48) (is_digit b) (eqb b 34) (eqb b 46) (eqb b 58) (eqb b 60) (eqb b 62) refl refl refl refl refl refl refl refl e

-- ---- what has a shape is accepted

start_letter : (b : ℕ) → is_letter b ≡ true → after_start b ≡ InName
start_letter b e = rw e refl

digit_letter : (b : ℕ) → is_digit b ≡ true → is_letter b ≡ false
digit_letter b e = grind (arith, nat_tests)

start_digit : (b : ℕ) → is_digit b ≡ true → eqb b 48 ≡ false → after_start b ≡ Whole
start_digit b d z = rw (digit_letter b d, z, d) refl

digit_accepted : (b : ℕ) (bs : List ℕ) (z : Bool) → eqb b 48 ≡ z → is_digit b ≡ true → is_number (b ∷ bs) ≡ true → accepted Start (b ∷ bs) ≡ Some Number
unfolding accepted
digit_accepted b bs true z d e =
    subst (λ (n : ℕ). is_number (n ∷ bs) ≡ true → accepted Start (n ∷ bs) ≡ Some Number) (sym (eqb-true b 48 z)) (λ h. zero_all bs ∙ ap (kind_if Number) h) e
digit_accepted b bs false z d e = ap (λ (n : State). accepted n bs) (start_digit b d z) ∙ digit_all b bs d z ∙ ap (kind_if Number) e

point_accepted : (bs : List ℕ) → is_number (46 ∷ bs) ≡ true → accepted Start (46 ∷ bs) ≡ Some Number
unfolding accepted
point_accepted [] e = absurd (let x : false ≡ true = e in cc)
point_accepted (b ∷ bs) e = dot_all b bs ∙ ap (kind_if Number) e

number_accepted : (b : ℕ) (bs : List ℕ) (d p : Bool) → is_digit b ≡ d → is_point b ≡ p → is_number (b ∷ bs) ≡ true → accepted Start (b ∷ bs) ≡ Some Number
number_accepted b bs true p hd hp e = digit_accepted b bs (eqb b 48) refl hd e
number_accepted b bs false true hd hp e =
    subst (λ (n : ℕ). is_number (n ∷ bs) ≡ true → accepted Start (n ∷ bs) ≡ Some Number) (sym (eqb-true b 46 hp)) (point_accepted bs) e
number_accepted b bs false false hd hp e = absurd (let x : true ≡ false = sym e ∙ no_number b bs hd hp in cc)

mark_accepted : (m : OneMark) → accepted Start (mark_text m) ≡ Some (Mark m)
unfolding accepted
mark_accepted m = elim m as (λ m. accepted Start (mark_text m) ≡ Some (Mark m)) [ marks.OpenBrace ↦ refl | _ ↦ refl ]

name_accepted : (u : List ℕ) → is_name u ≡ true → accepted Start u ≡ Some Name
unfolding accepted
name_accepted [] e = absurd (let x : false ≡ true = e in cc)
name_accepted (b ∷ bs) e =
    let x = and_parts (is_letter b) (list_all is_name_byte bs) e in
    ap (λ (n : State). accepted n bs) (start_letter b x.0) ∙ name_all bs ∙ ap (kind_if Name) x.1

string_accepted : (u : List ℕ) (cs : List (List ℕ)) → IsString u cs → accepted Start u ≡ Some Quoted
unfolding accepted
string_accepted u cs h =
    subst (λ (r : List ℕ). accepted Start r ≡ Some Quoted) (sym h.whole) (characters_step cs (34 ∷ []) h.characters)

pub shape_accepted : (k : Kind) (u : List ℕ) → IsShape k u → accepted Start u ≡ Some k
shape_accepted Name u h = name_accepted u h
shape_accepted (Word w) u h = absurd h
shape_accepted Number [] h = absurd (let x : false ≡ true = h in cc)
shape_accepted Number (b ∷ bs) h = number_accepted b bs (is_digit b) (is_point b) refl refl h
shape_accepted Quoted u h = string_accepted u h.0 h.1
shape_accepted (Mark m) u h = ap (accepted Start) h ∙ mark_accepted m
