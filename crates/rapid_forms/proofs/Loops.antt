-- A loop that reads one form after another, given what it has read so far, also as views of the trees that it collects.
use Rattle.std.proofs.Common.{◌≡◌, ℕ, zero, suc, ◌-◌, ◌≤◌, ◌<◌, true, false, if◌then◌else◌, List, [], ◌∷◌, ◌++◌, length, map, Ok, Err, refl, sym, ap, ◌∙◌, subst, arith}
use Rattle.std.proofs.lemmas.List.{append_assoc, append-nil, length-drop, length-map, map_push}
use Rattle.rapid_lexer.specs.Tokens.{Lexeme, view, views}
use Rattle.rapid_forms.specs.declared.fault.SyntaxFault.{SyntaxFault}
use Rattle.rapid_forms.specs.declared.fault.SyntaxFault.TheVariants.{Rule, Lex, Memory}
use Rattle.rapid_forms.specs.declared.sign.Sign.{Sign}
use Rattle.rapid_forms.specs.declared.tokens.Tokens.{Tokens}
use Rattle.rapid_forms.specs.Signs.{begins_with}
use Rattle.rapid_forms.specs.Forms.{Form}
use Rattle.rapid_forms.specs.Reading.{Halt, Read, Reader, then_read, seq_read, made_read, many_within, many_read, Gives, rest_from}
use Rattle.rapid_forms.proofs.Laws.{LL}
use Rattle.rapid_forms.proofs.Right.{Right, Reads, less_left}

-- each form that the reader reads takes at least one token
pub record Takes {A : Type 0} (a : Reader A) : Type 0 where
  pub less : (ts : List Lexeme) (x : A) (rest : List Lexeme) → a ts ≡ Ok (x, rest) → length rest < length ts

pub reads_take : {A : Type 0} {first more : List Sign} {F : ℕ → Form A} {n : ℕ} {a : Reader A} → Reads F n a → LL false first more (F n) → Takes a
reads_take {F = F} {n} ra l = record { less = λ ts x rest e. less_left x l (subst (Right F n ts) e (ra.right ts)) }

-- what was read so far, followed by what is still to be read
unfoldable pub with_front : {A : Type 0} → List A → Read (List A) → Read (List A)
with_front xs read = then_read read λ ys rest. Ok (xs ++ ys, rest)

pub front_none : {A : Type 0} (read : Read (List A)) → with_front [] read ≡ read
unfolding with_front then_read
front_none (Ok x) = refl
front_none (Err h) = refl

then_same : {A B : Type 0} (read : Read A) (f g : A → Reader B) → ((x : A) (rest : List Lexeme) → read ≡ Ok (x, rest) → f x rest ≡ g x rest) → then_read read f ≡ then_read read g
unfolding then_read
then_same (Ok x) f g h = h x.0 x.1 refl
then_same (Err e) f g h = refl

-- more fuel than tokens changes nothing
fuel : {A : Type 0} {a : Reader A} → Takes a → (signs : List Sign) (j k : ℕ) (ts : List Lexeme) → length ts ≤ j → length ts ≤ k → many_within j signs a ts ≡ many_within k signs a ts
unfolding many_within begins_with
fuel t signs zero zero ts le le' = refl
fuel t signs zero (suc k) [] le le' = refl
fuel t signs zero (suc k) (c ∷ ts) le le' = absurd (omega arith)
fuel t signs (suc j) zero [] le le' = refl
fuel t signs (suc j) zero (c ∷ ts) le le' = absurd (omega arith)
fuel {a = a} t signs (suc j) (suc k) ts le le' =
    ap (λ read. if begins_with signs ts then read else Ok ([], ts)) (then_same (a ts) _ _ λ x rest e.
    let less = t.less ts x rest e in
    ap (λ read. then_read read λ xs left. Ok (x ∷ xs, left)) (fuel t signs j k rest (omega arith) (omega arith)))

many_opened : {A : Type 0} {a : Reader A} → Takes a → (signs : List Sign) (ts : List Lexeme) → begins_with signs ts ≡ true → many_read signs a ts ≡ then_read (a ts) (λ x rest. then_read (many_read signs a rest) λ xs left. Ok (x ∷ xs, left))
unfolding many_read many_within begins_with
many_opened t signs [] h = cc
many_opened {a = a} t signs (c ∷ ts) h = rw h (then_same (a (c ∷ ts)) _ _ λ x rest e.
    let less = t.less (c ∷ ts) x rest e in
    ap (λ read. then_read read λ xs left. Ok (x ∷ xs, left)) (fuel t signs (length ts) (length rest) rest (omega arith) (omega arith)))

many_closed : {A : Type 0} (a : Reader A) (signs : List Sign) (ts : List Lexeme) → begins_with signs ts ≡ false → many_read signs a ts ≡ Ok ([], ts)
unfolding many_read many_within begins_with
many_closed a signs [] h = refl
many_closed a signs (c ∷ ts) h = rw h

front_more : {A : Type 0} (xs : List A) (x : A) (read : Read (List A)) → with_front xs (then_read read λ ys left. Ok (x ∷ ys, left)) ≡ with_front (xs ++ x ∷ []) read
unfolding with_front then_read
front_more xs x (Ok ys) = ap (λ l. Ok (l, ys.1)) (sym (append_assoc xs (x ∷ []) ys.0))
front_more xs x (Err h) = refl

-- The loop continues: it reads one more form.
pub loop_more : {A : Type 0} {a : Reader A} → Takes a → (signs : List Sign) (xs : List A) (ts : List Lexeme) (x : A) (rest : List Lexeme) → begins_with signs ts ≡ true → a ts ≡ Ok (x, rest) → with_front xs (many_read signs a ts) ≡ with_front (xs ++ x ∷ []) (many_read signs a rest)
unfolding then_read
loop_more {a = a} t signs xs ts x rest h e = rw (many_opened t signs ts h, e) (front_more xs x (many_read signs a rest))

-- One more tree is after the others.
pub loop_pushes : {X A : Type 0} {a : Reader A} → Takes a → (view : X → A) (signs : List Sign) (items : List X) (ts : List Lexeme) (x : X) (rest : List Lexeme) → begins_with signs ts ≡ true → a ts ≡ Ok (view x, rest) → with_front (map view (items ++ x ∷ [])) (many_read signs a rest) ≡ with_front (map view items) (many_read signs a ts)
loop_pushes {a = a} t view signs items ts x rest h e =
    ap (λ xs. with_front xs (many_read signs a rest)) (map_push view items x) ∙ sym (loop_more t signs (map view items) ts (view x) rest h e)

front_first : {A : Type 0} (x : A) (read : Read (List A)) → with_front (x ∷ []) read ≡ then_read {A = A × List A} (then_read read λ xs left. Ok ((x, xs), left)) λ p left. Ok (p.0 ∷ p.1, left)
unfolding with_front then_read
front_first x (Ok p) = refl
front_first x (Err h) = refl

-- The loop starts after a first form.
pub loop_first : {A : Type 0} (e : Reader A) (more : Reader (List A)) (ts : List Lexeme) (x : A) (rest : List Lexeme) → e ts ≡ Ok (x, rest) → with_front (x ∷ []) (more rest) ≡ made_read (λ at p. p.0 ∷ p.1) (seq_read e more) ts
unfolding made_read seq_read then_read
loop_first e more ts x rest h = rw h (front_first x (more rest))

-- The loop stops with a fault if a form cannot be read.
pub loop_stops : {A : Type 0} {a : Reader A} → Takes a → (signs : List Sign) (xs : List A) (ts : List Lexeme) (halt : Halt) → begins_with signs ts ≡ true → a ts ≡ Err halt → with_front xs (many_read signs a ts) ≡ Err halt
unfolding then_read with_front
loop_stops t signs xs ts halt h e = rw (many_opened t signs ts h, e)

-- The loop ends: there are no more forms.
pub loop_done : {A : Type 0} (a : Reader A) (signs : List Sign) (xs : List A) (ts : List Lexeme) → begins_with signs ts ≡ false → with_front xs (many_read signs a ts) ≡ Ok (xs, ts)
unfolding then_read with_front
loop_done a signs xs ts h = rw (many_closed a signs ts h) (ap (λ l. Ok (l, ts)) (append-nil xs))

-- What a function returns that leaves the loop with the fault of the next form. With a fault there is nothing to view.
pub loop_fails : {A : Type 0} {a : Reader A} → Takes a → (signs : List Sign) (xs : List A) (tokens : Tokens) (fault : SyntaxFault) (next : ℕ) (read : Read (List A)) → begins_with signs (rest_from tokens next) ≡ true → with_front xs (many_read signs a (rest_from tokens next)) ≡ read → Gives tokens (λ (x : A). x) (Err fault) (a (rest_from tokens next)) → Gives tokens (λ (x : List A). x) (Err fault) read
loop_fails t signs xs tokens (Rule rule byte) next read h same (halt, e, is) = (halt, sym same ∙ loop_stops t signs xs (rest_from tokens next) halt h e, is)
loop_fails t signs xs tokens (Lex f) next read h same (halt, e, is) = (halt, sym same ∙ loop_stops t signs xs (rest_from tokens next) halt h e, is)
loop_fails t signs xs tokens Memory next read h same g = tt

-- after one more form fewer tokens are left
pub loop_smaller : {A : Type 0} {a : Reader A} → Takes a → (tokens : Tokens) (next after : ℕ) (x : A) → a (rest_from tokens next) ≡ Ok (x, rest_from tokens after) → length tokens.list.now - after < length tokens.list.now - next
loop_smaller t tokens next after x e =
    let less = t.less (rest_from tokens next) x (rest_from tokens after) e in
    omega (arith, less, length-drop next (views tokens.list.now), length-drop after (views tokens.list.now), length-map tokens.list.now view)
