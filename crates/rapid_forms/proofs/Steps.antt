-- Steps of the code over tokens.
use Rattle.std.proofs.Common.{◌≡◌, ℕ, ◌+◌, false, None, Some, Err, List, [], ◌∷◌, map, drop, refl, sym, ap, ◌∙◌}
use Rattle.std.specs.Borrow.{Bor}
use Rattle.std.specs.Slice.{IsItemAt}
use Rattle.std.proofs.lemmas.Bool.{ltb-true, ltb-false}
use Rattle.std.proofs.lemmas.List.{drop-map, drop_more, drop_all}
use Rattle.rapid_lexer.specs.declared.token.Token.{Token}
use Rattle.rapid_lexer.specs.Tokens.{Lexeme, view, views}
use Rattle.rapid_forms.specs.declared.fault.SyntaxFault.{SyntaxFault}
use Rattle.rapid_forms.specs.declared.sign.Sign.{Sign}
use Rattle.rapid_forms.specs.declared.tokens.Tokens.{Tokens}
use Rattle.rapid_forms.specs.Signs.{begins_with}
use Rattle.rapid_forms.specs.Reading.{Halt, Fails, Deep, Read, Gives, fault_of, one_read}

-- the tokens from one on, if it exists and if it does not
pub rest_here : (list : List Token) (at : ℕ) (token : Bor Token) → IsItemAt list at (Some token) → drop at (views list) ≡ view token.now ∷ drop (at + 1) (views list)
rest_here list at token h =
    drop-map view at list
    ∙ ap (map view) (drop_more list at token.now (ltb-true _ _ (sym h.0)) ∙ ap (λ t. t ∷ drop (at + 1) list) (sym h.1))
    ∙ ap (λ ts. view token.now ∷ ts) (sym (drop-map view (at + 1) list))

pub rest_none : (list : List Token) (at : ℕ) → IsItemAt list at None → drop at (views list) ≡ []
rest_none list at h = drop-map view at list ∙ ap (map view) (drop_all at list (ltb-false _ _ (sym h.0)))

pub one_fails : (signs : List Sign) (ts : List Lexeme) → begins_with signs ts ≡ false → one_read signs ts ≡ Err (Fails ts)
unfolding one_read begins_with
one_fails signs [] e = refl
one_fails signs (t ∷ ts) e = rw e

-- a function returns the fault where reading stopped
pub gives_halt : {X A : Type 0} (tokens : Tokens) (view : X → A) (fault : SyntaxFault) (read : Read A) (halt : Halt) → fault ≡ fault_of tokens.end halt → read ≡ Err halt → Gives tokens view (Err fault) read
gives_halt tokens view fault read (Fails ts) is e = rw is (Fails ts, e, refl)
gives_halt tokens view fault read (Deep ts) is e = rw is (Deep ts, e, refl)
