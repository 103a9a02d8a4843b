-- A text has one result: the answers are mutually exclusive, and each is unique.
use Rattle.std.proofs.Common.{◌≡◌, ℕ, suc, ◌+◌, Bool, List, length, drop, Result, Ok, Err, sym, ap, subst, ◌∙◌, inl, inr, ◌⊎◌, arith}
use Rattle.std.proofs.lemmas.List.{take_all}
use Rattle.rapid_limits.specs.declared.TheConstants.{MOST_LEVELS}
use Rattle.rapid_lexer.specs.Tokens.{Lexeme}
use Rattle.rapid_lexer.proofs.Tilings.{one_tiling, one_fault, no_fault}
use Rattle.raw_trees.specs.Plain.{PlainModule}
use Rattle.rapid_forms.specs.declared.sign.Sign.{Sign}
use Rattle.rapid_forms.specs.declared.fault.SyntaxFault.{SyntaxFault}
use Rattle.rapid_forms.specs.declared.fault.SyntaxFault.TheVariants.{Rule, Lex, Memory}
use Rattle.rapid_forms.specs.Forms.{Form}
use Rattle.rapid_forms.specs.Parsed.{IsTooDeep, syntax_fault, depth_fault}
use Rattle.rapid_forms.proofs.Laws.{LL}
use Rattle.rapid_forms.proofs.Spelled.{fewer, longest_one, longest_deep, deep_once}
use Rattle.module_parser.specs.Grammar.{«module»}
use Rattle.module_parser.specs.Modules.{SpellsWithin, IsStuck, Stops, ModuleText}
use Rattle.module_parser.proofs.Ahead.{module_ll}
use Rattle.module_parser.proofs.Answered.{module_above}

module _ {A : Type 0} {F : ℕ → Form A} {n : ℕ} {ts : List Lexeme} where
  stuck_once : {j k : ℕ} → IsStuck F n ts j → IsStuck F n ts k → j ≡ k
  stuck_once h h' = longest_one h.longest h'.longest

  module _ {null : Bool} {first more : List Sign} (l : LL null first more (F n)) where
    stuck_deep : {j k : ℕ} → IsStuck F n ts j → IsTooDeep F n ts k → ⊥
    stuck_deep h d = longest_deep l h.longest h.begun d

    whole_deep : {k : ℕ} (x : A) → (F n).Whole x ts → IsTooDeep F n ts k → ⊥
    whole_deep {k} x w d = d.deep (fewer l ts (suc k) (length ts) d.there (subst (F n).Begun (sym (take_all (length ts) ts (omega arith))) (l.begun x ts w)))

stops_once : (end : ℕ) (ts : List Lexeme) (f g : SyntaxFault) → Stops end ts f → Stops end ts g → f ≡ g
stops_once end ts f g (inl (j, h, e)) (inl (k, h', e')) = e ∙ ap (λ i. syntax_fault end (drop i ts)) (stuck_once h h') ∙ sym e'
stops_once end ts f g (inl (j, h, e)) (inr (k, d, e')) = absurd (stuck_deep (module_ll MOST_LEVELS) h d)
stops_once end ts f g (inr (j, d, e)) (inl (k, h, e')) = absurd (stuck_deep (module_ll MOST_LEVELS) h d)
stops_once end ts f g (inr (j, d, e)) (inr (k, d', e')) = e ∙ ap (λ i. depth_fault end (drop i ts)) (deep_once (module_ll MOST_LEVELS) d d') ∙ sym e'

whole_stops : (end : ℕ) (ts : List Lexeme) (x : PlainModule) (f : SyntaxFault) → («module» MOST_LEVELS).Whole x ts → Stops end ts f → ⊥
whole_stops end ts x f w (inl (k, h, e)) = h.none x (MOST_LEVELS, w)
whole_stops end ts x f w (inr (k, d, e)) = whole_deep (module_ll MOST_LEVELS) x w d

pub one_tree : (m n : ℕ) (t u : PlainModule) (source : List ℕ) → SpellsWithin m t source → SpellsWithin n u source → t ≡ u
one_tree m n t u source (ts, tiles, w) (us, tiles', w') =
    (module_ll (m + n)).only t u us
    ((module_above m (m + n) (omega arith)).whole t us (subst ((«module» m).Whole t) (one_tiling source ts us tiles tiles') w))
    ((module_above n (m + n) (omega arith)).whole u us w')

pub one_module : (source : List ℕ) (a b : Result PlainModule SyntaxFault) → ModuleText source a → ModuleText source b → a ≡ b
one_module source (Ok t) (Ok u) h h' = ap (λ x. Ok x) (one_tree MOST_LEVELS MOST_LEVELS t u source h h')
one_module source (Ok t) (Err (Lex f)) (ts, tiles, w) h = absurd (no_fault source ts f tiles h)
one_module source (Ok t) (Err (Rule rule at)) (ts, tiles, w) (us, tiles', s) =
    absurd (whole_stops (length source) ts t (Rule rule at) w (subst (λ l. Stops (length source) l (Rule rule at)) (one_tiling source us ts tiles' tiles) s))
one_module source (Err (Lex f)) (Ok u) h (ts, tiles, w) = absurd (no_fault source ts f tiles h)
one_module source (Err (Lex f)) (Err (Lex g)) h h' = ap (λ f. Err (Lex f)) (one_fault source f g h h')
one_module source (Err (Lex f)) (Err (Rule rule at)) h (ts, tiles, s) = absurd (no_fault source ts f tiles h)
one_module source (Err (Rule rule at)) (Ok u) (us, tiles', s) (ts, tiles, w) =
    absurd (whole_stops (length source) ts u (Rule rule at) w (subst (λ l. Stops (length source) l (Rule rule at)) (one_tiling source us ts tiles' tiles) s))
one_module source (Err (Rule rule at)) (Err (Lex f)) (ts, tiles, s) h = absurd (no_fault source ts f tiles h)
one_module source (Err (Rule rule at)) (Err (Rule rule' at')) (ts, tiles, s) (us, tiles', s') =
    ap (λ f. Err f) (stops_once (length source) us (Rule rule at) (Rule rule' at') (subst (λ l. Stops (length source) l (Rule rule at)) (one_tiling source ts us tiles tiles') s) s')
one_module source (Err Memory) b h h' = absurd h
one_module source (Ok t) (Err Memory) h h' = absurd h'
one_module source (Err (Lex f)) (Err Memory) h h' = absurd h'
one_module source (Err (Rule rule at)) (Err Memory) h h' = absurd h'

-- a result of a text is its only one
pub only_one : (source : List ℕ) (memory : Type 0) (a b : Result PlainModule SyntaxFault) → memory ⊎ ModuleText source a → ModuleText source b → memory ⊎ (a ≡ b)
only_one source memory a b (inl m) h = inl m
only_one source memory a b (inr h) h' = inr (one_module source a b h h')
