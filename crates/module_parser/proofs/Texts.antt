-- The result of a text, given what is read of its tokens.
use Rattle.std.proofs.Common.{◌≡◌, ℕ, ◌≤◌, ◌<◌, Bool, List, [], length, take, drop, Bor, Result, Ok, Err, refl, sym, ap, subst, ◌∙◌, inl, inr, ◌⊎◌, arith}
use Rattle.std.proofs.lemmas.Bool.{cases_lt}
use Rattle.std.proofs.lemmas.List.{append-nil, length-drop, length-map, take_all, drop_all}
use Rattle.rapid_limits.specs.declared.TheConstants.{MOST_LEVELS}
use Rattle.rapid_lexer.specs.declared.token.Token.{Token}
use Rattle.rapid_lexer.specs.Tokens.{Lexeme, Tiles, views}
use Rattle.rapid_lexer.specs.Tokens.{view as lexeme}
use Rattle.raw_trees.specs.declared.raw_module.RawModule.{RawModule}
use Rattle.raw_trees.specs.Plain.{PlainModule}
use Rattle.raw_trees.specs.Views.{view_module}
use Rattle.rapid_forms.specs.declared.sign.Sign.{Sign}
use Rattle.rapid_forms.specs.declared.fault.SyntaxFault.{SyntaxFault}
use Rattle.rapid_forms.specs.declared.fault.SyntaxFault.TheVariants.{Rule, Lex, Memory}
use Rattle.rapid_forms.specs.declared.tokens.Tokens.{Tokens}
use Rattle.rapid_forms.specs.Forms.{Form}
use Rattle.rapid_forms.specs.Parsed.{IsLongest, Spells, syntax_fault, depth_fault}
use Rattle.rapid_forms.specs.Reading.{Halt, Fails, Deep, Read, Gives, rest_from, fault_of}
use Rattle.rapid_forms.proofs.Laws.{LL}
use Rattle.rapid_forms.proofs.Right.{Right, IsRead}
use Rattle.rapid_forms.proofs.Spelled.{Answers, reads_answer}
use Rattle.module_parser.specs.Grammar.{«module»}
use Rattle.module_parser.specs.Reads.{module_read}
use Rattle.module_parser.specs.Modules.{IsStuck, Stops, ModuleText}
use Rattle.module_parser.proofs.Ahead.{module_ll}
use Rattle.module_parser.proofs.Answered.{module_above, module_reads}

-- if no token is left, all tokens are the form
all_read : {A : Type 0} {F : ℕ → Form A} {n : ℕ} {ts : List Lexeme} {x : A} → IsRead F n ts x [] → (F n).Whole x ts
all_read {F = F} {n = n} {x = x} h = subst ((F n).Whole x) (sym (h.split ∙ append-nil h.front)) h.whole

-- if tokens are left after the longest prefix of the form, they do not spell it
left_none : {A : Type 0} {F : ℕ → Form A} {ts : List Lexeme} → ((m : ℕ) (x : A) (us : List Lexeme) → (F m).Whole x us → (F m).Begun us) → (k : ℕ) → IsLongest F ts k → k < length ts → (x : A) → Spells F x ts → ⊥
left_none {ts = ts} begun k h less x (m, w) = h.most (length ts) less (omega arith) (m, rw (take_all (length ts) ts (omega arith)) (begun m x ts w))

module _ {A : Type 0} {F : ℕ → Form A} {n : ℕ} {null : Bool} {first more : List Sign} (lf : (m : ℕ) → LL null first more (F m)) (ts : List Lexeme) where
  -- a form was read, and tokens are left
  left_stuck : (x : A) (rest : List Lexeme) → 0 < length rest → Answers F n ts (Ok (x, rest)) → (k : ℕ) × IsStuck F n ts k × (rest ≡ drop k ts)
  left_stuck x rest some (k, h, e) = (
    k,
    record {
      longest = h.longest;
      begun = (lf n).begun x (take k ts) h.whole;
      none = left_none (λ m. (lf m).begun) k h.longest (omega (arith, ap length e, length-drop k ts));
    },
    e,
  )

  fails_stuck : (rest : List Lexeme) → Answers F n ts (Err (Fails rest)) → (k : ℕ) × IsStuck F n ts k × (rest ≡ drop k ts)
  fails_stuck rest (k, h, e) = (
    k,
    record {
      longest = h.longest;
      begun = h.begun;
      none = λ x s. elim (cases_lt k (length ts)) [
        | inl less ↦ left_none (λ m. (lf m).begun) k h.longest less x s
        | inr le ↦ h.none x (s.0, rw (take_all k ts le) s.1)
      ];
    },
    e,
  )

module _ (source : List ℕ) (ts : List Lexeme) (tiles : Tiles source ts) where
  answer : (read : Read PlainModule) → module_read MOST_LEVELS ts ≡ read → Answers «module» MOST_LEVELS ts read
  answer read e = subst (Answers «module» MOST_LEVELS ts) e (reads_answer (module_reads MOST_LEVELS) module_ll module_above ts)

  text_spells : (x : PlainModule) (rest : List Lexeme) → module_read MOST_LEVELS ts ≡ Ok (x, rest) → rest ≡ [] → ModuleText source (Ok x)
  text_spells x rest e none =
      (ts, tiles, all_read (subst (λ l. IsRead «module» MOST_LEVELS ts x l) none (subst (Right «module» MOST_LEVELS ts) e ((module_reads MOST_LEVELS).right ts))))

  text_left : (x : PlainModule) (rest : List Lexeme) → module_read MOST_LEVELS ts ≡ Ok (x, rest) → 0 < length rest → ModuleText source (Err (syntax_fault (length source) rest))
  text_left x rest e some =
      let (k, h, at) = left_stuck module_ll ts x rest some (answer (Ok (x, rest)) e) in
      (ts, tiles, inl (k, h, ap (syntax_fault (length source)) at))

  halted : (halt : Halt) (fault : SyntaxFault) → module_read MOST_LEVELS ts ≡ Err halt → fault ≡ fault_of (length source) halt → Stops (length source) ts fault
  halted (Fails rest) fault e is =
      let (k, h, at) = fails_stuck module_ll ts rest (answer (Err (Fails rest)) e) in
      inl (k, h, is ∙ ap (syntax_fault (length source)) at)
  halted (Deep rest) fault e is =
      let (k, h, at) = answer (Err (Deep rest)) e in
      inr (k, h, is ∙ ap (depth_fault (length source)) at)

abbrev failed : (T : Type 0) → SyntaxFault → Result T SyntaxFault
failed T fault = Err fault

-- What the function returned that reads a module from all tokens of a text is the result of the text.
module _ (source : List ℕ) (list : Bor (List Token)) (items : List Token) (same : list.now ≡ items) (tiles : Tiles source (views items)) where
  abbrev all_tokens : Tokens
  all_tokens = record { list = list; end = length source }

  tiled : Tiles source (views list.now)
  tiled = subst (λ l. Tiles source (views l)) (sym same) tiles

  pub text_whole : (tree : RawModule) (next : ℕ) → length items ≤ next → Gives all_tokens view_module (Ok (tree, next)) (module_read MOST_LEVELS (rest_from all_tokens 0)) → ModuleText source (Ok (view_module tree))
  text_whole tree next le g =
      text_spells source (views list.now) tiled (view_module tree) (rest_from all_tokens next) g
      (drop_all next (views list.now) (omega (arith, ap length same, length-map list.now lexeme)))

  pub text_more : (tree : RawModule) (next : ℕ) (fault : SyntaxFault) → next < length items → Gives all_tokens view_module (Ok (tree, next)) (module_read MOST_LEVELS (rest_from all_tokens 0)) → fault ≡ syntax_fault (length source) (rest_from all_tokens next) → ModuleText source (Err fault)
  text_more tree next fault less g e =
      subst (λ f. ModuleText source (Err f)) (sym e)
      (text_left source (views list.now) tiled (view_module tree) (rest_from all_tokens next) g (omega (arith, ap length same, length-map list.now lexeme, length-drop next (views list.now))))

  pub text_fails : (T : Type 0) (fault : SyntaxFault) → Gives all_tokens (λ (x : PlainModule). x) (Err fault) (module_read MOST_LEVELS (rest_from all_tokens 0)) → (failed T fault ≡ failed T Memory) ⊎ ModuleText source (Err fault)
  text_fails T (Rule rule at) (halt, e, is) = inr (views list.now, tiled, halted source (views list.now) tiled halt (Rule rule at) e is)
  text_fails T (Lex f) (Fails rest, e, is) = cc
  text_fails T (Lex f) (Deep rest, e, is) = cc
  text_fails T Memory g = inl refl
