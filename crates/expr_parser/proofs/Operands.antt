-- The levels of operators, uniformly.
use Rattle.std.proofs.Common.{◌≡◌, ℕ, Bool, true, false, ◌||◌, ◌==◌, List, [], ◌∷◌, length, Option, None, Result, Ok, Err, refl, sym, ap, ◌∙◌}
use Rattle.rapid_lexer.specs.Tokens.{Lexeme}
use Rattle.raw_trees.specs.declared.raw_expr.RawExpr.{RawExpr}
use Rattle.rapid_model.specs.declared.operator.Operator.{Operator}
use Rattle.raw_trees.specs.Plain.{PlainExpr, Chain, steps_of}
use Rattle.raw_trees.specs.Views.{view_expr}
use Rattle.rapid_forms.specs.declared.fault.SyntaxFault.{SyntaxFault}
use Rattle.rapid_forms.specs.declared.fault.SyntaxFault.TheVariants.{Rule, Lex, Memory}
use Rattle.rapid_forms.specs.declared.sign.Sign.{Sign}
use Rattle.rapid_forms.specs.declared.tokens.Tokens.{Tokens}
use Rattle.rapid_forms.specs.Signs.{has, code, sign_of, first_sign, is_seen, begins_with}
use Rattle.rapid_forms.specs.Forms.{first_byte}
use Rattle.rapid_forms.specs.Reading.{Halt, Read, Reader, Gives, rest_from, then_read, seq_read, optional_read, many_within, many_read, made_read}
use Rattle.rapid_forms.proofs.Arms.{not_there}
use Rattle.rapid_forms.proofs.Loops.{front_none, loop_done}
use Rattle.rapid_forms.proofs.Sets.{covered, has_covered}
use Rattle.expr_parser.specs.declared.level.Level.{Level}
use Rattle.expr_parser.specs.declared.level.Level.TheVariants as levels
use Rattle.expr_parser.specs.Grammar.{chain_tree, comparisons}
use Rattle.expr_parser.specs.Operators.{operator_signs}
use Rattle.expr_parser.specs.Reads.{InsideRead, prefixes, operators_of, level_read, first_read, operand_read, step_read, chain_read, primary_read, term_read, signed_read, sum_read, relation_read, land_read, negated_read, expr_of_read, is_followed}

-- each level is a chain of its operators
pub level_chain : (i : InsideRead) (level : Level) → level_read i level ≡ chain_read (operators_of level) (first_read i level) (operand_read i level)
unfolding expr_of_read land_read sum_read term_read
level_chain i levels.Or = refl
level_chain i levels.And = refl
level_chain i levels.Sum = refl
level_chain i levels.Term = refl

or_false : (b x : Bool) → (b || false) ≡ false → x ≡ false → (b || x) ≡ false
or_false true x e h = cc
or_false false x e h = h

-- a sign that is neither the first of these nor one of the others
pub none_of : (one : Sign) (signs : List Sign) (sign : Sign) → (sign ≡ one → ⊥) → has signs sign ≡ false → has (one ∷ signs) sign ≡ false
unfolding has
none_of one signs sign ne none = or_false (code one == code sign) (has signs sign) (not_there sign one ne) none

pub none_left : (sign : Sign) → has [] sign ≡ false
unfolding has
none_left sign = refl

-- a test of the first sign is one of the first token
pub seen_as : (signs : List Sign) (ts : List Lexeme) (sign : Option Sign) (b : Bool) → sign ≡ first_sign ts → is_seen signs sign ≡ b → begins_with signs ts ≡ b
unfolding begins_with
seen_as signs ts sign b is e = sym (ap (is_seen signs) is) ∙ e

ruled_out : (a b : Bool) → (a ≡ true → b ≡ true) → b ≡ false → a ≡ false
ruled_out true b f e = let e' = f refl in cc
ruled_out false b f e = refl

-- if the first token has none of some signs, it has none of a part of them
pub fewer : (xs ys : List Sign) (ts : List Lexeme) → covered xs ys ≡ true → begins_with ys ts ≡ false → begins_with xs ts ≡ false
unfolding begins_with
fewer xs ys [] c e = refl
fewer xs ys (t ∷ ts) c e = ruled_out (has xs (sign_of t)) (has ys (sign_of t)) (has_covered xs ys (sign_of t) c) e

-- without the mark that may be before a form, only the form is read
remade : (f : Option Lexeme × PlainExpr → PlainExpr) → ((e : PlainExpr) → f (None, e) ≡ e) → (read : Read PlainExpr) → then_read {A = Option Lexeme × PlainExpr} (then_read read λ y left. Ok ((None, y), left)) (λ x rest. Ok (f x, rest)) ≡ read
unfolding then_read
remade f same (Ok x) = rw (same x.0) refl
remade f same (Err h) = refl

unmarked : (marks : List Sign) (mark : Reader Lexeme) (f : ℕ → Option Lexeme × PlainExpr → PlainExpr) (a : Reader PlainExpr) (ts : List Lexeme) → ((at : ℕ) (e : PlainExpr) → f at (None, e) ≡ e) → begins_with marks ts ≡ false → made_read f (seq_read (optional_read marks mark) a) ts ≡ a ts
unfolding made_read seq_read optional_read then_read
unmarked marks mark f a ts same none = rw none (remade (f _) (same _) (a ts))

-- if an operator is seen, at least one operator and its operand are read

abbrev IsMore : {A : Type 0} → List A → Type 0
IsMore [] = ⊥
IsMore (x ∷ xs) = Unit {0}

abbrev gives : {A : Type 0} → A × List Lexeme → Read A
gives p = Ok p

given : {A : Type 0} {p q : A × List Lexeme} → gives p ≡ gives q → p ≡ q
given e = cc

more_behind : {A : Type 0} (x : A) (read : Read (List A)) (xs : List A) (left : List Lexeme) → then_read read (λ ys rest. Ok (x ∷ ys, rest)) ≡ Ok (xs, left) → IsMore xs
unfolding then_read
more_behind x (Ok ys) [] left e = let same = ap (λ p. p.0) (given e) in absurd cc
more_behind x (Ok ys) (z ∷ zs) left e = tt
more_behind x (Err h) xs left e = absurd cc

more_first : {A : Type 0} (read : Read A) (next : Reader (List A)) (xs : List A) (left : List Lexeme) → then_read read (λ x rest. then_read (next rest) λ ys end. Ok (x ∷ ys, end)) ≡ Ok (xs, left) → IsMore xs
unfolding then_read
more_first (Ok x) next xs left e = more_behind x.0 (next x.1) xs left e
more_first (Err h) next xs left e = absurd cc

many_more : {A : Type 0} (signs : List Sign) (a : Reader A) (ts : List Lexeme) (xs : List A) (left : List Lexeme) → begins_with signs ts ≡ true → many_read signs a ts ≡ Ok (xs, left) → IsMore xs
unfolding many_read many_within begins_with
many_more signs a [] xs left h e = absurd cc
many_more signs a (t ∷ ts) xs left h e = more_first (a (t ∷ ts)) (many_within (length ts) signs a) xs left (rw h at e)

chain_of_more : (at : ℕ) (e : PlainExpr) (ss : List (Operator × PlainExpr)) → IsMore ss → chain_tree at (e, ss) ≡ Chain at e (steps_of ss)
chain_of_more at e [] more = absurd more
chain_of_more at e (s ∷ ss) more = refl

-- an operand that no operator follows is the whole chain, and where an operand stops, the chain does
module _ (operators : List Sign) (first each : Reader PlainExpr) (ts : List Lexeme) where
  chain_one : (e : PlainExpr) (rest : List Lexeme) → first ts ≡ Ok (e, rest) → begins_with operators rest ≡ false → chain_read operators first each ts ≡ Ok (e, rest)
  unfolding chain_read made_read seq_read then_read
  chain_one e rest is none =
      let closed : many_read operators (step_read operators each) rest ≡ Ok ([], rest) = sym (front_none _) ∙ loop_done _ operators [] rest none in
      rw (is, closed) refl

  chain_more : (e : PlainExpr) (rest : List Lexeme) (ss : List (Operator × PlainExpr)) (left : List Lexeme) → first ts ≡ Ok (e, rest) → begins_with operators rest ≡ true → many_read operators (step_read operators each) rest ≡ Ok (ss, left) → chain_read operators first each ts ≡ Ok (Chain (first_byte ts) e (steps_of ss), left)
  unfolding chain_read made_read seq_read then_read
  chain_more e rest ss left is seen more =
      rw (is, more) (ap (λ tree. Ok (tree, left)) (chain_of_more (first_byte ts) e ss (many_more operators (step_read operators each) rest ss left seen more)))

  pub chain_stops : (halt : Halt) → first ts ≡ Err halt → chain_read operators first each ts ≡ Err halt
  unfolding chain_read made_read seq_read then_read
  chain_stops halt is = rw is refl

-- a chain of a level, given its first operand

pub level_none : (i : InsideRead) (level : Level) (ts : List Lexeme) (e : PlainExpr) (rest : List Lexeme) → first_read i level ts ≡ Ok (e, rest) → begins_with (operators_of level) rest ≡ false → level_read i level ts ≡ Ok (e, rest)
level_none i level ts e rest is none = ap (λ read. read ts) (level_chain i level) ∙ chain_one _ _ _ ts e rest is none

pub level_more : (i : InsideRead) (level : Level) (ts : List Lexeme) (e : PlainExpr) (rest : List Lexeme) (ss : List (Operator × PlainExpr)) (left : List Lexeme) → first_read i level ts ≡ Ok (e, rest) → begins_with (operators_of level) rest ≡ true → many_read (operators_of level) (step_read (operators_of level) (operand_read i level)) rest ≡ Ok (ss, left) → level_read i level ts ≡ Ok (Chain (first_byte ts) e (steps_of ss), left)
level_more i level ts e rest ss left is seen more = ap (λ read. read ts) (level_chain i level) ∙ chain_more _ _ _ ts e rest ss left is seen more

module _ (i : InsideRead) (ts : List Lexeme) where
  relation_one : (e : PlainExpr) (rest : List Lexeme) → sum_read i ts ≡ Ok (e, rest) → begins_with comparisons rest ≡ false → relation_read i ts ≡ Ok (e, rest)
  unfolding relation_read made_read seq_read optional_read then_read
  relation_one e rest is none = rw (is, none) refl

  pub relation_stops : (halt : Halt) → sum_read i ts ≡ Err halt → relation_read i ts ≡ Err halt
  unfolding relation_read made_read seq_read then_read
  relation_stops halt is = rw is refl

  pub land_stops : (halt : Halt) → relation_read i ts ≡ Err halt → land_read i ts ≡ Err halt
  unfolding land_read
  land_stops halt is = chain_stops _ _ _ ts halt is

-- a chain that starts with neither NOT nor a sign
module _ (i : InsideRead) (ts : List Lexeme) (plain : begins_with prefixes ts ≡ false) where
  pub signed_plain : signed_read i ts ≡ term_read i ts
  unfolding signed_read
  signed_plain = unmarked _ _ _ (term_read i) ts (λ at e. refl) (fewer _ prefixes ts refl plain)

  pub negated_plain : negated_read i ts ≡ land_read i ts
  unfolding negated_read
  negated_plain = unmarked _ _ _ (land_read i) ts (λ at e. refl) (fewer _ prefixes ts refl plain)

  -- without operators it is its first operand
  module _ (e : PlainExpr) (rest : List Lexeme) (is : primary_read i ts ≡ Ok (e, rest)) (none : begins_with operator_signs rest ≡ false) where
    term_one : term_read i ts ≡ Ok (e, rest)
    unfolding term_read
    term_one = chain_one _ _ _ ts e rest is (fewer _ operator_signs rest refl none)

    sum_one : sum_read i ts ≡ Ok (e, rest)
    unfolding sum_read
    sum_one = chain_one _ _ _ ts e rest (signed_plain ∙ term_one) (fewer _ operator_signs rest refl none)

    land_one : land_read i ts ≡ Ok (e, rest)
    unfolding land_read
    land_one = chain_one _ _ _ ts e rest (relation_one i ts e rest sum_one (fewer _ operator_signs rest refl none)) (fewer _ operator_signs rest refl none)

    expr_one : expr_of_read i ts ≡ Ok (e, rest)
    unfolding expr_of_read
    expr_one = chain_one _ _ _ ts e rest (negated_plain ∙ land_one) (fewer _ operator_signs rest refl none)

    level_one : (level : Level) → level_read i level ts ≡ Ok (e, rest)
    level_one levels.Or = expr_one
    level_one levels.And = land_one
    level_one levels.Sum = sum_one
    level_one levels.Term = term_one

  -- where its first term stops, it does
  module _ (halt : Halt) where
    sum_stops : term_read i ts ≡ Err halt → sum_read i ts ≡ Err halt
    unfolding sum_read
    sum_stops is = chain_stops _ _ _ ts halt (signed_plain ∙ is)

    pub expr_stops : land_read i ts ≡ Err halt → expr_of_read i ts ≡ Err halt
    unfolding expr_of_read
    expr_stops is = chain_stops _ _ _ ts halt (negated_plain ∙ is)

    terms_stop : term_read i ts ≡ Err halt → land_read i ts ≡ Err halt
    terms_stop is = land_stops i ts halt (relation_stops i ts halt (sum_stops is))

    pub level_stops : (level : Level) → term_read i ts ≡ Err halt → level_read i level ts ≡ Err halt
    level_stops levels.Or is = expr_stops (terms_stop is)
    level_stops levels.And is = terms_stop is
    level_stops levels.Sum is = sum_stops is
    level_stops levels.Term is = is

    primary_stops : (level : Level) → primary_read i ts ≡ Err halt → level_read i level ts ≡ Err halt
    unfolding term_read
    primary_stops level is = level_stops level (chain_stops _ _ _ ts halt is)

-- a fault of a part is that of the whole
pub passed_on : {X Y A B : Type 0} (tokens : Tokens) (view : X → A) (view' : Y → B) (fault : SyntaxFault) (read : Read A) (read' : Read B) → ((halt : Halt) → read ≡ Err halt → read' ≡ Err halt) → Gives tokens view (Err fault) read → Gives tokens view' (Err fault) read'
passed_on tokens view view' (Rule rule byte) read read' stops (halt, e, is) = (halt, stops halt e, is)
passed_on tokens view view' (Lex f) read read' stops (halt, e, is) = (halt, stops halt e, is)
passed_on tokens view view' Memory read read' stops g = tt

-- a first operand that no operator follows, or its fault
pub handed_on : (i : InsideRead) (level : Level) (tokens : Tokens) (at : ℕ) (first : Result (RawExpr × ℕ) SyntaxFault) → begins_with prefixes (rest_from tokens at) ≡ false → is_followed tokens first ≡ false → Gives tokens view_expr first (primary_read i (rest_from tokens at)) → Gives tokens view_expr first (level_read i level (rest_from tokens at))
handed_on i level tokens at (Ok x) plain none is = level_one i (rest_from tokens at) plain (view_expr x.0) (rest_from tokens x.1) is none level
handed_on i level tokens at (Err fault) plain none is =
    passed_on tokens view_expr view_expr fault (primary_read i (rest_from tokens at)) (level_read i level (rest_from tokens at)) (λ halt. primary_stops i (rest_from tokens at) plain halt level) is
