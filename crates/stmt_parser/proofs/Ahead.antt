-- One token of lookahead is enough for statements, and a text spells at most one list of them. A form within some
-- levels is also within more. Each first sign of a statement can start one. Statements that start with a name, and
-- those that start with IF, also appear with the common part factored out, as they are read.
use Rattle.std.proofs.Common.{ℕ, zero, suc, true, false, List, [], ◌∷◌, ◌++◌, Option, None, Some, refl, sym, ◌∙◌, subst, ◌⊎◌, inl, inr}
use Rattle.rapid_lexer.specs.Tokens.{Lexeme}
use Rattle.raw_trees.specs.Plain.{PlainExpr, PlainStmt}
use Rattle.rapid_forms.specs.declared.sign.Sign.{Sign}
use Rattle.rapid_forms.specs.declared.sign.Sign.TheVariants as signs
use Rattle.rapid_forms.specs.Forms.{Form, seq, either, optional, many, made, WholeEach}
use Rattle.rapid_forms.proofs.Laws.{LL, one_ll, seq_ll, either_ll, optional_ll, many_ll, made_ll, nothing_ll, larger_ll, begun_one, begun_more, begun_many}
use Rattle.rapid_forms.proofs.Up.{Up, up_refl, seq_up, either_up, optional_up, many_up, made_up, nothing_up}
use Rattle.rapid_forms.proofs.Opens.{Opens, fewer_opens, one_opens, seq_opens, either_opens, made_opens, deeper_opens}
use Rattle.rapid_forms.proofs.Same.{Same, same_refl, same_sym, same_trans, seq_same, either_same, made_same, either_swapped, either_bracketed, crossed, same_ll, left, right, shared, both_shared, made_made, made_itself, made_behind, fronted}
use Rattle.expr_parser.specs.Grammar.{Inside, inside, mark, name, parts_of, place, expr_of, place_tree, behind, none_or, first_and_more}
use Rattle.expr_parser.specs.Reads.{expr_signs, arg_signs}
use Rattle.expr_parser.proofs.Ahead.{InsideLL, inside_ll, name_ll, parts_ll, place_ll, expr_of_ll, exprs_ll, InsideUp, inside_up, place_up, expr_of_up, exprs_up, name_opens}
use Rattle.stmt_parser.specs.Grammar.{assign_tree, call_tree, goto_tree, return_tree, exit_tree, raise_tree, retry_tree, try_next_tree, connect_tree, label_tree, arm_tree, if_tree, if_one_tree, simple, arm, branches, loop_for, loop_while, case, choice, stmt_of, list_of, stmts, list, stmt, items}
use Rattle.stmt_parser.specs.Reads.{worded_signs, stmt_signs, assigned_signs, Assigned, Called, assigned_tree, named_simple_tree, named_tree, Branched, branched_tree, tested_tree}

-- the signs that simple statements can start with
abbrev pub simple_signs : List Sign
simple_signs = signs.Name ∷ worded_signs

-- the signs that continue a name to arguments
abbrev pub called_signs : List Sign
called_signs = signs.Semicolon ∷ arg_signs

-- the lines with a common start, as they are read

-- after a name: an optional index and components, and what is assigned
unfoldable pub assigned : Inside → Form Assigned
assigned i = seq (parts_of i) (seq (mark signs.Assign) (seq (expr_of i) (mark signs.Semicolon)))

unfoldable pub called : Inside → Form Called
called i = seq (made none_or (optional i.args)) (mark signs.Semicolon)

unfoldable pub behind_name : Inside → Form (Assigned ⊎ Called)
behind_name i = either (made left (assigned i)) (made right (called i))

unfoldable pub named_simple : Inside → Form PlainStmt
named_simple i = made named_simple_tree (seq name (behind_name i))

unfoldable pub named : Inside → Form PlainStmt
named i = made named_tree (seq name (either (made left (mark signs.Colon)) (made right (behind_name i))))

-- the simple statements that start with a word
unfoldable pub worded : Inside → Form PlainStmt
worded i =
    either (made goto_tree (seq (mark signs.Goto) (seq name (mark signs.Semicolon))))
    (either (made return_tree (seq (mark signs.Return) (seq (optional (expr_of i)) (mark signs.Semicolon))))
    (either (made exit_tree (seq (mark signs.Exit) (mark signs.Semicolon)))
    (either (made raise_tree (seq (mark signs.Raise) (seq (optional (expr_of i)) (mark signs.Semicolon))))
    (either (made retry_tree (seq (mark signs.Retry) (mark signs.Semicolon)))
    (either (made try_next_tree (seq (mark signs.TryNext) (mark signs.Semicolon)))
    (made connect_tree (seq (mark signs.Connect) (seq (place i) (seq (mark signs.With) (seq name (mark signs.Semicolon)))))))))))

unfoldable pub simple_joined : Inside → Form PlainStmt
simple_joined i = either (named_simple i) (worded i)

-- after the test of an IF with lists
unfoldable pub branched : Inside → Form (List PlainStmt) → Form Branched
branched i list =
    seq (seq (mark signs.Then) list)
    (seq (many (made behind (seq (mark signs.ElseIf) (arm i list))))
    (seq (optional (made behind (seq (mark signs.Else) list))) (mark signs.EndIf)))

-- IF, a test, and lists or one statement
unfoldable pub tested : Inside → Form (List PlainStmt) → Form PlainStmt
tested i list = made tested_tree (seq (mark signs.If) (seq (expr_of i) (either (made left (branched i list)) (made right (simple i)))))

unfoldable pub stmt_joined : Inside → Form (List PlainStmt) → Form PlainStmt
stmt_joined i list =
    either (named i) (either (tested i list) (either (loop_for i list) (either (loop_while i list) (either (choice i list) (worded i)))))

-- they are the lines of the grammar

assigned_same : {i : Inside} → InsideLL i
    → Same (made assign_tree (seq (place i) (seq (mark signs.Assign) (seq (expr_of i) (mark signs.Semicolon))))) (made assigned_tree (seq name (assigned i)))
unfolding place assigned
assigned_same {i} l = fronted place_tree assign_tree name (parts_of i) _ (seq_ll name_ll (parts_ll l) refl)

pub simple_same : {i : Inside} → InsideLL i → Same (simple i) (simple_joined i)
unfolding simple simple_joined worded named_simple behind_name called
simple_same {i} l =
    same_trans (same_sym (either_bracketed _ _ _))
    (either_same
    (same_trans (either_same (assigned_same l) (same_refl (made call_tree (seq name (called i)))))
    (shared assigned_tree call_tree name (assigned i) (called i)))
    (same_refl _))

named_same : (i : Inside) → Same (either (named_simple i) (made label_tree (seq name (mark signs.Colon)))) (named i)
unfolding named_simple named
named_same i = same_trans (either_swapped _ _) (shared label_tree named_simple_tree name (mark signs.Colon) (behind_name i))

branched_same : {i : Inside} {list : Form (List PlainStmt)} → InsideLL i → LL true stmt_signs stmt_signs list
    → Same (branches i list) (made branched_tree (seq (mark signs.If) (seq (expr_of i) (branched i list))))
unfolding branches branched arm
branched_same {i} {list} l ls =
    same_trans
    (made_same if_tree
    (seq_same (same_refl _)
    (same_trans (same_sym (made_itself _)) (fronted arm_tree (λ at x. x) (expr_of i) (seq (mark signs.Then) list) _ (seq_ll (expr_of_ll l) (seq_ll (one_ll _) ls refl) refl)))))
    (same_trans (made_same if_tree (made_behind (λ x. (arm_tree 0 (x.0, x.1.0), x.1.1)) _ _)) (made_made _ if_tree _))

pub tested_same : {i : Inside} {list : Form (List PlainStmt)} → InsideLL i → LL true stmt_signs stmt_signs list
    → Same (either (branches i list) (made if_one_tree (seq (mark signs.If) (seq (expr_of i) (simple i))))) (tested i list)
unfolding tested
tested_same {i} {list} l ls =
    same_trans (either_same (branched_same l ls) (same_refl _)) (both_shared branched_tree if_one_tree (mark signs.If) (expr_of i) (branched i list) (simple i))

pub stmt_same : {i : Inside} {list : Form (List PlainStmt)} → InsideLL i → LL true stmt_signs stmt_signs list → Same (stmt_of i list) (stmt_joined i list)
unfolding stmt_of stmt_joined simple_joined
stmt_same {i} {list} l ls =
    same_trans (either_same (simple_same l) (either_same (same_refl _) (same_trans (same_sym (either_bracketed _ _ _)) (either_same (tested_same l ls) (same_refl _)))))
    (same_trans (crossed (named_simple i) (worded i) _ _)
    (either_same (named_same i)
    (same_trans (either_swapped _ _)
    (same_trans (either_bracketed _ _ _)
    (either_same (same_refl _) (same_trans (either_bracketed _ _ _) (either_same (same_refl _) (either_bracketed _ _ _))))))))

-- [ form { form } ] is { form }
some_or_none : {A : Type 0} (a : Form A) → Same (made none_or (optional (made first_and_more (seq a (many a))))) (many a)
unfolding made optional seq many
some_or_none {A} a = record {
  to = record {
    whole = whole;
    begun = λ ts. elim [
      | inl e ↦ ([], [], [], e, refl, inl refl)
      | inr (inl b) ↦ begun_one a ts b
      | inr (inr (x, u, v, p, w, b)) ↦ begun_more a x ts u v p w b
    ];
  };
  back = record {
    whole = elim [ [] ↦ λ ts w. (None, w, refl) | x ∷ xs ↦ λ ts w. (Some (x ∷ xs), ((x, xs), w, refl), refl) ];
    begun = begun_many a;
  };
} where
  whole : (xs : List A) (ts : List Lexeme) → (made none_or (optional (made first_and_more (seq a (many a))))).Whole xs ts → WholeEach a xs ts
  whole xs ts (None, w, e) = subst (λ ys. WholeEach a ys ts) (sym e) w
  whole xs ts (Some ys, (x, w, e'), e) = subst (λ ys. WholeEach a ys ts) (sym (e ∙ e')) w

-- a list is, one level deeper, the statements of a list whose level is open
pub list_same : (n : ℕ) → Same (list (suc n)) (items n)
unfolding list list_of stmts items stmt
list_same n = some_or_none (stmt_of (inside n) (list_of (stmts n)))

-- lookahead

pub assigned_ll : {i : Inside} → InsideLL i → LL false assigned_signs [] (assigned i)
unfolding assigned
assigned_ll l = larger_ll (seq_ll (parts_ll l) (seq_ll (one_ll _) (seq_ll (expr_of_ll l) (one_ll _) refl) refl) refl) refl refl

pub called_ll : {i : Inside} → InsideLL i → LL false called_signs [] (called i)
unfolding called
called_ll l = larger_ll (seq_ll (made_ll _ (optional_ll l.args)) (one_ll _) refl) refl refl

pub behind_name_ll : {i : Inside} → InsideLL i → LL false (assigned_signs ++ called_signs) [] (behind_name i)
unfolding behind_name
behind_name_ll l = either_ll (made_ll _ (assigned_ll l)) (made_ll _ (called_ll l)) refl refl

pub named_simple_ll : {i : Inside} → InsideLL i → LL false (signs.Name ∷ []) [] (named_simple i)
unfolding named_simple
named_simple_ll l = larger_ll (made_ll _ (seq_ll name_ll (behind_name_ll l) refl)) refl refl

pub named_ll : {i : Inside} → InsideLL i → LL false (signs.Name ∷ []) [] (named i)
unfolding named
named_ll l =
    larger_ll (made_ll _ (seq_ll name_ll (either_ll (made_ll _ (one_ll _)) (made_ll _ (behind_name_ll l)) refl refl) refl)) refl refl

pub bare_ll : (sign : Sign) (tree : ℕ → Lexeme × Lexeme → PlainStmt) → LL false (sign ∷ []) [] (made tree (seq (mark sign) (mark signs.Semicolon)))
bare_ll sign tree = made_ll _ (seq_ll (one_ll _) (one_ll _) refl)

pub valued_ll : {i : Inside} → InsideLL i → (sign : Sign) (tree : ℕ → Lexeme × (Option PlainExpr × Lexeme) → PlainStmt)
    → LL false (sign ∷ []) [] (made tree (seq (mark sign) (seq (optional (expr_of i)) (mark signs.Semicolon))))
valued_ll l sign tree = made_ll _ (seq_ll (one_ll _) (seq_ll (optional_ll (expr_of_ll l)) (one_ll _) refl) refl)

pub goto_ll : LL false (signs.Goto ∷ []) [] (made goto_tree (seq (mark signs.Goto) (seq name (mark signs.Semicolon))))
goto_ll = larger_ll (made_ll _ (seq_ll (one_ll _) (seq_ll name_ll (one_ll _) refl) refl)) refl refl

pub connect_ll : {i : Inside} → InsideLL i
    → LL false (signs.Connect ∷ []) [] (made connect_tree (seq (mark signs.Connect) (seq (place i) (seq (mark signs.With) (seq name (mark signs.Semicolon))))))
connect_ll l = larger_ll (made_ll _ (seq_ll (one_ll _) (seq_ll (place_ll l) (seq_ll (one_ll _) (seq_ll name_ll (one_ll _) refl) refl) refl) refl)) refl refl

pub worded_ll : {i : Inside} → InsideLL i → LL false worded_signs [] (worded i)
unfolding worded
worded_ll l =
    larger_ll
    (either_ll goto_ll
    (either_ll (valued_ll l _ _)
    (either_ll (bare_ll _ _)
    (either_ll (valued_ll l _ _) (either_ll (bare_ll _ _) (either_ll (bare_ll _ _) (connect_ll l) refl refl) refl refl) refl refl) refl refl) refl refl) refl refl)
    refl refl

pub simple_ll : {i : Inside} → InsideLL i → LL false simple_signs [] (simple i)
unfolding simple_joined
simple_ll l = same_ll (same_sym (simple_same l)) (larger_ll (either_ll (named_simple_ll l) (worded_ll l) refl refl) refl refl)

pub arm_ll : {i : Inside} {list : Form (List PlainStmt)} → InsideLL i → LL true stmt_signs stmt_signs list → LL false expr_signs stmt_signs (arm i list)
unfolding arm
arm_ll l ls = larger_ll (made_ll _ (seq_ll (expr_of_ll l) (seq_ll (one_ll _) ls refl) refl)) refl refl

pub branched_ll : {i : Inside} {list : Form (List PlainStmt)} → InsideLL i → LL true stmt_signs stmt_signs list
    → LL false (signs.Then ∷ []) [] (branched i list)
unfolding branched
branched_ll l ls =
    larger_ll
    (seq_ll (seq_ll (one_ll _) ls refl)
    (seq_ll (many_ll (made_ll _ (seq_ll (one_ll _) (arm_ll l ls) refl)) refl)
    (seq_ll (optional_ll (made_ll _ (seq_ll (one_ll _) ls refl))) (one_ll _) refl) refl) refl)
    refl refl

pub tested_ll : {i : Inside} {list : Form (List PlainStmt)} → InsideLL i → LL true stmt_signs stmt_signs list → LL false (signs.If ∷ []) [] (tested i list)
unfolding tested
tested_ll l ls =
    larger_ll
    (made_ll _
    (seq_ll (one_ll _) (seq_ll (expr_of_ll l) (either_ll (made_ll _ (branched_ll l ls)) (made_ll _ (simple_ll l)) refl refl) refl) refl))
    refl refl

pub loop_for_ll : {i : Inside} {list : Form (List PlainStmt)} → InsideLL i → LL true stmt_signs stmt_signs list → LL false (signs.For ∷ []) [] (loop_for i list)
unfolding loop_for
loop_for_ll l ls =
    let e = expr_of_ll l in
    larger_ll
    (made_ll _
    (seq_ll (one_ll _)
    (seq_ll name_ll
    (seq_ll (made_ll _ (seq_ll (one_ll _) e refl))
    (seq_ll (made_ll _ (seq_ll (one_ll _) e refl))
    (seq_ll (optional_ll (made_ll _ (seq_ll (one_ll _) e refl))) (seq_ll (made_ll _ (seq_ll (one_ll _) ls refl)) (one_ll _) refl) refl) refl) refl) refl) refl))
    refl refl

pub loop_while_ll : {i : Inside} {list : Form (List PlainStmt)} → InsideLL i → LL true stmt_signs stmt_signs list
    → LL false (signs.While ∷ []) [] (loop_while i list)
unfolding loop_while
loop_while_ll l ls =
    larger_ll (made_ll _ (seq_ll (one_ll _) (seq_ll (expr_of_ll l) (seq_ll (made_ll _ (seq_ll (one_ll _) ls refl)) (one_ll _) refl) refl) refl)) refl refl

pub case_ll : {i : Inside} {list : Form (List PlainStmt)} → InsideLL i → LL true stmt_signs stmt_signs list → LL false expr_signs stmt_signs (case i list)
unfolding case
case_ll l ls = larger_ll (made_ll _ (seq_ll (exprs_ll (expr_of_ll l)) (seq_ll (one_ll _) ls refl) refl)) refl refl

pub choice_ll : {i : Inside} {list : Form (List PlainStmt)} → InsideLL i → LL true stmt_signs stmt_signs list → LL false (signs.Test ∷ []) [] (choice i list)
unfolding choice
choice_ll l ls =
    larger_ll
    (made_ll _
    (seq_ll (one_ll _)
    (seq_ll (expr_of_ll l)
    (seq_ll (many_ll (made_ll _ (seq_ll (one_ll _) (case_ll l ls) refl)) refl)
    (seq_ll (optional_ll (made_ll _ (seq_ll (one_ll _) (made_ll _ (seq_ll (one_ll _) ls refl)) refl))) (one_ll _) refl) refl) refl) refl))
    refl refl

pub stmt_of_ll : {i : Inside} {list : Form (List PlainStmt)} → InsideLL i → LL true stmt_signs stmt_signs list → LL false stmt_signs [] (stmt_of i list)
unfolding stmt_joined
stmt_of_ll l ls =
    same_ll (same_sym (stmt_same l ls))
    (larger_ll
    (either_ll (named_ll l)
    (either_ll (tested_ll l ls)
    (either_ll (loop_for_ll l ls) (either_ll (loop_while_ll l ls) (either_ll (choice_ll l ls) (worded_ll l) refl refl) refl refl) refl refl) refl refl) refl refl)
    refl refl)

pub list_of_ll : {some : Form (List PlainStmt)} → LL false stmt_signs stmt_signs some → LL true stmt_signs stmt_signs (list_of some)
unfolding list_of
list_of_ll l = larger_ll (made_ll _ (optional_ll l)) refl refl

pub stmts_ll : (n : ℕ) → LL false stmt_signs stmt_signs (stmts n)
unfolding stmts
stmts_ll zero = nothing_ll
stmts_ll (suc n) =
    let s = stmt_of_ll (inside_ll n) (list_of_ll (stmts_ll n)) in
    larger_ll (made_ll _ (seq_ll s (many_ll s refl) refl)) refl refl

pub list_ll : (n : ℕ) → LL true stmt_signs stmt_signs (list n)
unfolding list
list_ll n = list_of_ll (stmts_ll n)

pub stmt_ll : (n : ℕ) → LL false stmt_signs [] (stmt n)
unfolding stmt
stmt_ll n = stmt_of_ll (inside_ll n) (list_ll n)

pub items_ll : (n : ℕ) → LL true stmt_signs stmt_signs (items n)
unfolding items
items_ll n = larger_ll (many_ll (stmt_ll n) refl) refl refl

-- from one level to higher ones

pub simple_up : {i j : Inside} → InsideUp i j → Up (simple i) (simple j)
unfolding simple
simple_up p =
    let e = expr_of_up p in
    either_up (made_up _ (seq_up (place_up p) (seq_up (up_refl _) (seq_up e (up_refl _)))))
    (either_up (made_up _ (seq_up (up_refl _) (seq_up (made_up _ (optional_up p.args)) (up_refl _))))
    (either_up (up_refl _)
    (either_up (made_up _ (seq_up (up_refl _) (seq_up (optional_up e) (up_refl _))))
    (either_up (up_refl _)
    (either_up (made_up _ (seq_up (up_refl _) (seq_up (optional_up e) (up_refl _))))
    (either_up (up_refl _) (either_up (up_refl _) (made_up _ (seq_up (up_refl _) (seq_up (place_up p) (up_refl _)))))))))))

pub arm_up : {i j : Inside} {list list' : Form (List PlainStmt)} → InsideUp i j → Up list list' → Up (arm i list) (arm j list')
unfolding arm
arm_up p q = made_up _ (seq_up (expr_of_up p) (seq_up (up_refl _) q))

pub branches_up : {i j : Inside} {list list' : Form (List PlainStmt)} → InsideUp i j → Up list list' → Up (branches i list) (branches j list')
unfolding branches
branches_up p q =
    made_up _
    (seq_up (up_refl _)
    (seq_up (arm_up p q)
    (seq_up (many_up (made_up _ (seq_up (up_refl _) (arm_up p q)))) (seq_up (optional_up (made_up _ (seq_up (up_refl _) q))) (up_refl _)))))

pub loop_for_up : {i j : Inside} {list list' : Form (List PlainStmt)} → InsideUp i j → Up list list' → Up (loop_for i list) (loop_for j list')
unfolding loop_for
loop_for_up p q =
    let e = expr_of_up p in
    made_up _
    (seq_up (up_refl _)
    (seq_up (up_refl _)
    (seq_up (made_up _ (seq_up (up_refl _) e))
    (seq_up (made_up _ (seq_up (up_refl _) e))
    (seq_up (optional_up (made_up _ (seq_up (up_refl _) e))) (seq_up (made_up _ (seq_up (up_refl _) q)) (up_refl _)))))))

pub loop_while_up : {i j : Inside} {list list' : Form (List PlainStmt)} → InsideUp i j → Up list list' → Up (loop_while i list) (loop_while j list')
unfolding loop_while
loop_while_up p q = made_up _ (seq_up (up_refl _) (seq_up (expr_of_up p) (seq_up (made_up _ (seq_up (up_refl _) q)) (up_refl _))))

pub case_up : {i j : Inside} {list list' : Form (List PlainStmt)} → InsideUp i j → Up list list' → Up (case i list) (case j list')
unfolding case
case_up p q = made_up _ (seq_up (exprs_up (expr_of_up p)) (seq_up (up_refl _) q))

pub choice_up : {i j : Inside} {list list' : Form (List PlainStmt)} → InsideUp i j → Up list list' → Up (choice i list) (choice j list')
unfolding choice
choice_up p q =
    made_up _
    (seq_up (up_refl _)
    (seq_up (expr_of_up p)
    (seq_up (many_up (made_up _ (seq_up (up_refl _) (case_up p q))))
    (seq_up (optional_up (made_up _ (seq_up (up_refl _) (made_up _ (seq_up (up_refl _) q))))) (up_refl _)))))

pub stmt_of_up : {i j : Inside} {list list' : Form (List PlainStmt)} → InsideUp i j → Up list list' → Up (stmt_of i list) (stmt_of j list')
unfolding stmt_of
stmt_of_up p q =
    either_up (simple_up p)
    (either_up (up_refl _)
    (either_up (branches_up p q)
    (either_up (made_up _ (seq_up (up_refl _) (seq_up (expr_of_up p) (simple_up p)))) (either_up (loop_for_up p q) (either_up (loop_while_up p q) (choice_up p q))))))

pub list_of_up : {some some' : Form (List PlainStmt)} → Up some some' → Up (list_of some) (list_of some')
unfolding list_of
list_of_up p = made_up _ (optional_up p)

pub stmts_up : (n : ℕ) → Up (stmts n) (stmts (suc n))
unfolding stmts
stmts_up zero = nothing_up _ (stmts_ll 1).start
stmts_up (suc n) = let p = stmt_of_up (inside_up n) (list_of_up (stmts_up n)) in made_up _ (seq_up p (many_up p))

pub list_up : (n : ℕ) → Up (list n) (list (suc n))
unfolding list
list_up n = list_of_up (stmts_up n)

pub stmt_up : (n : ℕ) → Up (stmt n) (stmt (suc n))
unfolding stmt
stmt_up n = stmt_of_up (inside_up n) (list_up n)

pub items_up : (n : ℕ) → Up (items n) (items (suc n))
unfolding items
items_up n = many_up (stmt_up n)

-- first signs that can start a form

simple_opens : Opens simple_signs (λ n. simple (inside n))
unfolding simple place
simple_opens =
    fewer_opens
    (either_opens (made_opens _ (seq_opens _ (made_opens _ (seq_opens _ name_opens))))
    (either_opens (made_opens _ (seq_opens _ name_opens))
    (either_opens (made_opens _ (seq_opens _ (one_opens _)))
    (either_opens (made_opens _ (seq_opens _ (one_opens _)))
    (either_opens (made_opens _ (seq_opens _ (one_opens _)))
    (either_opens (made_opens _ (seq_opens _ (one_opens _)))
    (either_opens (made_opens _ (seq_opens _ (one_opens _)))
    (either_opens (made_opens _ (seq_opens _ (one_opens _))) (made_opens _ (seq_opens _ (one_opens _)))))))))))
    refl

pub stmt_opens : Opens stmt_signs stmt
unfolding stmt stmt_of branches loop_for loop_while choice
stmt_opens =
    fewer_opens
    (either_opens simple_opens
    (either_opens (made_opens _ (seq_opens _ name_opens))
    (either_opens (made_opens _ (seq_opens _ (one_opens _)))
    (either_opens (made_opens _ (seq_opens _ (one_opens _)))
    (either_opens (made_opens _ (seq_opens _ (one_opens _)))
    (either_opens (made_opens _ (seq_opens _ (one_opens _))) (made_opens _ (seq_opens _ (one_opens _)))))))))
    refl

pub stmts_opens : Opens stmt_signs stmts
unfolding stmts stmt list
stmts_opens = deeper_opens stmts (made_opens _ (seq_opens _ stmt_opens))
