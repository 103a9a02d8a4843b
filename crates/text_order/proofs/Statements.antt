-- Statements, and lists of them, start at their tokens.
use Rattle.std.proofs.Common.{◌≡◌, ℕ, zero, suc, List, [], ◌∷◌, ◌++◌, flat_map, Option, Some, None, refl, ap, sym, ◌∙◌}
use Rattle.std.proofs.lemmas.List.{append_assoc, append-nil}
use Rattle.rapid_lexer.specs.Tokens.{Lexeme}
use Rattle.raw_trees.specs.Plain.{PlainName, PlainExpr, PlainStmt, arms_of, cases_of, else_of, stmts_of}
use Rattle.rapid_forms.specs.declared.sign.Sign.{Sign}
use Rattle.rapid_forms.specs.declared.sign.Sign.TheVariants as signs
use Rattle.rapid_forms.specs.Forms.{Form, first_byte, one, seq, optional, many, made, nothing}
use Rattle.expr_parser.specs.Grammar.{Inside, inside, mark, name, name_tree, place, place_tree, parts_of, exprs, expr_of, behind, none_or, first_and_more}
use Rattle.stmt_parser.specs.Grammar.{assign_tree, call_tree, goto_tree, return_tree, exit_tree, raise_tree, retry_tree, try_next_tree, connect_tree, label_tree, arm_tree, if_tree, if_one_tree, for_tree, while_tree, case_tree, test_tree, simple, arm, branches, loop_for, loop_while, case, choice, stmt_of, list_of, stmts, list}
use Rattle.text_order.specs.Stated.{byte_of, stated, stated_in, stated_in_arms, stated_in_cases, stated_in_else}
use Rattle.text_order.proofs.Stands.{IsNamedHere, Leads, Stands, in_option, none_in, none_stand, one_leads, seq_stand, seq_leads, either_stand, optional_stand, many_stand, made_stand, made_leads, statement_stands}

abbrev pub in_list : List PlainStmt → List PlainStmt
in_list list = stated_in (stmts_of list)

abbrev pub in_arm : PlainExpr × List PlainStmt → List PlainStmt
in_arm a = in_list a.1

abbrev in_case : List PlainExpr × List PlainStmt → List PlainStmt
in_case c = in_list c.1

-- what is in trees of lists
pub list_same : (list : List PlainStmt) → in_list list ≡ flat_map stated list
list_same [] = refl
list_same (s ∷ ss) = ap (λ rest. stated s ++ rest) (list_same ss)

arms_same : (arms : List (PlainExpr × List PlainStmt)) → stated_in_arms (arms_of arms) ≡ flat_map in_arm arms
arms_same [] = refl
arms_same (a ∷ arms) = ap (λ rest. in_arm a ++ rest) (arms_same arms)

cases_same : (cases : List (List PlainExpr × List PlainStmt)) → stated_in_cases (cases_of cases) ≡ flat_map in_case cases
cases_same [] = refl
cases_same (c ∷ cases) = ap (λ rest. in_case c ++ rest) (cases_same cases)

pub else_same : (other : Option (List PlainStmt)) → stated_in_else (else_of other) ≡ in_option in_list other
else_same None = refl
else_same (Some list) = refl

pub name_leads : Leads name none_in
unfolding name
name_leads = made_leads name_tree (mark signs.Name) none_in none_in (λ at x. refl) (one_leads (signs.Name ∷ []))

place_leads : (i : Inside) → Leads (place i) none_in
unfolding place
place_leads i = made_leads place_tree (seq name (parts_of i)) none_in none_in (λ at x. refl) (seq_leads name (parts_of i) none_in none_in name_leads (none_stand (parts_of i)))

-- a word, and after it a form
pub word_leads : {B : Type 0} (sign : Sign) (g : Form B) (in_g : B → List PlainStmt) → Stands g in_g → Leads (seq (mark sign) g) (λ x. in_g x.1)
word_leads sign g in_g stands = seq_leads (mark sign) g none_in in_g (one_leads (sign ∷ [])) stands

pub behind_stand : {B : Type 0} (sign : Sign) (g : Form B) (in_g : B → List PlainStmt) → Stands g in_g → Stands (made behind (seq (mark sign) g)) in_g
behind_stand sign g in_g stands = made_stand behind (seq (mark sign) g) (λ x. in_g x.1) in_g (λ at x. refl) (seq_stand (mark sign) g none_in in_g (none_stand (mark sign)) stands)

-- a statement without others in it
bare_stands : {A : Type 0} (tree : ℕ → A → PlainStmt) (f : Form A) → ((at : ℕ) (x : A) → stated (tree at x) ≡ tree at x ∷ []) → ((at : ℕ) (x : A) → byte_of (tree at x) ≡ at)
    → ((x : A) (ts : List Lexeme) → f.Whole x ts → IsNamedHere (tree (first_byte ts) x)) → Leads f none_in → Stands (made tree f) stated
bare_stands tree f same begins named leads = statement_stands tree f none_in same begins named leads

word_only : {B : Type 0} (sign : Sign) (g : Form B) → Leads (seq (mark sign) g) none_in
word_only sign g = word_leads sign g none_in (none_stand g)

name_only : {B : Type 0} (g : Form B) → Leads (seq name g) none_in
name_only g = seq_leads name g none_in none_in name_leads (none_stand g)

simple_stands : (i : Inside) → Stands (simple i) stated
unfolding simple
simple_stands i =
    let end = mark signs.Semicolon in
    let e = expr_of i in
    let assign = seq (place i) (seq (mark signs.Assign) (seq e end)) in
    let call = seq name (seq (made none_or (optional i.args)) end) in
    let goto = seq (mark signs.Goto) (seq name end) in
    let return = seq (mark signs.Return) (seq (optional e) end) in
    let exit = seq (mark signs.Exit) end in
    let raise = seq (mark signs.Raise) (seq (optional e) end) in
    let retry = seq (mark signs.Retry) end in
    let try_next = seq (mark signs.TryNext) end in
    let connect = seq (mark signs.Connect) (seq (place i) (seq (mark signs.With) (seq name end))) in
    either_stand (made assign_tree assign) _ stated
    (bare_stands assign_tree assign (λ at x. refl) (λ at x. refl) (λ x ts w. tt) (seq_leads (place i) (seq (mark signs.Assign) (seq e end)) none_in none_in (place_leads i) (none_stand (seq (mark signs.Assign) (seq e end)))))
    (either_stand (made call_tree call) _ stated (bare_stands call_tree call (λ at x. refl) (λ at x. refl) (λ x ts w. tt) (name_only (seq (made none_or (optional i.args)) end)))
    (either_stand (made goto_tree goto) _ stated (bare_stands goto_tree goto (λ at x. refl) (λ at x. refl) (λ x ts w. tt) (word_only signs.Goto (seq name end)))
    (either_stand (made return_tree return) _ stated (bare_stands return_tree return (λ at x. refl) (λ at x. refl) (λ x ts w. tt) (word_only signs.Return (seq (optional e) end)))
    (either_stand (made exit_tree exit) _ stated (bare_stands exit_tree exit (λ at x. refl) (λ at x. refl) (λ x ts w. tt) (word_only signs.Exit end))
    (either_stand (made raise_tree raise) _ stated (bare_stands raise_tree raise (λ at x. refl) (λ at x. refl) (λ x ts w. tt) (word_only signs.Raise (seq (optional e) end)))
    (either_stand (made retry_tree retry) _ stated (bare_stands retry_tree retry (λ at x. refl) (λ at x. refl) (λ x ts w. tt) (word_only signs.Retry end))
    (either_stand (made try_next_tree try_next) (made connect_tree connect) stated
    (bare_stands try_next_tree try_next (λ at x. refl) (λ at x. refl) (λ x ts w. tt) (word_only signs.TryNext end))
    (bare_stands connect_tree connect (λ at x. refl) (λ at x. refl) (λ x ts w. tt) (word_only signs.Connect (seq (place i) (seq (mark signs.With) (seq name end))))))))))))

-- a label's name is its first token
label_named : (x : PlainName × Lexeme) (ts : List Lexeme) → (seq name (mark signs.Colon)).Whole x ts → x.0.at ≡ first_byte ts
unfolding seq name made one
label_named x ts whole =
    let (u, v, e, is, also) = whole in
    let (t, one_is, made_is) = is in
    ap (λ (n : PlainName). n.at) made_is ∙ ap first_byte one_is.0 ∙ sym (ap first_byte (e ∙ ap (λ us. us ++ v) one_is.0))

module _ (i : Inside) (lists : Form (List PlainStmt)) (stand : Stands lists in_list) where
  arm_stands : Stands (arm i lists) in_arm
  unfolding arm
  arm_stands =
      let e = expr_of i in
      made_stand arm_tree (seq e (seq (mark signs.Then) lists)) (λ x. in_list x.1.1) in_arm (λ at x. refl)
      (seq_stand e (seq (mark signs.Then) lists) none_in (λ x. in_list x.1) (none_stand e) (seq_stand (mark signs.Then) lists none_in in_list (none_stand (mark signs.Then)) stand))

  case_stands : Stands (case i lists) in_case
  unfolding case
  case_stands =
      let es = exprs (expr_of i) in
      made_stand case_tree (seq es (seq (mark signs.Colon) lists)) (λ x. in_list x.1.1) in_case (λ at x. refl)
      (seq_stand es (seq (mark signs.Colon) lists) none_in (λ x. in_list x.1) (none_stand es) (seq_stand (mark signs.Colon) lists none_in in_list (none_stand (mark signs.Colon)) stand))

  branches_stand : Stands (branches i lists) stated
  unfolding branches
  branches_stand =
      let first = arm i lists in
      let more = many (made behind (seq (mark signs.ElseIf) (arm i lists))) in
      let other = optional (made behind (seq (mark signs.Else) lists)) in
      let end = mark signs.EndIf in
      statement_stands if_tree (seq (mark signs.If) (seq first (seq more (seq other end)))) (λ x. in_arm x.1.0 ++ (flat_map in_arm x.1.1.0 ++ (in_option in_list x.1.1.1.0 ++ []))) if_same (λ at x. refl) (λ x ts w. tt)
      (word_leads signs.If (seq first (seq more (seq other end))) (λ x. in_arm x.0 ++ (flat_map in_arm x.1.0 ++ (in_option in_list x.1.1.0 ++ [])))
      (seq_stand first (seq more (seq other end)) in_arm (λ x. flat_map in_arm x.0 ++ (in_option in_list x.1.0 ++ [])) arm_stands
      (seq_stand more (seq other end) (λ x. flat_map in_arm x) (λ x. in_option in_list x.0 ++ []) (many_stand (made behind (seq (mark signs.ElseIf) (arm i lists))) in_arm (behind_stand signs.ElseIf (arm i lists) in_arm arm_stands))
      (seq_stand other end (in_option in_list) none_in (optional_stand (made behind (seq (mark signs.Else) lists)) in_list (behind_stand signs.Else lists in_list stand)) (none_stand end)))))
    where
      if_same : (at : ℕ) (x : Lexeme × ((PlainExpr × List PlainStmt) × (List (PlainExpr × List PlainStmt) × (Option (List PlainStmt) × Lexeme)))) → stated (if_tree at x) ≡ if_tree at x ∷ (in_arm x.1.0 ++ (flat_map in_arm x.1.1.0 ++ (in_option in_list x.1.1.1.0 ++ [])))
      if_same at x =
          ap (λ ss. if_tree at x ∷ ss)
          (append_assoc (in_arm x.1.0) (stated_in_arms (arms_of x.1.1.0)) (stated_in_else (else_of x.1.1.1.0))
          ∙ ap (λ ss. in_arm x.1.0 ++ (ss ++ stated_in_else (else_of x.1.1.1.0))) (arms_same x.1.1.0)
          ∙ ap (λ ss. in_arm x.1.0 ++ (flat_map in_arm x.1.1.0 ++ ss)) (else_same x.1.1.1.0 ∙ sym (append-nil (in_option in_list x.1.1.1.0))))

  for_stands : Stands (loop_for i lists) stated
  unfolding loop_for
  for_stands =
      let from = made behind (seq (mark signs.From) (expr_of i)) in
      let to = made behind (seq (mark signs.To) (expr_of i)) in
      let step = optional (made behind (seq (mark signs.Step) (expr_of i))) in
      let do_list = made behind (seq (mark signs.Do) lists) in
      let end = mark signs.EndFor in
      statement_stands for_tree (seq (mark signs.For) (seq name (seq from (seq to (seq step (seq do_list end)))))) (λ x. in_list x.1.1.1.1.1.0 ++ [])
      (λ at x. ap (λ ss. for_tree at x ∷ ss) (sym (append-nil (in_list x.1.1.1.1.1.0)))) (λ at x. refl) (λ x ts w. tt)
      (word_leads signs.For (seq name (seq from (seq to (seq step (seq do_list end))))) (λ x. in_list x.1.1.1.1.0 ++ [])
      (seq_stand name (seq from (seq to (seq step (seq do_list end)))) none_in (λ x. in_list x.1.1.1.0 ++ []) (none_stand name)
      (seq_stand from (seq to (seq step (seq do_list end))) none_in (λ x. in_list x.1.1.0 ++ []) (none_stand from)
      (seq_stand to (seq step (seq do_list end)) none_in (λ x. in_list x.1.0 ++ []) (none_stand to)
      (seq_stand step (seq do_list end) none_in (λ x. in_list x.0 ++ []) (none_stand step) (seq_stand do_list end in_list none_in (behind_stand signs.Do lists in_list stand) (none_stand end)))))))

  while_stands : Stands (loop_while i lists) stated
  unfolding loop_while
  while_stands =
      let e = expr_of i in
      let do_list = made behind (seq (mark signs.Do) lists) in
      let end = mark signs.EndWhile in
      statement_stands while_tree (seq (mark signs.While) (seq e (seq do_list end))) (λ x. in_list x.1.1.0 ++ [])
      (λ at x. ap (λ ss. while_tree at x ∷ ss) (sym (append-nil (in_list x.1.1.0)))) (λ at x. refl) (λ x ts w. tt)
      (word_leads signs.While (seq e (seq do_list end)) (λ x. in_list x.1.0 ++ [])
      (seq_stand e (seq do_list end) none_in (λ x. in_list x.0 ++ []) (none_stand e) (seq_stand do_list end in_list none_in (behind_stand signs.Do lists in_list stand) (none_stand end))))

  choice_stands : Stands (choice i lists) stated
  unfolding choice
  choice_stands =
      let e = expr_of i in
      let cases = many (made behind (seq (mark signs.Case) (case i lists))) in
      let default = made behind (seq (mark signs.Default) (made behind (seq (mark signs.Colon) lists))) in
      let other = optional default in
      let end = mark signs.EndTest in
      statement_stands test_tree (seq (mark signs.Test) (seq e (seq cases (seq other end)))) (λ x. flat_map in_case x.1.1.0 ++ (in_option in_list x.1.1.1.0 ++ [])) test_same (λ at x. refl) (λ x ts w. tt)
      (word_leads signs.Test (seq e (seq cases (seq other end))) (λ x. flat_map in_case x.1.0 ++ (in_option in_list x.1.1.0 ++ []))
      (seq_stand e (seq cases (seq other end)) none_in (λ x. flat_map in_case x.0 ++ (in_option in_list x.1.0 ++ [])) (none_stand e)
      (seq_stand cases (seq other end) (λ x. flat_map in_case x) (λ x. in_option in_list x.0 ++ []) (many_stand (made behind (seq (mark signs.Case) (case i lists))) in_case (behind_stand signs.Case (case i lists) in_case case_stands))
      (seq_stand other end (in_option in_list) none_in
      (optional_stand default in_list (behind_stand signs.Default (made behind (seq (mark signs.Colon) lists)) in_list (behind_stand signs.Colon lists in_list stand))) (none_stand end)))))
    where
      test_same : (at : ℕ) (x : Lexeme × (PlainExpr × (List (List PlainExpr × List PlainStmt) × (Option (List PlainStmt) × Lexeme)))) → stated (test_tree at x) ≡ test_tree at x ∷ (flat_map in_case x.1.1.0 ++ (in_option in_list x.1.1.1.0 ++ []))
      test_same at x =
          ap (λ ss. test_tree at x ∷ ss)
          (ap (λ ss. ss ++ stated_in_else (else_of x.1.1.1.0)) (cases_same x.1.1.0)
          ∙ ap (λ ss. flat_map in_case x.1.1.0 ++ ss) (else_same x.1.1.1.0 ∙ sym (append-nil (in_option in_list x.1.1.1.0))))

  if_one_stands : Stands (made if_one_tree (seq (mark signs.If) (seq (expr_of i) (simple i)))) stated
  if_one_stands =
      let e = expr_of i in
      statement_stands if_one_tree (seq (mark signs.If) (seq e (simple i))) (λ x. stated x.1.1) (λ at x. refl) (λ at x. refl) (λ x ts w. tt)
      (word_leads signs.If (seq e (simple i)) (λ x. stated x.1) (seq_stand e (simple i) none_in stated (none_stand e) (simple_stands i)))

  label_stands : Stands (made label_tree (seq name (mark signs.Colon))) stated
  label_stands = statement_stands label_tree (seq name (mark signs.Colon)) none_in (λ at x. refl) (λ at x. refl) label_named (name_only (mark signs.Colon))

  stmt_stands : Stands (stmt_of i lists) stated
  unfolding stmt_of
  stmt_stands =
      either_stand (simple i) _ stated (simple_stands i)
      (either_stand (made label_tree (seq name (mark signs.Colon))) _ stated label_stands
      (either_stand (branches i lists) _ stated branches_stand
      (either_stand (made if_one_tree (seq (mark signs.If) (seq (expr_of i) (simple i)))) _ stated if_one_stands
      (either_stand (loop_for i lists) _ stated for_stands
      (either_stand (loop_while i lists) (choice i lists) stated while_stands choice_stands)))))

none_or_same : (at : ℕ) (o : Option (List PlainStmt)) → in_list (none_or at o) ≡ in_option in_list o
none_or_same at None = refl
none_or_same at (Some list) = refl

list_of_stands : (some : Form (List PlainStmt)) → Stands some in_list → Stands (list_of some) in_list
unfolding list_of
list_of_stands some stand = made_stand none_or (optional some) (in_option in_list) in_list none_or_same (optional_stand some in_list stand)

stmts_stand : (n : ℕ) → Stands (stmts n) in_list
unfolding stmts nothing
stmts_stand zero x ts whole = absurd whole
stmts_stand (suc n) x ts whole =
    let one_stmt = stmt_of (inside n) (list_of (stmts n)) in
    let one_stands = stmt_stands (inside n) (list_of (stmts n)) (list_of_stands (stmts n) (stmts_stand n)) in
    made_stand first_and_more (seq one_stmt (many one_stmt)) (λ y. stated y.0 ++ flat_map stated y.1) in_list (λ at y. ap (λ ss. stated y.0 ++ ss) (list_same y.1))
    (seq_stand one_stmt (many one_stmt) stated (λ xs. flat_map stated xs) one_stands (many_stand one_stmt stated one_stands)) x ts whole

-- a list of statements
pub list_stands : (n : ℕ) → Stands (list n) in_list
unfolding list
list_stands n = list_of_stands (stmts n) (stmts_stand n)
