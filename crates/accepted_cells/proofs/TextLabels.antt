-- The labels of a routine that a text spells stand at different bytes.
use Rattle.std.proofs.Common.{◌≡◌, ℕ, zero, suc, List, [], ◌∷◌, ◌++◌, Option, Some, None, Ok, refl, sym, ap, subst, ◌∙◌, append_assoc}
use Rattle.std.specs.List.{All}
use Rattle.std.proofs.Math.Logic.{⊎_elim}
use Rattle.std.proofs.lemmas.List.Elements.{All-append, All-cons, All-head, All-nil, All-tail, All-weaker}
use Rattle.raw_trees.specs.Plain.{PlainExpr, PlainItem, PlainModule, PlainName, PlainStmt, Datum, Routine, arms_of, cases_of, else_of, stmts_of}
use Rattle.rapid_lexer.specs.Tokens.{Lexeme}
use Rattle.rapid_forms.specs.Forms.{Form, WholeEach, either, first_byte, made, many, nothing, one, seq}
use Rattle.expr_parser.specs.Grammar.{Inside, behind, first_and_more, inside, name, none_or}
use Rattle.stmt_parser.specs.Grammar.{arm, arm_tree, branches, case, case_tree, choice, for_tree, if_one_tree, if_tree, label_tree, list, list_of, loop_for, loop_while, simple, stmt_of, stmts, test_tree, while_tree}
use Rattle.module_parser.specs.Grammar.{Body, body, func_tree, item, proc_tree, routine, trap_tree, «module»}
use Rattle.module_parser.specs.Modules.{ModuleText}
use Rattle.stmt_types.specs.Labels.{labels_in, labels_in_arms, labels_in_cases, labels_in_else, labels_in_routine, labels_of}
use Rattle.task_types.specs.Task.{routines_in, routines_of}
use Rattle.name_laws.specs.Jumps.{LabelsApart}
use Rattle.accepted_cells.specs.Accepted.{AreRead}
use Rattle.accepted_cells.proofs.Ascending.{Ascend, Each, Under, apart, both, bytes_of, former, halves, latter, made_of, none_under, one_of, perhaps, places, some_of, tiled}

-- a label's name stands at its token
named : Each name (λ l. l ∷ [])
unfolding name made one
named l ts (t, (is, sign), is_name) low high h =
    let there : Ascend low (t.at ∷ []) high = subst (λ x. Ascend low (places x) high) is h in
    let same : t.at ≡ l.at = ap first_byte (sym is) ∙ ap (λ (x : PlainName). x.at) (sym is_name) in
    subst (λ at. Ascend low (at ∷ []) high) same there

abbrev labels_of_list : List PlainStmt → List PlainName
labels_of_list list = labels_in (stmts_of list)

abbrev labels_of_part : Option (List PlainStmt) → List PlainName
labels_of_part part = labels_in_else (else_of part)

simple_none : (i : Inside) (s : PlainStmt) (ts : List Lexeme) → (simple i).Whole s ts → labels_of s ≡ []
unfolding simple either made
simple_none i s ts h =
    ⊎_elim (λ (x, whole, is). ap labels_of is)
    (λ h. ⊎_elim (λ (x, whole, is). ap labels_of is)
    (λ h. ⊎_elim (λ (x, whole, is). ap labels_of is)
    (λ h. ⊎_elim (λ (x, whole, is). ap labels_of is)
    (λ h. ⊎_elim (λ (x, whole, is). ap labels_of is)
    (λ h. ⊎_elim (λ (x, whole, is). ap labels_of is)
    (λ h. ⊎_elim (λ (x, whole, is). ap labels_of is)
    (λ h. ⊎_elim (λ (x, whole, is). ap labels_of is) (λ (x, whole, is). ap labels_of is) h) h) h) h) h) h) h) h

simple_each : (i : Inside) → Each (simple i) labels_of
simple_each i s ts whole = subst (λ l. Under l ts) (sym (simple_none i s ts whole)) (none_under ts)

-- statements with a form within their lists
module _ (i : Inside) (inner : Form (List PlainStmt)) (are : Each inner labels_of_list) where
  abbrev of_arm : PlainExpr × List PlainStmt → List PlainName
  of_arm a = labels_of_list a.1

  abbrev of_case : List PlainExpr × List PlainStmt → List PlainName
  of_case c = labels_of_list c.1

  -- a word, and then a list
  worded : {A : Type 0} (word : Form A) → Each (made behind (seq word inner)) labels_of_list
  worded word = made_of (seq word inner) behind (λ x. labels_of_list x.1) labels_of_list (λ at x. refl) (latter word inner labels_of_list are)

  arm_each : Each (arm i inner) of_arm
  unfolding arm
  arm_each = made_of _ arm_tree (λ x. labels_of_list x.1.1) of_arm (λ at x. refl) (latter _ _ (λ x. labels_of_list x.1) (latter _ _ labels_of_list are))

  case_each : Each (case i inner) of_case
  unfolding case
  case_each = made_of _ case_tree (λ x. labels_of_list x.1.1) of_case (λ at x. refl) (latter _ _ (λ x. labels_of_list x.1) (latter _ _ labels_of_list are))

  branches_each : Each (branches i inner) labels_of
  unfolding branches
  branches_each =
      made_of _ if_tree (λ x. of_arm x.1.0 ++ (labels_in_arms (arms_of x.1.1.0) ++ labels_of_part x.1.1.1.0)) labels_of
      (λ at x. sym (append_assoc (of_arm x.1.0) (labels_in_arms (arms_of x.1.1.0)) (labels_of_part x.1.1.1.0)))
      (latter _ _ (λ x. of_arm x.0 ++ (labels_in_arms (arms_of x.1.0) ++ labels_of_part x.1.1.0))
      (both _ _ of_arm (λ x. labels_in_arms (arms_of x.0) ++ labels_of_part x.1.0) arm_each
      (both _ _ (λ more. labels_in_arms (arms_of more)) (λ x. labels_of_part x.0)
      (some_of _ of_arm (λ more. labels_in_arms (arms_of more)) refl (λ x xs. refl) (made_of _ behind (λ x. of_arm x.1) of_arm (λ at x. refl) (latter _ _ of_arm arm_each)))
      (former _ _ labels_of_part (perhaps _ labels_of_list labels_of_part refl (λ x. refl) (worded _))))))

  for_each : Each (loop_for i inner) labels_of
  unfolding loop_for
  for_each =
      made_of _ for_tree (λ x. labels_of_list x.1.1.1.1.1.0) labels_of (λ at x. refl)
      (latter _ _ (λ x. labels_of_list x.1.1.1.1.0)
      (latter _ _ (λ x. labels_of_list x.1.1.1.0)
      (latter _ _ (λ x. labels_of_list x.1.1.0)
      (latter _ _ (λ x. labels_of_list x.1.0)
      (latter _ _ (λ x. labels_of_list x.0)
      (former _ _ labels_of_list (worded _)))))))

  while_each : Each (loop_while i inner) labels_of
  unfolding loop_while
  while_each =
      made_of _ while_tree (λ x. labels_of_list x.1.1.0) labels_of (λ at x. refl)
      (latter _ _ (λ x. labels_of_list x.1.0) (latter _ _ (λ x. labels_of_list x.0) (former _ _ labels_of_list (worded _))))

  choice_each : Each (choice i inner) labels_of
  unfolding choice
  choice_each =
      made_of _ test_tree (λ x. labels_in_cases (cases_of x.1.1.0) ++ labels_of_part x.1.1.1.0) labels_of (λ at x. refl)
      (latter _ _ (λ x. labels_in_cases (cases_of x.1.0) ++ labels_of_part x.1.1.0)
      (latter _ _ (λ x. labels_in_cases (cases_of x.0) ++ labels_of_part x.1.0)
      (both _ _ (λ more. labels_in_cases (cases_of more)) (λ x. labels_of_part x.0)
      (some_of _ of_case (λ more. labels_in_cases (cases_of more)) refl (λ x xs. refl) (made_of _ behind (λ x. of_case x.1) of_case (λ at x. refl) (latter _ _ of_case case_each)))
      (former _ _ labels_of_part (perhaps _ labels_of_list labels_of_part refl (λ x. refl)
      (made_of _ behind (λ x. labels_of_list x.1) labels_of_list (λ at x. refl) (latter _ _ labels_of_list (worded _))))))))

  stmt_each : Each (stmt_of i inner) labels_of
  unfolding stmt_of
  stmt_each =
      one_of _ _ labels_of (simple_each i)
      (one_of _ _ labels_of (made_of _ label_tree (λ x. x.0 ∷ []) labels_of (λ at x. refl) (former _ _ (λ l. l ∷ []) named))
      (one_of _ _ labels_of branches_each
      (one_of _ _ labels_of (made_of _ if_one_tree (λ x. labels_of x.1.1) labels_of (λ at x. refl) (latter _ _ (λ x. labels_of x.1) (latter _ _ labels_of (simple_each i))))
      (one_of _ _ labels_of for_each
      (one_of _ _ labels_of while_each choice_each)))))

none_or_same : (at : ℕ) (x : Option (List PlainStmt)) → labels_of_part x ≡ labels_of_list (none_or at x)
none_or_same at None = refl
none_or_same at (Some list) = refl

list_of_each : (some : Form (List PlainStmt)) → Each some labels_of_list → Each (list_of some) labels_of_list
unfolding list_of
list_of_each some are = made_of _ none_or labels_of_part labels_of_list none_or_same (perhaps some labels_of_list labels_of_part refl (λ x. refl) are)

stmts_each : (n : ℕ) → Each (stmts n) labels_of_list
unfolding stmts nothing
stmts_each zero = λ xs ts whole. absurd whole
stmts_each (suc n) =
    let one_each : Each (stmt_of (inside n) (list_of (stmts n))) labels_of = stmt_each (inside n) (list_of (stmts n)) (list_of_each (stmts n) (stmts_each n)) in
    made_of _ first_and_more (λ x. labels_of x.0 ++ labels_of_list x.1) labels_of_list (λ at x. refl)
    (both _ _ labels_of labels_of_list one_each (some_of _ labels_of labels_of_list refl (λ x xs. refl) one_each))

list_each : (n : ℕ) → Each (list n) labels_of_list
unfolding list
list_each n = list_of_each (stmts n) (stmts_each n)

abbrev of_body : Body → List PlainName
of_body b = labels_of_list b.1.0 ++ labels_of_part b.1.1

body_each : (n : ℕ) → Each (body n) of_body
unfolding body
body_each n =
    latter _ _ (λ x. labels_of_list x.0 ++ labels_of_part x.1)
    (both _ _ labels_of_list labels_of_part (list_each n)
    (perhaps _ labels_of_list labels_of_part refl (λ x. refl) (made_of _ behind (λ x. labels_of_list x.1) labels_of_list (λ at x. refl) (latter _ _ labels_of_list (list_each n)))))

abbrev of_item : PlainItem → List PlainName
of_item (Datum own task d at) = []
of_item (Routine r) = labels_in_routine r

routine_each : (n : ℕ) → Each (routine n) of_item
unfolding routine
routine_each n =
    one_of _ _ of_item
    (made_of _ proc_tree (λ x. of_body x.1.1.1.1.0) of_item (λ at x. refl)
    (latter _ _ (λ x. of_body x.1.1.1.0) (latter _ _ (λ x. of_body x.1.1.0) (latter _ _ (λ x. of_body x.1.0) (latter _ _ (λ x. of_body x.0) (former _ _ of_body (body_each n)))))))
    (one_of _ _ of_item
    (made_of _ func_tree (λ x. of_body x.1.1.1.1.1.0) of_item (λ at x. refl)
    (latter _ _ (λ x. of_body x.1.1.1.1.0) (latter _ _ (λ x. of_body x.1.1.1.0) (latter _ _ (λ x. of_body x.1.1.0) (latter _ _ (λ x. of_body x.1.0) (latter _ _ (λ x. of_body x.0) (former _ _ of_body (body_each n))))))))
    (made_of _ trap_tree (λ x. of_body x.1.1.1.0) of_item (λ at x. refl)
    (latter _ _ (λ x. of_body x.1.1.0) (latter _ _ (λ x. of_body x.1.0) (latter _ _ (λ x. of_body x.0) (former _ _ of_body (body_each n)))))))

item_each : (n : ℕ) → Each (item n) of_item
unfolding item either made
item_each n i ts h =
    ⊎_elim (λ (x, whole, is). subst (λ k. Under (of_item k) ts) (sym is) (none_under ts))
    (λ others. ⊎_elim (λ (x, whole, is). subst (λ k. Under (of_item k) ts) (sym is) (none_under ts)) (λ here. routine_each n i ts here) others) h

more_apart : (i : PlainItem) (items : List PlainItem) (low high : ℕ) → Ascend low (bytes_of (of_item i)) high → All LabelsApart (routines_in items) → All LabelsApart (routines_in (i ∷ items))
more_apart (Datum own task d at) items low high h k = k
more_apart (Routine r) items low high h k = All-append LabelsApart (r ∷ []) (routines_in items) (All-cons LabelsApart r [] (apart low (bytes_of (labels_in_routine r)) high h) (All-nil LabelsApart)) k

items_apart : (n : ℕ) (items : List PlainItem) (ts : List Lexeme) (low high : ℕ) → WholeEach (item n) items ts → Ascend low (places ts) high → All LabelsApart (routines_in items)
items_apart n [] ts low high is h = All-nil LabelsApart
items_apart n (i ∷ items) ts low high (u, v, is, first, rest) h =
    let parts = halves low ts u v high is h in
    more_apart i items low parts.middle (item_each n i u first low parts.middle parts.front) (items_apart n items v parts.middle high rest parts.back)

-- the module that a text spells
read_apart : (source : List ℕ) (m : PlainModule) → ModuleText source (Ok m) → All LabelsApart (routines_in m.items)
unfolding «module» made seq many
read_apart source m (ts, tiles, (x, (u, v, is, word, (u1, v1, is1, title, (u2, v2, is2, attributes, (u3, v3, is3, items, end)))), is_m)) =
    let behind_word = halves _ ts u v _ is (tiled source ts tiles) in
    let behind_name = halves _ v u1 v1 _ is1 behind_word.back in
    let behind_attributes = halves _ v1 u2 v2 _ is2 behind_name.back in
    let of_items = halves _ v2 u3 v3 _ is3 behind_attributes.back in
    subst (λ (k : PlainModule). All LabelsApart (routines_in k.items)) (sym is_m) (items_apart _ x.1.1.1.0 u3 _ _ items of_items.front)

all_apart : (modules : List PlainModule) → All (λ (m : PlainModule). All LabelsApart (routines_in m.items)) modules → All LabelsApart (routines_of modules)
all_apart [] h = All-nil LabelsApart
all_apart (m ∷ ms) h = let Those = λ (k : PlainModule). All LabelsApart (routines_in k.items) in All-append LabelsApart (routines_in m.items) (routines_of ms) (All-head Those m ms h) (all_apart ms (All-tail Those m ms h))

pub labels_apart : (modules : List PlainModule) → AreRead modules → All LabelsApart (routines_of modules)
labels_apart modules read =
    all_apart modules (All-weaker (λ (m : PlainModule). (source : List ℕ) × ModuleText source (Ok m)) (λ (m : PlainModule). All LabelsApart (routines_in m.items)) (λ m spelled. read_apart spelled.0 m spelled.1) modules read)
