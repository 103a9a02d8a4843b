-- Reading statements from left to right: the readers of the grammar's forms, which the functions are proved against.
-- Statements that start with a name, and those that start with IF, are read with the common part factored out.
use Rattle.std.specs.Prelude.{ℕ, zero, suc, List, [], ◌∷◌, Option}
use mathlib.Core.Logic.{◌⊎◌, inl, inr}
use Rattle.rapid_lexer.specs.Tokens.{Lexeme}
use Rattle.raw_trees.specs.Plain.{PlainName, PlainExpr, PlainArg, PlainStmt}
use Rattle.rapid_forms.specs.declared.sign.Sign.{Sign}
use Rattle.rapid_forms.specs.declared.sign.Sign.TheVariants as signs
use Rattle.rapid_forms.specs.Reading.{Reader, seq_read, either_read, optional_read, many_read, made_read, nothing_read}
use Rattle.expr_parser.specs.Grammar.{behind, none_or, place_tree}
use Rattle.expr_parser.specs.Reads.{InsideRead, inside_read, expr_signs, arg_signs, mark_read, name_read, parts_read, place_read, exprs_read, expr_of_read, left, right}
use Rattle.stmt_parser.specs.Grammar.{assign_tree, call_tree, goto_tree, return_tree, exit_tree, raise_tree, retry_tree, try_next_tree, connect_tree, label_tree, arm_tree, if_tree, if_one_tree, for_tree, while_tree, case_tree, test_tree}

-- the signs that statements can start with

abbrev pub worded_signs : List Sign
worded_signs =
    signs.Goto ∷ signs.Return ∷ signs.Exit ∷ signs.Raise ∷ signs.Retry ∷ signs.TryNext ∷ signs.Connect ∷ []

abbrev pub stmt_signs : List Sign
stmt_signs = signs.Name ∷ signs.If ∷ signs.For ∷ signs.While ∷ signs.Test ∷ worded_signs

-- the signs that continue a name to what is assigned
abbrev pub assigned_signs : List Sign
assigned_signs = signs.Assign ∷ signs.OpenBrace ∷ signs.Dot ∷ []

abbrev pub Assigned : Type 0
Assigned = (Option PlainExpr × List PlainName) × (Lexeme × (PlainExpr × Lexeme))

abbrev pub Called : Type 0
Called = List PlainArg × Lexeme

abbrev pub assigned_tree : ℕ → PlainName × Assigned → PlainStmt
assigned_tree at x = assign_tree at (place_tree at (x.0, x.1.0), x.1.1)

abbrev pub named_simple_tree : ℕ → PlainName × (Assigned ⊎ Called) → PlainStmt
named_simple_tree at (n, inl x) = assigned_tree at (n, x)
named_simple_tree at (n, inr x) = call_tree at (n, x)

abbrev pub named_tree : ℕ → PlainName × (Lexeme ⊎ (Assigned ⊎ Called)) → PlainStmt
named_tree at (n, inl x) = label_tree at (n, x)
named_tree at (n, inr x) = named_simple_tree at (n, x)

abbrev pub Branched : Type 0
Branched = (Lexeme × List PlainStmt) × (List (PlainExpr × List PlainStmt) × (Option (List PlainStmt) × Lexeme))

abbrev pub branched_tree : ℕ → Lexeme × (PlainExpr × Branched) → PlainStmt
branched_tree at x = if_tree at (x.0, (arm_tree at (x.1.0, x.1.1.0), x.1.1.1))

abbrev pub tested_tree : ℕ → Lexeme × (PlainExpr × (Branched ⊎ PlainStmt)) → PlainStmt
tested_tree at (w, (e, inl x)) = branched_tree at (w, (e, x))
tested_tree at (w, (e, inr x)) = if_one_tree at (w, (e, x))

-- a word or mark, and what follows it
unfoldable pub behind_read : {A : Type 0} → Sign → Reader A → Reader A
behind_read sign r = made_read behind (seq_read (mark_read sign) r)

-- what follows a word, if the word is there
unfoldable pub if_read : {A : Type 0} → Sign → Reader A → Reader (Option A)
if_read sign r = optional_read (sign ∷ []) (behind_read sign r)

unfoldable pub assigned_read : InsideRead → Reader Assigned
assigned_read i = seq_read (parts_read i) (seq_read (mark_read signs.Assign) (seq_read (expr_of_read i) (mark_read signs.Semicolon)))

unfoldable pub called_read : InsideRead → Reader Called
called_read i = seq_read (made_read none_or (optional_read arg_signs i.args)) (mark_read signs.Semicolon)

unfoldable pub behind_name_read : InsideRead → Reader (Assigned ⊎ Called)
behind_name_read i = either_read assigned_signs (made_read left (assigned_read i)) (made_read right (called_read i))

unfoldable pub named_simple_read : InsideRead → Reader PlainStmt
named_simple_read i = made_read named_simple_tree (seq_read name_read (behind_name_read i))

unfoldable pub named_read : InsideRead → Reader PlainStmt
named_read i =
    made_read named_tree (seq_read name_read (either_read (signs.Colon ∷ []) (made_read left (mark_read signs.Colon)) (made_read right (behind_name_read i))))

unfoldable pub goto_read : Reader PlainStmt
goto_read = made_read goto_tree (seq_read (mark_read signs.Goto) (seq_read name_read (mark_read signs.Semicolon)))

unfoldable pub value_read : InsideRead → Reader (Option PlainExpr)
value_read i = optional_read expr_signs (expr_of_read i)

unfoldable pub return_read : InsideRead → Reader PlainStmt
return_read i = made_read return_tree (seq_read (mark_read signs.Return) (seq_read (value_read i) (mark_read signs.Semicolon)))

unfoldable pub exit_read : Reader PlainStmt
exit_read = made_read exit_tree (seq_read (mark_read signs.Exit) (mark_read signs.Semicolon))

unfoldable pub raise_read : InsideRead → Reader PlainStmt
raise_read i = made_read raise_tree (seq_read (mark_read signs.Raise) (seq_read (value_read i) (mark_read signs.Semicolon)))

unfoldable pub retry_read : Reader PlainStmt
retry_read = made_read retry_tree (seq_read (mark_read signs.Retry) (mark_read signs.Semicolon))

unfoldable pub try_next_read : Reader PlainStmt
try_next_read = made_read try_next_tree (seq_read (mark_read signs.TryNext) (mark_read signs.Semicolon))

unfoldable pub connect_read : InsideRead → Reader PlainStmt
connect_read i =
    made_read connect_tree
    (seq_read (mark_read signs.Connect) (seq_read (place_read i) (seq_read (mark_read signs.With) (seq_read name_read (mark_read signs.Semicolon)))))

-- the simple statements that start with a word
unfoldable pub worded_read : InsideRead → Reader PlainStmt
worded_read i =
    either_read (signs.Goto ∷ []) goto_read
    (either_read (signs.Return ∷ []) (return_read i)
    (either_read (signs.Exit ∷ []) exit_read
    (either_read (signs.Raise ∷ []) (raise_read i)
    (either_read (signs.Retry ∷ []) retry_read
    (either_read (signs.TryNext ∷ []) try_next_read (connect_read i))))))

unfoldable pub simple_read : InsideRead → Reader PlainStmt
simple_read i = either_read (signs.Name ∷ []) (named_simple_read i) (worded_read i)

-- a test, THEN and a list
unfoldable pub arm_read : InsideRead → Reader (List PlainStmt) → Reader (PlainExpr × List PlainStmt)
arm_read i list = made_read arm_tree (seq_read (expr_of_read i) (seq_read (mark_read signs.Then) list))

unfoldable pub arms_read : InsideRead → Reader (List PlainStmt) → Reader (List (PlainExpr × List PlainStmt))
arms_read i list = many_read (signs.ElseIf ∷ []) (behind_read signs.ElseIf (arm_read i list))

-- after the test of an IF with lists
unfoldable pub branched_read : InsideRead → Reader (List PlainStmt) → Reader Branched
branched_read i list =
    seq_read (seq_read (mark_read signs.Then) list)
    (seq_read (arms_read i list) (seq_read (if_read signs.Else list) (mark_read signs.EndIf)))

-- IF, a test, and lists or one statement
unfoldable pub tested_read : InsideRead → Reader (List PlainStmt) → Reader PlainStmt
tested_read i list =
    made_read tested_tree
    (seq_read (mark_read signs.If)
    (seq_read (expr_of_read i) (either_read (signs.Then ∷ []) (made_read left (branched_read i list)) (made_read right (simple_read i)))))

unfoldable pub for_read : InsideRead → Reader (List PlainStmt) → Reader PlainStmt
for_read i list =
    made_read for_tree
    (seq_read (mark_read signs.For)
    (seq_read name_read
    (seq_read (behind_read signs.From (expr_of_read i))
    (seq_read (behind_read signs.To (expr_of_read i))
    (seq_read (if_read signs.Step (expr_of_read i))
    (seq_read (behind_read signs.Do list) (mark_read signs.EndFor)))))))

unfoldable pub while_read : InsideRead → Reader (List PlainStmt) → Reader PlainStmt
while_read i list =
    made_read while_tree (seq_read (mark_read signs.While) (seq_read (expr_of_read i) (seq_read (behind_read signs.Do list) (mark_read signs.EndWhile))))

unfoldable pub case_read : InsideRead → Reader (List PlainStmt) → Reader (List PlainExpr × List PlainStmt)
case_read i list = made_read case_tree (seq_read (exprs_read (expr_of_read i)) (seq_read (mark_read signs.Colon) list))

unfoldable pub cases_read : InsideRead → Reader (List PlainStmt) → Reader (List (List PlainExpr × List PlainStmt))
cases_read i list = many_read (signs.Case ∷ []) (behind_read signs.Case (case_read i list))

unfoldable pub default_read : Reader (List PlainStmt) → Reader (Option (List PlainStmt))
default_read list = if_read signs.Default (behind_read signs.Colon list)

unfoldable pub test_read : InsideRead → Reader (List PlainStmt) → Reader PlainStmt
test_read i list =
    made_read test_tree
    (seq_read (mark_read signs.Test)
    (seq_read (expr_of_read i) (seq_read (cases_read i list) (seq_read (default_read list) (mark_read signs.EndTest)))))

unfoldable pub stmt_of_read : InsideRead → Reader (List PlainStmt) → Reader PlainStmt
stmt_of_read i list =
    either_read (signs.Name ∷ []) (named_read i)
    (either_read (signs.If ∷ []) (tested_read i list)
    (either_read (signs.For ∷ []) (for_read i list)
    (either_read (signs.While ∷ []) (while_read i list)
    (either_read (signs.Test ∷ []) (test_read i list) (worded_read i)))))

-- a list of statements within this many levels, the first of which its statements open
unfoldable pub list_read : ℕ → Reader (List PlainStmt)
list_read zero = made_read none_or (optional_read stmt_signs (nothing_read stmt_signs))
list_read (suc n) = many_read stmt_signs (stmt_of_read (inside_read n) (list_read n))

unfoldable pub stmt_read : ℕ → Reader PlainStmt
stmt_read n = stmt_of_read (inside_read n) (list_read n)

-- the statements of a list whose level is open
unfoldable pub items_read : ℕ → Reader (List PlainStmt)
items_read n = many_read stmt_signs (stmt_read n)
