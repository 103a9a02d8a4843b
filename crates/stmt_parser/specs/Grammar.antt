-- The grammar of statements (RAPID Kernel, statements). Braces mean zero or more, brackets mean optional:
--
--   list     = { stmt }
--   stmt     = simple | name ":"
--            | IF expr THEN list { ELSEIF expr THEN list } [ ELSE list ] ENDIF
--            | IF expr simple
--            | FOR name FROM expr TO expr [ STEP expr ] DO list ENDFOR
--            | WHILE expr DO list ENDWHILE
--            | TEST expr { CASE expr { "," expr } ":" list } [ DEFAULT ":" list ] ENDTEST
--   simple   = place ":=" expr ";" | name [ args ] ";" | GOTO name ";" | RETURN [ expr ] ";"
--            | EXIT ";" | RAISE [ expr ] ";" | RETRY ";" | TRYNEXT ";"
--            | CONNECT place WITH name ";"
--
-- Each list of statements opens a level of nesting.
use Rattle.std.specs.Prelude.{ℕ, zero, suc, List, ◌∷◌, Option}
use Rattle.rapid_lexer.specs.Tokens.{Lexeme}
use Rattle.raw_trees.specs.Plain.{PlainName, PlainExpr, PlainPlace, PlainArg, PlainStmt, Assign, Call, Label, Goto, Return, Exit, Raise, Retry, TryNext, Connect, If, IfOne, For, While, Test, args_of, stmts_of, arms_of, cases_of, else_of}
use Rattle.rapid_forms.specs.declared.sign.Sign.TheVariants as signs
use Rattle.rapid_forms.specs.Forms.{Form, seq, either, optional, many, made, nothing}
use Rattle.expr_parser.specs.Grammar.{Inside, inside, mark, name, place, exprs, expr_of, behind, none_or, first_and_more}

-- the trees that forms denote, each at the byte of its first token

abbrev pub assign_tree : ℕ → PlainPlace × (Lexeme × (PlainExpr × Lexeme)) → PlainStmt
assign_tree at x = Assign at x.0 x.1.1.0

abbrev pub call_tree : ℕ → PlainName × (List PlainArg × Lexeme) → PlainStmt
call_tree at x = Call at x.0 (args_of x.1.0)

abbrev pub goto_tree : ℕ → Lexeme × (PlainName × Lexeme) → PlainStmt
goto_tree at x = Goto at x.1.0

abbrev pub return_tree : ℕ → Lexeme × (Option PlainExpr × Lexeme) → PlainStmt
return_tree at x = Return at x.1.0

abbrev pub exit_tree : ℕ → Lexeme × Lexeme → PlainStmt
exit_tree at x = Exit at

abbrev pub raise_tree : ℕ → Lexeme × (Option PlainExpr × Lexeme) → PlainStmt
raise_tree at x = Raise at x.1.0

abbrev pub retry_tree : ℕ → Lexeme × Lexeme → PlainStmt
retry_tree at x = Retry at

abbrev pub try_next_tree : ℕ → Lexeme × Lexeme → PlainStmt
try_next_tree at x = TryNext at

abbrev pub connect_tree : ℕ → Lexeme × (PlainPlace × (Lexeme × (PlainName × Lexeme))) → PlainStmt
connect_tree at x = Connect at x.1.0 x.1.1.1.0

abbrev pub label_tree : ℕ → PlainName × Lexeme → PlainStmt
label_tree at x = Label at x.0

-- a test, a word, and a list
abbrev pub arm_tree : ℕ → PlainExpr × (Lexeme × List PlainStmt) → PlainExpr × List PlainStmt
arm_tree at x = (x.0, x.1.1)

abbrev pub if_tree : ℕ → Lexeme × ((PlainExpr × List PlainStmt) × (List (PlainExpr × List PlainStmt) × (Option (List PlainStmt) × Lexeme))) → PlainStmt
if_tree at x = If at (arms_of (x.1.0 ∷ x.1.1.0)) (else_of x.1.1.1.0)

abbrev pub if_one_tree : ℕ → Lexeme × (PlainExpr × PlainStmt) → PlainStmt
if_one_tree at x = IfOne at x.1.0 x.1.1

abbrev pub for_tree : ℕ → Lexeme × (PlainName × (PlainExpr × (PlainExpr × (Option PlainExpr × (List PlainStmt × Lexeme))))) → PlainStmt
for_tree at x = For at x.1.0 x.1.1.0 x.1.1.1.0 x.1.1.1.1.0 (stmts_of x.1.1.1.1.1.0)

abbrev pub while_tree : ℕ → Lexeme × (PlainExpr × (List PlainStmt × Lexeme)) → PlainStmt
while_tree at x = While at x.1.0 (stmts_of x.1.1.0)

abbrev pub case_tree : ℕ → List PlainExpr × (Lexeme × List PlainStmt) → List PlainExpr × List PlainStmt
case_tree at x = (x.0, x.1.1)

abbrev pub test_tree : ℕ → Lexeme × (PlainExpr × (List (List PlainExpr × List PlainStmt) × (Option (List PlainStmt) × Lexeme))) → PlainStmt
test_tree at x = Test at x.1.0 (cases_of x.1.1.0) (else_of x.1.1.1.0)

unfoldable pub simple : Inside → Form PlainStmt
simple i =
    either (made assign_tree (seq (place i) (seq (mark signs.Assign) (seq (expr_of i) (mark signs.Semicolon)))))
    (either (made call_tree (seq name (seq (made none_or (optional i.args)) (mark signs.Semicolon))))
    (either (made goto_tree (seq (mark signs.Goto) (seq name (mark signs.Semicolon))))
    (either (made return_tree (seq (mark signs.Return) (seq (optional (expr_of i)) (mark signs.Semicolon))))
    (either (made exit_tree (seq (mark signs.Exit) (mark signs.Semicolon)))
    (either (made raise_tree (seq (mark signs.Raise) (seq (optional (expr_of i)) (mark signs.Semicolon))))
    (either (made retry_tree (seq (mark signs.Retry) (mark signs.Semicolon)))
    (either (made try_next_tree (seq (mark signs.TryNext) (mark signs.Semicolon)))
    (made connect_tree (seq (mark signs.Connect) (seq (place i) (seq (mark signs.With) (seq name (mark signs.Semicolon)))))))))))))

-- expr THEN list
unfoldable pub arm : Inside → Form (List PlainStmt) → Form (PlainExpr × List PlainStmt)
arm i list = made arm_tree (seq (expr_of i) (seq (mark signs.Then) list))

unfoldable pub branches : Inside → Form (List PlainStmt) → Form PlainStmt
branches i list =
    made if_tree
    (seq (mark signs.If)
    (seq (arm i list)
    (seq (many (made behind (seq (mark signs.ElseIf) (arm i list))))
    (seq (optional (made behind (seq (mark signs.Else) list))) (mark signs.EndIf)))))

unfoldable pub loop_for : Inside → Form (List PlainStmt) → Form PlainStmt
loop_for i list =
    made for_tree
    (seq (mark signs.For)
    (seq name
    (seq (made behind (seq (mark signs.From) (expr_of i)))
    (seq (made behind (seq (mark signs.To) (expr_of i)))
    (seq (optional (made behind (seq (mark signs.Step) (expr_of i))))
    (seq (made behind (seq (mark signs.Do) list)) (mark signs.EndFor)))))))

unfoldable pub loop_while : Inside → Form (List PlainStmt) → Form PlainStmt
loop_while i list =
    made while_tree (seq (mark signs.While) (seq (expr_of i) (seq (made behind (seq (mark signs.Do) list)) (mark signs.EndWhile))))

-- expr { "," expr } ":" list
unfoldable pub case : Inside → Form (List PlainStmt) → Form (List PlainExpr × List PlainStmt)
case i list = made case_tree (seq (exprs (expr_of i)) (seq (mark signs.Colon) list))

unfoldable pub choice : Inside → Form (List PlainStmt) → Form PlainStmt
choice i list =
    made test_tree
    (seq (mark signs.Test)
    (seq (expr_of i)
    (seq (many (made behind (seq (mark signs.Case) (case i list))))
    (seq (optional (made behind (seq (mark signs.Default) (made behind (seq (mark signs.Colon) list))))) (mark signs.EndTest)))))

-- a statement, with this form inside its lists
unfoldable pub stmt_of : Inside → Form (List PlainStmt) → Form PlainStmt
stmt_of i list =
    either (simple i)
    (either (made label_tree (seq name (mark signs.Colon)))
    (either (branches i list)
    (either (made if_one_tree (seq (mark signs.If) (seq (expr_of i) (simple i))))
    (either (loop_for i list)
    (either (loop_while i list)
    (choice i list))))))

-- { stmt }, given the statements if there are any
unfoldable pub list_of : Form (List PlainStmt) → Form (List PlainStmt)
list_of some = made none_or (optional some)

-- one or more statements, within this many levels, the first of which they open
unfoldable pub stmts : ℕ → Form (List PlainStmt)
stmts zero = nothing
stmts (suc n) = made first_and_more (seq (stmt_of (inside n) (list_of (stmts n))) (many (stmt_of (inside n) (list_of (stmts n)))))

-- a list of statements, within this many levels
unfoldable pub list : ℕ → Form (List PlainStmt)
list n = list_of (stmts n)

-- a statement, within this many levels
unfoldable pub stmt : ℕ → Form PlainStmt
stmt n = stmt_of (inside n) (list n)

-- the statements of a list whose level is open, within this many more levels
unfoldable pub items : ℕ → Form (List PlainStmt)
items n = many (stmt n)
