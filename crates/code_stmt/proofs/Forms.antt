-- The plain view of statements, by their forms.
use Rattle.std.proofs.Common.{◌≡◌, ℕ, Option, map, option_map, refl, sym, ap, ◌∙◌}
use Rattle.std.specs.declared.alloc.Global.{Global}
use Rattle.std.specs.declared.boxed.Box.{Box}
use Rattle.std.specs.declared.vec.Vec.{Vec}
use Rattle.typed_trees.specs.Plain as trees
use Rattle.typed_trees.specs.Plain.{NoArms, NoCases, NoElse, arms_of, cases_of, else_of, stmts_of}
use Rattle.typed_trees.specs.Views.{view_arm, view_case, view_expr, view_list, view_stmt, view_stmt_form}
use Rattle.typed_trees.specs.declared.bounds.Bounds.{Bounds}
use Rattle.typed_trees.specs.declared.expr.Expr.{Expr}
use Rattle.typed_trees.specs.declared.stmt.Form.{Form, Assign, Instruct, Call, Label, Goto, Return, Exit, Raise, Retry, TryNext, Connect, If, If', IfOne, IfOne', For, For', While, While', Test, Test', roll-Form, roll-out-Form}
use Rattle.typed_trees.specs.declared.stmt.Form.TheVariants.{outs-If', rolls-If, outs-IfOne', rolls-IfOne, outs-For', rolls-For, outs-While', rolls-While, outs-Test', rolls-Test}
use Rattle.typed_trees.specs.declared.stmt.Stmt.{Stmt}
use Rattle.typed_trees.proofs.Rows.{choice_view, for_view, test_view, while_view}
use Rattle.rapid_meaning.specs.Statements.{byte_of}
use Rattle.code_stmt.specs.Parts.{arms_in, cases_in, else_in}

pub form_is : (s : Stmt) (form : Form) → s.form ≡ form → view_stmt s ≡ view_stmt_form s.at form
form_is s form is = ap (view_stmt_form s.at) is

pub if_form : (s : Stmt) (arms : Vec (Expr × Vec Stmt Global) Global) (other : Option (Vec Stmt Global)) → s.form ≡ If arms other → view_stmt s ≡ trees.If s.at (arms_of (map view_arm arms.items)) (else_of (option_map view_list other))
if_form s arms other is = ap (view_stmt_form s.at) is ∙ choice_view s.at arms other

pub test_form : (s : Stmt) (value : Expr) (cases : Vec (Vec Expr Global × Vec Stmt Global) Global) (other : Option (Vec Stmt Global)) → s.form ≡ Test value cases other → view_stmt s ≡ trees.Test s.at (view_expr value) (cases_of (map view_case cases.items)) (else_of (option_map view_list other))
test_form s value cases other is = ap (view_stmt_form s.at) is ∙ test_view s.at value cases other

pub for_form : (s : Stmt) (local : ℕ) (bounds : Box Bounds Global) (list : Vec Stmt Global) → s.form ≡ For local bounds list →
    let b = bounds.value in view_stmt s ≡ trees.For s.at local (view_expr b.first) (view_expr b.last) (option_map view_expr b.step) (stmts_of (view_list list))
for_form s local bounds list is = ap (view_stmt_form s.at) is ∙ for_view s.at local bounds list

pub while_form : (s : Stmt) (test : Expr) (list : Vec Stmt Global) → s.form ≡ While test list → view_stmt s ≡ trees.While s.at (view_expr test) (stmts_of (view_list list))
while_form s test list is = ap (view_stmt_form s.at) is ∙ while_view s.at test list

-- a form that holds a list, made of the same parts
pub if_is : (shape : _) (row : _) (other : _) → (arms : Vec (Expr × Vec Stmt Global) Global) × ((else : Option (Vec Stmt Global)) × (If' shape row other ≡ If arms else))
if_is shape row other = (_, (_, sym (roll-out-Form (If' shape row other)) ∙ ap roll-Form (outs-If' shape row other) ∙ rolls-If _ _))

pub if_one_is : (test : Expr) (pointer : _) (begin : _) (form : _) → (then : Box Stmt Global) × (IfOne' test pointer begin form ≡ IfOne test then)
if_one_is test pointer begin form = (_, sym (roll-out-Form (IfOne' test pointer begin form)) ∙ ap roll-Form (outs-IfOne' test pointer begin form) ∙ rolls-IfOne _ _)

pub for_is : (local : ℕ) (bounds : Box Bounds Global) (shape : _) (row : _) → (list : Vec Stmt Global) × (For' local bounds shape row ≡ For local bounds list)
for_is local bounds shape row = (_, sym (roll-out-Form (For' local bounds shape row)) ∙ ap roll-Form (outs-For' local bounds shape row) ∙ rolls-For _ _ _)

pub while_is : (test : Expr) (shape : _) (row : _) → (list : Vec Stmt Global) × (While' test shape row ≡ While test list)
while_is test shape row = (_, sym (roll-out-Form (While' test shape row)) ∙ ap roll-Form (outs-While' test shape row) ∙ rolls-While _ _)

pub test_is : (value : Expr) (shape : _) (row : _) (other : _) → (cases : Vec (Vec Expr Global × Vec Stmt Global) Global) × ((else : Option (Vec Stmt Global)) × (Test' value shape row other ≡ Test value cases else))
test_is value shape row other = (_, (_, sym (roll-out-Form (Test' value shape row other)) ∙ ap roll-Form (outs-Test' value shape row other) ∙ rolls-Test _ _ _))

-- a statement without such lists
pub no_arms : (s : Stmt) → ((arms : Vec (Expr × Vec Stmt Global) Global) (other : Option (Vec Stmt Global)) → s.form ≡ If arms other → ⊥) → arms_in (view_stmt s) ≡ NoArms
no_arms s = by s.at s.form
  where
    by : (at : ℕ) (form : Form) → ((arms : Vec (Expr × Vec Stmt Global) Global) (other : Option (Vec Stmt Global)) → form ≡ If arms other → ⊥) → arms_in (view_stmt_form at form) ≡ NoArms
    by at (If' shape row other) differs = let is = if_is shape row other in absurd (differs is.0 is.1.0 is.1.1)
    by at form differs = refl

pub no_cases : (s : Stmt) → ((value : Expr) (cases : Vec (Vec Expr Global × Vec Stmt Global) Global) (other : Option (Vec Stmt Global)) → s.form ≡ Test value cases other → ⊥) → cases_in (view_stmt s) ≡ NoCases
no_cases s = by s.at s.form
  where
    by : (at : ℕ) (form : Form) → ((value : Expr) (cases : Vec (Vec Expr Global × Vec Stmt Global) Global) (other : Option (Vec Stmt Global)) → form ≡ Test value cases other → ⊥) → cases_in (view_stmt_form at form) ≡ NoCases
    by at (Test' value shape row other) differs = let is = test_is value shape row other in absurd (differs value is.0 is.1.0 is.1.1)
    by at form differs = refl

pub no_else : (s : Stmt) → ((arms : Vec (Expr × Vec Stmt Global) Global) (other : Option (Vec Stmt Global)) → s.form ≡ If arms other → ⊥) →
    ((value : Expr) (cases : Vec (Vec Expr Global × Vec Stmt Global) Global) (other : Option (Vec Stmt Global)) → s.form ≡ Test value cases other → ⊥) → else_in (view_stmt s) ≡ NoElse
no_else s = by s.at s.form
  where
    by : (at : ℕ) (form : Form) → ((arms : Vec (Expr × Vec Stmt Global) Global) (other : Option (Vec Stmt Global)) → form ≡ If arms other → ⊥) →
        ((value : Expr) (cases : Vec (Vec Expr Global × Vec Stmt Global) Global) (other : Option (Vec Stmt Global)) → form ≡ Test value cases other → ⊥) → else_in (view_stmt_form at form) ≡ NoElse
    by at (If' shape row other) differs another = let is = if_is shape row other in absurd (differs is.0 is.1.0 is.1.1)
    by at (Test' value shape row other) differs another = let is = test_is value shape row other in absurd (another value is.0 is.1.0 is.1.1)
    by at form differs another = refl

-- ELSE or DEFAULT
pub if_other : (s : Stmt) (arms : Vec (Expr × Vec Stmt Global) Global) (other given : Option (Vec Stmt Global)) → s.form ≡ If arms other → other ≡ given → else_in (view_stmt s) ≡ else_of (option_map view_list given)
if_other s arms other given is some = ap else_in (if_form s arms other is) ∙ ap (λ o. else_of (option_map view_list o)) some

pub test_other : (s : Stmt) (value : Expr) (cases : Vec (Vec Expr Global × Vec Stmt Global) Global) (other given : Option (Vec Stmt Global)) → s.form ≡ Test value cases other → other ≡ given → else_in (view_stmt s) ≡ else_of (option_map view_list given)
test_other s value cases other given is some = ap else_in (test_form s value cases other is) ∙ ap (λ o. else_of (option_map view_list o)) some

-- where a statement begins
pub begins_at : (s : Stmt) → byte_of (view_stmt s) ≡ s.at
begins_at s = by s.at s.form
  where
    by : (at : ℕ) (form : Form) → byte_of (view_stmt_form at form) ≡ at
    by at (Assign place value) = refl
    by at (Instruct instruction args) = refl
    by at (Call routine args) = refl
    by at (Label number) = refl
    by at (Goto label) = refl
    by at (Return value) = refl
    by at Exit = refl
    by at (Raise number) = refl
    by at Retry = refl
    by at TryNext = refl
    by at (Connect place trap) = refl
    by at (If' shape row other) = refl
    by at (IfOne' test pointer begin form) = refl
    by at (For' local bounds shape row) = refl
    by at (While' test shape row) = refl
    by at (Test' value shape row other) = refl
