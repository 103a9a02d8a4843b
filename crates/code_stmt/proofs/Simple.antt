-- Statements that have no list and are no labels.
use Rattle.std.proofs.Common.{◌≡◌, ℕ, ◌+◌, List, [], Option, refl}
use Rattle.std.specs.declared.alloc.Global.{Global}
use Rattle.std.specs.declared.boxed.Box.{Box}
use Rattle.std.specs.declared.vec.Vec.{Vec}
use Rattle.stack_code.specs.ExprLayouts.{put}
use Rattle.stack_code.specs.Needs.{pieces_need, stmt_need}
use Rattle.stack_code.specs.Pieces.{pieces}
use Rattle.stack_code.specs.Placed.{Own, Placed}
use Rattle.stack_code.specs.Sizes.{pieces_size, stmt_size}
use Rattle.stack_code.specs.StmtLayouts.{pieces_code, stmt_code, stmt_labels}
use Rattle.stack_code.specs.declared.op.Op.TheVariants as ops
use Rattle.typed_trees.specs.Plain.{TypedRoutine, TypedStmt, TypedTree}
use Rattle.typed_trees.specs.Views.{view_stmt, view_stmt_form}
use Rattle.typed_trees.specs.declared.bounds.Bounds.{Bounds}
use Rattle.typed_trees.specs.declared.expr.Expr.{Expr}
use Rattle.typed_trees.specs.declared.stmt.Form.{Form, Label, If, If', IfOne, IfOne', For, For', While, While', Test, Test'}
use Rattle.typed_trees.specs.declared.stmt.Stmt.{Stmt}
use Rattle.code_stmt.specs.Sizing.{inner_sizes}
use Rattle.code_stmt.proofs.Forms.{for_is, if_is, if_one_is, test_is, while_is}

-- a statement is its Look and its pieces
pub record Simple (tree : TypedTree) (routine : TypedRoutine) (s : TypedStmt) : Type 0 where
  pub size : stmt_size tree routine s ≡ 1 + pieces_size (pieces tree routine s)
  pub inside : inner_sizes tree routine s ≡ []
  pub need : stmt_need tree routine s ≡ pieces_need 0 (pieces tree routine s)
  pub labels : (pc : ℕ) → stmt_labels tree routine pc s ≡ []
  pub code : (labels : List ℕ) (own : Own) (pc : ℕ) (ps : List Placed) → stmt_code tree routine labels own pc s ps ≡ put own ops.Look (pieces_code tree routine labels own (pc + 1) (pieces tree routine s) ps)

-- a form that is none of these
pub record Other (form : Form) : Type 0 where
  pub label : (number : ℕ) → form ≡ Label number → ⊥
  pub branch : (arms : Vec (Expr × Vec Stmt Global) Global) (other : Option (Vec Stmt Global)) → form ≡ If arms other → ⊥
  pub one : (test : Expr) (then : Box Stmt Global) → form ≡ IfOne test then → ⊥
  pub count : (local : ℕ) (bounds : Box Bounds Global) (list : Vec Stmt Global) → form ≡ For local bounds list → ⊥
  pub repeat : (test : Expr) (list : Vec Stmt Global) → form ≡ While test list → ⊥
  pub test : (value : Expr) (cases : Vec (Vec Expr Global × Vec Stmt Global) Global) (other : Option (Vec Stmt Global)) → form ≡ Test value cases other → ⊥

pub simple : (tree : TypedTree) (routine : TypedRoutine) (s : Stmt) → Other s.form → Simple tree routine (view_stmt s)
simple tree routine s = by s.at s.form
  where
    by : (at : ℕ) (form : Form) → Other form → Simple tree routine (view_stmt_form at form)
    by at (Label number) not = absurd (not.label number refl)
    by at (If' shape row other) not = let is = if_is shape row other in absurd (not.branch is.0 is.1.0 is.1.1)
    by at (IfOne' test pointer begin form) not = let is = if_one_is test pointer begin form in absurd (not.one test is.0 is.1)
    by at (For' local bounds shape row) not = let is = for_is local bounds shape row in absurd (not.count local bounds is.0 is.1)
    by at (While' test shape row) not = let is = while_is test shape row in absurd (not.repeat test is.0 is.1)
    by at (Test' value shape row other) not = let is = test_is value shape row other in absurd (not.test value is.0 is.1.0 is.1.1)
    by at form not = record { size = refl; inside = refl; need = refl; labels = λ pc. refl; code = λ labels own pc ps. refl }
