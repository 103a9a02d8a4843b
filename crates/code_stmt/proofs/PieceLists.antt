-- The pieces of a statement, appended one by one.
use Rattle.std.proofs.Common.{◌≡◌, ℕ, ◌+◌, max, List, [], ◌∷◌, refl, ap, subst, ◌∙◌, arith}
use Rattle.stack_code.specs.ExprLayouts.{put}
use Rattle.stack_code.specs.Needs.{pieces_need}
use Rattle.stack_code.specs.Pieces.{Piece, OfExpr, OfPlace, OfArgs, Does, Waits, GoesTo, Chooses, Travels}
use Rattle.stack_code.specs.Placed.{Own, Placed}
use Rattle.stack_code.specs.Sizes.{piece_size, pieces_size}
use Rattle.stack_code.specs.StmtLayouts.{pieces_code}
use Rattle.stack_code.specs.declared.op.Op.TheVariants as ops
use Rattle.typed_trees.specs.Plain.{TypedRoutine, TypedTree}
use Rattle.code_expr.specs.Follows.{Follows}
use Rattle.code_expr.proofs.Follow.{Left, follows_as, left_step}
use Rattle.code_stmt.specs.Depths.{depth_behind, piece_need}

-- the same pieces
pub pieces_laid : {X : Type 0} {a b : List Placed → X} {i j : ℕ} (tree : TypedTree) (routine : TypedRoutine) (labels : List ℕ) (own : Own) (view pieces : List Piece) → view ≡ pieces →
    Follows a b i j (pieces_size view) (λ pc ps. pieces_code tree routine labels own pc view ps) → Follows a b i j (pieces_size pieces) (λ pc ps. pieces_code tree routine labels own pc pieces ps)
pieces_laid {a = a} {b = b} {i = i} {j = j} tree routine labels own view pieces is h = subst (λ p. Follows a b i j (pieces_size p) (λ pc ps. pieces_code tree routine labels own pc p ps)) is h

-- the code of a piece, and of those after it
first_code : (tree : TypedTree) (routine : TypedRoutine) (labels : List ℕ) (own : Own) (pc : ℕ) (piece : Piece) (more : List Piece) (ps : List Placed) →
    pieces_code tree routine labels own pc (piece ∷ more) ps ≡ pieces_code tree routine labels own pc (piece ∷ []) (pieces_code tree routine labels own (pc + piece_size piece) more ps)
unfolding pieces_code
first_code tree routine labels own pc (OfExpr e) more ps = refl
first_code tree routine labels own pc (OfPlace p) more ps = refl
first_code tree routine labels own pc (OfArgs args) more ps = refl
first_code tree routine labels own pc (Does op) more ps = refl
first_code tree routine labels own pc Waits more ps = refl
first_code tree routine labels own pc (GoesTo label) more ps = refl
first_code tree routine labels own pc Travels more ps =
    ap (λ next. put own ops.Aim (put own (ops.Point (pc + 1 + 1 + 1 + 1)) (put own ops.Look (put own (ops.Jump (pc + 1)) (pieces_code tree routine labels own next more ps))))) (omega arith)
first_code tree routine labels own pc (Chooses a b) more ps =
    ap (λ next. put own (ops.JumpFalse (pc + 1 + 1 + 1)) (put own a (put own (ops.Jump (pc + 1 + 1 + 1 + 1)) (put own b (pieces_code tree routine labels own next more ps))))) (omega arith)

-- one piece
pub one_code : (tree : TypedTree) (routine : TypedRoutine) (labels : List ℕ) (own : Own) {X : Type 0} {a b : List Placed → X} {i j n : ℕ} (piece : Piece) → n ≡ piece_size piece →
    Follows a b i j n (λ pc ps. pieces_code tree routine labels own pc (piece ∷ []) ps) → Follows a b i j (pieces_size (piece ∷ [])) (λ pc ps. pieces_code tree routine labels own pc (piece ∷ []) ps)
unfolding pieces_size
one_code tree routine labels own piece count h = follows_as (piece_size piece + 0) _ h (omega (arith, count)) (λ ps. refl)

-- what is there has all pieces except those that are left
abbrev pub LeftPieces : {X : Type 0} → (List Placed → X) → (List Placed → X) → ℕ → ℕ → TypedTree → TypedRoutine → List ℕ → Own → List Piece → List Piece → Type 0
LeftPieces a b i j tree routine labels own all left = Left a b i j
    (pieces_size all) (λ pc ps. pieces_code tree routine labels own pc all ps) (pieces_size left) (λ pc ps. pieces_code tree routine labels own pc left ps)

pub one_piece_more : {X : Type 0} {a b d : List Placed → X} {i j k : ℕ} (tree : TypedTree) (routine : TypedRoutine) (labels : List ℕ) (own : Own) (all : List Piece) (piece : Piece) (rest : List Piece) →
    LeftPieces a b i j tree routine labels own all (piece ∷ rest) → Follows b d j k (pieces_size (piece ∷ [])) (λ pc ps. pieces_code tree routine labels own pc (piece ∷ []) ps) → LeftPieces a d i k tree routine labels own all rest
unfolding pieces_size
one_piece_more {j = j} tree routine labels own all piece rest left added =
    left_step (pieces_size rest) (λ pc ps. pieces_code tree routine labels own pc rest ps) left added (omega arith) (λ ps.
    first_code tree routine labels own j piece rest ps ∙ ap (λ pc. pieces_code tree routine labels own j (piece ∷ []) (pieces_code tree routine labels own pc rest ps)) (omega arith))

-- the operands that pieces need, by what the first of them does
pub need_more : (most depth : ℕ) (piece : Piece) (rest : List Piece) → max most (pieces_need depth (piece ∷ rest)) ≡ max (max most (depth + piece_need piece)) (pieces_need (depth_behind piece depth) rest)
unfolding pieces_need
need_more most depth (OfExpr e) rest = omega arith
need_more most depth (OfPlace p) rest = omega arith
need_more most depth (OfArgs args) rest = omega arith
need_more most depth (Does op) rest = omega arith
need_more most depth Waits rest = omega arith
need_more most depth (GoesTo label) rest = omega arith
need_more most depth (Chooses a b) rest = omega arith
need_more most depth Travels rest = omega arith
