-- The sizes of statements, in the order in which they are found and taken.
use Rattle.std.proofs.Common.{◌≡◌, ℕ, List, [], ◌∷◌, ◌++◌, length, sym, ap, ◌∙◌}
use Rattle.std.proofs.Math.ListN.{set}
use Rattle.std.proofs.Math.Seq.{set-append_seam}
use Rattle.std.proofs.lemmas.List.{append-nil, append_assoc}
use Rattle.stack_code.specs.Placed.{Own}
use Rattle.typed_trees.specs.Plain as trees
use Rattle.typed_trees.specs.Plain.{TypedArms, TypedCases, TypedElse, TypedExpr, TypedRoutine, TypedStmt, TypedStmts, TypedTree}
use Rattle.code_expr.specs.Contexts.{routine_of, tree_of}
use Rattle.code_expr.specs.declared.context.Context.{Context}
use Rattle.code_stmt.specs.Lays.{LaysArms, LaysCases, LaysList}
use Rattle.code_stmt.specs.Parts.{arms_in, cases_in, else_in}
use Rattle.code_stmt.specs.Sizing.{arms_sizes, cases_sizes, else_sizes, inner_sizes, left_in, stmts_sizes, Taking}
use Rattle.code_stmt.specs.declared.sizes.SizesLeft.{SizesLeft}
use Rattle.code_stmt.specs.declared.written.Written.{Written}
use Rattle.code_stmt.proofs.Labels.{LeftInArms, LeftInCases, LeftInList}
use Rattle.code_stmt.proofs.Lists.{LeftArms, LeftCases, LeftList}

-- the sizes of what is left are next
abbrev pub TakingTo : SizesLeft → SizesLeft → List ℕ → List ℕ → Type 0 → Type 0
TakingTo old new all left claim = (rest : List ℕ) → left_in old ≡ all ++ rest → claim × (left_in new ≡ left ++ rest)

-- found so far: the sizes of all except those of what is left
abbrev pub FoundTo : List ℕ → List ℕ → List ℕ → List ℕ → Type 0
FoundTo old new all left = new ++ left ≡ old ++ all

-- sizes in two parts
pub both_found : (old middle new first second all : List ℕ) → middle ≡ old ++ first → new ≡ middle ++ second → first ++ second ≡ all → new ≡ old ++ all
both_found old middle new first second all is are same = are ∙ (ap (λ xs. xs ++ second) is ∙ (append_assoc old first second ∙ ap (λ xs. old ++ xs) same))

pub none_found : (old sizes : List ℕ) → sizes ≡ [] → old ≡ old ++ sizes
none_found old sizes none = sym (append-nil old) ∙ ap (λ xs. old ++ xs) (sym none)

pub one_found : (old middle new all one left : List ℕ) → FoundTo old middle all (one ++ left) → new ≡ middle ++ one → FoundTo old new all left
one_found old middle new all one left found is = ap (λ xs. xs ++ left) is ∙ (append_assoc middle one left ∙ found)

pub all_found : (old new all : List ℕ) → FoundTo old new all [] → new ≡ old ++ all
all_found old new all found = sym (append-nil new) ∙ found

-- a size is written where a place was kept for it
pub slot_filled : (old begun all inner : List ℕ) (slot size its : ℕ) → begun ≡ old ++ 0 ∷ [] → all ≡ begun ++ inner → slot ≡ length old → size ≡ its → set all slot size ≡ old ++ its ∷ inner
slot_filled old begun all inner slot size its is more at same =
    ap (λ xs. set xs slot size) (more ∙ (ap (λ xs. xs ++ inner) is ∙ append_assoc old (0 ∷ []) inner))
    ∙ (ap (λ i. set (old ++ 0 ∷ inner) i size) at
    ∙ (set-append_seam old 0 inner size
    ∙ ap (λ n. old ++ n ∷ inner) same))

module _ (tree : TypedTree) (routine : TypedRoutine) where
  pub if_inside : (s : TypedStmt) (at : ℕ) (arms : TypedArms) (other : TypedElse) → s ≡ trees.If at arms other → arms_sizes tree routine (arms_in s) ++ else_sizes tree routine (else_in s) ≡ inner_sizes tree routine s
  if_inside s at arms other is = ap (λ t. arms_sizes tree routine (arms_in t) ++ else_sizes tree routine (else_in t)) is ∙ ap (inner_sizes tree routine) (sym is)

  pub test_inside : (s : TypedStmt) (at : ℕ) (value : TypedExpr) (cases : TypedCases) (other : TypedElse) → s ≡ trees.Test at value cases other →
      cases_sizes tree routine (cases_in s) ++ else_sizes tree routine (else_in s) ≡ inner_sizes tree routine s
  test_inside s at value cases other is = ap (λ t. cases_sizes tree routine (cases_in t) ++ else_sizes tree routine (else_in t)) is ∙ ap (inner_sizes tree routine) (sym is)

-- the sizes next, in two parts
pub both_next : (left first second all rest : List ℕ) → first ++ second ≡ all → left ≡ all ++ rest → left ≡ first ++ (second ++ rest)
both_next left first second all rest same is = is ∙ (ap (λ xs. xs ++ rest) (sym same) ∙ append_assoc first second rest)

module _ (at : Context) (labels : List ℕ) where
  abbrev pub TakesList : SizesLeft → SizesLeft → Written → Written → TypedStmts → Type 0
  TakesList from to old new list = Taking from to (stmts_sizes (tree_of at) (routine_of at) list) (LaysList at labels old new list)

  abbrev pub TakesArms : Own → SizesLeft → SizesLeft → Written → Written → TypedArms → Type 0
  TakesArms own from to old new arms = Taking from to (arms_sizes (tree_of at) (routine_of at) arms) (LaysArms at labels own old new arms)

  abbrev pub TakesCases : Own → SizesLeft → SizesLeft → Written → Written → TypedCases → Type 0
  TakesCases own from to old new cases = Taking from to (cases_sizes (tree_of at) (routine_of at) cases) (LaysCases at labels own old new cases)

  -- all of them except those that are left
  abbrev pub TakingList : SizesLeft → SizesLeft → Written → Written → TypedStmts → TypedStmts → Type 0
  TakingList from to old new all left = TakingTo from to (stmts_sizes (tree_of at) (routine_of at) all) (stmts_sizes (tree_of at) (routine_of at) left) (LeftList at labels old new all left)

  abbrev pub TakingArms : Own → SizesLeft → SizesLeft → Written → Written → TypedArms → TypedArms → Type 0
  TakingArms own from to old new all left = TakingTo from to (arms_sizes (tree_of at) (routine_of at) all) (arms_sizes (tree_of at) (routine_of at) left) (LeftArms at labels own old new all left)

  abbrev pub TakingCases : Own → SizesLeft → SizesLeft → Written → Written → TypedCases → TypedCases → Type 0
  TakingCases own from to old new all left = TakingTo from to (cases_sizes (tree_of at) (routine_of at) all) (cases_sizes (tree_of at) (routine_of at) left) (LeftCases at labels own old new all left)

module _ (at : Context) where
  abbrev pub FindsList : List ℕ → List ℕ → ℕ → ℕ → List ℕ → List ℕ → TypedStmts → TypedStmts → Type 0
  FindsList old new from to few many all left = LeftInList at old new from to all left × FoundTo few many (stmts_sizes (tree_of at) (routine_of at) all) (stmts_sizes (tree_of at) (routine_of at) left)

  abbrev pub FindsArms : List ℕ → List ℕ → ℕ → ℕ → List ℕ → List ℕ → TypedArms → TypedArms → Type 0
  FindsArms old new from to few many all left = LeftInArms at old new from to all left × FoundTo few many (arms_sizes (tree_of at) (routine_of at) all) (arms_sizes (tree_of at) (routine_of at) left)

  abbrev pub FindsCases : List ℕ → List ℕ → ℕ → ℕ → List ℕ → List ℕ → TypedCases → TypedCases → Type 0
  FindsCases old new from to few many all left = LeftInCases at old new from to all left × FoundTo few many (cases_sizes (tree_of at) (routine_of at) all) (cases_sizes (tree_of at) (routine_of at) left)
