-- Labels of a routine that are numbered in text order have their own places.
use Rattle.std.proofs.Common.{◌≡◌, sym, ap, ◌∙◌, subst, ℕ, zero, suc, ◌+◌, List, [], ◌∷◌, ◌++◌, drop, Option, None, Some, slice_get, append_assoc}
use Rattle.std.specs.Option.{unwrap_or}
use Rattle.std.specs.Prelude.{⊤}
use Rattle.std.proofs.lemmas.List.{append-nil}
use Rattle.typed_trees.specs.Plain as trees
use Rattle.typed_trees.specs.Plain.{TypedArms, TypedCases, TypedElse, TypedRoutine, TypedStmt, TypedStmts, TypedTree, NoStmts, MoreStmts, NoArms, MoreArms, NoCases, MoreCases, NoElse, Else}
use Rattle.typed_trees.specs.Labels.{error_part, numbers_in, numbers_in_arms, numbers_in_cases, numbers_in_else, numbers_in_routine, numbers_of}
use Rattle.stack_code.specs.Compiled.{part_labels, part_start, routine_labels}
use Rattle.stack_code.specs.Sizes.{arms_size, bounds_size, cases_size, expr_size, stmt_size, stmts_size, values_size}
use Rattle.stack_code.specs.StmtLayouts.{arms_labels, cases_labels, else_labels, label_at, stmt_labels, stmts_labels}
use Rattle.code_laws.specs.Orderly.{Counts, IsOrderlyRoutine}
use Rattle.code_laws.proofs.Claims.{StmtLabels, StmtsLabels, ArmsLabels, CasesLabels, ElseLabels}

-- the labels of a form have their places, and the labels after the form come next
record Passed (P : Type 0) (labels rest more : List ℕ) : Type 0 where
  here : P
  at : ℕ
  left : drop at labels ≡ rest
  counts : Counts at more

nothing : (labels rest more : List ℕ) (n : ℕ) → drop n labels ≡ rest → Counts n more → Passed ⊤ labels rest more
nothing labels rest more n left counts = record { here = tt; at = n; left = left; counts = counts }

-- one form after another
both : (P Q : Type 0) (labels first second rest firsts seconds more : List ℕ) (n : ℕ)
    → ((k : ℕ) → drop k labels ≡ first ++ (second ++ rest) → Counts k (firsts ++ (seconds ++ more)) → Passed P labels (second ++ rest) (seconds ++ more))
    → ((k : ℕ) → drop k labels ≡ second ++ rest → Counts k (seconds ++ more) → Passed Q labels rest more)
    → drop n labels ≡ (first ++ second) ++ rest → Counts n ((firsts ++ seconds) ++ more) → Passed (P × Q) labels rest more
both P Q labels first second rest firsts seconds more n one two left counts =
    let a = one n (left ∙ append_assoc first second rest) (subst (λ (x : List ℕ). Counts n x) (append_assoc firsts seconds more) counts) in
    let b = two a.at a.left a.counts in
    record { here = (a.here, b.here); at = b.at; left = b.left; counts = b.counts }

-- a place of a list
nth : (labels rest : List ℕ) (n place : ℕ) → drop n labels ≡ place ∷ rest → slice_get labels n ≡ Some place
nth [] rest zero place e = cc
nth [] rest (suc n) place e = cc
nth (l ∷ labels) rest zero place e = cc
nth (l ∷ labels) rest (suc n) place e = nth labels rest n place e

behind_it : (labels rest : List ℕ) (n place : ℕ) → drop n labels ≡ place ∷ rest → drop (suc n) labels ≡ rest
behind_it [] rest zero place e = cc
behind_it [] rest (suc n) place e = cc
behind_it (l ∷ labels) rest zero place e = cc
behind_it (l ∷ labels) rest (suc n) place e = behind_it labels rest n place e

one_label : (labels rest more : List ℕ) (n place label : ℕ) → drop n labels ≡ place ∷ rest → Counts n (label ∷ more) → Passed (label_at labels label ≡ place) labels rest more
one_label labels rest more n place label left counts = record {
  here = ap (λ (k : ℕ). label_at labels k) counts.0 ∙ ap (λ (o : Option ℕ). unwrap_or o 0) (nth labels rest n place left);
  at = suc n;
  left = behind_it labels rest n place left;
  counts = counts.1;
}

mutual
  of_stmt : (tree : TypedTree) (routine : TypedRoutine) (labels rest more : List ℕ) (pc : ℕ) (s : TypedStmt) (n : ℕ) → drop n labels ≡ stmt_labels tree routine pc s ++ rest
      → Counts n (numbers_of s ++ more) → Passed (StmtLabels tree routine labels pc s) labels rest more
  of_stmt tree routine labels rest more pc (trees.Label at label) n left counts = one_label labels rest more n pc label left counts
  of_stmt tree routine labels rest more pc (trees.If at arms other) n left counts =
      both (ArmsLabels tree routine labels (pc + 1) arms) (ElseLabels tree routine labels (pc + 1 + arms_size tree routine arms) other) labels
      (arms_labels tree routine (pc + 1) arms) (else_labels tree routine (pc + 1 + arms_size tree routine arms) other) rest (numbers_in_arms arms) (numbers_in_else other) more n
      (of_arms tree routine labels _ _ (pc + 1) arms) (of_else tree routine labels rest more (pc + 1 + arms_size tree routine arms) other) left counts
  of_stmt tree routine labels rest more pc (trees.IfOne at e one) n left counts = of_stmt tree routine labels rest more (pc + 1 + expr_size e + 1) one n left counts
  of_stmt tree routine labels rest more pc (trees.For at local first last step list) n left counts =
      of_stmts tree routine labels rest more (pc + 1 + bounds_size routine local first last step + 1 + 1) list n left counts
  of_stmt tree routine labels rest more pc (trees.While at e list) n left counts = of_stmts tree routine labels rest more (pc + 1 + expr_size e + 1) list n left counts
  of_stmt tree routine labels rest more pc (trees.Test at e cases other) n left counts =
      both (CasesLabels tree routine labels (pc + 1 + expr_size e) cases) (ElseLabels tree routine labels (pc + 1 + expr_size e + cases_size tree routine cases + 1) other) labels
      (cases_labels tree routine (pc + 1 + expr_size e) cases) (else_labels tree routine (pc + 1 + expr_size e + cases_size tree routine cases + 1) other) rest (numbers_in_cases cases) (numbers_in_else other) more n
      (of_cases tree routine labels _ _ (pc + 1 + expr_size e) cases) (of_else tree routine labels rest more (pc + 1 + expr_size e + cases_size tree routine cases + 1) other) left counts
  of_stmt tree routine labels rest more pc s n left counts = nothing labels rest more n left counts

  of_stmts : (tree : TypedTree) (routine : TypedRoutine) (labels rest more : List ℕ) (pc : ℕ) (list : TypedStmts) (n : ℕ) → drop n labels ≡ stmts_labels tree routine pc list ++ rest
      → Counts n (numbers_in list ++ more) → Passed (StmtsLabels tree routine labels pc list) labels rest more
  of_stmts tree routine labels rest more pc NoStmts n left counts = nothing labels rest more n left counts
  of_stmts tree routine labels rest more pc (MoreStmts s list) n left counts =
      both (StmtLabels tree routine labels pc s) (StmtsLabels tree routine labels (pc + stmt_size tree routine s) list) labels
      (stmt_labels tree routine pc s) (stmts_labels tree routine (pc + stmt_size tree routine s) list) rest (numbers_of s) (numbers_in list) more n
      (of_stmt tree routine labels _ _ pc s) (of_stmts tree routine labels rest more (pc + stmt_size tree routine s) list) left counts

  of_arms : (tree : TypedTree) (routine : TypedRoutine) (labels rest more : List ℕ) (pc : ℕ) (arms : TypedArms) (n : ℕ) → drop n labels ≡ arms_labels tree routine pc arms ++ rest
      → Counts n (numbers_in_arms arms ++ more) → Passed (ArmsLabels tree routine labels pc arms) labels rest more
  of_arms tree routine labels rest more pc NoArms n left counts = nothing labels rest more n left counts
  of_arms tree routine labels rest more pc (MoreArms e list arms) n left counts =
      both (StmtsLabels tree routine labels (pc + expr_size e + 1) list) (ArmsLabels tree routine labels (pc + expr_size e + 1 + stmts_size tree routine list + 1) arms) labels
      (stmts_labels tree routine (pc + expr_size e + 1) list) (arms_labels tree routine (pc + expr_size e + 1 + stmts_size tree routine list + 1) arms) rest (numbers_in list) (numbers_in_arms arms) more n
      (of_stmts tree routine labels _ _ (pc + expr_size e + 1) list) (of_arms tree routine labels rest more (pc + expr_size e + 1 + stmts_size tree routine list + 1) arms) left counts

  of_cases : (tree : TypedTree) (routine : TypedRoutine) (labels rest more : List ℕ) (pc : ℕ) (cases : TypedCases) (n : ℕ) → drop n labels ≡ cases_labels tree routine pc cases ++ rest
      → Counts n (numbers_in_cases cases ++ more) → Passed (CasesLabels tree routine labels pc cases) labels rest more
  of_cases tree routine labels rest more pc NoCases n left counts = nothing labels rest more n left counts
  of_cases tree routine labels rest more pc (MoreCases es list cases) n left counts =
      both (StmtsLabels tree routine labels (pc + values_size es + 1 + 1) list) (CasesLabels tree routine labels (pc + values_size es + 1 + 1 + stmts_size tree routine list + 1) cases) labels
      (stmts_labels tree routine (pc + values_size es + 1 + 1) list) (cases_labels tree routine (pc + values_size es + 1 + 1 + stmts_size tree routine list + 1) cases) rest (numbers_in list) (numbers_in_cases cases) more n
      (of_stmts tree routine labels _ _ (pc + values_size es + 1 + 1) list) (of_cases tree routine labels rest more (pc + values_size es + 1 + 1 + stmts_size tree routine list + 1) cases) left counts

  of_else : (tree : TypedTree) (routine : TypedRoutine) (labels rest more : List ℕ) (pc : ℕ) (other : TypedElse) (n : ℕ) → drop n labels ≡ else_labels tree routine pc other ++ rest
      → Counts n (numbers_in_else other ++ more) → Passed (ElseLabels tree routine labels pc other) labels rest more
  of_else tree routine labels rest more pc NoElse n left counts = nothing labels rest more n left counts
  of_else tree routine labels rest more pc (Else list) n left counts = of_stmts tree routine labels rest more pc list n left counts

-- the same for an ERROR part
abbrev pub PartLabels : TypedTree → TypedRoutine → List ℕ → ℕ → Option TypedStmts → Type 0
PartLabels tree routine labels pc None = ⊤
PartLabels tree routine labels pc (Some list) = StmtsLabels tree routine labels pc list

of_part : (tree : TypedTree) (routine : TypedRoutine) (labels rest more : List ℕ) (pc : ℕ) (part : Option TypedStmts) (n : ℕ) → drop n labels ≡ part_labels tree routine pc part ++ rest
    → Counts n (numbers_in_else (error_part part) ++ more) → Passed (PartLabels tree routine labels pc part) labels rest more
of_part tree routine labels rest more pc None n left counts = nothing labels rest more n left counts
of_part tree routine labels rest more pc (Some list) n left counts = of_stmts tree routine labels rest more pc list n left counts

-- all labels of a routine at this place
pub labels_of : (tree : TypedTree) (routine : TypedRoutine) (pc : ℕ) → IsOrderlyRoutine tree routine
    → StmtsLabels tree routine (routine_labels tree routine pc) pc routine.list × PartLabels tree routine (routine_labels tree routine pc) (part_start tree routine pc) routine.handler
labels_of tree routine pc orderly =
    let labels : List ℕ = routine_labels tree routine pc in
    let passed = both (StmtsLabels tree routine (routine_labels tree routine pc) pc routine.list) (PartLabels tree routine (routine_labels tree routine pc) (part_start tree routine pc) routine.handler) (routine_labels tree routine pc)
    (stmts_labels tree routine pc routine.list) (part_labels tree routine (part_start tree routine pc) routine.handler) [] (numbers_in routine.list) (numbers_in_else (error_part routine.handler)) [] 0
    (of_stmts tree routine (routine_labels tree routine pc) _ _ pc routine.list) (of_part tree routine (routine_labels tree routine pc) [] [] (part_start tree routine pc) routine.handler)
    (sym (append-nil (routine_labels tree routine pc))) (subst (λ (x : List ℕ). Counts 0 x) (sym (append-nil (numbers_in_routine routine))) orderly.labels) in
    passed.here
