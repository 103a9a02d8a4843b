-- Runs of operations and the statement that owns them.
use Rattle.std.proofs.Common.{◌≡◌, ℕ, ◌+◌, ◌≤◌, List, [], ◌∷◌, ◌++◌, length, drop, refl, sym, ap, subst, ◌∙◌, arith}
use Rattle.std.proofs.lemmas.List.{drop_at, drop-append-le, drop-map, length-drop, length-map, map-append}
use Rattle.stack_code.specs.Placed.{Own, Placed}
use Rattle.stack_code.specs.declared.op.Op.{Op}
use Rattle.stack_code.specs.declared.owner.Owner.{Owner}
use Rattle.code_expr.specs.Adds.{Adds, end_of, owned, owned_by}
use Rattle.code_expr.specs.Follows.{Code}
use Rattle.code_expr.specs.declared.block.Block.{Block}
use Rattle.code_stmt.specs.Lays.{Lays, ops_of}
use Rattle.code_stmt.specs.Runs.{with_rows, with_run}
use Rattle.code_stmt.specs.declared.written.Written.{Written}
use Rattle.code_stmt.proofs.OwnerRows.{run_is_rows}

pub ops_owned : (own : Own) (ops : List Op) → ops_of (owned own ops) ≡ ops
ops_owned own [] = refl
ops_owned own (op ∷ ops) = ap (λ more. op ∷ more) (ops_owned own ops)

-- what was written, by its parts
three : {m n : ℕ} {xs ys : List Op} {rs qs : List Owner} → m ≡ n → xs ≡ ys → rs ≡ qs → ◌≡◌ {A = ℕ × (List Op × List Owner)} (m, (xs, rs)) (n, (ys, qs))
three {n = n} {xs = xs} {ys = ys} {rs = rs} e f g = ap (λ k. (k, (xs, rs))) e ∙ (ap (λ zs. (n, (zs, rs))) f ∙ ap (λ zs. (n, (ys, zs))) g)

-- operations appended to those of one owner are that owner's
put_behind : (own : Own) (old new : List Op) (ps rest : List Placed) → length old ≤ length new → owned own new ++ ps ≡ owned own old ++ rest → rest ≡ owned own (drop (length old) new) ++ ps
put_behind own old new ps rest longer e =
    let same : length (owned own old) ≡ length old = length-map old (owned_by own) in
    let within : length (owned own old) ≤ length (owned own new) = omega (arith, longer, same, length-map new (owned_by own)) in
    sym (drop_at (owned own old) rest (length (owned own old)) refl)
    ∙ (ap (drop (length (owned own old))) (sym e)
    ∙ (drop-append-le (length (owned own old)) (owned own new) ps within
    ∙ (ap (λ n. drop n (owned own new) ++ ps) same
    ∙ ap (λ front. front ++ ps) (drop-map (owned_by own) (length old) new))))

pub closes : (own : Own) (w v : Written) (n : ℕ) (code : Code) → Adds own w.code v.code n code → v.owners.items ≡ with_run w.owners.items (end_of w.code) (end_of v.code) own → Lays w v n code
closes own w v n code added rows =
    let old = w.code.ops.items in
    let new = v.code.ops.items in
    let from = end_of w.code in
    let to = end_of v.code in
    let start : v.code.start ≡ w.code.start = ap (λ (x : ℕ × List Placed). x.0) (added.laid []) in
    let longer : length old ≤ length new = omega (arith, start, added.grown) in
    let past : to ≡ from + length (drop (length old) new) = omega (arith, start, added.grown, length-drop (length old) new) in
    record {
      grown = added.grown;
      laid = λ ps.
          let all : owned own new ++ ps ≡ owned own old ++ code from ps = ap (λ (x : ℕ × List Placed). x.1) (added.laid ps) in
          three start
          (ap (λ ops. ops ++ ops_of ps) (sym (ops_owned own new))
          ∙ (sym (map-append (λ (p : Placed). p.op) (owned own new) ps)
          ∙ (ap ops_of all
          ∙ (map-append (λ (p : Placed). p.op) (owned own old) (code from ps)
          ∙ ap (λ ops. ops ++ ops_of (code from ps)) (ops_owned own old)))))
          (ap (λ longer. with_rows longer to ps) rows
          ∙ (ap (λ end. with_rows (with_run w.owners.items from end own) end ps) past
          ∙ (sym (run_is_rows w.owners.items from own (drop (length old) new) ps)
          ∙ ap (with_rows w.owners.items from) (sym (put_behind own old new ps (code from ps) longer all)))));
    }

-- a run that is closed after operations were appended to it
pub closed_run : (own : Own) (w v : Written) (between : Block) (n : ℕ) (code : Code) (first : ℕ) → Adds own w.code between n code → v.code ≡ between → v.owners.items ≡ with_run w.owners.items first (end_of between) own → first ≡ end_of w.code → Lays w v n code
closed_run own w v between n code first added same rows place =
    closes own w v n code (subst (λ b. Adds own w.code b n code) (sym same) added)
    (rows ∙ (ap (λ pc. with_run w.owners.items pc (end_of between) own) place ∙ ap (λ b. with_run w.owners.items (end_of w.code) (end_of b) own) (sym same)))
