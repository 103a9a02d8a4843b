-- The FORs of a statement, with those of its parts appended in turn.
use Rattle.std.proofs.Common.{◌≡◌, ℕ, zero, suc, ◌+◌, ◌-◌, ◌<◌, ◌≤◌, List, [], ◌∷◌, ◌++◌, length, map, drop, Option, Some, slice_get, get_or, option_map, if◌then◌else◌, bytes_eq, Bool, refl, sym, ap, ◌∙◌, append_assoc, length-append, arith}
use Rattle.std.proofs.Math.ListN.{drop_of_length-le}
use Rattle.std.proofs.lemmas.List.{append-nil}
use Rattle.std.proofs.lemmas.Option.{slice_get_read}
use Rattle.std.specs.Str.{str_to_ascii_lowercase}
use Rattle.std.specs.declared.alloc.Global.{Global}
use Rattle.std.specs.declared.boxed.Box.{Box}
use Rattle.std.specs.declared.vec.Vec.{Vec}
use Rattle.raw_trees.specs.declared.raw_bounds.RawBounds.{RawBounds}
use Rattle.raw_trees.specs.declared.raw_name.RawName.{RawName}
use Rattle.raw_trees.specs.declared.raw_expr.RawExpr.{RawExpr}
use Rattle.raw_trees.specs.declared.raw_stmt.RawStmt.{RawStmt}
use Rattle.raw_trees.specs.declared.raw_stmt.RawForm.{If, For, While, Test}
use Rattle.raw_trees.specs.Plain.{arms_of, cases_of, else_of, stmts_of}
use Rattle.raw_trees.specs.Views.{view_arm, view_case, view_list, view_stmt, view_stmt_form}
use Rattle.raw_trees.proofs.Rows.{choice_view, test_view, for_view, while_view}
use Rattle.data_scopes.specs.Loops.{loops_of, loops_in, loops_in_arms, loops_in_cases, loops_in_else}
use Rattle.data_scopes.specs.Scopes.{Loop, loop_named, named_or}

joined : (rows here : List Loop) (rest : ℕ → List Loop) → (rows ++ here) ++ rest (length (rows ++ here)) ≡ rows ++ (here ++ rest (length rows + length here))
joined rows here rest = append_assoc rows here (rest (length (rows ++ here))) ∙ ap (λ n. rows ++ (here ++ rest n)) (length-append rows here)

-- after the arms, the ELSE
then_else : (rows done here : List Loop) (rest : ℕ → List Loop) → done ++ [] ≡ rows ++ here → done ++ rest (length done) ≡ rows ++ (here ++ rest (length rows + length here))
then_else rows done here rest is =
    ap (λ xs. xs ++ rest (length xs)) (sym (append-nil done) ∙ is) ∙ joined rows here rest

module _ (s : RawStmt) (outer : Option ℕ) (rows done : List Loop) where
  pub if_rows : (arms : Vec (RawExpr × Vec RawStmt Global) Global) (other : Option (Vec RawStmt Global)) (items : List (RawExpr × Vec RawStmt Global)) (i : ℕ) → s.form ≡ If arms other → items ≡ arms.items → length items ≤ i
      → done ++ loops_in_arms outer (length done) (arms_of (map view_arm (drop i items))) ≡ rows ++ loops_in_arms outer (length rows) (arms_of (map view_arm items))
      → done ++ loops_in_else outer (length done) (else_of (option_map view_list other)) ≡ rows ++ loops_of outer (length rows) (view_stmt s)
  if_rows arms other items i is all end inv =
      let here = loops_in_arms outer (length rows) (arms_of (map view_arm items)) in
      let none : drop i items ≡ [] = drop_of_length-le items end in
      let at_end : done ++ [] ≡ rows ++ here = ap (λ xs. done ++ loops_in_arms outer (length done) (arms_of (map view_arm xs))) (sym none) ∙ inv in
      let seen : view_stmt s ≡ view_stmt_form s.at (If arms other) = ap (view_stmt_form s.at) is in
      then_else rows done here (λ n. loops_in_else outer n (else_of (option_map view_list other))) at_end
      ∙ ap (λ xs. let h = loops_in_arms outer (length rows) (arms_of (map view_arm xs)) in rows ++ (h ++ loops_in_else outer (length rows + length h) (else_of (option_map view_list other)))) all
      ∙ ap (λ p. rows ++ loops_of outer (length rows) p) (sym (seen ∙ choice_view s.at arms other))

  pub test_rows : (value : RawExpr) (cases : Vec (Vec RawExpr Global × Vec RawStmt Global) Global) (other : Option (Vec RawStmt Global)) (items : List (Vec RawExpr Global × Vec RawStmt Global)) (i : ℕ) → s.form ≡ Test value cases other → items ≡ cases.items → length items ≤ i
      → done ++ loops_in_cases outer (length done) (cases_of (map view_case (drop i items))) ≡ rows ++ loops_in_cases outer (length rows) (cases_of (map view_case items))
      → done ++ loops_in_else outer (length done) (else_of (option_map view_list other)) ≡ rows ++ loops_of outer (length rows) (view_stmt s)
  test_rows value cases other items i is all end inv =
      let here = loops_in_cases outer (length rows) (cases_of (map view_case items)) in
      let none : drop i items ≡ [] = drop_of_length-le items end in
      let at_end : done ++ [] ≡ rows ++ here = ap (λ xs. done ++ loops_in_cases outer (length done) (cases_of (map view_case xs))) (sym none) ∙ inv in
      let seen : view_stmt s ≡ view_stmt_form s.at (Test value cases other) = ap (view_stmt_form s.at) is in
      then_else rows done here (λ n. loops_in_else outer n (else_of (option_map view_list other))) at_end
      ∙ ap (λ xs. let h = loops_in_cases outer (length rows) (cases_of (map view_case xs)) in rows ++ (h ++ loops_in_else outer (length rows + length h) (else_of (option_map view_list other)))) all
      ∙ ap (λ p. rows ++ loops_of outer (length rows) p) (sym (seen ∙ test_view s.at value cases other))

  pub while_rows : (test : RawExpr) (list : Vec RawStmt Global) → s.form ≡ While test list → rows ++ loops_in outer (length rows) (stmts_of (view_list list)) ≡ rows ++ loops_of outer (length rows) (view_stmt s)
  while_rows test list is =
      let seen : view_stmt s ≡ view_stmt_form s.at (While test list) = ap (view_stmt_form s.at) is in
      ap (λ p. rows ++ loops_of outer (length rows) p) (sym (seen ∙ while_view s.at test list))

  pub for_rows : (name : RawName) (bounds : Box RawBounds Global) (list : Vec RawStmt Global) (row : Loop) (number : ℕ) → s.form ≡ For name bounds list → number ≡ length rows → done ≡ rows ++ row ∷ [] → row ≡ record { name = str_to_ascii_lowercase name.text.now; outer = outer }
      → done ++ loops_in (Some number) (length done) (stmts_of (view_list list)) ≡ rows ++ loops_of outer (length rows) (view_stmt s)
  for_rows name bounds list row number is counted pushed named =
      let seen : view_stmt s ≡ view_stmt_form s.at (For name bounds list) = ap (view_stmt_form s.at) is in
      ap (λ xs. xs ++ loops_in (Some number) (length xs) (stmts_of (view_list list))) pushed
      ∙ joined rows (row ∷ []) (λ n. loops_in (Some number) n (stmts_of (view_list list)))
      ∙ ap (λ r. rows ++ (r ∷ loops_in (Some number) (length rows + 1) (stmts_of (view_list list)))) named
      ∙ ap (λ n. rows ++ (record { name = str_to_ascii_lowercase name.text.now; outer = outer } ∷ loops_in (Some n) (length rows + 1) (stmts_of (view_list list)))) counted
      ∙ ap (λ p. rows ++ loops_of outer (length rows) p) (sym (seen ∙ for_view s.at name bounds list))

outward : (steps : ℕ) (key : List ℕ) (loops : List Loop) (k : ℕ) → 0 < steps → loop_named steps key loops (Some k) ≡ named_or key k (slice_get loops k) (loop_named (steps - 1) key loops)
outward zero key loops k more = absurd (omega arith)
outward (suc steps) key loops k more =
    let e : suc steps - 1 ≡ steps = omega arith in
    ap (λ n. named_or key k (slice_get loops k) (loop_named n key loops)) (sym e)

-- at a FOR, the result is this one if its variable has the name, else an outer one
pub named_at : (steps : ℕ) (key : List ℕ) (loops : List Loop) (at : Option ℕ) (k : ℕ) (row : Loop) (b : Bool) → 0 < steps → at ≡ Some k → k < length loops → row ≡ get_or loops k row → b ≡ bytes_eq key row.name → loop_named steps key loops at ≡ (if b then Some k else loop_named (steps - 1) key loops row.outer)
named_at steps key loops at k row b more is within here named =
    ap (loop_named steps key loops) is ∙ outward steps key loops k more
    ∙ ap (λ r. named_or key k r (loop_named (steps - 1) key loops)) (slice_get_read loops (length loops) k row refl within here)
    ∙ ap (λ t. if t then Some k else loop_named (steps - 1) key loops row.outer) (sym named)
