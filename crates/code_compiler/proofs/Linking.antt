-- Routines linked one by one.
use Rattle.std.proofs.Common.{◌≡◌, ◌+◌, max, List, [], ◌∷◌, ◌++◌, length, sym, ap, ◌∙◌, arith}
use Rattle.std.specs.Prelude.{flat_map}
use Rattle.std.proofs.lemmas.List.{append_assoc, append-nil}
use Rattle.rapid_meaning.specs.Frames.{first_values}
use Rattle.stack_code.specs.Compiled.{deepest_in, handlers_of, owner_rows, placed_in, routine_code, routine_row, routine_rows, routine_size, routines_code}
use Rattle.stack_code.specs.Firsts.{in_full}
use Rattle.stack_code.specs.declared.op.Op.{Op}
use Rattle.stack_code.specs.declared.owner.Owner.{Owner}
use Rattle.stack_code.specs.declared.first_run.FirstRun.{FirstRun}
use Rattle.typed_trees.specs.Plain.{TypedRoutine, TypedTree}
use Rattle.code_stmt.specs.Lays.{ops_of}
use Rattle.code_stmt.specs.Marked.{handler_at, with_marked}
use Rattle.code_stmt.specs.Runs.{with_rows}
use Rattle.code_stmt.proofs.OwnerRows.{all_rows}
use Rattle.code_compiler.specs.Linking.{Links}
use Rattle.code_compiler.specs.declared.linked.Linked.{Linked}

-- all of a tree's routines are linked except those that are left
pub record IsLeft (tree : TypedTree) (l : Linked) (left : List TypedRoutine) : Type 0 where
  pub code : with_marked l.ops.items l.marks.owners.items (routines_code tree (length l.ops.items) left) ≡ with_marked [] [] (placed_in tree)
  pub rows : l.rows.items ++ routine_rows tree (length l.ops.items) l.values left ≡ routine_rows tree 0 0 tree.routines
  pub handlers : l.marks.handlers.items ++ handlers_of tree (length l.ops.items) left ≡ handlers_of tree 0 tree.routines
  pub firsts : in_full l.firsts.items ++ flat_map first_values left ≡ flat_map first_values tree.routines
  pub deepest : max l.deepest (deepest_in tree left) ≡ deepest_in tree tree.routines

-- nothing is linked
pub none_linked : (tree : TypedTree) (l : Linked) → l.ops.items ≡ [] → l.rows.items ≡ [] → l.marks.owners.items ≡ [] → l.marks.handlers.items ≡ [] → l.firsts.items ≡ [] → l.values ≡ 0 → l.deepest ≡ 0 → IsLeft tree l tree.routines
none_linked tree l ops rows owners handlers firsts values deepest = record {
  code =
      ap (λ ops. with_marked ops l.marks.owners.items (routines_code tree (length ops) tree.routines)) ops
      ∙ ap (λ owners. with_marked [] owners (placed_in tree)) owners;
  rows =
      ap (λ rows. rows ++ routine_rows tree (length l.ops.items) l.values tree.routines) rows
      ∙ (ap (λ (ops : List Op). routine_rows tree (length ops) l.values tree.routines) ops
      ∙ ap (λ first. routine_rows tree 0 first tree.routines) values);
  handlers =
      ap (λ rows. rows ++ handlers_of tree (length l.ops.items) tree.routines) handlers
      ∙ ap (λ (ops : List Op). handlers_of tree (length ops) tree.routines) ops;
  firsts = ap (λ (runs : List FirstRun). in_full runs ++ flat_map first_values tree.routines) firsts;
  deepest = omega (arith, deepest);
}

-- one routine more
pub one_more : (tree : TypedTree) (routine : TypedRoutine) (rest : List TypedRoutine) (a b : Linked) → IsLeft tree a (routine ∷ rest) → Links tree routine a b → IsLeft tree b rest
unfolding routines_code routine_rows handlers_of deepest_in
one_more tree routine rest a b left linked =
    let size = routine_size tree routine in
    let from = length a.ops.items in
    let to = length b.ops.items in
    let grown : to ≡ from + size = linked.marked.laid.grown in
    record {
      code =
          linked.marked.laid.laid (routines_code tree to rest)
          ∙ (ap (λ pc. with_marked a.ops.items a.marks.owners.items (routine_code tree from routine (routines_code tree pc rest))) grown
          ∙ left.code);
      rows =
          ap (λ rows. rows ++ routine_rows tree to b.values rest) linked.row
          ∙ (append_assoc a.rows.items (routine_row from a.values routine ∷ []) (routine_rows tree to b.values rest)
          ∙ (ap (λ pc. a.rows.items ++ routine_row from a.values routine ∷ routine_rows tree pc b.values rest) grown
          ∙ (ap (λ first. a.rows.items ++ routine_row from a.values routine ∷ routine_rows tree (from + size) first rest) linked.values
          ∙ left.rows)));
      handlers =
          ap (λ rows. rows ++ handlers_of tree to rest) linked.marked.handler
          ∙ (append_assoc a.marks.handlers.items (handler_at tree routine from ∷ []) (handlers_of tree to rest)
          ∙ (ap (λ pc. a.marks.handlers.items ++ handler_at tree routine from ∷ handlers_of tree pc rest) grown
          ∙ left.handlers));
      firsts =
          ap (λ firsts. firsts ++ flat_map first_values rest) linked.firsts
          ∙ (append_assoc (in_full a.firsts.items) (first_values routine) (flat_map first_values rest)
          ∙ left.firsts);
      deepest = omega (arith, linked.deepest, left.deepest);
    }

-- all of them
pub record AreAll (tree : TypedTree) (l : Linked) : Type 0 where
  pub ops : l.ops.items ≡ ops_of (placed_in tree)
  pub rows : l.rows.items ≡ routine_rows tree 0 0 tree.routines
  pub owners : l.marks.owners.items ≡ owner_rows (placed_in tree)
  pub handlers : l.marks.handlers.items ≡ handlers_of tree 0 tree.routines
  pub firsts : in_full l.firsts.items ≡ flat_map first_values tree.routines
  pub deepest : l.deepest ≡ deepest_in tree tree.routines

pub all_linked : (tree : TypedTree) (l : Linked) → IsLeft tree l [] → AreAll tree l
unfolding routines_code routine_rows handlers_of deepest_in with_rows
all_linked tree l left = record {
  ops = sym (append-nil l.ops.items) ∙ ap (λ (x : List Op × List Owner). x.0) left.code;
  rows = sym (append-nil l.rows.items) ∙ left.rows;
  owners = ap (λ (x : List Op × List Owner). x.1) left.code ∙ sym (all_rows (placed_in tree));
  handlers = sym (append-nil l.marks.handlers.items) ∙ left.handlers;
  firsts = sym (append-nil (in_full l.firsts.items)) ∙ left.firsts;
  deepest = omega (arith, left.deepest);
}
