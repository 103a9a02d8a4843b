-- The compiled code of each tree of an accepted cell fits its task.
use Rattle.std.proofs.Common.{◌≡◌, refl, sym, ap, ◌∙◌, subst, ℕ, zero, suc, List, [], ◌∷◌, ◌++◌, length, Some, slice_get, append_assoc}
use Rattle.std.proofs.lemmas.Option.{same_Some}
use Rattle.rapid_model.specs.CellData.{CellData}
use Rattle.rapid_model.specs.ScriptData.{ScriptData}
use Rattle.rapid_model.specs.declared.answer.Answer.{Answer}
use Rattle.rapid_model.specs.declared.event.Event.{Event}
use Rattle.rapid_model.specs.declared.pers_cell.PersCell.{PersCell}
use Rattle.rapid_model.specs.declared.request.Request.{Request}
use Rattle.rapid_model.specs.declared.request.Request.TheVariants as requests
use Rattle.rapid_model.specs.declared.watched.Watched.TheVariants as watched
use Rattle.typed_trees.specs.Plain.{TypedPers, TypedTree}
use Rattle.cell_assembly.specs.Made.{MadeCell}
use Rattle.rapid_meaning.specs.Answering.{Asking}
use Rattle.rapid_meaning.specs.Data.{Data}
use Rattle.rapid_meaning.specs.Runs.{asks, asked_after, state_after}
use Rattle.tree_typing.specs.Asked.{IsAsked}
use Rattle.tree_typing.specs.Numbered.{IsOne, Numbered}
use Rattle.tree_typing.specs.OwnEvents.{AreOwn}
use Rattle.tree_typing.specs.Setting.{Setting}
use Rattle.tree_typing.specs.States.{IsPers}
use Rattle.tree_typing.proofs.Own.{is_asking}
use Rattle.tree_typing.proofs.Whole.{asked}
use Rattle.stack_code.specs.CodeData.{CodeData}
use Rattle.stack_code.specs.Compiled.{compiled, sorts_of}
use Rattle.stack_code.specs.declared.pers_sort.PersSort.{PersSort}
use Rattle.task_code.specs.Asking.{CodeAsks}
use Rattle.task_code.specs.Live.{CodeFits}
use Rattle.code_laws.specs.Asking.{AsksAs}
use Rattle.code_laws.proofs.Compiles.{same_trap}
use Rattle.code_laws.proofs.Lives.{asks_as}
use Rattle.accepted_cells.specs.Accepted.{IsAccepted}
use Rattle.accepted_cells.proofs.Accepted.{IsRight, accepted_right}
use Rattle.accepted_cells.proofs.Checking.{checked_is}
use Rattle.accepted_cells.specs.FitsTask.{AreAsked, FitsTask, HasItsSort, answers_in, named_pers}
use Rattle.accepted_cells.proofs.Asking.{may_next}
use Rattle.accepted_cells.proofs.Programs.{tree_due}

-- answers that fit step by step fit so far
fits_front : (code : CodeData) (before after : List Answer) → CodeFits code (before ++ after) → CodeFits code before
fits_front code before after fits = record {
  at = λ first later a cut. fits.at first (later ++ after) a (ap (λ (x : List Answer). x ++ after) cut ∙ append_assoc first (a ∷ later) after);
}

answers_cut : (before after : List Event) (e : Event) → answers_in (before ++ e ∷ after) ≡ answers_in before ++ e.answer ∷ answers_in after
answers_cut [] after e = refl
answers_cut (f ∷ before) after e = ap (λ (x : List Answer). f.answer ∷ x) (answers_cut before after e)

-- the row of code for a persistent's row of the tree
sort_there : (numbers : List ℕ) (rows : List TypedPers) (k number : ℕ) (p : TypedPers) → slice_get numbers k ≡ Some number → slice_get rows k ≡ Some p
    → slice_get (sorts_of numbers rows) k ≡ Some (record { pers = number; sort = p.sort })
unfolding sorts_of
sort_there [] rows k number p n r = absurd cc
sort_there (m ∷ numbers) [] k number p n r = absurd cc
sort_there (m ∷ numbers) (q ∷ rows) zero number p n r =
    let same : m ≡ number = cc in
    let one : q ≡ p = cc in
    ap (λ (x : ℕ). let row : PersSort = record { pers = x; sort = q.sort } in Some row) same ∙ ap (λ (x : TypedPers). let row : PersSort = record { pers = number; sort = x.sort } in Some row) one
sort_there (m ∷ numbers) (q ∷ rows) (suc k) number p n r = sort_there numbers rows k number p n r

-- and the other way
record IsRow (numbers : List ℕ) (rows : List TypedPers) (k : ℕ) (r : PersSort) : Type 0 where
  p : TypedPers
  numbered : slice_get numbers k ≡ Some r.pers
  there : slice_get rows k ≡ Some p
  same : r.sort ≡ p.sort

row_of : (numbers : List ℕ) (rows : List TypedPers) (k : ℕ) (r : PersSort) → slice_get (sorts_of numbers rows) k ≡ Some r → IsRow numbers rows k r
unfolding sorts_of
row_of [] rows k r is = absurd cc
row_of (m ∷ numbers) [] k r is = absurd cc
row_of (m ∷ numbers) (q ∷ rows) zero r is =
    let made : PersSort = record { pers = m; sort = q.sort } in
    let same : made ≡ r = cc in
    record { p = q; numbered = ap (λ (x : PersSort). Some x.pers) same; there = refl; same = sym (ap (λ (x : PersSort). x.sort) same) }
row_of (m ∷ numbers) (q ∷ rows) (suc k) r is =
    let later : IsRow numbers rows k r = row_of numbers rows k r is in
    record { p = later.p; numbered = later.numbered; there = later.there; same = later.same }

-- a persistent of the tree has its type in the code
its_sort : (cell : CellData) (task : ℕ) (tree : TypedTree) (pers : ℕ) (p : TypedPers) → Numbered cell task tree → IsPers tree pers p → HasItsSort (compiled tree) cell pers
its_sort cell task tree pers p numbered is =
    let one : IsOne cell p pers = numbered.pers is.row pers p is.numbered is.there in
    record {
      row = one.cell_row;
      there = one.there;
      index = is.row;
      listed =
          sort_there tree.pers_of tree.pers is.row pers p is.numbered is.there
          ∙ ap (λ (s : _). let row : PersSort = record { pers = pers; sort = s } in Some row) (sym one.same_sort);
      each = λ k r there same.
          let of : IsRow tree.pers_of tree.pers k r = row_of tree.pers_of tree.pers k r there in
          let other : IsOne cell of.p r.pers = numbered.pers k r.pers of.p of.numbered of.there in
          of.same ∙ sym other.same_sort
          ∙ ap (λ (x : PersCell). x.sort) (same_Some other.cell_row one.cell_row (sym (subst (λ (n : ℕ). slice_get cell.pers n ≡ Some other.cell_row) same other.there) ∙ one.there));
    }

-- a request for a persistent is for one of the tree
asked_pers : (c : Setting) (d : Data) (request : Request) (pers : ℕ) → IsAsked c d request → named_pers request ≡ Some pers → (p : TypedPers) × IsPers c.tree pers p
asked_pers c d (requests.ReadP number path) pers may is = let same : number ≡ pers = cc in (may.0, subst (λ (n : ℕ). IsPers c.tree n may.0) same may.1)
asked_pers c d (requests.WriteP number path value) pers may is = let same : number ≡ pers = cc in (may.0, subst (λ (n : ℕ). IsPers c.tree n may.0) same may.1)
asked_pers c d (requests.TestSet number path) pers may is = let same : number ≡ pers = cc in (may.0, subst (λ (n : ℕ). IsPers c.tree n may.0) same may.1)
asked_pers c d (requests.Order number (watched.Pers watched_pers) single) pers may is = let same : watched_pers ≡ pers = cc in (may.0, subst (λ (n : ℕ). IsPers c.tree n may.0) same may.1)
asked_pers c d (requests.Order number (watched.Signal signal value) single) pers may is = absurd cc
asked_pers c d request pers may is = absurd cc

module _ (script : ScriptData) (made : MadeCell) (task : ℕ) (tree : TypedTree) (accepted : IsAccepted script made) (there : slice_get made.trees task ≡ Some tree) where
  right : IsRight made task tree
  right = accepted_right script made task tree accepted there

  same : AsksAs tree (compiled tree)
  same = asks_as tree (checked_is script made task tree accepted there)

  -- the code asks what its well typed task may ask
  well_asked : (answers : List Answer) (request : Request) → CodeFits (compiled tree) answers → CodeAsks (compiled tree) answers request
      → (d : Data) × IsAsked (record { signals = length made.cell.signals; tree = tree }) d request
  well_asked answers request fits asking =
      let due : asked_after tree answers ≡ asks request = tree_due tree (compiled tree) answers request same ((same.fits answers).0 fits) asking in
      let now : (d : Data) × (state_after tree answers ≡ Asking request d) = is_asking tree answers request due in
      (now.0, asked (length made.cell.signals) made.cell task tree answers request now.0 right.typed right.numbered now.1)

  -- the events of the code are the task's own by its tree
  tree_own : (mine : List Event) → AreAsked (compiled tree) task mine → CodeFits (compiled tree) (answers_in mine) → AreOwn task tree mine
  tree_own mine are fits = record {
    its = are.own;
    due = λ before after e cut.
        let so_far : CodeFits (compiled tree) (answers_in before) =
        fits_front (compiled tree) (answers_in before) (e.answer ∷ answers_in after)
        (subst (CodeFits (compiled tree)) (ap answers_in cut ∙ answers_cut before after e) fits) in
        tree_due tree (compiled tree) (answers_in before) e.request same ((same.fits (answers_in before)).0 so_far) (are.asked before after e cut);
  }

  pub fits_task : FitsTask (compiled tree) made.cell task
  fits_task = record {
    may = λ mine request are fits asking.
        may_next script made task tree mine request accepted there (tree_own mine are fits)
        (tree_due tree (compiled tree) (answers_in mine) request same ((same.fits (answers_in mine)).0 fits) asking);
    traps = λ answers old trap fits asking. same_trap tree 0 0 tree.routines trap ∙ (well_asked answers (requests.Connect old trap) fits asking).1;
    sorts = λ answers request pers fits asking named.
        let w = well_asked answers request fits asking in
        let p = asked_pers (record { signals = length made.cell.signals; tree = tree }) w.0 request pers w.1 named in
        its_sort made.cell task tree pers p.0 right.numbered p.1;
  }
