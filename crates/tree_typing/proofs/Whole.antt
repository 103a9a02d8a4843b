-- A well typed task asks or has ended, and its data have their types.
use Rattle.std.proofs.Common.{◌≡◌, refl, sym, ap, ◌∙◌, subst, ℕ, zero, suc, ◌<◌, ◌==◌, Bool, true, false, List, [], ◌∷◌, ◌++◌, length, map, flat_map, Some, slice_get, if◌then◌else◌, IsTrue, arith, length-append}
use Rattle.std.specs.Prelude.{⊤}
use Rattle.std.proofs.lemmas.Bool.{eqb-true, eq-eqb}
use Rattle.std.proofs.lemmas.List.{length-map}
use Rattle.std.proofs.lemmas.Option.{same_Some, slice_get_within}
use Rattle.rapid_model.specs.CellData.{CellData}
use Rattle.rapid_model.specs.declared.answer.Answer.{Answer}
use Rattle.rapid_model.specs.declared.pers_cell.PersCell.{PersCell}
use Rattle.rapid_model.specs.Sorts.{has_values}
use Rattle.rapid_model.specs.declared.request.Request.{Request}
use Rattle.rapid_model.specs.declared.request.Request.TheVariants.{End}
use Rattle.rapid_model.specs.declared.sort.Sort.{Sort}
use Rattle.rapid_model.proofs.Lists.{there_is}
use Rattle.typed_trees.specs.Plain.{TypedParam, TypedPers, TypedTree}
use Rattle.rapid_meaning.specs.Answering.{Outcome, Gave, Raised, Asking, Ended, Misfits, Unfit, NoFuel, fitting_of, performed, sort_of_pers}
use Rattle.rapid_meaning.specs.Data.{Data}
use Rattle.rapid_meaning.specs.Frames.{initial}
use Rattle.rapid_meaning.specs.Runs.{FitsSteps, asked_after, data_after, data_in, deep, next_of, state_after, task}
use Rattle.rapid_meaning.proofs.Fuel.{enough}
use Rattle.rapid_meaning.proofs.Growth.{fit_runs}
use Rattle.tree_typing.specs.Asked.{IsAsked}
use Rattle.tree_typing.specs.Goes.{AreTyped, Goes}
use Rattle.tree_typing.specs.Kinds.{cells_of, kind_of}
use Rattle.tree_typing.specs.Numbered.{IsOne, Numbered}
use Rattle.tree_typing.specs.Setting.{Setting}
use Rattle.tree_typing.specs.States.{AreInCells, IsState}
use Rattle.tree_typing.specs.WellTyped.{WellTyped}
use Rattle.tree_typing.proofs.Calls.{keeps}
use Rattle.tree_typing.proofs.Frames.{slots_in}
use Rattle.tree_typing.proofs.Meets.{Meets}
use Rattle.tree_typing.proofs.Rows.{all_at}
use Rattle.tree_typing.proofs.Runs.{Comes, Keeps, deep_comes, performed_comes}
use Rattle.tree_typing.proofs.Scene.{Facts, IsDue, rules_of}
use Rattle.tree_typing.proofs.Steps.{Follows, Stands, deep_follows, deep_stands, performed_follows, performed_stands}
use Rattle.tree_typing.proofs.OwnState.{calm, calm_itself}

-- all rows with a number have one type
abbrev OneSort : List ℕ → List TypedPers → ℕ → Sort → Type 0
OneSort numbers rows number sort = (k : ℕ) (q : TypedPers) → slice_get numbers k ≡ Some number → slice_get rows k ≡ Some q → q.sort ≡ sort

sort_here : (b : Bool) (row number n : ℕ) (r p : TypedPers) (ns : List ℕ) (rs : List TypedPers) → (n == number) ≡ b → OneSort (n ∷ ns) (r ∷ rs) number p.sort
    → slice_get (n ∷ ns) row ≡ Some number → slice_get (r ∷ rs) row ≡ Some p
    → ((k : ℕ) → slice_get ns k ≡ Some number → slice_get rs k ≡ Some p → sort_of_pers ns rs number ≡ Some p.sort)
    → (if b then Some r.sort else sort_of_pers ns rs number) ≡ Some p.sort
sort_here true row number n r p ns rs same one numbered there more = ap Some (one 0 r (ap Some (eqb-true n number same)) refl)
sort_here false zero number n r p ns rs same one numbered there more = let is : n ≡ number = cc in let hit : (n == number) ≡ true = eq-eqb n number is in absurd cc
sort_here false (suc row) number n r p ns rs same one numbered there more = more row numbered there

sort_found : (numbers : List ℕ) (rows : List TypedPers) (row number : ℕ) (p : TypedPers) → OneSort numbers rows number p.sort → slice_get numbers row ≡ Some number → slice_get rows row ≡ Some p
    → sort_of_pers numbers rows number ≡ Some p.sort
unfolding sort_of_pers
sort_found [] rows row number p one numbered there = absurd cc
sort_found (n ∷ ns) [] row number p one numbered there = absurd cc
sort_found (n ∷ ns) (r ∷ rs) row number p one numbered there =
    sort_here (n == number) row number n r p ns rs refl one numbered there (λ k numbered_there found. sort_found ns rs k number p (λ j q e f. one (suc j) q e f) numbered_there found)

pub facts_of : (signals : ℕ) (cell : CellData) (number : ℕ) (tree : TypedTree) → WellTyped signals tree → Numbered cell number tree
    → Facts (record { signals = signals; tree = tree })
facts_of signals cell number tree typed numbered = record {
  numbers = λ row p e. let few : row < length tree.pers = slice_get_within tree.pers row p e in there_is tree.pers_of row (omega (arith, few, numbered.as_many_pers));
  sorts = λ n p is.
      let own : IsOne cell p n = numbered.pers is.row n p is.numbered is.there in
      sort_found tree.pers_of tree.pers is.row n p
      (λ k q e f. let other : IsOne cell q n = numbered.pers k n q e f in
      sym other.same_sort ∙ ap (λ (x : PersCell). x.sort) (same_Some other.cell_row own.cell_row (sym other.there ∙ own.there)) ∙ own.same_sort) is.numbered is.there;
  valued = λ n p is. all_at (λ (q : TypedPers). IsTrue (has_values q.sort)) tree.pers is.row p typed.pers is.there;
  routines = typed.routines;
  meetings = λ row few. there_is tree.meeting_of row (omega (arith, few, numbered.as_many_meetings));
  few_tasks =
      let as_many : length tree.tasks ≡ length cell.tasks = ap (λ (names : List (List ℕ)). length names) numbered.tasks ∙ length-map cell.tasks (λ row. row.name) in
      omega (arith, as_many, numbered.few_tasks);
}

initial_state : (signals : ℕ) (tree : TypedTree) → WellTyped signals tree → IsState tree false [] (initial tree)
initial_state signals tree typed = record { slots = slots_in tree [] tree.slots typed.slots; frames_are = tt; called = tt; in_trap = refl }

takes_none : (tree : TypedTree) (params : List TypedParam) → params ≡ [] → AreInCells tree [] (flat_map cells_of (map kind_of params)) []
takes_none tree params e = subst (λ (ps : List TypedParam). AreInCells tree [] (flat_map cells_of (map kind_of ps)) []) (sym e) tt

task_meets : (signals : ℕ) (tree : TypedTree) → WellTyped signals tree
    → Meets (rules_of (record { signals = signals; tree = tree })) (λ (v : ⊤) d. ⊥) (λ n d. ⊥) (task tree) (calm (initial tree)) (initial tree)
task_meets signals tree typed = (
  calm_itself (initial tree),
  record { trapped = false; frames = []; lists = [] },
  ((typed.main.routine, typed.main.there, takes_none tree typed.main.routine.params typed.main.takes_nothing), initial_state signals tree typed),
  λ flow e ends. record { rises = refl; same = refl; asked = record { asked = refl; trapped = false; frames = []; state = ends.1 } },
  λ n e fails. record { rises = refl; same = refl; asked = record { asked = refl; trapped = false; frames = []; state = fails } },
)

-- the outcome of a task: it has no result, and raises no error
abbrev pub ComesTo : Setting → Outcome ⊤ → Type 0
ComesTo c o = Comes (rules_of c) (λ (v : ⊤) d. ⊥) (λ n d. ⊥) o

pub state_comes : (signals : ℕ) (cell : CellData) (number : ℕ) (tree : TypedTree) (answers : List Answer) → WellTyped signals tree → Numbered cell number tree
    → ComesTo (record { signals = signals; tree = tree }) (state_after tree answers)
unfolding state_after
state_comes signals cell number tree answers typed numbered =
    let c : Setting = record { signals = signals; tree = tree } in
    performed_comes (rules_of c) (deep tree (suc (length answers))) (deep_comes (rules_of c) (keeps c (facts_of signals cell number tree typed numbered)) (suc (length answers)))
    (λ (v : ⊤) d. ⊥) (λ n d. ⊥) (task tree) (calm (initial tree)) (initial tree) answers (task_meets signals tree typed)

-- without an answer its state is the first one, and with one more answer the one that its events then give
pub first_stands : (signals : ℕ) (cell : CellData) (number : ℕ) (tree : TypedTree) → WellTyped signals tree → Numbered cell number tree
    → Stands (rules_of (record { signals = signals; tree = tree })) (λ (v : ⊤) d. ⊥) (λ n d. ⊥) (calm (initial tree)) (state_after tree [])
unfolding state_after
first_stands signals cell number tree typed numbered =
    let c : Setting = record { signals = signals; tree = tree } in
    performed_stands (rules_of c) (deep tree 1) (deep_stands (rules_of c) (keeps c (facts_of signals cell number tree typed numbered)) 1)
    (λ (v : ⊤) d. ⊥) (λ n d. ⊥) (task tree) (calm (initial tree)) (initial tree) (task_meets signals tree typed)

pub next_follows : (signals : ℕ) (cell : CellData) (number : ℕ) (tree : TypedTree) (answers : List Answer) (a : Answer) → WellTyped signals tree → Numbered cell number tree
    → Follows (rules_of (record { signals = signals; tree = tree })) (λ (v : ⊤) d. ⊥) (λ n d. ⊥) a (state_after tree answers) (state_after tree (answers ++ a ∷ []))
unfolding state_after
next_follows signals cell number tree answers a typed numbered =
    let c : Setting = record { signals = signals; tree = tree } in
    let kept : Keeps (rules_of c) = keeps c (facts_of signals cell number tree typed numbered) in
    let n : ℕ = suc (length answers) in
    let longer : n ≡ length (answers ++ a ∷ []) = omega (arith, length-append answers (a ∷ [])) in
    subst (λ (k : ℕ). Follows (rules_of c) (λ (v : ⊤) d. ⊥) (λ m d. ⊥) a (performed (fitting_of tree) (deep tree n) (task tree) (initial tree) answers)
    (performed (fitting_of tree) (deep tree (suc k)) (task tree) (initial tree) (answers ++ a ∷ []))) longer
    (performed_follows (rules_of c) a (deep tree n) (deep tree (suc n)) (deep_follows (rules_of c) kept a n) (deep_stands (rules_of c) kept (suc n))
    (λ (v : ⊤) d. ⊥) (λ m d. ⊥) (task tree) (calm (initial tree)) (initial tree) answers (task_meets signals tree typed))

goes_from : (c : Setting) (o : Outcome ⊤) → ComesTo c o → (o ≡ Unfit → ⊥) → (o ≡ NoFuel → ⊥) → Goes (next_of o)
goes_from c (Asking request d) comes fit fuel = tt
goes_from c (Ended d) comes fit fuel = tt
goes_from c (Gave v d left) comes fit fuel = comes
goes_from c (Raised n d left) comes fit fuel = comes
goes_from c Misfits comes fit fuel = comes
goes_from c Unfit comes fit fuel = fit refl
goes_from c NoFuel comes fit fuel = absurd (fuel refl)

pub goes : (signals : ℕ) (cell : CellData) (number : ℕ) (tree : TypedTree) (answers : List Answer) → WellTyped signals tree → Numbered cell number tree
    → FitsSteps tree answers → Goes (asked_after tree answers)
unfolding asked_after
goes signals cell number tree answers typed numbered fits =
    goes_from (record { signals = signals; tree = tree }) (state_after tree answers) (state_comes signals cell number tree answers typed numbered)
    (fit_runs tree answers fits) (enough tree answers)

due_typed : (c : Setting) (d : Data) (request : Request) → IsDue c d request → AreTyped c.tree d
due_typed c d request due = record { frames = due.frames; state = record { slots = due.state.slots; frames_are = due.state.frames_are; called = due.state.called; in_trap = refl } }

typed_from : (c : Setting) (o : Outcome ⊤) (d : Data) → ComesTo c o → data_in o ≡ Some d → AreTyped c.tree d
typed_from c (Asking request e) d comes is = let same : e ≡ d = cc in subst (λ (x : Data). AreTyped c.tree x) same (due_typed c e request comes)
typed_from c (Ended e) d comes is = let same : e ≡ d = cc in subst (λ (x : Data). AreTyped c.tree x) same (due_typed c e (End comes.0) comes.1)
typed_from c (Gave v e left) d comes is = absurd cc
typed_from c (Raised n e left) d comes is = absurd cc
typed_from c Misfits d comes is = absurd cc
typed_from c Unfit d comes is = absurd cc
typed_from c NoFuel d comes is = absurd cc

pub typed_data : (signals : ℕ) (cell : CellData) (number : ℕ) (tree : TypedTree) (answers : List Answer) (d : Data) → WellTyped signals tree → Numbered cell number tree
    → data_after tree answers ≡ Some d → AreTyped tree d
unfolding data_after
typed_data signals cell number tree answers d typed numbered is =
    typed_from (record { signals = signals; tree = tree }) (state_after tree answers) d (state_comes signals cell number tree answers typed numbered) is

asked_from : (c : Setting) (o : Outcome ⊤) (request : Request) (d : Data) → ComesTo c o → o ≡ Asking request d → IsAsked c d request
asked_from c o request d comes is = let due : IsDue c d request = subst (λ (x : Outcome ⊤). ComesTo c x) is comes in due.asked

pub asked : (signals : ℕ) (cell : CellData) (number : ℕ) (tree : TypedTree) (answers : List Answer) (request : Request) (d : Data) → WellTyped signals tree
    → Numbered cell number tree → state_after tree answers ≡ Asking request d → IsAsked (record { signals = signals; tree = tree }) d request
asked signals cell number tree answers request d typed numbered is =
    asked_from (record { signals = signals; tree = tree }) (state_after tree answers) request d (state_comes signals cell number tree answers typed numbered) is
