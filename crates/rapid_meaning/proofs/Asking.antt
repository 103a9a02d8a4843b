-- Only a task of the cell asks, and at most one request after given answers.
use Rattle.std.proofs.Common.{◌≡◌, refl, sym, ◌∙◌, ℕ, zero, suc, ◌<◌, List, [], ◌∷◌, length, Option, None, Some, slice_get, arith}
use Rattle.std.specs.Prelude.{IsSomeAnd}
use Rattle.rapid_model.specs.declared.answer.Answer.{Answer}
use Rattle.rapid_model.specs.declared.request.Request.{Request}
use Rattle.rapid_model.specs.declared.request.Request.TheVariants.{Look, Position}
use Rattle.typed_trees.specs.Plain.{TypedTree}
use Rattle.rapid_meaning.specs.Asking.{tree_asks}
use Rattle.rapid_meaning.specs.Runs.{asks, asked_after}
use Rattle.rapid_meaning.proofs.Asked.{asked_along, go}
use Rattle.rapid_meaning.proofs.SmallTasks.{moving}

same_next : (o : Option TypedTree) (answers : List Answer) (r r' : Request) → IsSomeAnd o (λ tree. asked_after tree answers ≡ asks r)
    → IsSomeAnd o (λ tree. asked_after tree answers ≡ asks r') → r ≡ r'
same_next None answers r r' p q = absurd p
same_next (Some tree) answers r r' p q = let e : asks r ≡ asks r' = sym p ∙ q in cc

pub one : (trees : List TypedTree) (actor : ℕ) (answers : List Answer) (r r' : Request) → tree_asks trees actor answers r → tree_asks trees actor answers r' → r ≡ r'
one trees actor answers r r' p q = same_next (slice_get trees actor) answers r r' p q

pub within : (trees : List TypedTree) (actor : ℕ) (answers : List Answer) (request : Request) → tree_asks trees actor answers request → actor < length trees
within [] actor answers request p = absurd p
within (tree ∷ trees) zero answers request p = omega arith
within (tree ∷ trees) (suc actor) answers request p = omega (arith, within trees actor answers request p)

-- the second of two tasks looks, and then asks for its arm's position; there is no third task
looks_first : tree_asks (moving ∷ moving ∷ []) 1 [] Look
unfolding asked_along
looks_first = refl

asks_position : tree_asks (moving ∷ moving ∷ []) 1 (go ∷ []) Position
unfolding asked_along
asks_position = refl

no_third : (answers : List Answer) (request : Request) → tree_asks (moving ∷ moving ∷ []) 2 answers request → ⊥
no_third answers request p = p
