-- A GOTO that lands sees its label in a list around it.
use Rattle.std.proofs.Common.{◌≡◌, inl, inr, ℕ, Bool, true, false, ◌==◌, List, [], ◌∷◌, ◌++◌, Option, Some, is_some, refl, if◌then◌else◌, IsTrue, arith}
use Rattle.std.specs.List.{Contains}
use Rattle.std.proofs.Math.Logic.{⊎_elim}
use Rattle.std.proofs.lemmas.Bool.{eq-eqb}
use Rattle.std.proofs.lemmas.List.Elements.{Contains-append_cases, Contains-push_cases}
use Rattle.typed_trees.specs.Plain.{TypedStmts, NoStmts, MoreStmts, Label}
use Rattle.name_laws.specs.Jumps.{own}
use Rattle.rapid_meaning.specs.Lists.{behind}
use Rattle.tree_typing.specs.Statements.{Sees}

-- the labels of lists, the innermost first
abbrev pub owned : List TypedStmts → List ℕ
owned [] = []
owned (list ∷ lists) = own list ++ owned lists

nothing : (label : ℕ) → Contains [] label → ⊥
nothing label (k, within, is) = omega arith

found_by : (here : Bool) (more : TypedStmts) (others : Option TypedStmts) → (here ≡ false → IsTrue (is_some others)) → IsTrue (is_some (if here then Some more else others))
found_by true more others rest = refl
found_by false more others rest = rest refl

behind_own : (label : ℕ) (list : TypedStmts) → Contains (own list) label → IsTrue (is_some (behind label list))
behind_own label NoStmts h = absurd (nothing label h)
behind_own label (MoreStmts (Label at number) more) h =
    found_by (number == label) more (behind label more) (λ other.
    ⊎_elim (λ here. ⊎_elim (λ none. absurd (nothing label none)) (λ same. let e : (number == label) ≡ true = eq-eqb number label same in absurd (cc (e, other))) (Contains-push_cases [] number label here))
    (λ later. behind_own label more later) (Contains-append_cases (number ∷ []) (own more) label h))
behind_own label (MoreStmts _ more) h = behind_own label more h

pub sees : (label : ℕ) (lists : List TypedStmts) → Contains (owned lists) label → Sees label lists
sees label [] h = nothing label h
sees label (list ∷ lists) h = ⊎_elim (λ here. inl (behind_own label list here)) (λ out. inr (sees label lists out)) (Contains-append_cases (own list) (owned lists) label h)
