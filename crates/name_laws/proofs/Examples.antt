-- Two FORs with the same variable, one after the other: in the list of the second, the name means the second, and the
-- law rejects the first as its meaning.
use Rattle.std.proofs.Common.{◌≡◌, ℕ, zero, suc, false, [], ◌∷◌, None, Some, List, codes, refl, sym, ap, subst, slice_get}
use Rattle.raw_trees.specs.Plain.{PlainModule, PlainName, PlainRoutine, PlainStmt, Routine, Number, For, NoStmts}
use Rattle.rapid_model.specs.declared.routine_kind.RoutineKind.TheVariants as routines
use Rattle.rule_checks.specs.declared.spot.Spot.{Spot}
use Rattle.typed_trees.specs.Plain.{TypedTree}
use Rattle.data_scopes.specs.declared.meant.Meant.TheVariants as meants
use Rattle.data_scopes.specs.Loops.{loops_in_routine}
use Rattle.data_scopes.specs.Numbers.{tables_of}
use Rattle.data_scopes.specs.Scopes.{Loop, meaning}
use Rattle.name_laws.specs.Meant.{HasItsRow, StandsInFor}

abbrev word : List ℕ → PlainName
word text = record { text = text; at = 0 }

abbrev count : PlainStmt
count = For 0 (word (codes "i")) (Number 0 (codes "1")) (Number 0 (codes "2")) None NoStmts

-- PROC main(), with FOR i and again FOR i
abbrev main : PlainRoutine
main = record {
  local = false;
  kind = routines.Proc;
  result = None;
  name = word (codes "main");
  params = [];
  locals = [];
  list = count ∷ count ∷ [];
  handler = None;
  at = 0;
}

abbrev one : PlainModule
one = record { name = word (codes "one"); attributes = []; items = Routine main ∷ []; at = 0 }

-- in the list of the second FOR
abbrev spot : Spot
spot = record { «module» = 0; routine = Some 0; within = Some 1; at = 0 }

second_is_meant : meaning (tables_of (one ∷ []) []) spot (codes "i") ≡ Some (meants.For 1)
second_is_meant = refl

stands_in_second : StandsInFor (loops_in_routine main) (codes "i") 1 spot.within []
stands_in_second = refl

-- whatever FORs are said to be nearer
not_in_first : (nearer : List ℕ) → StandsInFor (loops_in_routine main) (codes "i") 0 spot.within nearer → ⊥
not_in_first [] e = absurd (cc)
not_in_first (n ∷ nearer) (is, loop, there, other, further) =
    let second : n ≡ 1 = cc in
    let here : slice_get (loops_in_routine main) 1 ≡ Some loop = subst (λ m. slice_get (loops_in_routine main) m ≡ Some loop) second there in
    let same : record { name = codes "i"; outer = None } ≡ loop = cc in
    other (ap (λ (l : Loop). l.name) same)

module_is : (number : ℕ) (unit : PlainModule) → slice_get (one ∷ []) number ≡ Some unit → one ≡ unit
module_is zero unit e = cc
module_is (suc number) unit e = absurd (cc)

routine_is : (index : ℕ) (r : PlainRoutine) → slice_get one.items index ≡ Some (Routine r) → main ≡ r
routine_is zero r e = cc
routine_is (suc index) r e = absurd (cc)

-- so the law rejects the first one as what the name means, for any typed tree
first_is_refused : (tree : TypedTree) → HasItsRow (one ∷ []) [] tree spot (codes "i") (meants.For 0) → ⊥
first_is_refused tree h =
    let s = h.inside.stands in
    let item : slice_get one.items s.index ≡ Some (Routine h.inside.r) = subst (λ (m : PlainModule). slice_get m.items s.index ≡ Some (Routine h.inside.r)) (sym (module_is h.inside.number s.unit s.is_module)) s.is_item in
    not_in_first h.nearer (subst (λ r. StandsInFor (loops_in_routine r) (codes "i") 0 spot.within h.nearer) (sym (routine_is s.index h.inside.r item)) h.stands)
