-- Arguments, split one by one.
use Rattle.std.proofs.Common.{◌≡◌, ℕ, ◌||◌, true, false, List, [], ◌∷◌, ◌++◌, refl, sym, ap, ◌∙◌}
use Rattle.std.proofs.lemmas.List.{append_assoc}
use Rattle.rapid_meaning.specs.Instructions.{has, needed, options}
use Rattle.typed_trees.specs.Plain.{TypedArg, TypedArgs, MoreArgs, Optional}
use Rattle.code_stmt.specs.Options.{is_named, is_option}

pub option_needed : (arg : TypedArg) (more : TypedArgs) → is_option arg ≡ true → needed (MoreArgs arg more) ≡ needed more
option_needed (Optional name value) more is = refl
option_needed arg more is = absurd cc

pub option_kept : (arg : TypedArg) (more : TypedArgs) → is_option arg ≡ true → options (MoreArgs arg more) ≡ arg ∷ options more
option_kept (Optional name value) more is = refl
option_kept arg more is = absurd cc

pub other_needed : (arg : TypedArg) (more : TypedArgs) → is_option arg ≡ false → needed (MoreArgs arg more) ≡ arg ∷ needed more
other_needed (Optional name value) more is = absurd cc
other_needed arg more is = refl

pub other_kept : (arg : TypedArg) (more : TypedArgs) → is_option arg ≡ false → options (MoreArgs arg more) ≡ options more
other_kept (Optional name value) more is = absurd cc
other_kept arg more is = refl

-- the first of those that are left is appended
pub one_further : {X : Type 0} (done : List X) (one : X) (left rest whole : List X) → done ++ left ≡ whole → left ≡ one ∷ rest → (done ++ one ∷ []) ++ rest ≡ whole
one_further done one left rest whole is first = append_assoc done (one ∷ []) rest ∙ (ap (λ xs. done ++ xs) (sym first) ∙ is)

-- one more option
pub has_more : (name : List ℕ) (arg : TypedArg) (more : List TypedArg) → has name (arg ∷ more) ≡ (is_named name arg || has name more)
unfolding has
has_more name (Optional other value) more = refl
has_more name arg more = refl
