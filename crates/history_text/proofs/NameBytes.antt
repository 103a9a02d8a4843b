-- The bytes of the names of tasks.
use Rattle.std.proofs.Common.{◌≡◌, ℕ, zero, suc, true, List, [], ◌∷◌, Some, subst, arith}
use Rattle.std.proofs.lemmas.Bool.{and_parts}
use Rattle.std.proofs.lemmas.Bool.Decides.{nat_tests}
use Rattle.std.proofs.lemmas.Option.{same_Some}
use Rattle.std.specs.List.{AllByRecursion, list_all}
use Rattle.std.specs.Prelude.{IsTrue, nat_le, slice_get, length}
use Rattle.rapid_limits.specs.declared.TheConstants.{LONGEST_NAME}
use Rattle.rapid_num.specs.Characters.{is_letter, is_name, is_name_byte}
use Rattle.rapid_model.specs.Names.{is_short_name}
use Rattle.rapid_model.specs.declared.task_row.TaskRow.{TaskRow}

abbrev pub IsNameByte : ℕ → Type 0
IsNameByte b = is_name_byte b ≡ true

name_bytes : (bytes : List ℕ) → list_all is_name_byte bytes ≡ true → AllByRecursion IsNameByte bytes
name_bytes [] h = tt
name_bytes (b ∷ bs) h = let both = and_parts (is_name_byte b) (list_all is_name_byte bs) h in (both.0, name_bytes bs both.1)

letter_is_name_byte : (b : ℕ) → is_letter b ≡ true → IsNameByte b
letter_is_name_byte b h = grind (arith, nat_tests)

-- a letter, and then bytes of names
pub record IsName (name : List ℕ) : Type 0 where
  pub form : is_name name ≡ true
  pub bytes : AllByRecursion IsNameByte name

bytes_of : (name : List ℕ) → is_name name ≡ true → AllByRecursion IsNameByte name
bytes_of [] h = tt
bytes_of (b ∷ bs) h = let both = and_parts (is_letter b) (list_all is_name_byte bs) h in (letter_is_name_byte b both.0, name_bytes bs both.1)

name_of : (name : List ℕ) → is_short_name name ≡ true → IsName name
name_of name h =
    let form = (and_parts (is_name name) (nat_le (length name) LONGEST_NAME) h).0 in
    record { form = form; bytes = bytes_of name form }

pub name_at : (tasks : List TaskRow) (actor : ℕ) (row : TaskRow) → AllByRecursion (λ r. IsTrue (is_short_name r.name)) tasks → slice_get tasks actor ≡ Some row → IsName row.name
name_at [] actor row form at = absurd cc
name_at (r ∷ rs) zero row form at = name_of row.name (subst (λ (t : TaskRow). is_short_name t.name ≡ true) (same_Some r row at) form.0)
name_at (r ∷ rs) (suc actor) row form at = name_at rs actor row form.1 at
