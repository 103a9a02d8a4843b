-- The definitions on worked examples.
use Rattle.std.proofs.Common.{◌≡◌, refl, Some, None, true, [], ◌∷◌, ◌-◌, ◌^◌, false, ℕ}
use Rattle.std.specs.Prelude.{codes, Ok, Err}
use Rattle.outside.specs.Count.{raised}
use Rattle.outside.specs.Told.{Told, file_at, found, after_reads}
use Rattle.outside.specs.Reads.{answer_for, gain_for}
use Rattle.outside.specs.Writes.{taken, call_of, Appended}
use Rattle.outside.specs.MemoryShelf.{names_differ}
use Rattle.outside.specs.MemorySink.{MemorySinkState, refuses, after_write}
use Rattle.outside.specs.declared.shelf_fault.ShelfFault.TheVariants.{Failed, TooLong}

raised_twice : raised 2 5 ≡ 7
raised_twice = refl

raised_at_last : raised 3 (2 ^ 64 - 2) ≡ 2 ^ 64 - 1
raised_at_last = refl

-- two files; the second read fails
abbrev two_files : Told
two_files = record { files = (codes "a", 1 ∷ 2 ∷ []) ∷ (codes "ab", 3 ∷ []) ∷ []; calls = 0; failing = 1 ∷ [] }

held : file_at two_files (codes "ab") ≡ Some (3 ∷ [])
held = refl

absent : file_at two_files (codes "b") ≡ None
absent = refl

first_read : found two_files (codes "a") ≡ Some (1 ∷ 2 ∷ [])
first_read = refl

second_read : found (after_reads 1 two_files) (codes "a") ≡ None
second_read = refl

third_read : found (after_reads 2 two_files) (codes "a") ≡ Some (1 ∷ 2 ∷ [])
third_read = refl

within : answer_for (Some (1 ∷ 2 ∷ [])) 2 ≡ Ok tt
within = refl

too_long : answer_for (Some (1 ∷ 2 ∷ [])) 1 ≡ Err TooLong
too_long = refl

too_long_by_two : gain_for (Some (1 ∷ 2 ∷ 3 ∷ [])) 1 ≡ 1 ∷ 2 ∷ []
too_long_by_two = refl

none_found : answer_for None 1 ≡ Err Failed
none_found = refl

-- room for three bytes, one of them used; the second write fails
abbrev one_held : MemorySinkState
one_held = record { bytes = 7 ∷ []; calls = record { handed = 1; taken = 1 } ∷ []; room = 3; writes = 0; failing = 1 ∷ []; faults = 0 }

fills_up : after_write one_held (8 ∷ 9 ∷ 10 ∷ []) ≡ record { bytes = 7 ∷ 8 ∷ 9 ∷ []; calls = record { handed = 1; taken = 1 } ∷ record { handed = 3; taken = 2 } ∷ []; room = 3; writes = 1; failing = 1 ∷ []; faults = 0 }
fills_up = refl

refused_when_listed : after_write (after_write one_held (8 ∷ [])) (9 ∷ []) ≡ record { bytes = 7 ∷ 8 ∷ []; calls = record { handed = 1; taken = 1 } ∷ record { handed = 1; taken = 1 } ∷ []; room = 3; writes = 2; failing = 1 ∷ []; faults = 1 }
refused_when_listed = refl

refused_when_full : refuses (after_write one_held (8 ∷ 9 ∷ [])) ≡ true
refused_when_full = refl

some_taken : taken {E = ℕ} (Ok 2) (7 ∷ 8 ∷ 9 ∷ []) ≡ 7 ∷ 8 ∷ []
some_taken = refl

part_taken : call_of {E = ℕ} (Ok 2) 3 ≡ record { handed = 3; taken = 2 } ∷ []
part_taken = refl

none_taken : call_of {E = ℕ} (Err 0) 3 ≡ []
none_taken = refl

told_some_more : Appended {A = ℕ} (Some (7 ∷ [])) (8 ∷ 9 ∷ []) (Some (7 ∷ 8 ∷ 9 ∷ []))
told_some_more = refl

tells_no_longer : Appended {A = ℕ} (Some (7 ∷ [])) [] None → ⊥
tells_no_longer e = cc

begins_to_tell : Appended {A = ℕ} None (8 ∷ []) (Some (9 ∷ []))
begins_to_tell = tt

names_that_differ : names_differ ((codes "a", []) ∷ (codes "ab", []) ∷ []) ≡ true
names_that_differ = refl

name_twice : names_differ ((codes "a", []) ∷ (codes "b", []) ∷ (codes "a", 1 ∷ []) ∷ []) ≡ false
name_twice = refl
