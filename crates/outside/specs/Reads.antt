-- What one read of a shelf returns and appends.
use Rattle.std.specs.Prelude.{◌≡◌, ℕ, ◌+◌, ◌<◌, ◌≤◌, List, ◌++◌, length, take, Option, None, Some, Result, Ok, Err, ⊤, [], nat_le, if◌then◌else◌}
use Rattle.outside.specs.Count.{raised}
use Rattle.outside.specs.declared.shelf_fault.ShelfFault.{ShelfFault}
use Rattle.outside.specs.declared.shelf_fault.ShelfFault.TheVariants.{Failed, TooLong, Memory}

-- the buffer changed from old to new by appending what the result says
abbrev pub Gains : ℕ → List ℕ → List ℕ → Result ⊤ ShelfFault → Type 0
Gains limit old new (Ok _) = (bytes : List ℕ) × (new ≡ old ++ bytes) × (length bytes ≤ limit)
Gains limit old new (Err Failed) = new ≡ old
Gains limit old new (Err TooLong) = (bytes : List ℕ) × (new ≡ old ++ bytes) × (length bytes ≡ limit + 1)
Gains limit old new (Err Memory) = new ≡ old

-- the same before a failure is undone: the buffer still starts with its old contents
abbrev pub Extends : ℕ → List ℕ → List ℕ → Result ⊤ ShelfFault → Type 0
Extends limit old new (Ok _) = Gains limit old new (Ok tt)
Extends limit old new (Err Failed) = take (length old) new ≡ old
Extends limit old new (Err TooLong) = Gains limit old new (Err TooLong)
Extends limit old new (Err Memory) = take (length old) new ≡ old

-- the result is the one for the file with this name, and its bytes were appended, unless out of memory
abbrev pub Follows : Option (List ℕ) → ℕ → List ℕ → List ℕ → Result ⊤ ShelfFault → Type 0
Follows found limit old new (Ok _) = (bytes : List ℕ) × (found ≡ Some bytes) × (length bytes ≤ limit) × (new ≡ old ++ bytes)
Follows found limit old new (Err Failed) = (found ≡ None) × (new ≡ old)
Follows found limit old new (Err TooLong) = (bytes : List ℕ) × (found ≡ Some bytes) × (limit < length bytes) × (new ≡ old ++ take (limit + 1) bytes)
Follows found limit old new (Err Memory) = new ≡ old

-- the number of faults after a read: a failure increments it
abbrev pub faults_after_read : ℕ → Result ⊤ ShelfFault → ℕ
faults_after_read faults (Ok _) = faults
faults_after_read faults (Err Failed) = raised 1 faults
faults_after_read faults (Err TooLong) = faults
faults_after_read faults (Err Memory) = faults

-- the result of a read for the file that it finds, unless out of memory
abbrev pub answer_for : Option (List ℕ) → ℕ → Result ⊤ ShelfFault
answer_for None limit = Err Failed
answer_for (Some bytes) limit = if nat_le (length bytes) limit then Ok tt else Err TooLong

-- the bytes that the read appends
abbrev pub gain_for : Option (List ℕ) → ℕ → List ℕ
gain_for None limit = []
gain_for (Some bytes) limit = take (limit + 1) bytes
