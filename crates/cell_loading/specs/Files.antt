-- What the read of a file comes to.
use Rattle.std.specs.Prelude.{◌≡◌, ℕ, nat_le, ◌⊎◌, List, length, Option, Some, None, Result, Ok, Err, Vec, if◌then◌else◌}
use Rattle.std.specs.declared.alloc.Global.{Global}
use Rattle.outside.specs.Count.{Rose}
use Rattle.outside.specs.Told.{Told, found, after_reads}
use Rattle.cell_loading.specs.declared.refused.Refused.{Refused}
use Rattle.cell_loading.specs.declared.refused.Refused.TheVariants.{Words, Script, Module, Read, Write, Memory, TooLong, History}

-- what each read of a call gave, by the number of the file and its name: its bytes, or nothing if the read failed
abbrev pub Reads : Type 0
Reads = ℕ → List ℕ → Option (List ℕ)

-- the results of reads from a shelf that reports its files: each finds what is there after those before it
abbrev pub told_reads : Told → Reads
told_reads told file name = found (after_reads file told) name

-- from the result of a read: it failed, the file is too long, or its bytes
abbrev pub text_of : ℕ → ℕ → Option (List ℕ) → Result (List ℕ) Refused
text_of file limit None = Err (Read file)
text_of file limit (Some bytes) = if nat_le (length bytes) limit then Ok bytes else Err (TooLong file)

-- why loading was refused: not for the words, nor for a write or a line; and a read failed only if a fault was counted
abbrev pub IsLoadFault : ℕ → ℕ → Refused → Type 0
IsLoadFault old new (Words place) = ⊥
IsLoadFault old new (Script key rule) = Unit {0}
IsLoadFault old new (Module file place rule) = Unit {0}
IsLoadFault old new (Read file) = Rose old new
IsLoadFault old new Write = ⊥
IsLoadFault old new Memory = Unit {0}
IsLoadFault old new (TooLong file) = Unit {0}
IsLoadFault old new (History line) = ⊥

-- why the file of this number is not read: the read failed, it is too long, or memory ran out
abbrev pub IsUnread : ℕ → Refused → Type 0
IsUnread file (Words place) = ⊥
IsUnread file (Script key rule) = ⊥
IsUnread file (Module other place rule) = ⊥
IsUnread file (Read other) = other ≡ file
IsUnread file Write = ⊥
IsUnread file Memory = Unit {0}
IsUnread file (TooLong other) = other ≡ file
IsUnread file (History line) = ⊥

-- a result is this, or out of memory
abbrev pub Gives : {X Y : Type 0} → (X → Y) → Result Y Refused → Result X Refused → Type 0
Gives view expected (Ok x) = expected ≡ Ok (view x)
Gives view expected (Err refused) = (refused ≡ Memory) ⊎ (expected ≡ Err refused)

abbrev pub GivesText : Result (List ℕ) Refused → Result (Vec ℕ Global) Refused → Type 0
GivesText expected result = Gives (λ v. v.items) expected result
