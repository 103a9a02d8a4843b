-- What a shelf may report about itself.
use Rattle.std.specs.Prelude.{ℕ, List, Bool, Option, None, ◌==◌, if◌then◌else◌, bytes_eq}
use Rattle.std.specs.List.{list_any}
use Rattle.std.specs.Map.{lookup}
use Rattle.outside.specs.Count.{raised}

-- the names and contents of the files, the number of reads so far, and the numbers of the reads that fail, from 0
pub record Told : Type 0 where
  pub files : List (List ℕ × List ℕ)
  pub calls : ℕ
  pub failing : List ℕ

-- the contents of the file with this name
abbrev pub file_at : Told → List ℕ → Option (List ℕ)
file_at told name = lookup (bytes_eq name) told.files

-- the next read fails
abbrev pub is_failing : Told → Bool
is_failing told = list_any (λ n. n == told.calls) told.failing

-- what the next read finds under this name
abbrev pub found : Told → List ℕ → Option (List ℕ)
found told name = if is_failing told then None else file_at told name

-- the reported state after n more reads
abbrev pub after_reads : ℕ → Told → Told
after_reads n told = record { files = told.files; calls = raised n told.calls; failing = told.failing }
