-- How contracts see a sink in memory.
use Rattle.std.specs.Prelude.{ℕ, ◌-◌, List, [], ◌∷◌, Bool, ◌==◌, ◌||◌, ◌++◌, length, take, min, if◌then◌else◌}
use Rattle.std.specs.List.{list_any}
use Rattle.outside.specs.Count.{raised}
use Rattle.outside.specs.declared.call.Call.{Call}

-- the bytes in the sink, the calls that wrote them, the capacity in bytes, the number of writes so far, the numbers of
-- the writes that fail, from 0, and the number of faults
pub record MemorySinkState : Type 0 where
  pub bytes : List ℕ
  pub calls : List Call
  pub room : ℕ
  pub writes : ℕ
  pub failing : List ℕ
  pub faults : ℕ

-- the next write fails: it is listed, or the sink is full
abbrev pub refuses : MemorySinkState → Bool
refuses sink = list_any (λ n. n == sink.writes) sink.failing || (length sink.bytes == sink.room)

-- how many bytes of the piece fit
abbrev pub fitting : MemorySinkState → List ℕ → ℕ
fitting sink piece = min (length piece) (sink.room - length sink.bytes)

-- the sink after a write of the piece: it takes as much as fits
abbrev pub after_write : MemorySinkState → List ℕ → MemorySinkState
after_write sink piece =
    if refuses sink then record sink { writes = raised 1 sink.writes; faults = raised 1 sink.faults }
    else record sink {
      bytes = sink.bytes ++ take (fitting sink piece) piece;
      calls = sink.calls ++ record { handed = length piece; taken = fitting sink piece } ∷ [];
      writes = raised 1 sink.writes;
    }
