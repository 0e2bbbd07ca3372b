-- A source and a sink in memory, as contracts see them (own).
use Rattle.std.specs.Prelude.{◌≡◌, ℕ, ◌+◌, ◌-◌, ◌^◌, List, [], ◌++◌, length, drop, min, Bool, true, false, ◌==◌, if◌then◌else◌}
use Rattle.std.specs.List.{list_any}
use Rattle.io_edge.specs.declared.source.Taken.{Taken}
use Rattle.io_edge.specs.declared.source.Taken.TheVariants.{Got, Ended, Failed}
use Rattle.io_edge.specs.declared.sink.Put.{Put}
use Rattle.io_edge.specs.declared.sink.Put.TheVariants as put

-- a source: what is left, the greatest number of bytes that one call gives, how many calls were
-- made, the numbers of the calls that fail, and how many failed
pub record SourceState : Type 0 where
  pub left : List ℕ
  pub most : ℕ
  pub calls : ℕ
  pub failing : List ℕ
  pub faults : ℕ

-- a sink: what is written, how many calls were made, the numbers of the calls that fail, and how
-- many failed
pub record SinkState : Type 0 where
  pub bytes : List ℕ
  pub calls : ℕ
  pub failing : List ℕ
  pub faults : ℕ

-- a count of 64 bits after one more, which stays where it can't rise
abbrev pub raised : ℕ → ℕ
raised count = min (count + 1) (2 ^ 64 - 1)

-- whether the call of this number is to fail
abbrev pub fails : ℕ → List ℕ → Bool
fails call failing = list_any (λ number. number == call) failing

-- a source of all these bytes, before its first call
abbrev pub fresh_source : List ℕ → ℕ → List ℕ → SourceState
fresh_source bytes most failing =
    record { left = bytes; most = most; calls = 0; failing = failing; faults = 0 }

-- so many bytes are given, or the source has ended where it is none
abbrev pub given : ℕ → Taken
given count = if count == 0 then Ended else Got count

-- the answer to a call with a room of this length: a failure where the call is to fail, and else
-- as many bytes as are left, as one call gives and as the room holds
abbrev pub source_answer : SourceState → ℕ → Taken
source_answer s room =
    if fails s.calls s.failing then Failed else given (min (min (length s.left) s.most) room)

-- the source after one more call that answered this
abbrev pub after_take : SourceState → Taken → SourceState
after_take s (Got count) = record s { left = drop count s.left; calls = raised s.calls }
after_take s Ended = record s { calls = raised s.calls }
after_take s Failed = record s { calls = raised s.calls; faults = raised s.faults }

-- a sink to which nothing is written, before its first call
abbrev pub fresh_sink : List ℕ → SinkState
fresh_sink failing = record { bytes = []; calls = 0; failing = failing; faults = 0 }

-- the sink after one more call: with the whole piece where the call isn't to fail, or as it was
abbrev pub PutAnswers : SinkState → List ℕ → SinkState → Put → Type 0
PutAnswers s piece new put.All =
    (fails s.calls s.failing ≡ false) × (new ≡ record s { bytes = s.bytes ++ piece; calls = raised s.calls })
PutAnswers s piece new put.Failed =
    new ≡ record s { calls = raised s.calls; faults = raised s.faults }
