-- How far an update has come, as its course counts it (own).
use Rattle.std.specs.Prelude.{ℕ, ◌+◌, length}
use Rattle.tuple_values.specs.Document.{Doc}
use Rattle.exchange_rules.specs.Batches.{Sunk, summary}
use Rattle.update_sink.specs.declared.progress.Progress.{Progress}

-- what was done
abbrev pub sunk_of : Progress → Sunk
sunk_of p = record { summaries = p.summaries.items; total = p.total; stand = p.stand }

-- what is told of one more batch of so many tuples
abbrev pub next_summary : Sunk → ℕ → Doc
next_summary s tuples = summary tuples (length s.summaries + 1) (s.total + tuples)
