-- A history whose writes are found by their versions (own).
use Rattle.std.specs.Prelude.{◌≡◌, not, List, filter, map}
use Rattle.shard_versions.specs.Histories.{History, is_mark, top}
use Rattle.shard_versions.specs.declared.entry.Entry.{Entry}
use Rattle.law_checks.specs.declared.written.Written.TheInside.{Inside}

-- the writes of a history, in order
abbrev pub writes_in : History → List Entry
writes_in h = filter (λ e. not (is_mark e.kind)) h

-- the writes and the top are those of the history
pub record IsWritten (w : Inside) : Type 0 where
  pub writes : map (λ e. e.now) w.writes.items ≡ writes_in w.history.now
  pub top : w.top ≡ top w.history.now
