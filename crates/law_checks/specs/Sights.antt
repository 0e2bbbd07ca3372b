-- A history as its coverage is checked (own).
use Rattle.std.specs.Prelude.{◌≡◌, []}
use Rattle.shard_versions.specs.Histories.{top, current}
use Rattle.law_checks.specs.Judged.{AreSentUpTo}
use Rattle.law_checks.specs.Walks.{turned}
use Rattle.law_checks.specs.declared.sight.Sight.TheInside.{Inside}

-- the top, the current documents and the greatest versions that were sent are those of the history
pub record IsSight (s : Inside) : Type 0 where
  pub top : s.top ≡ top s.history.now
  pub shown : turned s.shown.items [] ≡ current s.history.now
  pub sent : AreSentUpTo s.sent s.history.now
