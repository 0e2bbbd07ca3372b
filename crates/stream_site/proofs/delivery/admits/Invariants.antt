use Rattle.std.proofs.Common.{◌≡◌, drop}
use Rattle.shard_versions.specs.Deliveries.{admits}
use Rattle.stream_site.proofs.delivery.admits.Given as goal

-- the entries to come decide
abbrev pub invariant-loop-entry : goal.invariant-loop-entry
invariant-loop-entry l =
    admits l.entries l.src l.id l.version ≡ admits (drop l.entry-index l.entries) l.src l.id l.version
