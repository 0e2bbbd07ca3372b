use Rattle.std.proofs.Common.{arith}
use Rattle.shard_versions.proofs.ByteLemmas.{entries_bytes-more}
use Rattle.shard_versions.proofs.size.entries_bytes.Goals as goal

pub loop-entry-preserved : goal.loop-entry-preserved
loop-entry-preserved c =
    omega (arith, entries_bytes-more c.args.entries.now c.loop-entry.entry-index c.entry-item.result c.loop-entry-test.true c.entry-item.is)
