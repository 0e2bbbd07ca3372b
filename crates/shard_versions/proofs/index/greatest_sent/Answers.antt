use Rattle.std.proofs.Common.{[], arith, ap, length}
use Rattle.shard_versions.specs.declared.entry.Entry.{Entry}
use Rattle.shard_versions.specs.Indexes.{is_delivery}
use Rattle.shard_versions.proofs.PlaceLemmas.{last_where-bound}
use Rattle.shard_versions.proofs.IndexLemmas.{greatests_after-length}
use Rattle.shard_versions.proofs.index.greatest_sent.Goals as goal

pub greatest_at-requires : goal.greatest_at-requires
greatest_at-requires c =
    omega (
      arith,
      c.last_place.ensures,
      last_where-bound (λ (x : Entry). is_delivery c.args.src.now c.args.id.now x.kind) c.args.log.now.entries,
      ap length c.requires.greatests,
      greatests_after-length [] c.args.log.now.entries,
    )

pub returns : goal.returns
returns c =
    c.greatest_at.ensures c.args.src.now c.args.id.now c.args.log.now.entries c.requires.greatests c.last_place.ensures
