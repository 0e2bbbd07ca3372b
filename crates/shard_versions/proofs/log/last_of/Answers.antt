use Rattle.std.proofs.Common.{◌-◌, arith, sym, ap, ◌∙◌}
use Rattle.shard_segments.specs.declared.slot.Slot as segments
use Rattle.shard_versions.proofs.LogLemmas.{last_stored-at}
use Rattle.shard_versions.proofs.log.last_of.Goals as goal

pub returns : goal.returns
returns c =
    let x = c.get.result.now in
    ap (λ (s : segments.Slot). s.version) (c.get.ensures x)
    ∙ sym (last_stored-at 0 (c.len-count.result - 1) c.args.chunks.now.slots x (omega (arith, c.len-count.ensures.count)))
