use Rattle.stream_site.proofs.AdmitLemmas.{new_seen_by, old_seen_by}
use Rattle.stream_site.proofs.delivery.is_new.Goals as goal

pub returns-then-admits_sent : goal.returns-then-admits_sent
returns-then-admits_sent c =
    new_seen_by c.args.shard.now.entries c.args.kept.now c.args.src.now c.as_str.result.now
    c.args.id.now c.as_str-then-admits_sent.result.now c.args.version c.admits_sent.result
    c.admits.result c.admits_sent.ensures c.if-admits_sent.true c.as_str.ensures
    c.as_str-then-admits_sent.ensures c.admits.ensures

pub returns-else-admits_sent : goal.returns-else-admits_sent
returns-else-admits_sent c =
    old_seen_by c.args.shard.now.entries c.args.kept.now c.args.src.now c.args.id.now c.args.version
    c.admits_sent.result c.admits_sent.ensures c.if-admits_sent.false
