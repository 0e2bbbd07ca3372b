use Rattle.std.proofs.Common.{sym}
use Rattle.stream_site.proofs.ShardLemmas.{shown_ok}
use Rattle.running_site.proofs.writing.VisitTurns.snapshot.Goals as goal

pub returns : goal.returns
returns g c =
    shown_ok c.snapshot.result c.shard.result.now.entries _ c.snapshot.ensures.top
    c.snapshot.ensures.upto c.snapshot.ensures.documents c.snapshot.ensures.slots
    c.snapshot.ensures.places (sym c.shard.ensures)
