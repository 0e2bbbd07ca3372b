use Rattle.std.proofs.Common.{take}
use Rattle.stream_handler.proofs.WireLemmas.{came_got}
use Rattle.stream_handler.proofs.waiting.read_more.Goals as goal

pub returns-in-Err-clause-reads : goal.returns-in-Err-clause-reads
returns-in-Err-clause-reads g c = (
  take c.in-Got.n c.take.new.room,
  came_got (g.S.Source.left c.args.source.now) (g.S.Source.left c.take.new.self) c.take.new.room
      c.in-Got.n c.in-Got.ensures.gives.2,
  c.in-Err.ensures.err,
)
