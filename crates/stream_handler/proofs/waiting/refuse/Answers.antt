use Rattle.std.proofs.Common.{subst, ◌∙◌}
use Rattle.io_edge.specs.Edge.{AppendsPrefix}
use Rattle.stream_handler.proofs.waiting.refuse.Goals as goal

pub returns-clause-writes : goal.returns-clause-writes
returns-clause-writes g c =
    subst (λ bytes. AppendsPrefix (g.K.Sink.written c.args.sink.now)
    (g.K.Sink.written c.put.new.self) bytes)
    (c.as_slice.ensures ∙ c.in-Ok.ensures) c.in-Failed.ensures.gives
