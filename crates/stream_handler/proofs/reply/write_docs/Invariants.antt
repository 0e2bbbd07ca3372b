use Rattle.std.proofs.Common.{◌≤◌, length}
use Rattle.std.specs.List.{concat}
use Rattle.stream_handler.specs.Replies.{IsPartWritten}
use Rattle.stream_handler.proofs.reply.write_docs.Given as goal

-- of what was to be given a first part is written, another is made, and the rest is to be given
abbrev pub invariant-loop-more : goal.invariant-loop-more
invariant-loop-more g l = record {
  part : IsPartWritten (concat l.initial.docs.0) (g.K.Sink.written l.initial.sink)
      (g.K.Sink.written l.sink) l.bytes (concat l.docs.0);
  counts : g.K.Sink.faults l.initial.sink ≤ g.K.Sink.faults l.sink;
}

-- something less is to be given
abbrev pub decreases-loop-more : goal.decreases-loop-more
decreases-loop-more g l = length l.docs.0
