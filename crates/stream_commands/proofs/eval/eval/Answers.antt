use Rattle.std.proofs.Common.{◌≡◌}
use Rattle.stream_handler.specs.Outcomes.{body_of}
use Rattle.stream_commands.proofs.WritingLemmas.{reply_written, reply_begun}
use Rattle.stream_commands.proofs.eval.eval.Goals as goal

pub returns-in-All-clause-writes : goal.returns-in-All-clause-writes
returns-in-All-clause-writes g c =
    let read : c.deref.result.now ≡ c.in-Ok.bytes.items = cc (c.deref.ensures.value) in
    let piece : c.as_slice.result.now ≡ body_of c.in-Ok-evaluate.outcome 0 =
    cc (c.as_slice.ensures, c.in-Ok-body.ensures) in
    reply_written c.args.names (g.I.Source.left c.args.input.now) (g.I.Source.left c.read_input.new.input)
    c.in-Ok.bytes.items
    c.deref.result.now c.in-Ok-evaluate.outcome c.ending_of-ending.result c.as_slice.result.now
    (g.O.Sink.written c.args.output.now) (g.O.Sink.written c.put.new.self) c.in-Ok.ensures.read
    read c.in-Ok-evaluate.ensures.meant c.ending_of-ending.ensures piece c.in-All.ensures.gives

pub returns-clause-writes : goal.returns-clause-writes
returns-clause-writes g c =
    let read : c.deref.result.now ≡ c.in-Ok.bytes.items = cc (c.deref.ensures.value) in
    let piece : c.as_slice.result.now ≡ body_of c.in-Ok-evaluate.outcome 0 =
    cc (c.as_slice.ensures, c.in-Ok-body.ensures) in
    reply_begun c.args.names (g.I.Source.left c.args.input.now) (g.I.Source.left c.read_input.new.input)
    c.in-Ok.bytes.items
    c.deref.result.now c.in-Ok-evaluate.outcome c.as_slice.result.now
    (g.O.Sink.written c.args.output.now) (g.O.Sink.written c.put.new.self) c.in-Ok.ensures.read
    read c.in-Ok-evaluate.ensures.meant piece c.in-Failed.ensures.gives
