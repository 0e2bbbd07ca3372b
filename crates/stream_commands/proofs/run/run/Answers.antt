use Rattle.std.proofs.Common.{ap}
use Rattle.std.specs.Prelude.{Err}
use Rattle.command_words.specs.Commands.{command_of}
use Rattle.stream_commands.proofs.BegunLemmas.{nothing_left}
use Rattle.stream_commands.proofs.CauseLemmas.{may_want, readable_command}
use Rattle.stream_commands.proofs.LoadLemmas.{load_starved}
use Rattle.stream_commands.proofs.run.run.Goals as goal

pub returns-in-Err-OutOfMemory-clause-writes : goal.returns-in-Err-OutOfMemory-clause-writes
returns-in-Err-OutOfMemory-clause-writes g c =
    nothing_left (command_of c.args.words.now) (g.I.Source.left c.args.input.now)
    (g.O.Sink.written c.args.output.now)

pub returns-in-Err-OutOfMemory-clause-loaded : goal.returns-in-Err-OutOfMemory-clause-loaded
returns-in-Err-OutOfMemory-clause-loaded g c =
    load_starved (command_of c.args.words.now) (g.O.Sink.written c.args.output.now)

pub returns-in-Err-OutOfMemory-clause-cause : goal.returns-in-Err-OutOfMemory-clause-cause
returns-in-Err-OutOfMemory-clause-cause g c = (
  may_want c.args.words.now (command_of c.args.words.now) (readable_command c.args.words.now
      (c.in-Err-OutOfMemory.ensures.memory (ap Err c.in-Err-OutOfMemory.field-0-is))),
  tt,
)
