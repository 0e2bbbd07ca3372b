use Rattle.std.proofs.Common.{◌∙◌, map, subst, sym}
use Rattle.command_words.specs.Commands.{command_of}
use Rattle.site_server.specs.Doors.{doors}
use Rattle.stream_commands.specs.Endings.{HasCounted, IsCompletion}
use Rattle.stream_commands.specs.Servers.{LeavesRow}
use Rattle.stream_commands.proofs.CauseLemmas.{completes, none_two, two_alone}
use Rattle.stream_commands.proofs.LoadLemmas.{told_of_load}
use Rattle.stream_commands.proofs.ServerLemmas.{served_at}
use Rattle.stream_commands.proofs.WritingLemmas.{begun_told, short_for}
use Rattle.stream_commands.proofs.run.run_words.Goals as goal

pub returns-clause-words : goal.returns-clause-words
returns-clause-words g c two =
    two_alone c.args.words.now c.run-ending.result c.run-ending.ensures.cause.0
    (sym c.status-status.ensures ∙ two)

pub returns-clause-no_command : goal.returns-clause-no_command
returns-clause-no_command g c out hidden =
    c.status-status.ensures
    ∙ none_two c.args.words.now c.run-ending.result c.run-ending.ensures.cause.0 out hidden

pub returns-clause-begun : goal.returns-clause-begun
returns-clause-begun g c =
    begun_told c.args.words.now c.run-ending.result (command_of c.args.words.now)
    (g.I.Source.left c.args.input.now) (g.I.Source.left c.run-ending.new.input)
    (g.O.Sink.written c.args.output.now) (g.O.Sink.written c.run-ending.new.output)
    c.run-ending.ensures.cause.0 c.run-ending.ensures.writes

pub returns-clause-loaded : goal.returns-clause-loaded
returns-clause-loaded g c n is =
    told_of_load (command_of c.args.words.now) n c.status-status.result c.run-ending.result
    (g.O.Sink.written c.args.output.now) (g.O.Sink.written c.run-ending.new.output) is
    c.status-status.ensures c.run-ending.ensures.loaded

pub returns-clause-short : goal.returns-clause-short
returns-clause-short g c five =
    short_for c.run-ending.result (command_of c.args.words.now)
    (g.I.Source.left c.args.input.now) (g.I.Source.left c.run-ending.new.input)
    (g.O.Sink.written c.args.output.now) (g.O.Sink.written c.run-ending.new.output)
    (sym c.status-status.ensures ∙ five) c.run-ending.ensures.writes

pub returns-clause-complete : goal.returns-clause-complete
returns-clause-complete g c there input output doors =
    let end = c.run-ending.result in
    let new = map g.L.Door.faults c.run-ending.new.row.doors in
    subst (IsCompletion (command_of c.args.words.now)) (sym c.status-status.ensures)
    (completes _ (map g.L.Door.faults c.args.row.now.doors) new input output doors
    c.args.words.now end c.run-ending.ensures.cause
    (subst (λ xs. HasCounted end (map g.L.Door.faults xs) new) c.begin.ensures.doors
    c.run-ending.ensures.counted) there)

pub returns-clause-served : goal.returns-clause-served
returns-clause-served g c is =
    let kind =
    doors g.L.Door.told g.L.Door.faults g.L.Door.deaf g.L.In.Source.left g.L.In.Source.faults
    g.L.Out.Sink.written g.L.Out.Sink.faults in
    let tells = g.C.Clock.tells c.args.clock.now in
    let words = c.args.words.now in
    let end = c.run-ending.result in
    let new = c.run-ending.new.row in
    served_at kind tells c.args.row.now.doors new words (command_of words) end
    c.run-ending.ensures.cause.0 (sym c.status-status.ensures ∙ is)
    (subst (λ old. LeavesRow kind tells (command_of words) old new end) c.begin.ensures.doors
    c.run-ending.ensures.left)
