use Rattle.std.specs.Prelude.{codes}
use Rattle.clap.specs.Walk.{Rule}
use Rattle.clap.specs.Simple.{App, new_app, with_rule}
use Rattle.command_words.specs.Program.{words_rule, option_rule, overriding}
use Rattle.command_words.proofs.MakeLemmas.{ruled}
use Rattle.command_words.proofs.program.serve_command.Goals as goal

abbrev bare : App
bare = overriding (new_app (codes "serve"))

abbrev worded : App
worded = with_rule bare words_rule

abbrev port : Rule
port = option_rule (codes "port")

abbrev workers : Rule
workers = option_rule (codes "workers")

abbrev runners : Rule
runners = option_rule (codes "runners")

pub returns : goal.returns
returns c =
    let with_words =
    ruled c.with_arg-command.result bare _ words_rule c.words_arg-words.ensures.rule
    (c.with_arg-command.ensures bare (c.server.ensures.app, c.server.ensures.local)
    c.words_arg-words.ensures.local) in
    let with_port =
    ruled c.with_arg-command-2.result worded _ port c.option_arg-port.ensures.rule
    (c.with_arg-command-2.ensures worded with_words c.option_arg-port.ensures.local) in
    let with_workers =
    ruled c.with_arg-command-3.result (with_rule worded port) _ workers
    c.option_arg-workers.ensures.rule
    (c.with_arg-command-3.ensures (with_rule worded port) with_port
    c.option_arg-workers.ensures.local) in
    ruled c.with_arg.result (with_rule (with_rule worded port) workers) _ runners
    c.option_arg-runners.ensures.rule
    (c.with_arg.ensures (with_rule (with_rule worded port) workers) with_workers
    c.option_arg-runners.ensures.local)
