use Rattle.std.specs.Prelude.{codes}
use Rattle.clap.specs.Simple.{App, with_subcommand}
use Rattle.command_words.specs.Program.{bare_program, words_app, serve_app, load_app}
use Rattle.command_words.proofs.program.program.Goals as goal

abbrev with_eval : App
with_eval = with_subcommand bare_program (words_app (codes "eval")).top

abbrev with_script : App
with_script = with_subcommand with_eval (words_app (codes "script")).top

abbrev with_serve : App
with_serve = with_subcommand with_script serve_app.top

pub returns : goal.returns
returns c =
    let one =
    c.with_command-command.ensures bare_program (words_app (codes "eval"))
    c.bare.ensures c.eval_command.ensures in
    let two =
    c.with_command-command-2.ensures with_eval (words_app (codes "script")) one
    c.script_command.ensures in
    let three =
    c.with_command-command-3.ensures with_script serve_app two c.serve_command.ensures in
    c.with_command.ensures with_serve load_app three c.load_command.ensures
