use Rattle.std.proofs.Common.{◌∙◌, ap, map}
use Rattle.command_words.proofs.ProgramLemmas.{program_passes, program_fails}
use Rattle.command_words.proofs.program.parse.Goals as goal

pub returns-clause-passes : goal.returns-clause-passes
returns-clause-passes c =
    program_passes _ c.args.words.now _ c.parsed.result c.in_ok-command.ensures.0
    (ap (map (λ word. word.now)) c.as_slice.ensures.value ∙ c.in_ok-texts.ensures)
    c.parsed.ensures.passes

pub returns-clause-kinds : goal.returns-clause-kinds
returns-clause-kinds c =
    program_fails _ c.args.words.now _ c.parsed.result c.in_ok-command.ensures.0
    (ap (map (λ word. word.now)) c.as_slice.ensures.value ∙ c.in_ok-texts.ensures)
    c.parsed.ensures.kinds
