use Rattle.std.proofs.Common.{◌≡◌, ◌≢◌, List, None, IfSome, subst}
use Rattle.clap.specs.Words.{kind_of}
use Rattle.tuple_values.specs.Document.{ByteList}
use Rattle.command_words.specs.Commands.{command_of}
use Rattle.command_words.specs.Program.{HasReason}
use Rattle.command_words.specs.declared.fault.WordsFault.TheVariants.{OutOfMemory}
use Rattle.command_words.proofs.ProgramLemmas.{told_all}
use Rattle.command_words.proofs.program.told_of.Goals as goal

pub returns-in-Err : goal.returns-in-Err
returns-in-Err c =
    subst (λ (words : List ByteList). IfSome c.told_by.result (λ f. (command_of words ≡ None)
    × (f ≢ OutOfMemory) × HasReason words f)) c.as_slice.ensures
    (told_all c.as_slice.result.now (kind_of c.in-Err.error) c.told_by.result
    c.in-Err.ensures.passes c.in-Err.ensures.kinds c.told_by.ensures)
