-- What the making of a command makes.
use Rattle.std.proofs.Common.{◌≡◌, Result, subst}
use Rattle.std.specs.declared.alloc.AllocError.{AllocError}
use Rattle.clap.specs.Walk.{Rule}
use Rattle.clap.specs.Simple.{App, with_rule}
use Rattle.clap.specs.declared.builder.command.Command.{Command}
use Rattle.command_words.specs.Program.{Makes}

-- a command with an argument of this rule
pub ruled : (made : Result Command AllocError) (app : App) (given rule : Rule) → given ≡ rule
    → Makes made (with_rule app given) → Makes made (with_rule app rule)
ruled made app given rule is makes = subst (λ (r : Rule). Makes made (with_rule app r)) is makes
