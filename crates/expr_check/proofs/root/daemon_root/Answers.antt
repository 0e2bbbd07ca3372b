use Rattle.std.proofs.Common.{IsSome, Option, subst, sym}
use Rattle.expr_check.specs.Views.{tree_of}
use Rattle.expr_check.specs.declared.root.Action.{Action}
use Rattle.expr_check.proofs.RootLemmas.{may_repeat}
use Rattle.expr_check.proofs.root.daemon_root.Goals as goal

pub unwrap-action-requires : goal.unwrap-action-requires
unwrap-action-requires c =
    subst (λ (o : Option Action). IsSome o) (sym c.under_daemon.ensures)
    (may_repeat c.args.id.now c.args.interval c.args.terminate (tree_of c.args.input.now)
    c.requires.placed c.args.root c.requires.root)
