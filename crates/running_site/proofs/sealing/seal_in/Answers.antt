use Rattle.turn_table.specs.Calls.{known}
use Rattle.running_site.proofs.AppendLemmas.{append-can}
use Rattle.running_site.proofs.sealing.seal_in.Goals as goal

pub ready-requires-clause-can : goal.ready-requires-clause-can
ready-requires-clause-can g c =
    let site = c.args.site.now in
    append-can site.names site.limit (known c.args.pass.now) c.args.turn.now c.requires.visit
    c.args.cell c.requires.cell c.args.sealing c.requires.allowed
