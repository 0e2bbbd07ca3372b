use Rattle.std.proofs.Common.{take, ap, ◌∙◌}
use Rattle.once_core.specs.Worlds.{known_upto}
use Rattle.once_core.proofs.SeenLemmas.{seen-some, seen-none}
use Rattle.once_core.proofs.seen.Seen.history.Goals as goal

pub returns-in-Some : goal.returns-in-Some
returns-in-Some c =
    c.first_entries.ensures ∙ ap (take c.known_upto-upto.result) c.as_slice-in-Some.ensures
    ∙ seen-some c.args.self.now.actor c.args.self.now.world.now c.args.cell c.known_upto-upto.result c.in-Some.history.now c.in-Some.ensures
    (c.known_upto-upto.ensures ∙ ap (known_upto c.args.self.now.actor c.args.cell) c.as_slice.ensures)

pub returns-in-None : goal.returns-in-None
returns-in-None c = seen-none c.args.self.now.actor c.args.self.now.world.now c.args.cell c.in-None.ensures
