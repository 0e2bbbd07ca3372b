use Rattle.std.proofs.Common.{take, ap, ◌∙◌}
use Rattle.once_core.specs.Worlds.{known_upto}
use Rattle.once_core.proofs.SeenLemmas.{seen-book}
use Rattle.once_core.proofs.seen.Seen.book.Goals as goal

pub returns : goal.returns
returns c =
    c.first_book_entries.ensures ∙ ap (take c.known_upto-upto.result) c.as_slice-2.ensures
    ∙ seen-book c.args.self.now.actor c.args.self.now.world.now c.known_upto-upto.result
    (c.known_upto-upto.ensures ∙ ap (λ k. known_upto c.args.self.now.actor c.len-cell.result k) c.as_slice.ensures
    ∙ ap (λ n. known_upto c.args.self.now.actor n c.args.self.now.world.now.known) c.len-cell.ensures)
