use Rattle.std.proofs.Common.{string_bytes, ap, ◌∙◌}
use Rattle.daemon_board.specs.Boards.{Told}
use Rattle.daemon_board.specs.Daemons.{is_full}
use Rattle.daemon_board.proofs.PlaceLemmas.{full-by}
use Rattle.daemon_board.proofs.board.Board.is_full.Goals as goal

pub returns : goal.returns
returns c =
    c.has_no_place.ensures
    ∙ full-by string_bytes c.self.inside.daemons.entries c.len.result c.self.inside.put c.len.ensures.len
    ∙ ap (λ (t : Told). is_full t.shown) c.self.view_is
