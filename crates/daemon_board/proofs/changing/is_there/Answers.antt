use Rattle.std.proofs.Common.{string_bytes, ◌∙◌}
use Rattle.daemon_board.specs.Daemons.{has_id}
use Rattle.daemon_board.specs.Finding.{shown_entries}
use Rattle.daemon_board.proofs.PlaceLemmas.{some-place}
use Rattle.daemon_board.proofs.changing.is_there.Goals as goal

pub returns : goal.returns
returns c =
    c.is_some.ensures
    ∙ some-place (has_id c.args.id.now) (shown_entries string_bytes c.args.daemons.now.entries)
    c.place_with.result c.place_with.ensures
