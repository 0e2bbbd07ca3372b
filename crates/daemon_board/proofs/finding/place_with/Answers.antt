use Rattle.std.proofs.Common.{string_bytes}
use Rattle.daemon_board.proofs.PlaceLemmas.{placed-by_id}
use Rattle.daemon_board.proofs.finding.place_with.Goals as goal

pub returns : goal.returns
returns c =
    placed-by_id string_bytes c.args.id.now c.args.daemons.now.entries c.get_index_of.result
    c.get_index_of.ensures.index
