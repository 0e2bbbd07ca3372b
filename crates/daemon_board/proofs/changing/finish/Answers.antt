use Rattle.std.proofs.Common.{string_bytes, sym}
use Rattle.daemon_board.specs.Daemons.{finished, is_away}
use Rattle.daemon_board.specs.Finding.{shown_entries}
use Rattle.daemon_board.proofs.PlaceLemmas.{none-changed, some-at, changed-at}
use Rattle.daemon_board.proofs.changing.finish.Goals as goal

pub returns-in-None : goal.returns-in-None
returns-in-None c =
    sym (none-changed (is_away c.args.claim.number)
    (finished c.args.claim.checked c.args.tuples c.args.fault c.args.now)
    (shown_entries string_bytes c.args.daemons.now.entries) c.in-None.ensures)

pub returns-in-Some-get_index_mut : goal.returns-in-Some-get_index_mut
returns-in-Some-get_index_mut c =
    changed-at string_bytes (is_away c.args.claim.number)
    (finished c.args.claim.checked c.args.tuples c.args.fault c.args.now) c.args.daemons.now.entries
    c.in-Some.place _ _ c.in-Some.ensures c.in-Some-get_index_mut.ensures.value c.finish.ensures

pub returns-in_default : goal.returns-in_default
returns-in_default c =
    absurd (some-at string_bytes (is_away c.args.claim.number) c.args.daemons.now.entries
    c.in-Some.place c.in-Some.ensures c.in_default.ensures.value)
