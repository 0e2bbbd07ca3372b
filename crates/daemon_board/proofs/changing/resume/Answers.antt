use Rattle.std.proofs.Common.{string_bytes, sym, ap}
use Rattle.std.specs.Option.{is_some}
use Rattle.daemon_board.specs.Daemons.{has_id, resumed}
use Rattle.daemon_board.specs.Finding.{shown_entries}
use Rattle.daemon_board.proofs.PlaceLemmas.{none-such, none-changed, some-first, some-at, changed-at}
use Rattle.daemon_board.proofs.changing.resume.Goals as goal

pub returns-in-None-clause-there : goal.returns-in-None-clause-there
returns-in-None-clause-there c =
    sym (ap is_some (none-such (has_id c.args.id.now)
    (shown_entries string_bytes c.args.daemons.now.entries) c.in-None.ensures))

pub returns-in-None-clause-resumed : goal.returns-in-None-clause-resumed
returns-in-None-clause-resumed c =
    sym (none-changed (has_id c.args.id.now) (resumed c.args.now)
    (shown_entries string_bytes c.args.daemons.now.entries) c.in-None.ensures)

pub returns-in-Some-get_index_mut-clause-there : goal.returns-in-Some-get_index_mut-clause-there
returns-in-Some-get_index_mut-clause-there c =
    sym (some-first (has_id c.args.id.now)
    (shown_entries string_bytes c.args.daemons.now.entries) c.in-Some.place c.in-Some.ensures)

pub returns-in-Some-get_index_mut-clause-resumed : goal.returns-in-Some-get_index_mut-clause-resumed
returns-in-Some-get_index_mut-clause-resumed c =
    changed-at string_bytes (has_id c.args.id.now) (resumed c.args.now) c.args.daemons.now.entries
    c.in-Some.place _ _ c.in-Some.ensures c.in-Some-get_index_mut.ensures.value c.resume.ensures

pub returns-in_default-clause-there : goal.returns-in_default-clause-there
returns-in_default-clause-there c =
    sym (some-first (has_id c.args.id.now)
    (shown_entries string_bytes c.args.daemons.now.entries) c.in-Some.place c.in-Some.ensures)

pub returns-in_default-clause-resumed : goal.returns-in_default-clause-resumed
returns-in_default-clause-resumed c =
    absurd (some-at string_bytes (has_id c.args.id.now) c.args.daemons.now.entries c.in-Some.place
    c.in-Some.ensures c.in_default.ensures.value)
