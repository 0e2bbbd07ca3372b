use Rattle.std.proofs.Common.{string_bytes, sym, ap, ◌∙◌}
use Rattle.std.specs.Option.{is_some}
use Rattle.daemon_board.specs.Daemons.{has_id}
use Rattle.daemon_board.specs.Finding.{shown_entries}
use Rattle.daemon_board.proofs.PlaceLemmas.{none-such, none-removed, some-first, removed-at}
use Rattle.daemon_board.proofs.changing.remove.Goals as goal

pub returns-in-None-clause-there : goal.returns-in-None-clause-there
returns-in-None-clause-there c =
    sym (ap is_some (none-such (has_id c.args.id.now)
    (shown_entries string_bytes c.args.daemons.now.entries) c.in-None.ensures))

pub returns-in-None-clause-removed : goal.returns-in-None-clause-removed
returns-in-None-clause-removed c =
    sym (none-removed (has_id c.args.id.now)
    (shown_entries string_bytes c.args.daemons.now.entries) c.in-None.ensures)

pub returns-in-Some-clause-there : goal.returns-in-Some-clause-there
returns-in-Some-clause-there c =
    sym (some-first (has_id c.args.id.now)
    (shown_entries string_bytes c.args.daemons.now.entries) c.in-Some.place c.in-Some.ensures)

pub returns-in-Some-clause-removed : goal.returns-in-Some-clause-removed
returns-in-Some-clause-removed c =
    ap (shown_entries string_bytes) c.shift_remove_index.ensures.entries
    ∙ removed-at string_bytes (has_id c.args.id.now) c.args.daemons.now.entries c.in-Some.place
    c.in-Some.ensures
