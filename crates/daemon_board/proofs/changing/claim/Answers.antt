use Rattle.std.proofs.Common.{string_bytes, sym, subst, refl, None}
use Rattle.daemon_board.specs.Calls.{IsClaimOf}
use Rattle.daemon_board.specs.Daemons.{claimed}
use Rattle.daemon_board.specs.Finding.{shown_entries, wanted_in}
use Rattle.daemon_board.proofs.PlaceLemmas.{none-such, none-changed, some-at, changed-at}
use Rattle.daemon_board.proofs.ClaimLemmas.{claim-at}
use Rattle.daemon_board.proofs.changing.claim.Goals as goal

pub returns-in-None-clause-claim : goal.returns-in-None-clause-claim
returns-in-None-clause-claim c =
    subst (λ e. IsClaimOf e None) (sym (none-such (wanted_in c.args.wanted)
    (shown_entries string_bytes c.args.daemons.now.entries) c.in-None.ensures)) refl

pub returns-in-None-clause-left : goal.returns-in-None-clause-left
returns-in-None-clause-left c =
    sym (none-changed (wanted_in c.args.wanted) claimed
    (shown_entries string_bytes c.args.daemons.now.entries) c.in-None.ensures)

pub returns-in-None-get_index_mut-clause-claim : goal.returns-in-None-get_index_mut-clause-claim
returns-in-None-get_index_mut-clause-claim c =
    absurd (some-at string_bytes (wanted_in c.args.wanted) c.args.daemons.now.entries
    c.in-Some.place c.in-Some.ensures c.in-None-get_index_mut.ensures.value)

pub returns-in-None-get_index_mut-clause-left : goal.returns-in-None-get_index_mut-clause-left
returns-in-None-get_index_mut-clause-left c =
    absurd (some-at string_bytes (wanted_in c.args.wanted) c.args.daemons.now.entries
    c.in-Some.place c.in-Some.ensures c.in-None-get_index_mut.ensures.value)

pub returns-in-Some-get_index_mut-clause-claim : goal.returns-in-Some-get_index_mut-clause-claim
returns-in-Some-get_index_mut-clause-claim c =
    claim-at string_bytes c.args.wanted c.requires c.args.daemons.now.entries c.in-Some.place _ c.claim.result
    c.in-Some.ensures c.in-Some-get_index_mut.ensures.value c.claim.ensures.claim c.claim.ensures.number

pub returns-in-Some-get_index_mut-clause-left : goal.returns-in-Some-get_index_mut-clause-left
returns-in-Some-get_index_mut-clause-left c =
    changed-at string_bytes (wanted_in c.args.wanted) claimed c.args.daemons.now.entries
    c.in-Some.place _ _ c.in-Some.ensures c.in-Some-get_index_mut.ensures.value c.claim.ensures.left
