use Rattle.std.proofs.Common.{arith}
use Rattle.form_request.proofs.SearchLemmas.{ends_feed, ends_return, waits_both}
use Rattle.form_request.proofs.search.inside.Goals as goal

pub returns-then-bytes-seen-eq10 : goal.returns-then-bytes-seen-eq10
returns-then-bytes-seen-eq10 c =
    ends_feed _ _ c.requires.searched c.requires.state (omega arith) c.if-bytes-seen-ne10.false
    c.if-bytes-seen-eq10.true

pub returns-then-left-eq2 : goal.returns-then-left-eq2
returns-then-left-eq2 c =
    waits_both _ _ c.requires.searched c.requires.state (omega arith) c.if-bytes-seen-ne10.false
    c.if-bytes-seen-ne13.false

pub returns-then-bytes-seen-eq10-2 : goal.returns-then-bytes-seen-eq10-2
returns-then-bytes-seen-eq10-2 c =
    ends_return _ _ c.requires.searched c.requires.state (omega arith) c.if-bytes-seen-ne10.false
    c.if-bytes-seen-ne13.false c.if-bytes-seen-eq10-2.true
