use Rattle.std.proofs.Common.{arith}
use Rattle.form_request.proofs.SearchLemmas.{passes_feed, passes_return}
use Rattle.form_request.proofs.search.before.Goals as goal

pub returns-then-bytes-seen-eq10 : goal.returns-then-bytes-seen-eq10
returns-then-bytes-seen-eq10 c =
    passes_feed _ _ c.requires.searched c.requires.state c.requires.more c.if-bytes-seen-eq10.true

pub returns-then-bytes-seen-eq10-2 : goal.returns-then-bytes-seen-eq10-2
returns-then-bytes-seen-eq10-2 c =
    passes_return _ _ c.requires.searched c.requires.state (omega arith) c.if-bytes-seen-ne13.false
    c.if-bytes-seen-eq10-2.true
