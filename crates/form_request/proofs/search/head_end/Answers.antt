use Rattle.std.proofs.Common.{sym}
use Rattle.form_request.proofs.SearchLemmas.{waits_all}
use Rattle.form_request.proofs.search.head_end.Goals as goal

pub returns-clause-end : goal.returns-clause-end
returns-clause-end c = sym (waits_all _ _ c.loop-at.invariant c.loop-at-test.false)
