use Rattle.std.proofs.Common.{◌-◌, length}
use Rattle.form_request.specs.Searches.{IsSearched}
use Rattle.form_request.proofs.search.head_end.Given as goal

-- what was seen need not be looked at again
abbrev pub invariant-loop-at : goal.invariant-loop-at
invariant-loop-at l = IsSearched l.bytes l.at

abbrev pub decreases-loop-at : goal.decreases-loop-at
decreases-loop-at l = length l.bytes - l.at.seen
