use Rattle.std.proofs.Common.{arith}
use Rattle.form_request.proofs.SearchLemmas.{IsSearched-fresh}
use Rattle.form_request.proofs.requests.Requests.begin.Goals as goal

pub invariant_of-result : goal.invariant_of-result
invariant_of-result c = (omega arith, IsSearched-fresh _)
