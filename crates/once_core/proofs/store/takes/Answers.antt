use Rattle.query_syntax.specs.Matching.{matches}
use Rattle.once_core.proofs.StoreLemmas.{takes-some, takes-none}
use Rattle.once_core.proofs.store.takes.Goals as goal

pub returns-in-Ok : goal.returns-in-Ok
returns-in-Ok c =
    takes-some c.args.binding.now c.args.document.now c.as_str.result.now (matches c.in-Ok.query.clauses c.args.document.now)
    c.matches.result c.as_str.ensures (c.in-Ok.ensures.meaning c.args.document.now) c.matches.ensures

pub returns-in-Err-BadQuery : goal.returns-in-Err-BadQuery
returns-in-Err-BadQuery c =
    takes-none c.args.binding.now c.args.document.now c.as_str.result.now c.as_str.ensures
    (rw c.in-Err-BadQuery.field-0-is at c.in-Err-BadQuery.ensures.computed)
