use Rattle.law_checks.proofs.TopicLemmas.{none-taken}
use Rattle.law_checks.proofs.topics.query_of.Goals as goal

pub returns-in-Err-BadQuery : goal.returns-in-Err-BadQuery
returns-in-Err-BadQuery c = λ doc.
    none-taken c.args.text.now doc (rw c.in-Err-BadQuery.field-0-is at c.in-Err-BadQuery.ensures.computed)
