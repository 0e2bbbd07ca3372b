use Rattle.topic_book.proofs.AlikeLemmas.{alike_is}
use Rattle.topic_book.proofs.alike.is_alike.Goals as goal

pub returns-clause-test : goal.returns-clause-test
returns-clause-test c = alike_is c.args.a.now c.args.b.now c.agree.result c.agree.ensures
