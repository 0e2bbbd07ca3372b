use Rattle.log_codec.proofs.FieldLemmas.{fields-next, fields-none}
use Rattle.log_codec.proofs.documents.read_fields.Goals as goal

pub loop-preserved : goal.loop-preserved
loop-preserved c =
    let found = rw c.in-Some.is at c.in_ok-after.ensures.some in
    fields-next _ _ _ _ _ _ c.loop.invariant found

pub returns-in-None-clause-none : goal.returns-in-None-clause-none
returns-in-None-clause-none c =
    let none = rw c.in-None.is at c.in_ok-after.ensures.none in
    fields-none _ _ _ _ _ c.loop.invariant c.loop-test.true none
