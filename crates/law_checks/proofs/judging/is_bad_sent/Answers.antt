use Rattle.law_checks.proofs.SentLemmas.{over-decides, judged-low, judged-last}
use Rattle.shard_versions.specs.Documents.{id_of}
use Rattle.law_checks.proofs.judging.is_bad_sent.Goals as goal

pub returns-then-not-is_above : goal.returns-then-not-is_above
returns-then-not-is_above c = λ hs cell before later same sent is.
    judged-low c.args.around.names.now hs cell before c.args.src.now c.args.version c.args.delivered.now later c.is_above.result
    (over-decides c.args.around.sent.now c.args.src.now (id_of c.args.delivered.now) c.id_of.result.now c.args.version before c.is_above.result
    c.id_of.ensures sent c.is_above.ensures)
    c.if-not-is_above.true

pub returns : goal.returns
returns c = λ hs cell before later same sent is.
    judged-last c.args.around.names.now hs cell before c.args.src.now c.args.version c.args.delivered.now later
    c.args.around.settled c.is_above.result c.is_delivery.result is c.if-not-around.false
    (over-decides c.args.around.sent.now c.args.src.now (id_of c.args.delivered.now) c.id_of.result.now c.args.version before c.is_above.result
    c.id_of.ensures sent c.is_above.ensures)
    c.if-not-is_above.false (c.is_delivery.ensures hs cell same)
