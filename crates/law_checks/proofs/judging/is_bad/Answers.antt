use Rattle.law_checks.proofs.SentLemmas.{judged-kind}
use Rattle.law_checks.proofs.judging.is_bad.Goals as goal

pub returns-in-Sent : goal.returns-in-Sent
returns-in-Sent c = λ hs cell before later same sent is.
    judged-kind c.args.around.names.now hs cell before c.in-Sent.src c.as_str.result.now c.in-Sent.version c.in-Sent.document later c.args.kind.now
    c.is_bad_sent.result c.in-Sent.is c.as_str.ensures (c.is_bad_sent.ensures hs cell before later same sent is)
