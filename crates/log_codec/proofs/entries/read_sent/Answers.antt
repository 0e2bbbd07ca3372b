use Rattle.log_codec.proofs.EntryLemmas.{sent-no_document, sent-no_origin, sent-read}
use Rattle.log_codec.proofs.entries.read_sent.Goals as goal

pub returns-in_ok-src-in-Some-2-clause-some : goal.returns-in_ok-src-in-Some-2-clause-some
returns-in_ok-src-in-Some-2-clause-some c =
    let document = rw c.in-Some-2.is at c.in_ok-document-in-Some.ensures.some in
    rw c.in_ok-src-in-Some-2.ensures (sent-read _ _ _ _ _ _ c.in-Some.ensures.some document)

pub returns-in-None-2-clause-none : goal.returns-in-None-2-clause-none
returns-in-None-2-clause-none c =
    let none = rw c.in-None-2.is at c.in_ok-document-in-Some.ensures.none in
    sent-no_document _ _ _ c.in-Some.ensures.some none

pub returns-in-None-clause-none : goal.returns-in-None-clause-none
returns-in-None-clause-none c = sent-no_origin _ c.in-None.ensures.none
