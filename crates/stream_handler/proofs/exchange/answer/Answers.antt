use Rattle.std.proofs.Common.{refl}
use Rattle.stream_handler.proofs.SoundLemmas.{answered_of, broken_of, is_broken}
use Rattle.stream_handler.proofs.exchange.answer.Goals as goal

pub returns-in_err-reply-clause-err : goal.returns-in_err-reply-clause-err
returns-in_err-reply-clause-err g c =
    is_broken c.from_residual.result
    (broken_of c.in_err-reply.ensures.responded.0.0 c.take_record_over.ensures.rest
    c.take_record_over.ensures.stays.layout c.in_err-reply.ensures.responded.0.1
    c.in_err-reply.ensures.responded.1)

pub returns-clause-ok : goal.returns-clause-ok
returns-clause-ok g c =
    answered_of _ c.in_ok-reply.reply c.in_ok-reply.millis c.take_record_over.ensures.rest
    c.take_record_over.ensures.stays.layout c.in_ok-reply.ensures.responded
    c.take_record_over-record.ensures.rest c.take_record_over-record.ensures.marks
    c.take_record_over-record.ensures.own refl refl
