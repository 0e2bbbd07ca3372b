use Rattle.std.proofs.Common.{ap}
use Rattle.stream_handler.specs.Sessions.{record_of}
use Rattle.stream_handler.proofs.ConnectionLemmas.{record_is, session_of}
use Rattle.stream_handler.proofs.RecordLemmas.{session_records}
use Rattle.stream_handler.proofs.connection.serve_connection.Goals as goal

pub returns-clause-session : goal.returns-clause-session
returns-clause-session g c = (
  c.serve_all-exchanges.new.requests,
  session_of c.take_record_over.ensures.stays.layout c.begin-requests.ensures
      c.take_record_over.ensures.rest c.take_record_over-2.ensures.rest c.from_vec.ensures
      (record_is c.take_record_over-2.result (g.T.Turns.writer c.serve_all-exchanges.new.site)
      c.take_record_over-2.ensures.marks c.take_record_over-2.ensures.own)
      c.serve_all-exchanges.ensures.served,
  ap record_of c.take_record_over-2.ensures.rest,
)

pub returns-clause-recorded : goal.returns-clause-recorded
returns-clause-recorded g c = session_records (returns-clause-session g c).1.session
