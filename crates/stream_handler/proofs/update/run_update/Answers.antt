use Rattle.json_text.specs.Updates.{update_in}
use Rattle.stream_handler.proofs.CarriedLemmas.{body_refused}
use Rattle.stream_handler.proofs.StorableLemmas.{writes_storable}
use Rattle.stream_handler.proofs.update.run_update.Goals as goal

pub index-requires-clause-storable : goal.index-requires-clause-storable
index-requires-clause-storable g c =
    writes_storable c.args.body.now c.in-Ok.update c.in-Ok.ensures.ok

pub returns-in-Err-clause-course : goal.returns-in-Err-clause-course
returns-in-Err-clause-course g c =
    body_refused (g.T.Turns.writer c.args.site.now) (g.T.Turns.layout c.args.site.now)
    c.args.collection.now c.args.commit (update_in c.args.body.now) c.in-Err.fault
    c.bad_body.result c.in-Err.ensures.err c.bad_body.ensures
