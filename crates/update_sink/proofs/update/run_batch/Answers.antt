use Rattle.std.proofs.Common.{length, sym, ◌∙◌}
use Rattle.std.proofs.lemmas.Result.{err_from_is_err_and}
use Rattle.exchange_rules.specs.Puts.{puts_of}
use Rattle.update_sink.specs.Progresses.{sunk_of}
use Rattle.update_sink.specs.Steps.{batch_of}
use Rattle.update_sink.proofs.StorableLemmas.{puts-storable}
use Rattle.update_sink.proofs.UpdateLemmas.{faulty, not_begun, taken_so_far}
use Rattle.update_sink.proofs.update.run_batch.Goals as goal

pub write_batch-requires-clause-storable : goal.write_batch-requires-clause-storable
write_batch-requires-clause-storable g c =
    puts-storable c.args.progress.now.total c.args.batch.now c.in-Ok.writes
    (sym c.in-Ok.is ∙ c.in_ok-writes.ensures)

pub returns-in_err-writes-clause-course : goal.returns-in_err-writes-clause-course
returns-in_err-writes-clause-course g c =
    let l = g.T.Turns.layout c.args.site.now in
    let w = g.T.Turns.writer c.args.site.now in
    let s = sunk_of c.args.progress.now in
    let batch = c.args.batch.now in
    let puts = puts_of s.total batch in
    let r = err_from_is_err_and c.from_residual-in_err-writes.result
    c.from_residual-in_err-writes.ensures.1 in
    taken_so_far w w (batch_of l c.args.dest.now (length batch) s puts) s
    c.from_residual-in_err-writes.result r.0 r.1
    (not_begun w l c.args.dest.now (length batch) s s puts r.0)

pub returns-in_err-_end-clause-course : goal.returns-in_err-_end-clause-course
returns-in_err-_end-clause-course g c =
    let l = g.T.Turns.layout c.args.site.now in
    let w = g.T.Turns.writer c.args.site.now in
    let s = sunk_of c.args.progress.now in
    let batch = c.args.batch.now in
    let puts = puts_of s.total batch in
    let r = err_from_is_err_and c.from_residual.result c.from_residual.ensures.1 in
    taken_so_far w w (batch_of l c.args.dest.now (length batch) s puts) s
    c.from_residual.result r.0 r.1
    (not_begun w l c.args.dest.now (length batch) s s puts r.0)

pub returns-in-Err-clause-course : goal.returns-in-Err-clause-course
returns-in-Err-clause-course g c =
    let s = sunk_of c.args.progress.now in
    let batch = c.args.batch.now in
    faulty (g.T.Turns.writer c.args.site.now) (g.T.Turns.layout c.args.site.now)
    c.args.dest.now (length batch) s (puts_of s.total batch) c.in-Err.fault
    (sym c.in-Err.is ∙ c.in_ok-writes.ensures)
