use Rattle.std.proofs.Common.{sym, ◌∙◌}
use Rattle.std.proofs.lemmas.Result.{err_from_is_err_and}
use Rattle.std.specs.Prelude.{Ok}
use Rattle.tuple_values.specs.declared.memory.Memory.TheVariants.{OutOfMemory}
use Rattle.update_sink.specs.Progresses.{sunk_of}
use Rattle.update_sink.specs.Steps.{batch_of}
use Rattle.update_sink.proofs.UpdateLemmas.{refused_begun, refused_halt, taken_so_far, written, written_begun}
use Rattle.update_sink.proofs.update.write_batch.Goals as goal

pub returns-in_err-add-in-Ok-clause-course : goal.returns-in_err-add-in-Ok-clause-course
returns-in_err-add-in-Ok-clause-course g c =
    let l = g.T.Turns.layout c.args.site.now in
    let w = g.T.Turns.writer c.args.site.now in
    let new = g.T.Turns.writer c.index_over.new.site in
    let s = sunk_of c.args.progress.now in
    let r = err_from_is_err_and c.from_residual.result c.from_residual.ensures.1 in
    taken_so_far w new (batch_of l c.args.dest.now c.args.tuples s (Ok c.args.writes))
    (sunk_of c.add.new.self) c.from_residual.result r.0 r.1
    (written_begun w new l c.args.dest.now c.args.tuples s c.args.writes c.in-Ok.written
    (sunk_of c.add.new.self) r.0
    c.in-Ok.ensures.course)

pub returns-in_ok-add-in-Ok-clause-course : goal.returns-in_ok-add-in-Ok-clause-course
returns-in_ok-add-in-Ok-clause-course g c =
    written (g.T.Turns.writer c.args.site.now) (g.T.Turns.writer c.index_over.new.site)
    (g.T.Turns.layout c.args.site.now) c.args.dest.now c.args.tuples
    (sunk_of c.args.progress.now) c.args.writes c.in-Ok.written _ c.in_ok-add-in-Ok.ensures
    c.in-Ok.ensures.course

pub returns-in-Some-clause-course : goal.returns-in-Some-clause-course
returns-in-Some-clause-course g c =
    refused_halt (g.T.Turns.writer c.args.site.now) (g.T.Turns.writer c.index_over.new.site)
    (g.T.Turns.layout c.args.site.now) c.args.dest.now c.args.tuples
    (sunk_of c.args.progress.now) c.args.writes c.in-Err.fault c.in-Some.halt
    (sym c.in-Some.is ∙ c.halt_of.ensures) c.in-Err.ensures.course

pub returns-in-None-clause-course : goal.returns-in-None-clause-course
returns-in-None-clause-course g c =
    refused_begun (g.T.Turns.writer c.args.site.now) (g.T.Turns.writer c.index_over.new.site)
    (g.T.Turns.layout c.args.site.now) c.args.dest.now c.args.tuples
    (sunk_of c.args.progress.now) c.args.writes c.in-Err.fault
    (sunk_of c.args.progress.now) OutOfMemory
    (sym c.in-None.is ∙ c.halt_of.ensures) c.in-Err.ensures.course
