use Rattle.std.proofs.Common.{[], get_or, ap, arith}
use Rattle.std.specs.Prelude.{Err}
use Rattle.exchange_rules.specs.Cells.{history_in}
use Rattle.exchange_rules.specs.Steps.{kinds_of}
use Rattle.exchange_rules.proofs.StepLemmas.{fitting_appended, refused_for, nothing_done}
use Rattle.stream_site.specs.Spots.{full_there}
use Rattle.stream_site.proofs.RefusalLemmas.{broken_few, step_broken, unsealed_full, unsealed_memory}
use Rattle.stream_site.proofs.TestLemmas.{not_true, ok_is_no_err}
use Rattle.stream_site.proofs.step.append_over.Goals as goal

pub returns-in-Ok-clause-course : goal.returns-in-Ok-clause-course
returns-in-Ok-clause-course g c =
    fitting_appended (g.T.Turns.writer c.args.site.now) (g.T.Turns.writer c.seal.new.self)
    (g.T.Turns.layout c.args.site.now).limit c.args.at.now.cell _ _ _ c.requires.in_range.seen
    (not_true _ (λ full. ok_is_no_err _ _ (c.in-Ok.ensures.shard_full.1 full)))
    c.in-Ok.ensures.ok

pub returns-in-Err-ShardFull-clause-course : goal.returns-in-Err-ShardFull-clause-course
returns-in-Err-ShardFull-clause-course g c =
    refused_for c.args.at.now.stand (g.T.Turns.writer c.args.site.now)
    (g.T.Turns.writer c.seal.new.self) (g.T.Turns.layout c.args.site.now).limit c.args.at.now.cell
    (kinds_of c.args.step) (full_there c.args.at.now)
    (history_in (get_or (g.T.Turns.writer c.args.site.now).seen c.args.at.now.cell []))
    c.full_at.result
    (c.in-Err-ShardFull.ensures.shard_full.0 (ap Err c.in-Err-ShardFull.field-0-is))
    (unsealed_full _ _ _ _ _ _ _ c.in-Err-ShardFull.field-0-is c.in-Err-ShardFull.ensures.err)
    c.full_at.ensures

pub returns-in-Err-OutOfMemory-clause-course : goal.returns-in-Err-OutOfMemory-clause-course
returns-in-Err-OutOfMemory-clause-course g c =
    nothing_done c.args.at.now.stand (g.T.Turns.writer c.args.site.now)
    (g.T.Turns.writer c.seal.new.self) _
    (unsealed_memory _ _ _ _ _ _ _ c.in-Err-OutOfMemory.field-0-is c.in-Err-OutOfMemory.ensures.err)

pub returns-in-Err-Broken-clause-course : goal.returns-in-Err-Broken-clause-course
returns-in-Err-Broken-clause-course g c =
    step_broken c.args.at.now.stand (g.T.Turns.writer c.args.site.now)
    (g.T.Turns.writer c.seal.new.self) (g.T.Turns.layout c.args.site.now).limit c.args.at.now.cell
    (kinds_of c.args.step) (full_there c.args.at.now) c.broken_at.result
    (history_in (get_or (g.T.Turns.writer c.args.site.now).seen c.args.at.now.cell []))
    _ c.in-Err-Broken.writes c.requires.in_range.seen c.in-Err-Broken.field-0-is
    c.in-Err-Broken.ensures.err c.broken_at.ensures

pub broken_at-requires : goal.broken_at-requires
broken_at-requires g c =
    let few = c.requires.few in
    let n = broken_few _ _ _ _ _ _ _ c.in-Err-Broken.writes c.in-Err-Broken.field-0-is
    c.in-Err-Broken.ensures.err in
    omega (arith, few, n)
