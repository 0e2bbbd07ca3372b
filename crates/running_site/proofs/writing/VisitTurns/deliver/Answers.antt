use Rattle.std.proofs.Common.{◌∙◌, arith}
use Rattle.exchange_rules.specs.Following.{Writer}
use Rattle.stream_site.proofs.TestLemmas.{err_again, not_true, ok_is_no_err}
use Rattle.turn_table.specs.Calls.{known}
use Rattle.turn_table.specs.Histories.{at}
use Rattle.running_site.specs.Passes.{writer_in}
use Rattle.running_site.proofs.DeliverLemmas.{done-of, empty-of, kept-here, undelivered}
use Rattle.running_site.proofs.writing.VisitTurns.deliver.Goals as goal

pub returns-then-count-eq0-clause-ok : goal.returns-then-count-eq0-clause-ok
returns-then-count-eq0-clause-ok g c =
    let v = c.args.self.now in
    let w : Writer = writer_in (known v.pass) v.marks.items v.own.items in
    let none = empty-of v.site.now.limit w c.args.cell c.args.step c.in-Ok.kept
    (kept-here (at (known v.pass).seen c.args.cell) c.shard.result.now.entries c.args.step
    c.in-Ok.kept c.shard.ensures c.in-Ok.ensures)
    (omega (arith, c.len-count.ensures, c.if-count-eq0.true)) in
    none.same

pub returns-then-count-eq0-clause-count : goal.returns-then-count-eq0-clause-count
returns-then-count-eq0-clause-count g c =
    let v = c.args.self.now in
    let w : Writer = writer_in (known v.pass) v.marks.items v.own.items in
    let none = empty-of v.site.now.limit w c.args.cell c.args.step c.in-Ok.kept
    (kept-here (at (known v.pass).seen c.args.cell) c.shard.result.now.entries c.args.step
    c.in-Ok.kept c.shard.ensures c.in-Ok.ensures)
    (omega (arith, c.len-count.ensures, c.if-count-eq0.true)) in
    none.count

pub returns-then-count-eq0-clause-fits : goal.returns-then-count-eq0-clause-fits
returns-then-count-eq0-clause-fits g c =
    let v = c.args.self.now in
    let w : Writer = writer_in (known v.pass) v.marks.items v.own.items in
    let none = empty-of v.site.now.limit w c.args.cell c.args.step c.in-Ok.kept
    (kept-here (at (known v.pass).seen c.args.cell) c.shard.result.now.entries c.args.step
    c.in-Ok.kept c.shard.ensures c.in-Ok.ensures)
    (omega (arith, c.len-count.ensures, c.if-count-eq0.true)) in
    none.fits

pub append_step-requires-clause-allowed : goal.append_step-requires-clause-allowed
append_step-requires-clause-allowed g c =
    let v = c.args.self.now in
    let w : Writer = writer_in (known v.pass) v.marks.items v.own.items in
    let done = done-of v.site.now.names v.site.now.limit c.number.result w c.args.cell
    c.shard.result.now.entries c.args.step c.in-Ok.kept c.in-Ok-close.whole
    c.requires.in_range.in_range c.number.ensures c.shard.ensures c.in-Ok.ensures
    c.requires.allowed (omega (arith, c.len-count.ensures, c.if-count-eq0.false))
    c.in-Ok-close.ensures in
    done.allowed

pub returns-in-Ok-append_step-clause-ok : goal.returns-in-Ok-append_step-clause-ok
returns-in-Ok-append_step-clause-ok g c =
    let v = c.args.self.now in
    let w : Writer = writer_in (known v.pass) v.marks.items v.own.items in
    let done = done-of v.site.now.names v.site.now.limit c.number.result w c.args.cell
    c.shard.result.now.entries c.args.step c.in-Ok.kept c.in-Ok-close.whole
    c.requires.in_range.in_range c.number.ensures c.shard.ensures c.in-Ok.ensures
    c.requires.allowed (omega (arith, c.len-count.ensures, c.if-count-eq0.false))
    c.in-Ok-close.ensures in
    c.in-Ok-append_step.ensures.ok ∙ done.made_is

pub returns-in-Ok-append_step-clause-count : goal.returns-in-Ok-append_step-clause-count
returns-in-Ok-append_step-clause-count g c =
    let v = c.args.self.now in
    let w : Writer = writer_in (known v.pass) v.marks.items v.own.items in
    let done = done-of v.site.now.names v.site.now.limit c.number.result w c.args.cell
    c.shard.result.now.entries c.args.step c.in-Ok.kept c.in-Ok-close.whole
    c.requires.in_range.in_range c.number.ensures c.shard.ensures c.in-Ok.ensures
    c.requires.allowed (omega (arith, c.len-count.ensures, c.if-count-eq0.false))
    c.in-Ok-close.ensures in
    c.len-count.ensures ∙ done.count

pub returns-in-Ok-append_step-clause-fits : goal.returns-in-Ok-append_step-clause-fits
returns-in-Ok-append_step-clause-fits g c =
    let v = c.args.self.now in
    let w : Writer = writer_in (known v.pass) v.marks.items v.own.items in
    let done = done-of v.site.now.names v.site.now.limit c.number.result w c.args.cell
    c.shard.result.now.entries c.args.step c.in-Ok.kept c.in-Ok-close.whole
    c.requires.in_range.in_range c.number.ensures c.shard.ensures c.in-Ok.ensures
    c.requires.allowed (omega (arith, c.len-count.ensures, c.if-count-eq0.false))
    c.in-Ok-close.ensures in
    done.over ∙ not_true _
    (λ full. ok_is_no_err _ _ (c.in-Ok-append_step.ensures.shard_full.1 full))

pub returns-in-Err-append_step-clause-shard_full : goal.returns-in-Err-append_step-clause-shard_full
returns-in-Err-append_step-clause-shard_full g c =
    let v = c.args.self.now in
    let w : Writer = writer_in (known v.pass) v.marks.items v.own.items in
    let done = done-of v.site.now.names v.site.now.limit c.number.result w c.args.cell
    c.shard.result.now.entries c.args.step c.in-Ok.kept c.in-Ok-close.whole
    c.requires.in_range.in_range c.number.ensures c.shard.ensures c.in-Ok.ensures
    c.requires.allowed (omega (arith, c.len-count.ensures, c.if-count-eq0.false))
    c.in-Ok-close.ensures in
    λ is. done.over ∙ c.in-Err-append_step.ensures.shard_full.0 (err_again _ _ is)

pub returns-in-Err-append_step-clause-err : goal.returns-in-Err-append_step-clause-err
returns-in-Err-append_step-clause-err g c =
    let v = c.args.self.now in
    let w = c.append_step.new.self in
    let old : Writer = writer_in (known v.pass) v.marks.items v.own.items in
    let new : Writer = writer_in (known w.pass) w.marks.items w.own.items in
    let done = done-of v.site.now.names v.site.now.limit c.number.result old c.args.cell
    c.shard.result.now.entries c.args.step c.in-Ok.kept c.in-Ok-close.whole
    c.requires.in_range.in_range c.number.ensures c.shard.ensures c.in-Ok.ensures
    c.requires.allowed (omega (arith, c.len-count.ensures, c.if-count-eq0.false))
    c.in-Ok-close.ensures in
    undelivered v.site.now.names v.site.now.limit old new c.args.cell c.args.step c.in-Ok.kept
    c.in-Ok-close.whole c.in-Err-append_step.fault done c.in-Err-append_step.ensures.err
