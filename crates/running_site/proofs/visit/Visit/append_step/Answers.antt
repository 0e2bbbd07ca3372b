use Rattle.std.proofs.Common.{◌≡◌, map, sym, ap, subst, vec_items}
use Rattle.exchange_rules.specs.Cells.{write}
use Rattle.exchange_rules.specs.Primitives.{made}
use Rattle.exchange_rules.specs.Steps.{kinds_of, writes_in}
use Rattle.running_site.specs.Passes.{writer_in}
use Rattle.running_site.specs.Seals.{LeavesWriter}
use Rattle.running_site.specs.Visits.{HasTurn}
use Rattle.site_laws.specs.declared.sealing.Sealing.TheVariants as sealing
use Rattle.std.specs.Prelude.{None}
use Rattle.stream_site.proofs.TestLemmas.{iff_never, ok_is_no_err}
use Rattle.turn_table.specs.Calls.{known}
use Rattle.turn_table.specs.Histories.{at}
use Rattle.running_site.proofs.AppendLemmas.{stays-step, step-for-shard, unsealed-is, unsealed-tells}
use Rattle.running_site.proofs.SealLemmas.{made_by-made, sealed-made, step-signed}
use Rattle.running_site.proofs.visit.Visit.append_step.Goals as goal

pub returns-in-Ok-clause-ok : goal.returns-in-Ok-clause-ok
returns-in-Ok-clause-ok g c =
    let v = c.args.self.now in
    let w = c.append.new.self in
    subst (λ l. writer_in (known w.pass) l w.own.items
    ≡ made (writer_in (known v.pass) v.marks.items v.own.items) c.args.cell
    (map write (kinds_of c.args.step))) (sym (ap vec_items c.append.ensures.marks))
    (sealed-made (known v.pass) (known w.pass) v.marks.items v.own.items w.own.items c.args.cell
    (sealing.Shard c.args.step) (map write (kinds_of c.args.step)) c.in-Ok.ensures.ok
    (step-signed v.site.now.names (known v.pass).number (known v.pass).seen c.args.cell c.args.step
    c.requires.allowed))

pub returns-in-Ok-clause-shard_full : goal.returns-in-Ok-clause-shard_full
returns-in-Ok-clause-shard_full g c = iff_never (ok_is_no_err _ _) c.in-Ok.ensures.fits

pub unsealed-requires : goal.unsealed-requires
unsealed-requires g c =
    let v = c.args.self.now in
    step-for-shard v.site.now.limit (at (known v.pass).seen c.args.cell) c.args.step
    c.in-Err.refusal c.in-Err.ensures.cause

pub returns-in-Err-clause-shard_full : goal.returns-in-Err-clause-shard_full
returns-in-Err-clause-shard_full g c =
    let v = c.args.self.now in
    unsealed-tells v.site.now.limit (at (known v.pass).seen c.args.cell) c.args.step
    c.in-Err.refusal c.unsealed.result c.unsealed.ensures c.in-Err.ensures.cause

pub returns-in-Err-clause-turn : goal.returns-in-Err-clause-turn
returns-in-Err-clause-turn g c =
    let w = c.append.new.self in
    stays-step (HasTurn w.turn c.args.cell) (w.turn ≡ None) c.in-Err.refusal c.unsealed.result
    c.unsealed.ensures c.in-Err.ensures.turn

pub returns-in-Err-clause-err : goal.returns-in-Err-clause-err
returns-in-Err-clause-err g c =
    let v = c.args.self.now in
    let w = c.append.new.self in
    let old = writer_in (known v.pass) v.marks.items v.own.items in
    let new = writer_in (known w.pass) w.marks.items w.own.items in
    let signed = step-signed v.site.now.names (known v.pass).number (known v.pass).seen c.args.cell
    c.args.step c.requires.allowed in
    unsealed-is v.site.now.limit (at (known v.pass).seen c.args.cell) c.args.step old
    (made old c.args.cell (map write (kinds_of c.args.step))) c.args.cell new c.in-Err.refusal
    c.unsealed.result c.unsealed.ensures c.in-Err.ensures.cause
    (subst (λ after. LeavesWriter old after c.args.cell (writes_in (kinds_of c.args.step)) new
    c.in-Err.refusal)
    (made_by-made (known v.pass) v.marks.items v.own.items c.args.cell (sealing.Shard c.args.step)
    (map write (kinds_of c.args.step)) signed) c.in-Err.ensures.err)
