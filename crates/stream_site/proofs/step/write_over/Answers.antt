use Rattle.std.proofs.Common.{◌<◌, length, refl, arith}
use Rattle.exchange_rules.proofs.StepLemmas.{nothing_done}
use Rattle.stream_site.specs.Spots.{full_there}
use Rattle.stream_site.proofs.CloseLemmas.{is_closed, nothing_written, write_passed}
use Rattle.stream_site.proofs.MayLemmas.{filled_closed, fit_closed}
use Rattle.stream_site.proofs.step.write_over.Goals as goal

pub returns-then-len-eq0-clause-course : goal.returns-then-len-eq0-clause-course
returns-then-len-eq0-clause-course g c =
    nothing_written (g.T.Turns.writer c.args.site.now) (g.T.Turns.layout c.args.site.now).limit
    c.args.at.now.cell c.args.commit c.args.step
    (full_there c.args.at.now)
    (omega (arith, c.len.ensures))

pub step_over-requires-clause-own : goal.step_over-requires-clause-own
step_over-requires-clause-own g c =
    let lt : 0 < length c.args.step = omega (arith, c.len.ensures) in
    (is_closed (g.T.Turns.writer c.args.site.now).me c.number.result c.args.commit c.args.step
    c.in-Ok.step lt c.requires.own c.number.ensures c.in-Ok.ensures).own

pub returns-in-Ok-clause-course : goal.returns-in-Ok-clause-course
returns-in-Ok-clause-course g c =
    let lt : 0 < length c.args.step = omega (arith, c.len.ensures) in
    let me = (g.T.Turns.writer c.args.site.now).me in
    write_passed c.args.at.now.stand (g.T.Turns.writer c.args.site.now)
    (g.T.Turns.writer c.step_over.new.site) (g.T.Turns.layout c.args.site.now).limit
    c.args.at.now.cell
    me c.args.commit c.args.step c.in-Ok.step
    (full_there c.args.at.now) c.step_over.result lt
    (is_closed me c.number.result c.args.commit c.args.step c.in-Ok.step lt c.requires.own
    c.number.ensures c.in-Ok.ensures)
    c.step_over.ensures.course

pub returns-in-Err-clause-course : goal.returns-in-Err-clause-course
returns-in-Err-clause-course g c =
    let w = g.T.Turns.writer c.args.site.now in
    nothing_done c.args.at.now.stand w w _ refl

pub step_over-requires-clause-fit : goal.step_over-requires-clause-fit
step_over-requires-clause-fit g c =
    fit_closed (g.T.Turns.layout c.args.site.now).names c.args.at.now.cell c.number.result
    c.args.commit
    c.args.step c.in-Ok.step c.requires.in_range.in_range c.requires.fit c.in-Ok.ensures

pub step_over-requires-clause-filled : goal.step_over-requires-clause-filled
step_over-requires-clause-filled g c =
    filled_closed c.number.result c.args.commit c.args.step c.in-Ok.step
    (omega (arith, c.len.ensures)) c.in-Ok.ensures

pub step_over-requires-clause-few : goal.step_over-requires-clause-few
step_over-requires-clause-few g c =
    let lt : 0 < length c.args.step = omega (arith, c.len.ensures) in
    let writes = (is_closed (g.T.Turns.writer c.args.site.now).me c.number.result c.args.commit
    c.args.step c.in-Ok.step lt c.requires.own c.number.ensures c.in-Ok.ensures).writes in
    let few = c.requires.few in
    omega (arith, few, writes)
