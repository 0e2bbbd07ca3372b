use Rattle.std.proofs.Common.{◌∙◌, refl, subst}
use Rattle.std.proofs.lemmas.Result.{err_from_is_err_and}
use Rattle.daemon_board.specs.Tickets.{tickets_of}
use Rattle.root_runs.proofs.StaysLemmas.{stays_then}
use Rattle.daemon_steps.specs.Runs.{HasTurn}
use Rattle.daemon_steps.specs.Stepped.{IsCutShort}
use Rattle.daemon_steps.proofs.StepLemmas.{HasCome, come_all, come_cut, come_cut_kept, come_kept, come_nearer, come_none, come_on, none_kept}
use Rattle.daemon_steps.proofs.TurnLemmas.{at_err, turn_later}
use Rattle.daemon_steps.proofs.running.run_daemons.Given as given
use Rattle.daemon_steps.proofs.running.run_daemons.Goals as goal

pub loop-number-init : goal.loop-number-init
loop-number-init g c = record {
  come = come_none (g.T.Turns.layout c.args.site.now) (g.T.Turns.writer c.args.site.now)
      (g.T.Turns.writer c.take_record_over.new.site) c.args.board.now.shown c.requires
      c.take_record_over.ensures.rest;
  answers = refl;
  stays = c.take_record_over.ensures.stays;
  free = c.take_record_over.ensures.free;
}

pub returns-in_err-number-clause-err : goal.returns-in_err-number-clause-err
returns-in_err-number-clause-err g c =
    let l = g.T.Turns.layout c.args.site.now in
    let old = g.T.Turns.writer c.args.site.now in
    let now = g.T.Turns.writer c.loop-number.site in
    let next = g.T.Turns.writer c.run_next.new.site in
    let from = c.args.board.now.shown in
    let new = c.run_next.new.board.shown in
    let r = err_from_is_err_and c.from_residual.result c.from_residual.ensures.1 in
    at_err c.from_residual.result r.0 (IsCutShort l old next (tickets_of from) (tickets_of new)) r.1
    (come_cut l old now from c.loop-number.board.shown c.loop-number.after
    c.loop-number.invariant.come (g.T.Turns.layout c.loop-number.site) next new
    c.loop-number.invariant.stays.layout c.in_err-number.ensures.err)

pub returns-in_err-number-clause-kept : goal.returns-in_err-number-clause-kept
returns-in_err-number-clause-kept g c =
    come_cut_kept (g.T.Turns.layout c.args.site.now) (g.T.Turns.writer c.args.site.now)
    (g.T.Turns.writer c.loop-number.site) c.args.board.now.shown c.loop-number.board.shown
    c.loop-number.after c.loop-number.invariant.come (g.T.Turns.layout c.loop-number.site)
    (g.T.Turns.writer c.run_next.new.site) c.run_next.new.board.shown c.in_err-number.ensures.err

pub returns-in_default-clause-ok : goal.returns-in_default-clause-ok
returns-in_default-clause-ok g c =
    let now = g.T.Turns.writer c.loop-number.site in
    let next = g.T.Turns.writer c.run_next.new.site in
    let b = c.loop-number.board.shown in
    let new = c.run_next.new.board.shown in
    come_all (g.T.Turns.layout c.args.site.now) (g.T.Turns.writer c.args.site.now) now
    c.args.board.now.shown b c.loop-number.after c.loop-number.invariant.come next new
    (subst (HasTurn (g.T.Turns.layout c.loop-number.site) now next b new c.loop-number.after)
    c.in_default.is c.in_ok-number.ensures.ok)

pub returns-in_default-clause-kept : goal.returns-in_default-clause-kept
returns-in_default-clause-kept g c =
    let now = g.T.Turns.writer c.loop-number.site in
    let next = g.T.Turns.writer c.run_next.new.site in
    let b = c.loop-number.board.shown in
    let new = c.run_next.new.board.shown in
    none_kept now next b new c.loop-number.after
    (subst (HasTurn (g.T.Turns.layout c.loop-number.site) now next b new c.loop-number.after)
    c.in_default.is c.in_ok-number.ensures.ok)
    (come_kept (g.T.Turns.layout c.args.site.now) (g.T.Turns.writer c.args.site.now) now
    c.args.board.now.shown b c.loop-number.after c.loop-number.invariant.come)

-- the next daemon was run
come_next : (g : given.Over) (c : goal.In-Some g)
    → HasCome (g.T.Turns.layout c.args.site.now) (g.T.Turns.writer c.args.site.now)
    (g.T.Turns.writer c.run_next.new.site) c.args.board.now.shown c.run_next.new.board.shown
    c.in-Some.number
come_next g c =
    let now = g.T.Turns.writer c.loop-number.site in
    let next = g.T.Turns.writer c.run_next.new.site in
    let b = c.loop-number.board.shown in
    let new = c.run_next.new.board.shown in
    let l = g.T.Turns.layout c.loop-number.site in
    come_on (g.T.Turns.layout c.args.site.now) (g.T.Turns.writer c.args.site.now) now
    c.args.board.now.shown b c.loop-number.after c.loop-number.invariant.come l next new
    c.in-Some.number c.loop-number.invariant.stays.layout
    (subst (HasTurn l now next b new c.loop-number.after) c.in-Some.is c.in_ok-number.ensures.ok)

pub loop-number-smaller : goal.loop-number-smaller
loop-number-smaller g c =
    let now = g.T.Turns.writer c.loop-number.site in
    let next = g.T.Turns.writer c.run_next.new.site in
    let b = c.loop-number.board.shown in
    let new = c.run_next.new.board.shown in
    let l = g.T.Turns.layout c.loop-number.site in
    come_nearer (g.T.Turns.layout c.args.site.now) (g.T.Turns.writer c.args.site.now) now next
    c.args.board.now.shown b new c.loop-number.after c.in-Some.number
    c.loop-number.invariant.come (come_next g c)
    (turn_later l now next b new c.loop-number.after c.in-Some.number
    (subst (HasTurn l now next b new c.loop-number.after) c.in-Some.is c.in_ok-number.ensures.ok))

pub loop-number-preserved : goal.loop-number-preserved
loop-number-preserved g c = record {
  come = come_next g c;
  answers = c.run_next.ensures.answers ∙ c.loop-number.invariant.answers;
  stays = stays_then c.loop-number.invariant.stays c.run_next.ensures.stays;
  free = c.run_next.ensures.stays.free c.loop-number.invariant.free;
}
