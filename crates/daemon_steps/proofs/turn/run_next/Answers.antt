use Rattle.daemon_steps.proofs.TurnLemmas.{turn_cut, turn_is, unclaimed}
use Rattle.daemon_steps.proofs.turn.run_next.Goals as goal

pub returns-in_default-clause-ok : goal.returns-in_default-clause-ok
returns-in_default-clause-ok g c =
    unclaimed (g.T.Turns.writer c.args.site.now) c.args.after c.args.board.now.shown
    c.claim_next.new.self.shown c.in_default.ensures.told

pub returns-in-Ok-clause-ok : goal.returns-in-Ok-clause-ok
returns-in-Ok-clause-ok g c =
    turn_is (g.T.Turns.layout c.args.site.now) (g.T.Turns.writer c.args.site.now)
    (g.T.Turns.writer c.run_once.new.site) c.args.after c.args.board.now.shown
    c.claim_next.new.self.shown c.finish.new.self.shown c.in-Some.claim
    c.in-Ok.field-0 c.requires c.in-Some.ensures.told c.finish.ensures.told c.in-Ok.ensures.ok

pub returns-in-Err-clause-err : goal.returns-in-Err-clause-err
returns-in-Err-clause-err g c =
    turn_cut (g.T.Turns.layout c.args.site.now) (g.T.Turns.writer c.args.site.now)
    (g.T.Turns.writer c.run_once.new.site) c.args.after c.args.board.now.shown
    c.claim_next.new.self.shown c.finish-in-Err.new.self.shown c.in-Some.claim c.requires
    c.in-Some.ensures.told c.finish-in-Err.ensures.told c.in-Err.ensures.err
