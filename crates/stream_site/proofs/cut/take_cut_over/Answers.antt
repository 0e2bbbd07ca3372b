use Rattle.stream_site.proofs.cut.take_cut_over.Goals as goal

pub returns-clause-later : goal.returns-clause-later
returns-clause-later g c =
    g.met.T.Turns.later_on c.args.site.now c.cut_ready_over-result.new.site c.leave.new.self
    c.cut_ready_over-result.ensures.later c.leave.ensures.later
