use Rattle.std.proofs.Common.{[], refl, subst, sym, ◌∙◌}
use Rattle.stream_commands.proofs.ServingLemmas.{carried_none, round_more, served_more, served_stopped}
use Rattle.stream_commands.proofs.script.serve.Goals as goal

pub loop-init : goal.loop-init
loop-init g c = ([], refl, refl, c.requires.kept, carried_none _ _ _ _ refl)

pub returns-in-Some-clause-served : goal.returns-in-Some-clause-served
returns-in-Some-clause-served g c =
    served_more c.loop.invariant.1 c.loop.invariant.4 c.in-Some.ensures.round

pub loop-preserved : goal.loop-preserved
loop-preserved g c =
    let more = round_more c.loop.invariant.1 c.loop.invariant.4 c.in-None.ensures.layout
    (c.in-None.ensures.kept refl) c.in-None.ensures.round in
    (more.0, more.1, c.in-None.ensures.home ∙ c.loop.invariant.2, more.2, more.3)

pub returns-in-Some-clause-home : goal.returns-in-Some-clause-home
returns-in-Some-clause-home g c = c.in-Some.ensures.home ∙ c.loop.invariant.2

pub returns-clause-served : goal.returns-clause-served
returns-clause-served g c = served_stopped _ _ _ _ _ _ _ _ c.loop.invariant.4

pub returns-clause-home : goal.returns-clause-home
returns-clause-home g c = c.loop.invariant.2

pub serve_round-requires-clause-lone : goal.serve_round-requires-clause-lone
serve_round-requires-clause-lone g c κs within =
    subst g.T.Turns.lone (sym c.loop.invariant.2) c.requires.lone

pub serve_round-requires-clause-kept : goal.serve_round-requires-clause-kept
serve_round-requires-clause-kept g c κs within = c.loop.invariant.3
