use Rattle.std.proofs.Common.{arith, ◌≤◌, length}
use Rattle.std.proofs.lemmas.List.{length-take-le}
use Rattle.shard_versions.proofs.ReadingLemmas.{closed-none, closed-short}
use Rattle.law_checks.proofs.judging.settled.Goals as goal

pub loop-at-init : goal.loop-at-init
loop-at-init c = closed-none c.args.history.now

pub slice_bounds-result-end : goal.slice_bounds-result-end
slice_bounds-result-end c =
    let short : c.loop-at.closed ≤ length c.args.history.now =
    closed-short c.args.history.now c.loop-at.at c.loop-at.closed c.loop-at.invariant in
    omega (arith, short, length-take-le c.loop-at.closed c.args.history.now short)
