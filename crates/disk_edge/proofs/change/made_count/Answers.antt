use Rattle.std.proofs.Common.{arith}
use Rattle.disk_edge.proofs.StopsLemmas.{synced_count-le}
use Rattle.disk_edge.proofs.change.made_count.Goals as goal

pub overflow_sub-calls : goal.overflow_sub-calls
overflow_sub-calls c = omega (arith, c.synced-synced.ensures, synced_count-le c.args.calls.now)
