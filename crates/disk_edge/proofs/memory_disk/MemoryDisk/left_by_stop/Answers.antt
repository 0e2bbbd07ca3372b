use Rattle.std.proofs.Common.{◌≡◌, IfOk, arith, rules, subst}
use Rattle.std.proofs.lemmas.Grind.{common_steps}
use Rattle.disk_edge.specs.Calls.{excess, MayLeave}
use Rattle.disk_edge.specs.Memory.{DiskState}
use Rattle.disk_edge.specs.Stops.{left_after}
use Rattle.disk_edge.proofs.StopsLemmas.{if-ok, left-may_leave}
use Rattle.disk_edge.proofs.memory_disk.MemoryDisk.left_by_stop.Goals as goal

pub returns-clause-may_leave : goal.returns-clause-may_leave
returns-clause-may_leave c =
    let s = c.args.self.now in
    let left : IfOk c.begun.result (λ v. v ≡ left_after s c.args.calls c.args.bytes) = first_of (search rules, grind (arith, common_steps)) in
    let fits = subst (λ (d : DiskState). excess d.first d.since ≡ 0) c.self.view_is c.self.invariant.1 in
    if-ok c.begun.result (left_after s c.args.calls c.args.bytes) (MayLeave s.first s.since) left (left-may_leave s c.args.calls c.args.bytes fits)
