-- What a sync's clauses say follows from how it was answered.
use Rattle.disk_edge.proofs.MemoryLemmas.{syncs-durable, syncs-seen, syncs-stop, syncs-time}
use Rattle.disk_edge.proofs.memory_disk.MemoryDiskDisk.sync.Goals as goal

pub returns-clause-durable : goal.returns-clause-durable
returns-clause-durable c =
    syncs-durable c.args.self.now c.make_sync.new.self c.make_sync.result c.make_sync.ensures.after

pub returns-clause-seen : goal.returns-clause-seen
returns-clause-seen c =
    syncs-seen c.args.self.now c.make_sync.new.self c.make_sync.result c.make_sync.ensures.after

pub returns-clause-stop : goal.returns-clause-stop
returns-clause-stop c =
    syncs-stop c.args.self.now c.make_sync.new.self c.make_sync.result c.make_sync.ensures.after

pub returns-clause-time : goal.returns-clause-time
returns-clause-time c =
    syncs-time c.args.self.now c.make_sync.new.self c.make_sync.result c.make_sync.ensures.after
