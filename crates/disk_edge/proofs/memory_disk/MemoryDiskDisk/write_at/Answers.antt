-- What a write's clauses say follows from how it was answered.
use Rattle.disk_edge.specs.declared.change.Change.TheVariants.{Wrote, WriteFailed}
use Rattle.disk_edge.proofs.MemoryLemmas.{changes-kept, changes-seen, changes-time, write-failed, write-stop}
use Rattle.std.proofs.Common.{refl}
use Rattle.disk_edge.proofs.memory_disk.MemoryDiskDisk.write_at.Goals as goal

pub returns-clause-seen : goal.returns-clause-seen
returns-clause-seen c =
    changes-seen (Wrote c.args.from c.args.piece.now) (WriteFailed c.args.from c.args.piece.now) c.args.self.now c.make_write.new.self c.make_write.result c.make_write.ensures.after

pub returns-clause-failed : goal.returns-clause-failed
returns-clause-failed c =
    write-failed c.args.self.now c.make_write.new.self c.make_write.result c.args.from c.args.piece.now c.make_write.ensures.after

pub returns-clause-kept : goal.returns-clause-kept
returns-clause-kept c =
    changes-kept (Wrote c.args.from c.args.piece.now) (WriteFailed c.args.from c.args.piece.now) c.args.self.now c.make_write.new.self refl c.make_write.result c.make_write.ensures.after

pub returns-clause-stop : goal.returns-clause-stop
returns-clause-stop c =
    write-stop c.args.self.now c.make_write.new.self c.make_write.result c.args.from c.args.piece.now c.requires c.make_write.ensures.after

pub returns-clause-time : goal.returns-clause-time
returns-clause-time c =
    changes-time (Wrote c.args.from c.args.piece.now) (WriteFailed c.args.from c.args.piece.now) c.args.self.now c.make_write.new.self c.make_write.result c.make_write.ensures.after
