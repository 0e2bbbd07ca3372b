-- What a cut's clauses say follows from how it was answered.
use Rattle.disk_edge.specs.declared.change.Change.TheVariants.{Shortened, CutFailed}
use Rattle.disk_edge.proofs.MemoryLemmas.{changes-kept, changes-seen, changes-time, cut-failed, cut-stop}
use Rattle.std.proofs.Common.{refl}
use Rattle.disk_edge.proofs.memory_disk.MemoryDiskDisk.cut.Goals as goal

pub returns-clause-seen : goal.returns-clause-seen
returns-clause-seen c =
    changes-seen (Shortened c.args.size) (CutFailed c.args.size) c.args.self.now c.make_cut.new.self c.make_cut.result c.make_cut.ensures.after

pub returns-clause-failed : goal.returns-clause-failed
returns-clause-failed c =
    cut-failed c.args.self.now c.make_cut.new.self c.make_cut.result c.args.size c.make_cut.ensures.after

pub returns-clause-kept : goal.returns-clause-kept
returns-clause-kept c =
    changes-kept (Shortened c.args.size) (CutFailed c.args.size) c.args.self.now c.make_cut.new.self refl c.make_cut.result c.make_cut.ensures.after

pub returns-clause-stop : goal.returns-clause-stop
returns-clause-stop c =
    cut-stop c.args.self.now c.make_cut.new.self c.make_cut.result c.args.size c.requires c.make_cut.ensures.after

pub returns-clause-time : goal.returns-clause-time
returns-clause-time c =
    changes-time (Shortened c.args.size) (CutFailed c.args.size) c.args.self.now c.make_cut.new.self c.make_cut.result c.make_cut.ensures.after
