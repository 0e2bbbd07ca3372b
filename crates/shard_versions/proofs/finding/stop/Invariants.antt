use Rattle.std.proofs.Common.{◌-◌, length}
use Rattle.shard_versions.specs.Trees.{is_at, tag_of, goes, first_of, Comes}
use Rattle.shard_versions.proofs.finding.stop.Given as goal

-- a walk has come to this node
abbrev pub invariant-walk : goal.invariant-walk
invariant-walk l =
    Comes (goes l.sent l.src l.id) (is_at l.sent l.src l.id) l.tree.nodes.items l.log.entries
    (first_of l.tree (tag_of l.sent l.src l.id)) l.at l.depth

abbrev pub decreases-walk : goal.decreases-walk
decreases-walk l = length l.tree.nodes.items - l.at
