-- Entries of which no document holds a group.
use Rattle.std.proofs.Common.{◌≡◌, ℕ, ◌+◌, ◌<◌, true, List, length, get_or, take}
use Rattle.shard_versions.proofs.ListLemmas.{each_at, each_more}
use Rattle.shard_versions.specs.declared.entry.Entry.{Entry}
use Rattle.std.specs.List.{AllByRecursion}
use Rattle.log_codec.specs.Entries.{holds_group, HasNoGroup}

-- none of so many entries holds a group, and one more doesn't
pub no_group-more : (step : List Entry) (i : ℕ) (d : Entry) → i < length step → AllByRecursion HasNoGroup (take i step)
    → HasNoGroup (get_or step i d) → AllByRecursion HasNoGroup (take (i + 1) step)
no_group-more step i d low all here = each_more HasNoGroup step i d low all here

-- not none holds a group where one does
pub no_group-fails : (step : List Entry) (i : ℕ) (d : Entry) → i < length step → holds_group (get_or step i d).kind ≡ true
    → AllByRecursion HasNoGroup step → ⊥
no_group-fails step i d low here all =
    let holds = each_at HasNoGroup step i d low all in cc

-- what a loop over the entries of a step needs
pub ruleset group_steps = (no_group-more, no_group-fails)
