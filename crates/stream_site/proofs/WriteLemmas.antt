-- Tests of each write.
use Rattle.std.proofs.Common.{◌≡◌, ℕ, ◌+◌, ◌<◌, true, false, List, length, get_or, take}
use Rattle.tuple_values.specs.declared.write.Write.{Write}
use Rattle.shard_versions.specs.Fitness.{is_storable_kind}
use Rattle.shard_versions.proofs.ListLemmas.{each_more, each_at, each_end}
use Rattle.exchange_rules.specs.Steps.{AreStorableWrites, kind_of}

-- each of so many writes can be kept, and of one more
pub storable-more : (ws : List Write) (i : ℕ) (d : Write) → i < length ws
    → AreStorableWrites (take i ws) → is_storable_kind (kind_of (get_or ws i d)) ≡ true
    → AreStorableWrites (take (i + 1) ws)
storable-more ws i d lt a t =
    each_more (λ (w : Write). is_storable_kind (kind_of w) ≡ true) ws i d lt a t

-- not each can where one can't
pub storable-fails : (ws : List Write) (i : ℕ) (d : Write) → i < length ws
    → is_storable_kind (kind_of (get_or ws i d)) ≡ false → AreStorableWrites ws → ⊥
storable-fails ws i d lt fails a =
    let holds = each_at (λ (w : Write). is_storable_kind (kind_of w) ≡ true) ws i d lt a in cc

-- what a loop over writes needs
pub ruleset write_steps = (storable-more, storable-fails, each_end)
