-- Batches, and what is told of them (Solr Reference Guide, "Stream Decorator Reference", update).
use Rattle.std.specs.Prelude.{ℕ, zero, suc, ◌+◌, List, [], ◌∷◌, ◌++◌, codes, drop, length, pos, take}
use Rattle.tuple_values.specs.Document.{Doc, long}
use Rattle.exchange_rules.specs.declared.fault.SiteFault.{SiteFault}
use Rattle.exchange_rules.specs.declared.fault.SiteFault.TheVariants.{ShardFull, TopicBound, BookFull, LogFault, CellClosed, OutOfMemory}

-- at most so many batches of so many elements each, the last one perhaps shorter
abbrev pub batches_up_to : {X : Type 0} → (most size : ℕ) → List X → List (List X)
batches_up_to zero size xs = []
batches_up_to (suc most) size [] = []
batches_up_to (suc most) size (x ∷ xs) =
    take size (x ∷ xs) ∷ batches_up_to most size (drop size (x ∷ xs))

-- elements in batches of so many each, one at least, the last one perhaps shorter
abbrev pub batches_of : {X : Type 0} → ℕ → List X → List (List X)
batches_of size xs = batches_up_to (length xs) size xs

-- what is told of a batch: how many tuples were delivered in it, its number from 1, and how many
-- were delivered so far
abbrev pub summary : (indexed number total : ℕ) → Doc
summary indexed number total =
    (codes "batchIndexed", long (pos indexed)) ∷ (codes "batchNumber", long (pos number))
    ∷ (codes "totalIndexed", long (pos total)) ∷ []

-- what an update did so far: its summaries, how many tuples it delivered, and how many of its
-- writes stand
pub record Sunk : Type 0 where
  pub summaries : List Doc
  pub total : ℕ
  pub stand : ℕ

-- nothing yet
abbrev pub none_sunk : Sunk
none_sunk = record { summaries = []; total = 0; stand = 0 }

-- a batch of so many tuples more, which left so many writes
abbrev pub with_batch : Sunk → (tuples writes : ℕ) → Sunk
with_batch s tuples writes = record {
  summaries = s.summaries ++ summary tuples (length s.summaries + 1) (s.total + tuples) ∷ [];
  total = s.total + tuples;
  stand = s.stand + writes;
}

-- the summaries of an update; one of no tuples gives one summary
abbrev pub told_summaries : List Doc → List Doc
told_summaries [] = summary 0 1 0 ∷ []
told_summaries (d ∷ docs) = d ∷ docs

-- what an update did, with the summaries that are told of it
abbrev pub told_sunk : Sunk → Sunk
told_sunk s = record s { summaries = told_summaries s.summaries }

-- how many writes of the call stand that was refused so
abbrev pub stand_in : SiteFault → ℕ
stand_in (ShardFull collection shard stand) = stand
stand_in (TopicBound kept) = 0
stand_in (BookFull topics) = 0
stand_in (LogFault cell stand) = stand
stand_in (CellClosed cell stand) = stand
stand_in (OutOfMemory stand) = stand
