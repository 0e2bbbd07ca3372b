-- Updates, commits and topics look first (own).
use Rattle.std.specs.Prelude.{ℕ, Bool, List, Option, None}
use Rattle.tuple_values.specs.Document.{ByteList, Doc}
use Rattle.shard_versions.specs.declared.cut.CutPart.{CutPart}
use Rattle.exchange_rules.specs.Batches.{Sunk}
use Rattle.exchange_rules.specs.Looking.{LooksFirst}
use Rattle.exchange_rules.specs.Rows.{Layout}
use Rattle.exchange_rules.specs.Topics.{Asked, read_course, run_course}
use Rattle.exchange_rules.specs.Updates.{tuples_course, commit_round_course}
use Rattle.exchange_rules.specs.declared.batch.BatchItem.{BatchItem}

-- an update of tuples, the commits of tuples, and a topic that is read or delivered, whatever is
-- made of its cut
pub record RunsLookFirst (B : Type 0) : Type 0 where
  pub tuples : (l : Layout) (dest : ByteList) (size : ℕ) (docs : List Doc)
      → LooksFirst None (tuples_course l dest size docs)
  pub commits : (l : Layout) (dest : ByteList) (size : Option ℕ) (summaries : Bool)
      (docs : List Doc) → LooksFirst None (commit_round_course l dest size summaries docs)
  pub read : (l : Layout) (t : Asked) (answer : List ℕ → List CutPart → B)
      → LooksFirst None (read_course l.names t answer)
  pub run : (l : Layout) (t : Asked) (dest : ByteList)
      (batches : List ℕ → List CutPart → List (List BatchItem))
      (answer : List ℕ → List CutPart → Sunk → B)
      → LooksFirst None (run_course l t dest batches answer)
