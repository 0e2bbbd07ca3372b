-- The courses of updates, of cuts and of commits (own; the requests are those of the Solr Reference
-- Guide, "Indexing with Update Handlers").
use Rattle.std.specs.Prelude.{ℕ, zero, suc, ◌+◌, ◌<◌, Bool, true, false, List, [], ◌∷◌, ◌++◌, length, Result, Ok}
use Rattle.tuple_values.specs.Document.{ByteList}
use Rattle.tuple_values.specs.declared.names.NameShards.{NameShards}
use Rattle.tuple_values.specs.declared.write.Write.{Write}
use Rattle.shard_versions.specs.Histories.{History, top, current}
use Rattle.shard_versions.specs.Stored.{stored, places_of}
use Rattle.shard_versions.specs.Shards.{Shown}
use Rattle.shard_versions.specs.declared.cut.CutPart.{CutPart}
use Rattle.shard_versions.specs.declared.entry.Kind.{Kind}
use Rattle.topic_book.specs.Cells.{cells_in, cell_of}
use Rattle.topic_book.specs.Fitness.{shards_of}
use Rattle.exchange_rules.specs.Cells.{history_in}
use Rattle.exchange_rules.specs.Courses.{Course, ends, looks, and_then, and_ok}
use Rattle.exchange_rules.specs.Following.{Writer}
use Rattle.exchange_rules.specs.Steps.{routed, closed, write_course, commit_unless}
use Rattle.exchange_rules.specs.declared.fault.SiteFault.{SiteFault}
use Rattle.exchange_rules.specs.declared.fault.SiteFault.TheVariants.{ShardFull}

-- the collections, and the limit on the counted bytes of each shard
pub record Layout : Type 0 where
  pub names : List NameShards
  pub limit : ℕ

-- the cell is a shard's, and its writer has it
pub record HasCell (l : Layout) (w : Writer) (cell : ℕ) : Type 0 where
  pub in_range : cell < cells_in l.names
  pub seen : cell < length w.seen

-- what is done at each of so many shards from this one on, in order, until one is refused
abbrev pub each_shard : {E : Type 0} → (ℕ → Course (Result (Unit {0}) E)) → ℕ → ℕ
    → Course (Result (Unit {0}) E)
each_shard at shard zero = ends (Ok tt)
each_shard at shard (suc left) = and_ok (at shard) (λ _. each_shard at (shard + 1) left)

-- how many entries the shares of the shards before this one have
abbrev pub length_below : (ℕ → List Kind) → ℕ → ℕ
length_below share zero = 0
length_below share (suc shard) = length_below share shard + length (share shard)

-- a step of the shard's share of the writes, which ends with a Mark where there is a commit; its
-- refusal counts the shares of the shards before
abbrev pub write_at : Layout → ByteList → (ℕ → List Kind) → Bool → ℕ
    → Course (Result (Unit {0}) SiteFault)
write_at l collection share commit shard =
    write_course l.limit (cell_of l.names collection shard) (closed commit (share shard))
    (ShardFull collection shard (length_below share shard))

-- per shard with a share, in order, one look and the step of its share
abbrev pub writes_course : Layout → ByteList → (ℕ → List Kind) → Bool
    → Course (Result (Unit {0}) SiteFault)
writes_course l collection share commit =
    each_shard (write_at l collection share commit) 0 (shards_of l.names collection)

-- a Mark at the shard where a write is pending, unless this call wrote there, so many writes at
-- each shard; its refusal counts all that were appended
abbrev pub commit_at : Layout → ByteList → (ℕ → ℕ) → ℕ → ℕ
    → Course (Result (Unit {0}) SiteFault)
commit_at l collection written stand shard =
    commit_unless l.limit (cell_of l.names collection shard) (written shard)
    (ShardFull collection shard stand)

-- per shard that this call didn't write to, in order, one look, and a Mark where a write is
-- pending at it
abbrev pub commit_shards : Layout → ByteList → (ℕ → ℕ) → ℕ → Course (Result (Unit {0}) SiteFault)
commit_shards l collection written stand =
    each_shard (commit_at l collection written stand) 0 (shards_of l.names collection)

-- what a commit does after so many writes
abbrev pub finish_course : Layout → ByteList → (ℕ → List Kind) → ℕ → Bool
    → Course (Result (Unit {0}) SiteFault)
finish_course l collection share writes true =
    commit_shards l collection (λ shard. length (share shard)) writes
finish_course l collection share writes false = ends (Ok tt)

-- the shares of the writes: of each shard those that route there
abbrev pub shares_of : Layout → ByteList → List Write → ℕ → List Kind
shares_of l collection writes shard = routed (shards_of l.names collection) shard writes

-- an update: the writes, and then what a commit does; its answer is the number of writes
abbrev pub index_course : Layout → ByteList → List Write → Bool → Course (Result ℕ SiteFault)
index_course l collection writes commit =
    let share = shares_of l collection writes in
    and_ok (writes_course l collection share commit) (λ _.
    and_ok (finish_course l collection share (length writes) commit) (λ _.
    ends (Ok (length writes))))

-- a commit: per shard of the collection one look, and a Mark where a write is pending at it
abbrev pub commit_course : Layout → ByteList → Course (Result (Unit {0}) SiteFault)
commit_course l collection = commit_shards l collection (λ _. 0) 0

-- a shard as a look at this history shows it
abbrev pub shown_of : History → Shown
shown_of h =
    record {
      top = top h;
      upto = length h;
      documents = current h;
      slots = stored h;
      places = places_of h;
    }

-- the part of a cut that a look at the collection's shard gives
abbrev pub part_of : ByteList → ℕ → History → CutPart
part_of collection shard h =
    record { collection = collection; shard = shard; snapshot = shown_of h }

-- one look at each of so many shards of the collection from this one on: its parts behind the cut
abbrev pub cut_shards : List NameShards → ByteList → ℕ → ℕ → List CutPart → Course (List CutPart)
cut_shards names collection shard zero cut = ends cut
cut_shards names collection shard (suc left) cut =
    looks (cell_of names collection shard) (λ log.
    cut_shards names collection (shard + 1) left
    (cut ++ part_of collection shard (history_in log) ∷ []))

-- a cut: one look at each shard of these collections, in their order and then by shard
abbrev pub cut_course : List NameShards → List CutPart → List ByteList → Course (List CutPart)
cut_course names cut [] = ends cut
cut_course names cut (c ∷ collections) =
    and_then (cut_shards names c 0 (shards_of names c) cut)
    (λ cut. cut_course names cut collections)
