-- The course of a delivery: at each shard of its destination what the shard admits, and a Mark
-- (own).
use Rattle.std.specs.Prelude.{ℕ, zero, suc, ◌+◌, ◌-◌, Bool, true, List, [], ◌∷◌, filter, length, map, Result, Ok, Err}
use Rattle.std.specs.List.{AllByRecursion}
use Rattle.tuple_values.specs.Document.{ByteList}
use Rattle.shard_versions.specs.Deliveries.{admitted}
use Rattle.shard_versions.specs.Fitness.{is_routed}
use Rattle.shard_versions.specs.Histories.{History}
use Rattle.shard_versions.specs.declared.entry.Kind.{Kind}
use Rattle.shard_versions.specs.declared.entry.Kind.TheVariants as kind
use Rattle.topic_book.specs.Cells.{cell_of}
use Rattle.topic_book.specs.Fitness.{shards_of}
use Rattle.exchange_rules.specs.Cells.{history_in}
use Rattle.exchange_rules.specs.Courses.{Course, ends, looks, and_ok}
use Rattle.exchange_rules.specs.Rows.{Layout}
use Rattle.exchange_rules.specs.Steps.{closed, fitting, kinds_of, entries_by}
use Rattle.exchange_rules.specs.declared.batch.BatchItem.{BatchItem}
use Rattle.exchange_rules.specs.declared.batch.Sent.{Sent}
use Rattle.exchange_rules.specs.declared.fault.SiteFault.{SiteFault}
use Rattle.exchange_rules.specs.declared.fault.SiteFault.TheVariants.{ShardFull}

-- the entry that an item from this source is
abbrev pub sent_kind : ByteList → BatchItem → Kind
sent_kind src i = kind.Sent src i.version i.document

-- the entries that the items from this source are
abbrev pub sent_kinds : ByteList → List BatchItem → List Kind
sent_kinds src batch = map (sent_kind src) batch

-- those that route to this shard of so many, in order
abbrev pub sent_share : ByteList → List BatchItem → ℕ → ℕ → List Kind
sent_share src batch shards shard = filter (is_routed shards shard) (sent_kinds src batch)

-- those that the history admits; who delivers them doesn't matter
abbrev pub admitted_kinds : History → List Kind → List Kind
admitted_kinds h kinds = kinds_of (admitted h (entries_by 0 kinds))

-- what is admitted with a Mark behind it, where something is; the answer is how many are
abbrev pub send_admitted : ℕ → ℕ → SiteFault → History → List Kind → Course (Result ℕ SiteFault)
send_admitted limit cell refusal h [] = ends (Ok 0)
send_admitted limit cell refusal h (k ∷ ks) =
    and_ok (fitting limit cell (closed true (k ∷ ks)) refusal h) (λ _.
    ends (Ok (length (k ∷ ks))))

-- one look, and what of these entries the shard admits
abbrev pub deliver_course : ℕ → ℕ → SiteFault → List Kind → Course (Result ℕ SiteFault)
deliver_course limit cell refusal kinds =
    looks cell (λ log.
    send_admitted limit cell refusal (history_in log) (admitted_kinds (history_in log) kinds))

-- the same where there is something to deliver
abbrev pub send_step : ℕ → ℕ → SiteFault → List Kind → Course (Result ℕ SiteFault)
send_step limit cell refusal [] = ends (Ok 0)
send_step limit cell refusal (k ∷ ks) = deliver_course limit cell refusal (k ∷ ks)

-- the shard's share, after so many that were admitted, which its refusal counts
abbrev pub send_at : Layout → ByteList → (ℕ → List Kind) → ℕ → ℕ → Course (Result ℕ SiteFault)
send_at l dest share admitted shard =
    send_step l.limit (cell_of l.names dest shard) (ShardFull dest shard admitted) (share shard)

-- the shares of so many shards from this one on, in order, after so many that were admitted
abbrev pub send_shards : Layout → ByteList → (ℕ → List Kind) → ℕ → ℕ → ℕ
    → Course (Result ℕ SiteFault)
send_shards l dest share admitted shard zero = ends (Ok admitted)
send_shards l dest share admitted shard (suc left) =
    and_ok (send_at l dest share admitted shard) (λ more.
    send_shards l dest share (admitted + more) (shard + 1) left)

-- a delivery of a batch: per shard of the destination to which an item routes, in order, one look,
-- and the step of those that it admits, closed by a Mark; the answer is how many were admitted,
-- and how many not
abbrev pub send_course : Layout → (dest src : ByteList) → List BatchItem
    → Course (Result Sent SiteFault)
send_course l dest src batch =
    and_ok (send_shards l dest (sent_share src batch (shards_of l.names dest)) 0 0
    (shards_of l.names dest)) (λ n.
    ends (Ok (record { admitted = n; refused = length batch - n })))
