-- One step of a request at a shard: a look, and what is appended by what it shows (own).
use Rattle.std.specs.Prelude.{ℕ, ◌+◌, ◌≡◌, zero, suc, nat_lt, Bool, true, false, not, List, [], ◌∷◌, ◌++◌, filter, map, sum_by, count_by, Result, Ok, Err, if◌then◌else◌}
use Rattle.std.specs.List.{AllByRecursion}
use Rattle.tuple_values.specs.Document.{ByteList}
use Rattle.tuple_values.specs.declared.write.Write.{Write}
use Rattle.tuple_values.specs.declared.write.Write.TheVariants as write
use Rattle.shard_versions.specs.Documents.{id_of}
use Rattle.shard_versions.specs.Fitness.{is_routed, is_storable_kind}
use Rattle.shard_versions.specs.Histories.{History, is_mark, is_pending}
use Rattle.shard_versions.specs.Sizes.{entries_bytes, kind_bytes}
use Rattle.shard_versions.specs.declared.entry.Entry.{Entry}
use Rattle.shard_versions.specs.declared.entry.Kind.{Kind}
use Rattle.shard_versions.specs.declared.entry.Kind.TheVariants.{Put, Del, Mark}
use Rattle.exchange_rules.specs.Cells as cell
use Rattle.exchange_rules.specs.Cells.{history_in}
use Rattle.exchange_rules.specs.Courses.{Course, ends, looks, makes}
use Rattle.exchange_rules.specs.declared.fault.SiteFault.{SiteFault}

-- the entry that a write of an update is
abbrev pub kind_of : Write → Kind
kind_of (write.Put doc) = Put doc
kind_of (write.Del id) = Del id

-- the id that the write is of
abbrev pub written_id : Write → ByteList
written_id (write.Put doc) = id_of doc
written_id (write.Del id) = id

-- the writes that route to this shard of so many, in order
abbrev pub routed : ℕ → ℕ → List Write → List Kind
routed shards shard writes = filter (is_routed shards shard) (map kind_of writes)

-- with a commit a Mark follows the writes of a step, where there are any
abbrev pub closed : Bool → List Kind → List Kind
closed commit [] = []
closed true (k ∷ ks) = (k ∷ ks) ++ Mark ∷ []
closed false (k ∷ ks) = k ∷ ks

-- a step doesn't fit where the counted bytes of the history with the step's pass the limit
abbrev pub is_full : ℕ → History → List Kind → Bool
is_full limit h step = nat_lt limit (entries_bytes h + sum_by kind_bytes step)

-- what is admitted of a delivery doesn't fit with its Mark, where there is any
abbrev pub is_over : ℕ → History → List Kind → Bool
is_over limit h [] = false
is_over limit h (k ∷ ks) = is_full limit h (closed true (k ∷ ks))

-- the step where it fits this history, and else the refusal
abbrev pub fitting : ℕ → ℕ → List Kind → SiteFault → History → Course (Result (Unit {0}) SiteFault)
fitting limit at step refusal h =
    if is_full limit h step
    then ends (Err refusal)
    else makes at (map cell.write step) (ends (Ok tt))

-- one look, and the step unless it doesn't fit
abbrev pub step_course : ℕ → ℕ → List Kind → SiteFault → Course (Result (Unit {0}) SiteFault)
step_course limit at step refusal =
    looks at (λ log. fitting limit at step refusal (history_in log))

-- the same where there is something to append
abbrev pub write_course : ℕ → ℕ → List Kind → SiteFault → Course (Result (Unit {0}) SiteFault)
write_course limit at [] refusal = ends (Ok tt)
write_course limit at (k ∷ ks) refusal = step_course limit at (k ∷ ks) refusal

-- a Mark where a write is pending in this history
abbrev pub commit_pending : ℕ → ℕ → SiteFault → History → Course (Result (Unit {0}) SiteFault)
commit_pending limit at refusal h =
    if is_pending h then fitting limit at (Mark ∷ []) refusal h else ends (Ok tt)

-- one look, and a Mark where a write is pending at it
abbrev pub commit_shard_course : ℕ → ℕ → SiteFault → Course (Result (Unit {0}) SiteFault)
commit_shard_course limit at refusal =
    looks at (λ log. commit_pending limit at refusal (history_in log))

-- the same where so many writes are none
abbrev pub commit_unless : ℕ → ℕ → ℕ → SiteFault → Course (Result (Unit {0}) SiteFault)
commit_unless limit at zero refusal = commit_shard_course limit at refusal
commit_unless limit at (suc writes) refusal = ends (Ok tt)

-- the kinds of these entries
abbrev pub kinds_of : List Entry → List Kind
kinds_of es = map (λ e. e.kind) es

-- these kinds as this writer's entries
abbrev pub entries_by : ℕ → List Kind → List Entry
entries_by me ks = map (λ k. record { by = me; kind = k }) ks

-- each of the entries is this writer's
abbrev pub AreBy : ℕ → List Entry → Type 0
AreBy me es = AllByRecursion (λ e. e.by ≡ me) es

-- how many of these are writes
abbrev pub writes_in : List Kind → ℕ
writes_in ks = count_by (λ k. not (is_mark k)) ks

-- each document of the writes can be kept
abbrev pub AreStorableWrites : List Write → Type 0
AreStorableWrites writes = AllByRecursion (λ w. is_storable_kind (kind_of w) ≡ true) writes
