-- What workers do at a site: calls, each by its course (own).
use Rattle.std.specs.Prelude.{◌≡◌, false, List, [], ◌∷◌, Some}
use Rattle.std.specs.List.{AllByRecursion}
use Rattle.tuple_values.specs.Document.{ByteList}
use Rattle.tuple_values.specs.declared.write.Write.{Write}
use Rattle.exchange_rules.specs.Following.{Writer, Begins}
use Rattle.exchange_rules.specs.Rows.{Layout, commit_course, index_course}
use Rattle.exchange_rules.specs.Topics.{run_course}
use Rattle.update_sink.specs.Topics.{Sink, asked_of, batches_over, run_of}

-- a call of a worker: an update of a collection, its commit, or the run of an update of a topic
pub data Call : Type 0 where
  index : ByteList → List Write → Call
  commit : ByteList → Call
  run : Sink → Call

-- from old to new the writer followed the course of the call, or a beginning of it: its record gained
-- just its looks and own steps
abbrev pub Makes : Layout → Writer → Writer → Call → Type 0
Makes l old new (index collection writes) = Begins old new (index_course l collection writes false)
Makes l old new (commit collection) = Begins old new (commit_course l collection)
Makes l old new (run s) =
    Begins old new (run_course l (asked_of s.topic (Some s.dest)) s.dest (batches_over s) run_of)

-- it made these calls, one after another
abbrev pub AreMade : Layout → Writer → Writer → List Call → Type 0
AreMade l old new [] = new ≡ old
AreMade l old new (call ∷ calls) =
    (mid : Writer) × (Makes l old mid call × AreMade l mid new calls)

-- it made some calls, all of this kind
pub record HasWorked (l : Layout) (IsOfKind : Call → Type 0) (old new : Writer) : Type 0 where
  pub calls : List Call
  pub each : AllByRecursion IsOfKind calls
  pub made : AreMade l old new calls

-- an update of this collection by these writes, or its commit
abbrev pub IsUpdateBy : ByteList → List Write → Call → Type 0
IsUpdateBy collection writes (index c w) = (c ≡ collection) × (w ≡ writes)
IsUpdateBy collection writes (commit c) = c ≡ collection
IsUpdateBy collection writes (run s) = ⊥

-- an update or a commit of this collection
abbrev pub IsUpdateOf : ByteList → Call → Type 0
IsUpdateOf collection (index c w) = c ≡ collection
IsUpdateOf collection (commit c) = c ≡ collection
IsUpdateOf collection (run s) = ⊥

-- the run of a topic
abbrev pub IsRun : Call → Type 0
IsRun (index c w) = ⊥
IsRun (commit c) = ⊥
IsRun (run s) = Unit {0}
