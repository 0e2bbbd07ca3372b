-- A door in memory, as contracts see it (own).
use Rattle.std.specs.Prelude.{ℕ, ◌≡◌, List, [], map, true, false, if◌then◌else◌}
use Rattle.io_edge.specs.Memory.{SourceState, SinkState, fails, raised}
use Rattle.server_edge.specs.Doors.{Row}
use Rattle.server_edge.specs.declared.door.Listen.{Listen}
use Rattle.server_edge.specs.declared.door.Listen.TheVariants as listen
use Rattle.server_edge.specs.declared.door.Next.{Next}
use Rattle.server_edge.specs.declared.door.Next.TheVariants.{Got, Closed, Failed}
use Rattle.server_edge.specs.declared.memory_door.Connection.{Connection}

-- the connections; how many calls of `listen` and of `next` were made, and the numbers of those that
-- fail; how often the door failed, and how often to listen
pub record DoorState (N : Type 0) : Type 0 where
  pub row : Row SourceState SinkState N
  pub listens : ℕ
  pub deaf_at : List ℕ
  pub nexts : ℕ
  pub failing : List ℕ
  pub faults : ℕ
  pub deaf : ℕ

-- the two ends of a connection
abbrev pub ends_of : Connection → SourceState × SinkState
ends_of c = (c.input, c.output)

-- a door of these connections, before its first call
abbrev pub fresh_door : {N : Type 0} → List Connection → List ℕ → List ℕ → DoorState N
fresh_door waiting deaf_at failing = record {
  row = record { given = 0; left = map ends_of waiting; came = [] };
  listens = 0;
  deaf_at = deaf_at;
  nexts = 0;
  failing = failing;
  faults = 0;
  deaf = 0;
}

-- a failure to listen, exactly where the call is to fail
abbrev pub listen_answer : {N : Type 0} → DoorState N → Listen
listen_answer d = if fails d.listens d.deaf_at then listen.Failed else listen.Ready

-- the door after a call of `listen`
abbrev pub after_listen : {N : Type 0} → DoorState N → DoorState N
after_listen d =
    if fails d.listens d.deaf_at
    then record d { listens = raised d.listens; faults = raised d.faults; deaf = raised d.deaf }
    else record d { listens = raised d.listens }

-- a call of `next` fails exactly where it is to fail, and counts that
abbrev pub NextAnswers : {N : Type 0} → DoorState N → DoorState N → Next SourceState SinkState → Type 0
NextAnswers d new (Got input output) =
    (fails d.nexts d.failing ≡ false) × (new ≡ record d { row = new.row; nexts = raised d.nexts })
NextAnswers d new Closed =
    (fails d.nexts d.failing ≡ false) × (new ≡ record d { nexts = raised d.nexts })
NextAnswers d new Failed =
    (fails d.nexts d.failing ≡ true)
    × (new ≡ record d { nexts = raised d.nexts; faults = raised d.faults })
