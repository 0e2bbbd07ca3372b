-- Where what a worker of a server did stands in the histories with which its site was closed (own).
use Rattle.std.specs.Prelude.{ℕ, ◌≡◌, ◌≢◌, ◌++◌, List, [], All, Some, None, drop, get_or}
use Rattle.std.specs.List.{flat_map}
use Rattle.std.proofs.Common.{inl, inr}
use Rattle.exchange_rules.specs.Cells.{author_of, Log}
use Rattle.exchange_rules.specs.Following.{Follows, Writer, counts}
use Rattle.exchange_rules.specs.Own.{by_writer, steps_at}
use Rattle.exchange_rules.specs.Rows.{Layout}
use Rattle.daemon_board.specs.Answers.{no_answers}
use Rattle.server_edge.specs.Doors.{Row}
use Rattle.server_edge.specs.declared.door.Back.{Back}
use Rattle.stream_handler.specs.Boards.{board_state, BoardState}
use Rattle.stream_handler.specs.Exchanges.{Answer, AreSound, owns_of}
use Rattle.stream_handler.specs.Requests.{request_course}
use Rattle.stream_handler.specs.Sessions.{Wire, EndsBy, IsSession}
use Rattle.stream_handler.specs.declared.ending.SessionEnd.{SessionEnd}
use Rattle.running_site.specs.Passes.{new_writer}
use Rattle.pass_calls.specs.Serving.{server, served_by, IsEven, IsServedRow, Server, Serving}
use Rattle.site_server.specs.Doors.{Doors}
use Rattle.site_server.specs.Ended.{IsSeenOf, IsWorked, Worked}

-- the exchanges of a connection that ended so are sound over these histories, in place of what the
-- worker with this number had seen; and what was done of a request that was begun behind them
-- follows its course there
abbrev pub EndStandsIn : (tells : ℕ → Type 0) (l : Layout) (old new : Wire) (w v : Writer)
    (answers : List Answer) (note : SessionEnd) → ℕ → List Log
    → EndsBy tells l old new w v answers note.rest note.end → Type 0
EndStandsIn tells l old new w v answers note me logs (inl settled) =
    AreSound tells l me logs (counts w.seen) answers (counts v.seen)
EndStandsIn tells l old new w v answers note me logs (inr begun) =
    AreSound tells l me logs (counts w.seen) answers (counts begun.1.mid.seen)
    × Follows me logs (counts begun.1.mid.seen)
    (request_course l begun.1.told begun.1.message.request) begun.1.accesses begun.1.left
    (counts v.seen)

-- the same of what a connection did until it was served no further
abbrev pub StandsIn : {tells : ℕ → Type 0} {l : Layout} {old new : Wire} {w v : Writer}
    → ℕ → List Log → (note : SessionEnd)
    → IsSession tells l old new w v note.exchanges note.rest note.end → Type 0
StandsIn {tells} {l} {old} {new} {w} {v} me logs note s =
    EndStandsIn tells l old new w v s.answers note me logs s.over.ends

-- a connection was served to its end, each step that was appended is told by its note, and what it
-- did stands in these histories
abbrev pub found_by : {D I O : Type 0} → Doors D I O → (ℕ → Type 0) → Layout → ℕ → List Log
    → Serving Server I O SessionEnd
found_by kind tells l me logs w v c b =
    (served : served_by tells l kind.left kind.reads kind.written kind.writes w v c b)
    × StandsIn me logs b.note served.0.1.session

-- at each cell, the entries with this number are just the own steps of these connections' exchanges
-- and of the rests that came back, each step once and in order
abbrev pub AreStepsOf : {I O : Type 0} → ℕ → List Log → List (Back I O SessionEnd) → Type 0
AreStepsOf me logs backs =
    (cell : ℕ)
    → by_writer me (get_or logs cell [])
    ≡ steps_at cell logs (flat_map (λ b. owns_of b.note.exchanges ++ b.note.rest.own) backs)

-- behind so many entries of each cell none carries this number
abbrev pub IsDoneAt : ℕ → List Log → List ℕ → Type 0
IsDoneAt me logs end =
    (cell : ℕ)
    → All (λ entry. author_of entry ≢ me) (drop (get_or end cell 0) (get_or logs cell []))

-- what a worker did is found in these histories: the connections that its door gave were served one
-- after another and came back, what each did stands there, the entries with the worker's number are
-- just its steps, and none carries it behind what the worker has seen
pub record IsFound {D I O : Type 0} (kind : Doors D I O) (tells : ℕ → Type 0) (l : Layout)
    (logs : List Log) (number : ℕ) (x : Worked D) (r : Row I O SessionEnd) : Type 0 where
  pub row : Row I O SessionEnd
  pub is : kind.told x.new ≡ Some row
  pub board : BoardState
  pub served : IsServedRow (found_by kind tells l number logs)
      (server (new_writer l.names number) (board_state None no_answers)) (server x.writer board) r
      row
  pub steps : AreStepsOf number logs served.backs
  pub done : IsDoneAt number logs (counts x.writer.seen)

-- what each worker did is found in all histories which what it has seen begins, and behind which no
-- entry carries its number, where its door tells its connections and no more had come back to it
-- than it had given
abbrev pub ServedAreFound : Type 0 → Type 0 → Type 0 → (ℕ → Type 0) → Type 0
ServedAreFound D I O tells =
    (kind : Doors D I O) (l : Layout) (logs : List Log) (number : ℕ) (x : Worked D)
    (r : Row I O SessionEnd)
    → IsWorked kind tells l number x → IsSeenOf logs x.writer → kind.told x.old ≡ Some r
    → IsEven r → IsFound kind tells l logs number x r
