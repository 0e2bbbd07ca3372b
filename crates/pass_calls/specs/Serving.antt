-- How the connections of a door are served, one after another (own).
use Rattle.std.specs.Prelude.{ℕ, ◌≡◌, ◌≤◌, ◌<◌, ◌+◌, ◌^◌, ◌⊎◌, List, [], ◌∷◌, ◌++◌, length, Option, Bool, true, false}
use Rattle.std.specs.Prelude.{Some, None, IfSome}
use Rattle.io_edge.specs.Edge.{Rose}
use Rattle.exchange_rules.specs.Following.{Writer}
use Rattle.exchange_rules.specs.Rows.{Layout}
use Rattle.form_request.specs.Streams.{begun}
use Rattle.server_edge.specs.Doors.{HasRoom, Row, IsEmptied}
use Rattle.server_edge.specs.declared.door.Back.{Back}
use Rattle.stream_handler.specs.Boards.{BoardState}
use Rattle.stream_handler.specs.Sessions.{wire, IsConnection, RecordsSteps}
use Rattle.stream_handler.specs.declared.ending.SessionEnd.{SessionEnd}
use Rattle.pass_calls.specs.declared.doors.DoorEnd.{DoorEnd}
use Rattle.pass_calls.specs.declared.doors.DoorEnd.TheVariants.{Closed, NoListen, Failed}

-- what a server is before and after one connection, the connection as it was given, and as it came
-- back
abbrev pub Serving : Type 0 → Type 0 → Type 0 → Type 0 → Type 1
Serving W I O N = W → W → I × O → Back I O N → Type 0

-- these connections were served one after another, and came back
abbrev pub AreServed : {W I O N : Type 0} → Serving W I O N → W → List (I × O) → List (Back I O N) →
    W
    → Type 0
AreServed did w [] [] v = v ≡ w
AreServed did w [] (b ∷ backs) v = ⊥
AreServed did w (c ∷ given) [] v = ⊥
AreServed {W} did w (c ∷ given) (b ∷ backs) v =
    (mid : W) × did w mid c b × AreServed did mid given backs v

-- a door gave these connections and took them back
pub record IsServedRow {W I O N : Type 0} (did : Serving W I O N) (w v : W) (old new : Row I O N)
    : Type 0 where
  pub given : List (I × O)
  pub backs : List (Back I O N)
  pub left : old.left ≡ given ++ new.left
  pub counted : new.given ≡ old.given + length given
  pub came : new.came ≡ old.came ++ backs
  pub served : AreServed did w given backs v

-- no more ends had come back than were given
abbrev pub IsEven : {I O N : Type 0} → Row I O N → Type 0
IsEven r = length r.came ≤ r.given

-- where the door tells its connections, and no more had come back to it than it had given
abbrev pub IsServed : {W I O N : Type 0} → Serving W I O N → W → W → Option (Row I O N)
    → Option (Row I O N) → Type 0
IsServed did w v None new = new ≡ None
IsServed {W} {I} {O} {N} did w v (Some old) new =
    (r : Row I O N) × (new ≡ Some r) × (IsEven old → IsServedRow did w v old r)

-- a count rose so often, or stands at the end of a 64-bit number
abbrev pub RoseBy : ℕ → ℕ → ℕ → Type 0
RoseBy times old new = (old + times ≤ new) ⊎ (2 ^ 64 ≤ new + 1)

-- why the serving of a door ended
abbrev pub EndsDoor : {I O N : Type 0} → Option (Row I O N) → ℕ → ℕ → ℕ → ℕ → DoorEnd → Type 0
EndsDoor row faults_old faults_new deaf_old deaf_new Closed = IsEmptied row
EndsDoor row faults_old faults_new deaf_old deaf_new NoListen = Rose deaf_old deaf_new
EndsDoor row faults_old faults_new deaf_old deaf_new Failed = RoseBy 100 faults_old faults_new

-- one connection, which was given, was served and came back, where there is room
abbrev pub ServesOne : {W I O N : Type 0} → Serving W I O N → W → W → I × O → Option (Row I O N)
    → Option (Row I O N) → Type 0
ServesOne did w v c None new = new ≡ None
ServesOne {W} {I} {O} {N} did w v c (Some old) new =
    (b : Back I O N) × (came : List (Back I O N)) × did w v c b
    × (new ≡ Some (record { given = old.given; left = old.left; came = came }))
    × (HasRoom old → came ≡ old.came ++ b ∷ [])

-- failures of a door were counted, and its own count rose by as many at least, or stands at its end;
-- where none was, it stays
pub record Rises (before after old new : ℕ) : Type 0 where
  pub on : before ≤ after
  pub stays : old ≤ new
  pub rose : (old + after ≤ new + before) ⊎ (2 ^ 64 ≤ new + 1)
  pub still : after ≡ before → new ≡ old

-- whether a door failed: its count rose, or else it stays
abbrev pub HasFailed : Bool → ℕ → ℕ → Type 0
HasFailed true old new = Rose old new
HasFailed false old new = new ≡ old

-- whether a door goes on, by how often it has failed
abbrev pub EndsNext : {I O N : Type 0} → Option (Row I O N) → ℕ → Option DoorEnd → Type 0
EndsNext row failures None = failures < 100
EndsNext row failures (Some Closed) = IsEmptied row
EndsNext row failures (Some NoListen) = ⊥
EndsNext row failures (Some Failed) = failures ≡ 100

-- why a door that listened was served no further
abbrev pub EndsAll : {I O N : Type 0} → Option (Row I O N) → ℕ → ℕ → DoorEnd → Type 0
EndsAll row old new Closed = IsEmptied row
EndsAll row old new NoListen = ⊥
EndsAll row old new Failed = RoseBy 100 old new

-- a door gave one connection more, where it tells them
abbrev pub GaveOne : {I O N : Type 0} → Option (Row I O N) → Option (Row I O N) → Type 0
GaveOne None new = Unit {0}
GaveOne (Some r) new = IfSome new (λ n. n.given ≡ r.given + 1)

-- what a call for the next connection did: it failed, and that was counted, or gave one
abbrev pub HasGoneOn : {I O N : Type 0} → ℕ → ℕ → Option (Row I O N) → Option (Row I O N) → Type 0
HasGoneOn before after old new = (after ≡ before + 1) ⊎ GaveOne old new

-- a pass as a writer, and the board as its requests see it
pub record Server : Type 0 where
  pub writer : Writer
  pub board : BoardState

abbrev pub server : Writer → BoardState → Server
server writer board = record { writer = writer; board = board }

-- a connection was served to its end, and each step that was appended is told by its note
abbrev pub served_by : {I O : Type 0} → (ℕ → Type 0) → Layout → (I → Option (List ℕ)) → (I → ℕ)
    → (O → Option (List ℕ)) → (O → ℕ) → Serving Server I O SessionEnd
served_by tells l left reads written writes w v c b =
    IsConnection tells l (wire begun (left c.0) (reads c.0) (written c.1) (writes c.1) w.board)
    (left b.input) (reads b.input) (written b.output) (writes b.output) v.board w.writer v.writer
    b.note
    × RecordsSteps w.writer v.writer b.note
