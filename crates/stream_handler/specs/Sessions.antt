-- What is read from a connection and written to it, and how it ends (own).
use Rattle.std.specs.Prelude.{ℕ, ◌≡◌, ◌≢◌, ◌+◌, ◌<◌, ◌≤◌, ◌⊎◌, Bool, true, false, List, [], ◌∷◌, ◌++◌, length, get_or, Option, Some, None}
use Rattle.tuple_values.specs.Document.{ByteList}
use Rattle.tuple_values.specs.declared.names.NameShards.{NameShards}
use Rattle.std.specs.List.{AllByRecursion}
use Rattle.io_edge.specs.Edge.{Appends, Rose}
use Rattle.shard_versions.specs.declared.cut.Record.{Record}
use Rattle.exchange_rules.specs.Accesses.{Access, looks_at, marks_of, own_of}
use Rattle.exchange_rules.specs.Courses.{Course}
use Rattle.exchange_rules.specs.Following.{Follows, Grows, Writer, counts}
use Rattle.exchange_rules.specs.Rows.{Layout}
use Rattle.exchange_rules.specs.Recorded.{AreRecorded}
use Rattle.form_request.specs.Readers.{HeldReads}
use Rattle.form_request.specs.Streams.{Held, fed}
use Rattle.form_request.specs.declared.plan.Stage.TheVariants as stage
use Rattle.form_request.specs.declared.reading.After.{After}
use Rattle.form_request.specs.declared.reading.After.TheVariants.{Rest}
use Rattle.form_request.specs.declared.reading.Message.{Message}
use Rattle.stream_handler.specs.Boards.{BoardState}
use Rattle.stream_handler.specs.Exchanges.{Answer, AreSound, BoardsAlong, messages_of, exchanges_of, replies_of, reply_to, looks_of, owns_of}
use Rattle.stream_handler.specs.Passing.{Passes, front_text, said}
use Rattle.stream_handler.specs.Refusals.{refusal_reply}
use Rattle.stream_handler.specs.Requests.{request_course}
use Rattle.stream_handler.specs.Serving.{BreaksOff}
use Rattle.stream_handler.specs.declared.ending.End.{End}
use Rattle.stream_handler.specs.declared.ending.End.TheVariants as end
use Rattle.stream_handler.specs.declared.ending.OneEnd.{OneEnd}
use Rattle.stream_handler.specs.declared.ending.OneEnd.TheVariants.{Served, Last, Over}
use Rattle.stream_handler.specs.declared.ending.SessionEnd.{SessionEnd}
use Rattle.stream_handler.specs.declared.exchange.Exchange.{Exchange}
use Rattle.stream_handler.specs.declared.outcome.Outcome.{Outcome}

-- a connection: where its stream of requests stands, what its source has left and its sink has
-- written, where they tell it, how often each has failed, and the board of daemons
pub record Wire : Type 0 where
  pub held : Held
  pub left : Option (List ℕ)
  pub reads : ℕ
  pub written : Option (List ℕ)
  pub writes : ℕ
  pub board : BoardState

abbrev pub wire : Held → Option (List ℕ) → ℕ → Option (List ℕ) → ℕ → BoardState → Wire
wire held left reads written writes board =
    record {
      held = held;
      left = left;
      reads = reads;
      written = written;
      writes = writes;
      board = board;
    }

-- these bytes were taken from the source, where it tells what it has left
abbrev pub Came : Option (List ℕ) → Option (List ℕ) → List ℕ → Type 0
Came None new bytes = new ≡ None
Came (Some all) new bytes = (rest : List ℕ) × (all ≡ bytes ++ rest) × (new ≡ Some rest)

-- nothing was left at the end, where the source tells it
abbrev pub IsEmptied : Option (List ℕ) → Type 0
IsEmptied None = Unit {0}
IsEmptied (Some all) = all ≡ []

-- the counts of failures don't fall
pub record Counts (old new : Wire) : Type 0 where
  pub reads : old.reads ≤ new.reads
  pub writes : old.writes ≤ new.writes

-- the bytes that were taken lead the stream past these whole messages
pub record Passed (names : List NameShards) (old new : Wire) (messages : List Message) (told : Bool)
    : Type 0 where
  pub bytes : List ℕ
  pub came : Came old.left new.left bytes
  pub passes : Passes names false old.held bytes messages told new.held

-- the bytes that were taken hold these whole messages, and then this
pub record Stands (names : List NameShards) (old new : Wire) (messages : List Message) (after : After)
    : Type 0 where
  pub bytes : List ℕ
  pub came : Came old.left new.left bytes
  pub reads : HeldReads names false (fed old.held bytes) messages after

-- the writer's exchanges were these, one after another, by a clock that may tell these times
pub record Exchanged (tells : ℕ → Type 0) (l : Layout) (old new : Writer) (answers : List Answer)
    : Type 0 where
  pub same : new.me ≡ old.me
  pub grown : Grows old.seen new.seen
  pub sound : AreSound tells l old.me new.seen (counts old.seen) answers (counts new.seen)
  pub looked : (cell : ℕ)
      → get_or new.looks cell 0 ≡ get_or old.looks cell 0 + looks_at cell (looks_of answers)

-- a writer's record
abbrev pub record_of : Writer → Record
record_of w = record { marks = w.marks; own = w.own }

-- nothing is recorded
abbrev pub nothing : Record
nothing = record { marks = []; own = [] }

-- these messages were answered, and nothing is written of the next one
pub record IsServed (tells : ℕ → Type 0) (l : Layout) (old new : Wire) (w v : Writer)
    (answers : List Answer) : Type 0 where
  pub counts : Counts old new
  pub passed : Passed l.names old new (messages_of answers) false
  pub written : Appends old.written new.written (replies_of answers)
  pub exchanged : Exchanged tells l w v answers
  pub boards : BoardsAlong tells l old.board answers new.board
  pub recorded : record_of v ≡ nothing

-- a request was begun behind these exchanges: its message is read, nothing of its reply is written,
-- what was done is a beginning of its course, as the record says, and the board was not asked
pub record IsBegun (tells : ℕ → Type 0) (l : Layout) (old new : Wire) (w v : Writer)
    (answers : List Answer) (rest : Record) : Type 0 where
  pub message : Message
  pub passed : Passed l.names old new (messages_of answers ++ message ∷ []) false
  pub written : Appends old.written new.written (replies_of answers ++ said message.asks)
  pub mid : Writer
  pub exchanged : Exchanged tells l w mid answers
  pub same : v.me ≡ mid.me
  pub grown : Grows mid.seen v.seen
  pub accesses : List Access
  pub marks : rest.marks ≡ marks_of accesses
  pub own : rest.own ≡ own_of accesses
  pub looked : (cell : ℕ)
      → get_or v.looks cell 0 ≡ get_or mid.looks cell 0 + looks_at cell (marks_of accesses)
  pub told : Outcome
  pub left : Course Outcome
  pub followed : Follows w.me v.seen (counts mid.seen) (request_course l told message.request)
      accesses left (counts v.seen)
  pub boards : BoardsAlong tells l old.board answers new.board

-- the last of these requests asked to close, and nothing is read behind it
abbrev pub IsClosed : List Answer → Held → Type 0
IsClosed answers held =
    (before : List Answer) × (answer : Answer) × (answers ≡ before ++ answer ∷ [])
    × (answer.message.request.closes ≡ true) × (held.stage ≡ stage.Closed)

-- how many requests of a connection are answered at most
unfoldable pub most_requests : ℕ
most_requests = 10000

-- so many bytes and no more were there behind these messages, and are of an unfinished one
pub record IsUnfinished (names : List NameShards) (old new : Wire) (answers : List Answer) (held : ℕ)
    : Type 0 where
  pub asks : Bool
  pub stands : Stands names old new (messages_of answers) (Rest held asks)
  pub written : Appends old.written new.written (replies_of answers ++ said asks)

-- the bytes that were taken lead the stream past these messages, whose replies are written, and of what
-- belongs to the message at which it stands, which isn't nothing, a first part is
pub record IsStuck (names : List NameShards) (old new : Wire) (answers : List Answer) : Type 0 where
  pub told : Bool
  pub passed : Passed names old new (messages_of answers) told
  pub part : ByteList
  pub rest : ByteList
  pub due : front_text new.held.stage told ≢ []
  pub is : front_text new.held.stage told ≡ part ++ rest
  pub written : Appends old.written new.written (replies_of answers ++ part)

-- the bytes that were taken, but perhaps for the last of them, lead the stream past these messages,
-- whose replies are written, and what was said of the message at which it stands
pub record IsLost (names : List NameShards) (old new : Wire) (answers : List Answer) : Type 0 where
  pub bytes : List ℕ
  pub lost : List ℕ
  pub told : Bool
  pub came : Came old.left new.left (bytes ++ lost)
  pub passes : Passes names false old.held bytes (messages_of answers) told new.held
  pub written : Appends old.written new.written (replies_of answers ++ said told)

-- the bytes that were taken lead the stream past these messages, and of the last reply a part is
-- written
pub record IsCutOff (names : List NameShards) (old new : Wire) (answers : List Answer) : Type 0 where
  pub before : List Answer
  pub last : Answer
  pub answers_are : answers ≡ before ++ last ∷ []
  pub passed : Passed names old new (messages_of answers) false
  pub part : ByteList
  pub rest : ByteList
  pub is : reply_to last ≡ part ++ rest
  pub written : Appends old.written new.written (replies_of before ++ part)

-- how a connection ended behind these answers, and what was read and written then
abbrev pub WireEnds : List NameShards → Wire → Wire → List Answer → End → Type 0
WireEnds names old new answers end.Ended =
    IsEmptied new.left × IsUnfinished names old new answers 0
WireEnds names old new answers end.Closed =
    Passed names old new (messages_of answers) false
    × Appends old.written new.written (replies_of answers)
    × (IsClosed answers new.held ⊎ (length answers ≡ most_requests))
WireEnds names old new answers (end.Cut held) =
    IsEmptied new.left × (0 < held) × IsUnfinished names old new answers held
WireEnds names old new answers (end.Refused status) =
    Passed names old new (messages_of answers) false × (new.held.stage ≡ stage.Stopped status)
    × Appends old.written new.written (replies_of answers ++ refusal_reply status)
WireEnds names old new answers end.ReadFault =
    Rose old.reads new.reads × ((held : ℕ) × IsUnfinished names old new answers held)
WireEnds names old new answers end.WriteFault =
    Rose old.writes new.writes
    × (IsStuck names old new answers ⊎ IsCutOff names old new answers)
WireEnds names old new answers end.OutOfMemory =
    IsLost names old new answers ⊎ IsCutOff names old new answers

-- it ended so, and the writer and the board did what the exchanges say and no more
pub record IsSettled (tells : ℕ → Type 0) (l : Layout) (old new : Wire) (w v : Writer)
    (answers : List Answer) (rest : Record) (e : End) : Type 0 where
  pub ends : WireEnds l.names old new answers e
  pub exchanged : Exchanged tells l w v answers
  pub boards : BoardsAlong tells l old.board answers new.board
  pub recorded : rest ≡ nothing

-- why a connection was served no further behind these answers, and what stands then
abbrev pub EndsBy : (ℕ → Type 0) → Layout → Wire → Wire → Writer → Writer → List Answer → Record
    → End → Type 0
EndsBy tells l old new w v answers rest e =
    IsSettled tells l old new w v answers rest e
    ⊎ ((e ≡ end.OutOfMemory) × IsBegun tells l old new w v answers rest)

-- a connection was served no further behind these exchanges
pub record IsOver (tells : ℕ → Type 0) (l : Layout) (old new : Wire) (w v : Writer)
    (answers : List Answer) (rest : Record) (e : End) : Type 0 where
  pub counts : Counts old new
  pub ends : EndsBy tells l old new w v answers rest e

-- one message was answered, with this exchange; the connection closes with it or not
pub record IsOneServed (tells : ℕ → Type 0) (l : Layout) (old new : Wire) (w v : Writer)
    (x : Exchange) (last : Bool) : Type 0 where
  pub answer : Answer
  pub exchange : answer.exchange ≡ x
  pub closes : answer.message.request.closes ≡ last
  pub behind : last ≡ true → new.held.stage ≡ stage.Closed
  pub served : IsServed tells l old new w v (answer ∷ [])

-- none was answered, which isn't a close
pub record IsUnanswered (tells : ℕ → Type 0) (l : Layout) (old new : Wire) (w v : Writer) (e : End)
    : Type 0 where
  pub unclosed : e ≢ end.Closed
  pub over : IsOver tells l old new w v [] (record_of v) e

-- one was answered, and its reply is written in part
pub record IsAnsweredInPart (tells : ℕ → Type 0) (l : Layout) (old new : Wire) (w v : Writer)
    (x : Exchange) (e : End) : Type 0 where
  pub counts : Counts old new
  pub cause : BreaksOff e old.writes new.writes
  pub answer : Answer
  pub exchange : answer.exchange ≡ x
  pub cut : IsCutOff l.names old new (answer ∷ [])
  pub exchanged : Exchanged tells l w v (answer ∷ [])
  pub boards : BoardsAlong tells l old.board (answer ∷ []) new.board
  pub recorded : record_of v ≡ nothing

-- none was answered whole
abbrev pub IsOneOver : (ℕ → Type 0) → Layout → Wire → Wire → Writer → Writer → Option Exchange → End
    → Type 0
IsOneOver tells l old new w v None e = IsUnanswered tells l old new w v e
IsOneOver tells l old new w v (Some x) e = IsAnsweredInPart tells l old new w v x e

-- how one message of a connection was served
abbrev pub IsOneEnd : (ℕ → Type 0) → Layout → Wire → Wire → Writer → Writer → OneEnd → Type 0
IsOneEnd tells l old new w v (Served x) = IsOneServed tells l old new w v x false
IsOneEnd tells l old new w v (Last x) = IsOneServed tells l old new w v x true
IsOneEnd tells l old new w v (Over e unfinished) = IsOneOver tells l old new w v unfinished e

-- a connection that was served to its end: these are its exchanges, and what is left of the record
pub record IsSession (tells : ℕ → Type 0) (l : Layout) (old new : Wire) (w v : Writer)
    (exchanges : List Exchange) (rest : Record) (e : End) : Type 0 where
  pub answers : List Answer
  pub exchanges_are : exchanges ≡ exchanges_of answers
  pub over : IsOver tells l old new w v answers rest e

-- none of these requests asked to close
abbrev pub AreOpen : List Answer → Type 0
AreOpen answers = AllByRecursion (λ a. a.message.request.closes ≡ false) answers

-- a connection could have had more requests
abbrev pub IsOpen : List Answer → Type 0
IsOpen answers = (length answers < most_requests) × AreOpen answers

-- a connection has so many requests at most, and where it isn't closed, and its last reply is whole, it
-- could have had more
abbrev pub IsWithin : List NameShards → Wire → Wire → List Answer → End → Type 0
IsWithin names old new answers end.Ended = IsOpen answers
IsWithin names old new answers end.Closed = length answers ≤ most_requests
IsWithin names old new answers (end.Cut held) = IsOpen answers
IsWithin names old new answers (end.Refused status) = IsOpen answers
IsWithin names old new answers end.ReadFault = IsOpen answers
IsWithin names old new answers end.WriteFault =
    IsOpen answers ⊎ (IsCutOff names old new answers × (length answers ≤ most_requests))
IsWithin names old new answers end.OutOfMemory =
    IsOpen answers ⊎ (IsCutOff names old new answers × (length answers ≤ most_requests))

-- a connection was served to its end, with as many requests as it may have
pub record IsBounded (tells : ℕ → Type 0) (l : Layout) (old new : Wire) (w v : Writer)
    (exchanges : List Exchange) (rest : Record) (e : End) : Type 0 where
  pub session : IsSession tells l old new w v exchanges rest e
  pub within : IsWithin l.names old new session.answers e

-- the same of a connection that began with nothing, by what is known of its ends
abbrev pub IsConnection : (ℕ → Type 0) → Layout → Wire → Option (List ℕ) → ℕ → Option (List ℕ) → ℕ
    → BoardState → Writer → Writer → SessionEnd → Type 0
IsConnection tells l old left reads written writes board w v s =
    (held : Held)
    × IsBounded tells l old (wire held left reads written writes board) w v s.exchanges s.rest s.end
    × (record_of v ≡ nothing)

-- at each cell, what the writer appended is just what the own marks of the exchanges, and then
-- those of the rest, say, each step once and in order
abbrev pub RecordsSteps : Writer → Writer → SessionEnd → Type 0
RecordsSteps w v s =
    AreRecorded w.me v.seen (counts w.seen) (counts v.seen) (owns_of s.exchanges ++ s.rest.own)
