-- What is done until the next request of a connection is whole (own).
use Rattle.std.specs.Prelude.{ℕ, ◌≡◌, ◌<◌, ◌≤◌, Bool, true, false, List, [], ◌∷◌, Option, Some, None, Result, Ok, Err}
use Rattle.tuple_values.specs.declared.names.NameShards.{NameShards}
use Rattle.io_edge.specs.Edge.{Appends, AppendsPrefix, Rose}
use Rattle.form_request.specs.Streams.{Held, fed, held_count}
use Rattle.form_request.specs.declared.plan.Stage.TheVariants as stage
use Rattle.form_request.specs.declared.request.Request.{Request}
use Rattle.stream_handler.specs.Passing.{said}
use Rattle.stream_handler.specs.Refusals.{refusal_reply}
use Rattle.stream_handler.specs.Sessions.{Wire, Came, Counts, IsEmptied, Passed, WireEnds}
use Rattle.stream_handler.specs.declared.ending.End.{End}
use Rattle.stream_handler.specs.declared.ending.End.TheVariants as end
use Rattle.stream_handler.specs.declared.waiting.Turn.{Turn}
use Rattle.stream_handler.specs.declared.waiting.Turn.TheVariants.{Whole, Over, Onward}

-- no request is whole yet, and nothing but `100 Continue` is written, where it was said
pub record IsWaiting (names : List NameShards) (old new : Wire) (told : Bool) : Type 0 where
  pub counts : Counts old new
  pub passed : Passed names old new [] told
  pub written : Appends old.written new.written (said told)

-- a request is whole, and nothing of its reply is written
pub record IsWhole (names : List NameShards) (old new : Wire) (request : Request) : Type 0 where
  pub counts : Counts old new
  pub asks : Bool
  pub passed : Passed names old new (record { asks = asks; request = request } ∷ []) false
  pub written : Appends old.written new.written (said asks)
  pub behind : request.closes ≡ true → new.held.stage ≡ stage.Closed

-- no request will be whole
pub record IsHalted (names : List NameShards) (old new : Wire) (e : End) : Type 0 where
  pub counts : Counts old new
  pub ends : WireEnds names old new [] e

-- where one more answer of the stream leads
abbrev pub TurnsTo : List NameShards → Wire → Wire → Turn → Type 0
TurnsTo names old new (Whole request) = IsWhole names old new request
TurnsTo names old new (Over e) = IsHalted names old new e
TurnsTo names old new Onward = (told : Bool) × IsWaiting names old new told

-- it is over, or goes on
abbrev pub turn_of : Option End → Turn
turn_of (Some e) = Over e
turn_of None = Onward

-- where all of them lead
abbrev pub WaitsFor : List NameShards → Wire → Wire → Result Request End → Type 0
WaitsFor names old new (Ok request) = IsWhole names old new request
WaitsFor names old new (Err e) = IsHalted names old new e

-- the next piece was taken into the stream, or none will come
abbrev pub Reads : Held → Held → Option (List ℕ) → Option (List ℕ) → Option End → Type 0
Reads old new left_old left_new None =
    (piece : List ℕ) × Came left_old left_new piece × (new ≡ fed old piece)
Reads old new left_old left_new (Some end.Ended) =
    IsEmptied left_new × (left_new ≡ left_old) × (new ≡ old) × (held_count old ≡ 0)
Reads old new left_old left_new (Some end.Closed) = ⊥
Reads old new left_old left_new (Some (end.Cut held)) =
    IsEmptied left_new × (left_new ≡ left_old) × (new ≡ old) × (held_count old ≡ held) × (0 < held)
Reads old new left_old left_new (Some (end.Refused status)) = ⊥
Reads old new left_old left_new (Some end.ReadFault) = (left_new ≡ left_old) × (new ≡ old)
Reads old new left_old left_new (Some end.WriteFault) = ⊥
Reads old new left_old left_new (Some end.OutOfMemory) =
    (piece : List ℕ) × Came left_old left_new piece × (new ≡ old)

-- the count of the source's failures, by what was read
pub record ReadsCount (old new : ℕ) (r : Option End) : Type 0 where
  pub stays : old ≤ new
  pub cause : r ≡ Some end.ReadFault → Rose old new

-- a refusal was written, or a part of it, or nothing
abbrev pub Refuses : ℕ → Option (List ℕ) → Option (List ℕ) → End → Type 0
Refuses status old new end.Ended = ⊥
Refuses status old new end.Closed = ⊥
Refuses status old new (end.Cut held) = ⊥
Refuses status old new (end.Refused told) = (told ≡ status) × Appends old new (refusal_reply status)
Refuses status old new end.ReadFault = ⊥
Refuses status old new end.WriteFault = AppendsPrefix old new (refusal_reply status)
Refuses status old new end.OutOfMemory = new ≡ old

-- `100 Continue` was written, or a part of it
abbrev pub Continues : Option (List ℕ) → Option (List ℕ) → Option End → Type 0
Continues old new None = Appends old new (said true)
Continues old new (Some e) = (e ≡ end.WriteFault) × AppendsPrefix old new (said true)

-- the count of the sink's failures, by what was written
pub record WritesCount (old new : ℕ) (r : Option End) : Type 0 where
  pub stays : old ≤ new
  pub cause : r ≡ Some end.WriteFault → Rose old new
