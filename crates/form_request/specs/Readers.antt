-- A reader of a whole stream, as the code makes it (own).
use Rattle.std.specs.Prelude.{◌≡◌, ℕ, ◌+◌, ◌*◌, ◌<◌, Bool, true, false, List, [], ◌∷◌, ◌++◌, length, Option, None, Some, if◌then◌else◌}
use Rattle.tuple_values.specs.declared.names.NameShards.{NameShards}
use Rattle.form_request.specs.Readings.{Reads, StageReads}
use Rattle.form_request.specs.Streams.{Held, fed, held_count}
use Rattle.form_request.specs.declared.plan.Stage.{Stage}
use Rattle.form_request.specs.declared.plan.Stage.TheVariants.{Head, Body, Stopped, Closed}
use Rattle.form_request.specs.declared.reading.Message.{Message}
use Rattle.form_request.specs.declared.reading.Reader.{Reader}
use Rattle.form_request.specs.declared.reading.After.{After}
use Rattle.form_request.specs.declared.reading.After.TheVariants.{Refusal, Rest}
use Rattle.form_request.specs.declared.request.Step100.{Step100}
use Rattle.form_request.specs.declared.request.Step100.TheVariants as step

-- `100 Continue` was said only of a message whose head was read
abbrev pub ToldFits : Stage → Bool → Type 0
ToldFits Head told = told ≡ false
ToldFits (Body plan) told = Unit {0}
ToldFits (Stopped status) told = Unit {0}
ToldFits Closed told = told ≡ false

-- whether `100 Continue` was said of the message at the front, after an answer
abbrev pub told_after : Step100 → Bool → Bool
told_after (step.Whole request) told = false
told_after (step.Refused status) told = told
told_after step.Continue told = true
told_after step.Wants told = told

-- the message that an answer gives, and those behind it
abbrev pub message_after : Step100 → Bool → List Message → List Message
message_after (step.Whole request) told later = (record { asks = told; request = request }) ∷ later
message_after (step.Refused status) told later = later
message_after step.Continue told later = later
message_after step.Wants told later = later

-- how many more answers the stage may give
abbrev pub rank : Stage → ℕ
rank Head = 0
rank (Body plan) = if plan.asks then 2 else 1
rank (Stopped status) = 0
rank Closed = 0

-- a number that falls with each message, and each `100 Continue`
abbrev pub turns_left : Held → ℕ
turns_left held = 2 * length held.bytes + rank held.stage

-- what a stream reads as, once more bytes have come
abbrev pub HeldReads : List NameShards → Bool → Held → List Message → After → Type 0
HeldReads names told held messages after = StageReads names told held.stage held.bytes messages after

-- an answer that ends the reading tells what stands there, and any other brings its end nearer
abbrev pub EndsOrFalls : List NameShards → Bool → Held → Step100 → Held → Type 0
EndsOrFalls names told old (step.Whole request) new = turns_left new < turns_left old
EndsOrFalls names told old (step.Refused status) new = HeldReads names told new [] (Refusal status)
EndsOrFalls names told old step.Continue new = turns_left new < turns_left old
EndsOrFalls names told old step.Wants new = HeldReads names told new [] (Rest (held_count new) told)

-- what was read with an answer and what is read behind it are what is read before it
pub record TurnReads
    (names : List NameShards) (told : Bool) (old : Held) (given : Step100 × Held) : Type 0 where
  pub reads : (more : List ℕ) (later : List Message) (after : After)
      → HeldReads names (told_after given.0 told) (fed given.1 more) later after
      → HeldReads names told (fed old more) (message_after given.0 told later) after
  pub fits : ToldFits given.1.stage (told_after given.0 told)
  pub ends : EndsOrFalls names told old given.0 given.1

-- with this piece, what a reader has read and will read is what an earlier one will
pub record Leads (names : List NameShards) (piece : List ℕ) (old new : Reader) : Type 0 where
  pub added : List Message
  pub messages : new.messages ≡ old.messages ++ added
  pub fits : ToldFits new.requests.stage new.told
  pub reads : (more : List ℕ) (later : List Message) (after : After)
      → HeldReads names new.told (fed new.requests more) later after
      → HeldReads names old.told (fed old.requests (piece ++ more)) (added ++ later) after

-- a reader has come to the end of what is there, or nearer to it
abbrev pub IsNearer : List NameShards → Reader → Reader → Option After → Type 0
IsNearer names old new None = turns_left new.requests < turns_left old.requests
IsNearer names old new (Some after) = HeldReads names new.told new.requests [] after

-- a reader has read these bytes
pub record HasRead (names : List NameShards) (bytes : List ℕ) (reader : Reader) : Type 0 where
  pub fits : ToldFits reader.requests.stage reader.told
  pub reads : (more : List ℕ) (later : List Message) (after : After)
      → HeldReads names reader.told (fed reader.requests more) later after
      → Reads names (bytes ++ more) (reader.messages ++ later) after
