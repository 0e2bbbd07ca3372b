-- One step of a stream, as the code makes it (own).
use Rattle.std.specs.Prelude.{◌≡◌, ℕ, ◌<◌, ◌≤◌, true, false, List, length, take, drop}
use Rattle.tuple_values.specs.declared.names.NameShards.{NameShards}
use Rattle.form_request.specs.Heads.{front_of}
use Rattle.form_request.specs.Searches.{IsSearched}
use Rattle.form_request.specs.Streams.{Held, StageAnswers, request_of}
use Rattle.form_request.specs.declared.plan.Plan.{Plan}
use Rattle.form_request.specs.declared.plan.Stage.{Stage}
use Rattle.form_request.specs.declared.request.Step100.{Step100}
use Rattle.form_request.specs.declared.turning.Body.{Body}
use Rattle.form_request.specs.declared.turning.Body.TheVariants.{Asks, Lacks, Has}
use Rattle.form_request.specs.declared.turning.Turned.{Turned}

-- what has come of a body
abbrev pub BodyIs : Plan → List ℕ → Body → Type 0
BodyIs plan bytes Asks = plan.asks ≡ true
BodyIs plan bytes Lacks = (plan.asks ≡ false) × (length bytes < plan.length)
BodyIs plan bytes (Has request) =
    (plan.asks ≡ false) × (plan.length ≤ length bytes) × (request ≡ request_of plan (take plan.length bytes))

-- the stream after a step
abbrev pub held_after : Turned → List ℕ → Held
held_after turned bytes = record { stage = turned.stage; bytes = drop turned.taken bytes }

-- a step gives this answer and leaves that stream
pub record TurnedIs (bytes : List ℕ) (given : Step100 × Held) (turned : Turned) : Type 0 where
  pub given_is : (turned.answer, held_after turned bytes) ≡ given
  pub within : turned.taken ≤ length bytes
  pub searched : IsSearched (front_of (drop turned.taken bytes)) turned.search

-- a step is one of the stream
pub record IsTurn
    (names : List NameShards) (stage : Stage) (bytes : List ℕ) (turned : Turned) : Type 0 where
  pub answers : StageAnswers stage names bytes (turned.answer, held_after turned bytes)
  pub within : turned.taken ≤ length bytes
  pub searched : IsSearched (front_of (drop turned.taken bytes)) turned.search
