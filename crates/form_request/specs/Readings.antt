-- The messages that a stream of bytes holds, and what stands behind the last one (own).
use Rattle.std.specs.Prelude.{◌≡◌, ℕ, ◌+◌, ◌-◌, ◌<◌, ◌≤◌, ◌||◌, min, Bool, false, List, [], ◌∷◌, length, take, drop}
use Rattle.std.specs.Bool.{MatchBool}
use Rattle.tuple_values.specs.declared.names.NameShards.{NameShards}
use Rattle.form_request.specs.Ends.{blank_len}
use Rattle.form_request.specs.Heads.{FrontIs}
use Rattle.form_request.specs.Streams.{request_of}
use Rattle.form_request.specs.declared.heads.Front.{Front}
use Rattle.form_request.specs.declared.heads.Front.TheVariants.{Unfinished, Refused, Taken}
use Rattle.form_request.specs.declared.plan.Plan.{Plan}
use Rattle.form_request.specs.declared.plan.Stage.{Stage}
use Rattle.form_request.specs.declared.plan.Stage.TheVariants.{Head, Body, Stopped, Closed}
use Rattle.form_request.specs.declared.reading.Message.{Message}
use Rattle.form_request.specs.declared.reading.After.{After}
use Rattle.form_request.specs.declared.reading.After.TheVariants.{Refusal, Rest}

-- nothing stands there
abbrev pub nothing : After
nothing = Rest 0 false

-- a body isn't whole: the bytes of its message stand there
abbrev pub BodyEnds : Bool → Plan → List ℕ → After → Type 0
BodyEnds asks plan bytes after =
    (length bytes < plan.length) × (after ≡ Rest (plan.size + min plan.length (length bytes)) asks)

-- a body is whole: its message is the next one, and those behind it follow, unless it closes
abbrev pub BodyGives : Bool → Plan → List ℕ → Message → List Message → After
    → (List ℕ → Type 0) → Type 0
BodyGives asks plan bytes message messages after Behind =
    (plan.length ≤ length bytes)
    × (message ≡ record { asks = asks; request = request_of plan (take plan.length bytes) })
    × MatchBool plan.closes ((messages ≡ []) × (after ≡ nothing)) (Behind (drop plan.length bytes))

-- no whole message stands at the front
abbrev pub FrontEnds : Front → List ℕ → After → Type 0
FrontEnds Unfinished bytes after = after ≡ Rest (length bytes - blank_len bytes) false
FrontEnds (Refused status) bytes after = after ≡ Refusal status
FrontEnds (Taken plan place) bytes after = BodyEnds plan.asks plan (drop place bytes) after

-- a whole message stands at the front
abbrev pub FrontGives : Front → List ℕ → Message → List Message → After → (List ℕ → Type 0) → Type 0
FrontGives Unfinished bytes message messages after Behind = ⊥
FrontGives (Refused status) bytes message messages after Behind = ⊥
FrontGives (Taken plan place) bytes message messages after Behind =
    BodyGives plan.asks plan (drop place bytes) message messages after Behind

-- the bytes hold these whole messages, and then this
abbrev pub Reads : List NameShards → List ℕ → List Message → After → Type 0
Reads names bytes [] after =
    (front : Front) × FrontIs names bytes front × FrontEnds front bytes after
Reads names bytes (message ∷ messages) after =
    (front : Front) × FrontIs names bytes front
    × FrontGives front bytes message messages after (λ rest. Reads names rest messages after)

-- behind a head, the bytes hold its message and those that follow it, and then this
abbrev pub BodyReads : Bool → Plan → List NameShards → List ℕ → List Message → After → Type 0
BodyReads asks plan names bytes [] after = BodyEnds asks plan bytes after
BodyReads asks plan names bytes (message ∷ messages) after =
    BodyGives asks plan bytes message messages after (λ rest. Reads names rest messages after)

-- the same where the stream stands; told says that `100 Continue` was said of this message
abbrev pub StageReads : List NameShards → Bool → Stage → List ℕ → List Message → After → Type 0
StageReads names told Head bytes messages after = Reads names bytes messages after
StageReads names told (Body plan) bytes messages after =
    BodyReads (told || plan.asks) plan names bytes messages after
StageReads names told (Stopped status) bytes messages after =
    (messages ≡ []) × (after ≡ Refusal status)
StageReads names told Closed bytes messages after = (messages ≡ []) × (after ≡ nothing)

-- bytes hold one list of whole messages, and one thing stands behind them
abbrev pub HasOneReading : Type 0
HasOneReading =
    (names : List NameShards) (bytes : List ℕ) (messages others : List Message) (after other : After)
    → Reads names bytes messages after → Reads names bytes others other
    → (messages ≡ others) × (after ≡ other)

-- bytes hold some list of whole messages, and something stands behind them
abbrev pub HasReading : Type 0
HasReading =
    (names : List NameShards) (bytes : List ℕ)
    → (messages : List Message) × (after : After) × Reads names bytes messages after
