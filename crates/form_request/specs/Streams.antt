-- What a stream of requests answers, by the bytes that it holds (RFC 9112, sections 6.3 and 9.6;
-- RFC 9110, section 10.1.1; that nothing behind a refused or a closing message is read is own).
use Rattle.std.specs.Prelude.{◌≡◌, ℕ, ◌+◌, ◌-◌, min, nat_lt, false, List, [], ◌++◌, length, take, drop, if◌then◌else◌}
use Rattle.tuple_values.specs.declared.names.NameShards.{NameShards}
use Rattle.form_request.specs.Ends.{blank_len}
use Rattle.form_request.specs.Heads.{FrontIs}
use Rattle.form_request.specs.Params.{params_of}
use Rattle.form_request.specs.declared.heads.Front.{Front}
use Rattle.form_request.specs.declared.heads.Front.TheVariants.{Unfinished, Refused, Taken}
use Rattle.form_request.specs.declared.plan.Plan.{Plan}
use Rattle.form_request.specs.declared.plan.Stage.{Stage}
use Rattle.form_request.specs.declared.plan.Stage.TheVariants.{Head, Body, Stopped, Closed}
use Rattle.form_request.specs.declared.request.Request.{Request}
use Rattle.form_request.specs.declared.request.Step100.{Step100}
use Rattle.form_request.specs.declared.request.Step100.TheVariants as step

-- a stream: where it stands, and the bytes that came and weren't taken
pub record Held : Type 0 where
  pub stage : Stage
  pub bytes : List ℕ

-- a stream of which nothing has come
abbrev pub begun : Held
begun = record { stage = Head; bytes = [] }

-- a stream of which one more piece has come; nothing is kept behind a message that was refused or
-- that closes
abbrev pub fed_by : Stage → List ℕ → List ℕ → Held
fed_by Head bytes piece = record { stage = Head; bytes = bytes ++ piece }
fed_by (Body plan) bytes piece = record { stage = Body plan; bytes = bytes ++ piece }
fed_by (Stopped status) bytes piece = record { stage = Stopped status; bytes = bytes }
fed_by Closed bytes piece = record { stage = Closed; bytes = bytes }

abbrev pub fed : Held → List ℕ → Held
fed held piece = fed_by held.stage held.bytes piece

-- the request with this head and this body
abbrev pub request_of : Plan → List ℕ → Request
request_of plan body = record {
  handler = plan.handler;
  collection = plan.collection;
  params = if plan.is_form then plan.params ++ params_of body else plan.params;
  body = body;
  closes = plan.closes;
  chunks = plan.chunks;
}

-- the stream behind a whole message
abbrev pub behind : Plan → List ℕ → Held
behind plan rest =
    if plan.closes then record { stage = Closed; bytes = [] } else record { stage = Head; bytes = rest }

-- what is answered behind a head: `100 Continue` where it is still to be said, the whole request
-- where its body has come, or else nothing
abbrev pub body_answer : Plan → List ℕ → Step100 × Held
body_answer plan bytes =
    if plan.asks
    then (step.Continue, record { stage = Body (record plan { asks = false }); bytes = bytes })
    else (if nat_lt (length bytes) plan.length
    then (step.Wants, record { stage = Body plan; bytes = bytes })
    else (step.Whole (request_of plan (take plan.length bytes)), behind plan (drop plan.length bytes)))

-- what is answered at the front of a message
abbrev pub front_answer : Front → List ℕ → Step100 × Held
front_answer Unfinished bytes = (step.Wants, record { stage = Head; bytes = bytes })
front_answer (Refused status) bytes =
    (step.Refused status, record { stage = Stopped status; bytes = [] })
front_answer (Taken plan place) bytes = body_answer plan (drop place bytes)

-- what is answered where the stream stands
abbrev pub StageAnswers : Stage → List NameShards → List ℕ → Step100 × Held → Type 0
StageAnswers Head names bytes given =
    (front : Front) × FrontIs names bytes front × (given ≡ front_answer front bytes)
StageAnswers (Body plan) names bytes given = given ≡ body_answer plan bytes
StageAnswers (Stopped status) names bytes given =
    given ≡ (step.Refused status, record { stage = Stopped status; bytes = bytes })
StageAnswers Closed names bytes given =
    given ≡ (step.Wants, record { stage = Closed; bytes = bytes })

-- the stream answers this, and is then that
abbrev pub Answers : List NameShards → Held → Step100 → Held → Type 0
Answers names held answer new = StageAnswers held.stage names held.bytes (answer, new)

-- the number of bytes of an unfinished message, without the empty lines before it
abbrev pub count_by_stage : Stage → List ℕ → ℕ
count_by_stage Head bytes = length bytes - blank_len bytes
count_by_stage (Body plan) bytes = plan.size + min plan.length (length bytes)
count_by_stage (Stopped status) bytes = 0
count_by_stage Closed bytes = 0

abbrev pub held_count : Held → ℕ
held_count held = count_by_stage held.stage held.bytes
