-- What a request does at the cells and is answered, as a course (Solr Reference Guide, "Streaming
-- Expressions" and "Indexing with Update Handlers"; texts of refusals own).
use Rattle.std.specs.Prelude.{ℕ, ◌≡◌, ◌≢◌, ◌||◌, Bool, false, List, Option, Some, None, Result, Ok, Err}
use Rattle.std.specs.Prelude.{bytes_eq, codes, nat_lt, if◌then◌else◌}
use Rattle.tuple_values.specs.Document.{ByteList}
use Rattle.exchange_rules.specs.Courses.{Course, ends, and_then}
use Rattle.exchange_rules.specs.Following.{Writer, Answers, Begins}
use Rattle.exchange_rules.specs.Looking.{LooksFirst}
use Rattle.exchange_rules.specs.Rows.{Layout, index_course}
use Rattle.exchange_rules.specs.declared.fault.SiteFault.{SiteFault}
use Rattle.exchange_rules.specs.declared.fault.SiteFault.TheVariants.{ShardFull, TopicBound, BookFull, LogFault, CellClosed, OutOfMemory}
use Rattle.form_request.specs.Params.{first_value}
use Rattle.form_request.specs.declared.request.Handler.{Handler}
use Rattle.form_request.specs.declared.request.Handler.TheVariants.{Stream, Update}
use Rattle.form_request.specs.declared.request.Param.{Param}
use Rattle.form_request.specs.declared.request.Request.{Request}
use Rattle.json_text.specs.Faults as json
use Rattle.json_text.specs.Updates.{update_in}
use Rattle.json_text.specs.declared.fault.JsonFault.{JsonFault}
use Rattle.json_text.specs.declared.fault.JsonFault.TheVariants as bad
use Rattle.json_text.specs.declared.update.Update as body
use Rattle.expr_types.specs.ExprTree.{ExprTree, operator_in}
use Rattle.expr_check.specs.declared.roots.Roots.TheVariants.{All}
use Rattle.expr_text.specs.Reading.{expression_of}
use Rattle.root_runs.specs.Runs.{list_course, root_course}
use Rattle.root_runs.specs.Texts.{full_text}
use Rattle.root_runs.specs.declared.done.Done.{Done}
use Rattle.topic_book.specs.Fitness.{shards_of}
use Rattle.tuple_values.specs.declared.memory.Memory.{Memory}
use Rattle.stream_handler.specs.Asks.{action_read, daemon_of}
use Rattle.stream_handler.specs.Boards.{Ask}
use Rattle.stream_handler.specs.Outcomes.{exception}
use Rattle.stream_handler.specs.Refusals.{refusal}
use Rattle.stream_handler.specs.declared.outcome.Outcome.{Outcome}
use Rattle.stream_handler.specs.declared.outcome.Outcome.TheVariants.{Indexed, Refused, ResultSet}
use Rattle.stream_handler.specs.declared.starting.NewDaemon.{NewDaemon}
use Rattle.stream_handler.specs.declared.update.FullShard.{FullShard}

-- an update that was carried out, or its refusal; no topic is bound by an update, and neither want of
-- memory nor a log's fault is told
abbrev pub indexed : Result ℕ SiteFault → Outcome
indexed (Ok writes) = Indexed
indexed (Err (ShardFull collection shard stand)) = Refused 507 (full_text collection shard stand)
indexed (Err (TopicBound kept)) = Refused 507 (codes "TopicBound")
indexed (Err (BookFull topics)) = Refused 507 (codes "BookFull")
indexed (Err (LogFault cell stand)) = Refused 507 (codes "out of memory")
indexed (Err (CellClosed cell stand)) = Refused 507 (codes "out of memory")
indexed (Err (OutOfMemory stand)) = Refused 507 (codes "out of memory")

-- the full shard that a refusal names, and none where memory was wanting; an update binds no topic
abbrev pub full_shard : SiteFault → Option FullShard
full_shard (ShardFull collection shard stand) =
    Some (record { collection = collection; shard = shard; stand = stand })
full_shard (TopicBound kept) = None
full_shard (BookFull topics) = None
full_shard (LogFault cell stand) = None
full_shard (CellClosed cell stand) = None
full_shard (OutOfMemory stand) = None

-- the answer is the refusal's, which is neither want of memory nor a log's fault
abbrev pub IsRefusal : SiteFault → Outcome → Type 0
IsRefusal (ShardFull collection shard stand) o =
    o ≡ indexed (Err (ShardFull collection shard stand))
IsRefusal (TopicBound kept) o = o ≡ indexed (Err (TopicBound kept))
IsRefusal (BookFull topics) o = o ≡ indexed (Err (BookFull topics))
IsRefusal (LogFault cell stand) o = ⊥
IsRefusal (CellClosed cell stand) o = ⊥
IsRefusal (OutOfMemory stand) o = ⊥

-- the answer is the refusal of a body, whose fault isn't want of memory
pub record IsBadBody (fault : JsonFault) (o : Outcome) : Type 0 where
  pub told : fault ≢ bad.OutOfMemory
  pub refused : o ≡ Refused 400 (json.fault_text fault)

-- an update of a body that was read, to a collection; a commit is asked for beside the body or not
abbrev pub update_course : Layout → ByteList → Bool → Result body.Update JsonFault → Course Outcome
update_course l collection commit (Err fault) = ends (Refused 400 (json.fault_text fault))
update_course l collection commit (Ok update) =
    and_then (index_course l collection update.writes (update.commit || commit))
    (λ r. ends (indexed r))

-- an expression that only reads: what it gives over a cut of its collections
abbrev pub plain_course : Layout → Result ExprTree ByteList → Course Outcome
plain_course l (Err text) = ends (exception text)
plain_course l (Ok e) = and_then (list_course l e) (λ docs. ends (ResultSet docs None))

-- what an expression did, as it is answered
abbrev pub outcome_of : Done → Outcome
outcome_of done = ResultSet done.docs done.exception

-- an expression that is carried out at the site
abbrev pub deed_course : Layout → ExprTree → Course Outcome
deed_course l e = and_then (root_course l e) (λ done. ends (outcome_of done))

-- an expression by whether it is a daemon, which is answered what the board told
abbrev pub root_or_told : Layout → Outcome → ExprTree → Option NewDaemon → Course Outcome
root_or_told l told e None = deed_course l e
root_or_told l told e (Some d) = ends told

-- an expression, or what a reply says of why there is none; told is what the board answers, where
-- it is asked
abbrev pub expression_course : Layout → Outcome → Result ExprTree ByteList → Course Outcome
expression_course l told (Err text) = ends (exception text)
expression_course l told (Ok e) = root_or_told l told e (daemon_of (operator_in e))

-- the expression of a parameter, which has to be there
abbrev pub stream_course : Layout → Outcome → Option ByteList → Course Outcome
stream_course l told None = ends (exception (codes "MissingParam stream expr"))
stream_course l told (Some bytes) = expression_course l told (expression_of All l.names bytes)

-- an action asks the board, and does nothing at the site; or it has a fault
abbrev pub action_course : Outcome → Result Ask ByteList → Course Outcome
action_course told (Err text) = ends (exception text)
action_course told (Ok ask) = ends told

-- an action, or where there is none an expression
abbrev pub acted_course : Layout → Outcome → List Param → Option ByteList → Course Outcome
acted_course l told params (Some action) =
    action_course told (action_read action (first_value (codes "id") params))
acted_course l told params None = stream_course l told (first_value (codes "expr") params)

-- whether a parameter asks for a commit: `true` alone does
abbrev pub is_true : Option ByteList → Bool
is_true None = false
is_true (Some value) = bytes_eq value (codes "true")

-- what a handler does with a request
abbrev pub handled : Layout → Outcome → Request → Handler → Course Outcome
handled l told r Stream = acted_course l told r.params (first_value (codes "action") r.params)
handled l told r Update =
    update_course l r.collection (is_true (first_value (codes "commit") r.params))
    (update_in r.body)

-- what a request does and is answered, where told is what the board answers, if it is asked; a
-- collection that isn't there is told so
abbrev pub request_course : Layout → Outcome → Request → Course Outcome
request_course l told r =
    if nat_lt 0 (shards_of l.names r.collection) then handled l told r r.handler
    else ends (refusal 404)

-- the writer followed the course, in which the board told the answer itself where it was asked, to
-- this answer; or a beginning of it, whatever the board told, where memory was wanting
abbrev pub CarriedWith : Writer → Writer → (Outcome → Course Outcome) → Result Outcome Memory
    → Type 0
CarriedWith old new course (Ok o) = Answers old new (course o) o
CarriedWith old new course (Err memory) = (told : Outcome) × Begins old new (course told)

-- the course of each request looks first, and so does that of each expression, whatever the board
-- told
pub record RequestsLookFirst : Type 0 where
  pub request : (l : Layout) (told : Outcome) (r : Request)
      → LooksFirst None (request_course l told r)
  pub plain : (l : Layout) (read : Result ExprTree ByteList)
      → LooksFirst None (plain_course l read)
  pub expression : (l : Layout) (told : Outcome) (read : Result ExprTree ByteList)
      → LooksFirst None (expression_course l told read)
