-- What a request asks of a board of daemons, and the faults of an action (own; Solr Reference
-- Guide, "Streaming Expressions", the `/stream` handler, and "Stream Decorator Reference", daemon).
use Rattle.std.specs.Prelude.{List, Option, Some, None, Result, Ok, Err, bytes_eq, codes, nat_lt, if◌then◌else◌}
use Rattle.tuple_values.specs.Document.{ByteList}
use Rattle.tuple_values.specs.declared.names.NameShards.{NameShards}
use Rattle.topic_book.specs.Fitness.{shards_of}
use Rattle.form_request.specs.Params.{first_value}
use Rattle.form_request.specs.declared.request.Handler.{Handler}
use Rattle.form_request.specs.declared.request.Handler.TheVariants.{Stream, Update}
use Rattle.form_request.specs.declared.request.Param.{Param}
use Rattle.form_request.specs.declared.request.Request.{Request}
use Rattle.expr_types.specs.ExprTree.{ExprTree, Operator, operator_in}
use Rattle.expr_types.specs.ExprTree.{search, tuple, select, having, sort, top, unique, merge, reduce}
use Rattle.expr_types.specs.ExprTree.{rollup, inner_join, left_outer_join, intersect, complement}
use Rattle.expr_types.specs.ExprTree.{hash_join, outer_hash_join, in_parallel, topic, update, commit}
use Rattle.expr_types.specs.ExprTree.{daemon}
use Rattle.expr_check.specs.declared.roots.Roots.TheVariants.{All}
use Rattle.expr_text.specs.Reading.{expression_of}
use Rattle.stream_handler.specs.Boards.{Ask, nothing, lists, stops, resumes, kills, starts}
use Rattle.stream_handler.specs.declared.action.Change.{Change}
use Rattle.stream_handler.specs.declared.action.Change.TheVariants.{Stop, Start, Kill}
use Rattle.stream_handler.specs.declared.starting.NewDaemon.{NewDaemon}

-- the daemon that a function is, if it is one: what its input does has no part in it
abbrev pub daemon_of : Operator → Option NewDaemon
daemon_of (search p) = None
daemon_of (tuple fields) = None
daemon_of (select items) = None
daemon_of (having condition) = None
daemon_of (sort by) = None
daemon_of (top n by) = None
daemon_of (unique over) = None
daemon_of (merge on) = None
daemon_of (reduce by op) = None
daemon_of (rollup over metrics) = None
daemon_of (inner_join on) = None
daemon_of (left_outer_join on) = None
daemon_of (intersect on) = None
daemon_of (complement on) = None
daemon_of (hash_join on) = None
daemon_of (outer_hash_join on) = None
daemon_of (in_parallel collection workers by) = None
daemon_of (topic p) = None
daemon_of (update dest size) = None
daemon_of (commit dest size) = None
daemon_of (daemon id interval terminate) =
    Some (record { id = id; interval = interval; terminate = terminate })

-- what an expression asks: one that is a daemon, that it is put on the board whole
abbrev pub root_ask : ExprTree → Option NewDaemon → Ask
root_ask e None = nothing
root_ask e (Some d) = starts d.id e d.interval d.terminate

-- the same of an expression that was read
abbrev pub expression_ask : Result ExprTree ByteList → Ask
expression_ask (Err text) = nothing
expression_ask (Ok e) = root_ask e (daemon_of (operator_in e))

-- and of one in a parameter
abbrev pub stream_ask : List NameShards → Option ByteList → Ask
stream_ask names None = nothing
stream_ask names (Some bytes) = expression_ask (expression_of All names bytes)

-- the change of one daemon that an action is, if it is one
abbrev pub change_of : ByteList → Option Change
change_of action =
    if bytes_eq action (codes "stop") then Some Stop
    else if bytes_eq action (codes "start") then Some Start
    else if bytes_eq action (codes "kill") then Some Kill
    else None

-- what a change asks
abbrev pub change_ask : Change → ByteList → Ask
change_ask Stop id = stops id
change_ask Start id = resumes id
change_ask Kill id = kills id

-- what an action other than a list asks, or the text of its fault: an id has to be there
abbrev pub change_read : Option Change → Option ByteList → Result Ask ByteList
change_read None id = Err (codes "BadParam stream action")
change_read (Some change) None = Err (codes "MissingParam stream id")
change_read (Some change) (Some id) = Ok (change_ask change id)

-- what an action asks, or the text of its fault
abbrev pub action_read : ByteList → Option ByteList → Result Ask ByteList
action_read action id =
    if bytes_eq action (codes "list") then Ok lists else change_read (change_of action) id

-- what is asked, unless there is a fault
abbrev pub ask_in : Result Ask ByteList → Ask
ask_in (Ok ask) = ask
ask_in (Err text) = nothing

-- what the parameters of `/stream` ask: an action, or where there is none an expression
abbrev pub acted_ask : List NameShards → List Param → Option ByteList → Ask
acted_ask names params (Some action) =
    ask_in (action_read action (first_value (codes "id") params))
acted_ask names params None = stream_ask names (first_value (codes "expr") params)

-- what a request asks by its handler; an update asks nothing
abbrev pub handled_ask : List NameShards → Request → Handler → Ask
handled_ask names r Stream = acted_ask names r.params (first_value (codes "action") r.params)
handled_ask names r Update = nothing

-- what a request asks; one of a collection that isn't there asks nothing
abbrev pub ask_of : List NameShards → Request → Ask
ask_of names r =
    if nat_lt 0 (shards_of names r.collection) then handled_ask names r r.handler else nothing
