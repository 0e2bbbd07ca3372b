-- What the bytes of an expression mean over collections that are empty, and their reply (own).
use Rattle.std.specs.Prelude.{ℕ, zero, suc, ◌+◌, List, [], ◌∷◌, ◌++◌, Some, None, Result, Ok, Err, replicate}
use Rattle.tuple_values.specs.Document.{ByteList, Doc}
use Rattle.tuple_values.specs.declared.names.NameShards.{NameShards}
use Rattle.shard_versions.specs.declared.cut.CutPart.{CutPart}
use Rattle.topic_book.specs.Cells.{cells_in}
use Rattle.topic_book.specs.Fitness.{shards_of}
use Rattle.exchange_rules.specs.Cells.{Log}
use Rattle.exchange_rules.specs.Courses.{run_alone}
use Rattle.exchange_rules.specs.Rows.{Layout, part_of}
use Rattle.expr_types.specs.ExprTree.{ExprTree}
use Rattle.json_text.specs.Replies.{body}
use Rattle.expr_check.specs.Walk.{collections_of}
use Rattle.expr_check.specs.declared.roots.Roots.TheVariants.{Plain}
use Rattle.expr_text.specs.Reading.{expression_of}
use Rattle.root_runs.specs.Lists.{list_over}
use Rattle.stream_handler.specs.Outcomes.{exception}
use Rattle.stream_handler.specs.Requests.{plain_course}
use Rattle.stream_handler.specs.declared.outcome.Outcome.{Outcome}
use Rattle.stream_handler.specs.declared.outcome.Outcome.TheVariants.{ResultSet}

-- the parts of a cut that so many shards of a collection give, from this one on, with no entry
abbrev pub empty_parts : ByteList → ℕ → ℕ → List CutPart
empty_parts collection shard zero = []
empty_parts collection shard (suc left) =
    part_of collection shard [] ∷ empty_parts collection (shard + 1) left

-- the cut of these collections, where no shard has an entry
abbrev pub empty_cut : List NameShards → List ByteList → List CutPart
empty_cut names [] = []
empty_cut names (c ∷ collections) =
    empty_parts c 0 (shards_of names c) ++ empty_cut names collections

-- what an expression that was read and checked gives over empty collections, or its fault
abbrev pub evaluated : List NameShards → Result ExprTree ByteList → Result (List Doc) ByteList
evaluated names (Ok e) = Ok (list_over e (empty_cut names (collections_of e)))
evaluated names (Err text) = Err text

-- what the bytes of an expression mean over these collections, which are empty: tuples, or the text
-- of their first fault
abbrev pub meaning : List NameShards → ByteList → Result (List Doc) ByteList
meaning names bytes = evaluated names (expression_of Plain names bytes)

-- the reply that tells a meaning, at the time 0
abbrev pub reply_of : Result (List Doc) ByteList → ByteList
reply_of (Ok docs) = body docs None 0
reply_of (Err text) = body [] (Some text) 0

-- the reply to the bytes of an expression
abbrev pub reply : List NameShards → ByteList → ByteList
reply names bytes = reply_of (meaning names bytes)

-- what a request is answered that means this
abbrev pub outcome_of : Result (List Doc) ByteList → Outcome
outcome_of (Ok docs) = ResultSet docs None
outcome_of (Err text) = exception text

-- the greatest number of bytes that the entries of a shard may count
abbrev pub shard_limit : ℕ
shard_limit = 268435456

-- the collections, with this limit on each shard
abbrev pub layout : List NameShards → Layout
layout names = record { names = names; limit = shard_limit }

-- the logs of a new site, where no cell has an entry
abbrev pub logs_at_start : List NameShards → List Log
logs_at_start names = replicate (cells_in names + 1) []

-- what the expression is answered where its course runs alone, over those logs
abbrev pub alone_outcome : List NameShards → ByteList → Outcome
alone_outcome names bytes =
    (run_alone 1 (logs_at_start names) (plain_course (layout names) (expression_of Plain names bytes))).1
