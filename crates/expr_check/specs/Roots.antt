-- What a checked expression does at its root, with its parts (own, after Solr Reference Guide,
-- "Stream Source Reference", topic, and "Stream Decorator Reference", update, commit and daemon).
use Rattle.std.specs.Prelude.{◌≡◌, ◌≢◌, ◌<◌, Option, Some, None}
use Rattle.tuple_values.specs.Document.{ByteList}
use Rattle.expr_types.specs.ExprTree.{ExprTree, node, no_exprs, an_expr, TopicParts, topic, update}
use Rattle.expr_types.specs.ExprTree.{commit, daemon}
use Rattle.expr_types.specs.Plain.{IsPlain}
use Rattle.expr_check.specs.Views.{tree_of}
use Rattle.expr_check.specs.declared.root.TopicRoot.{TopicRoot}
use Rattle.expr_check.specs.declared.root.UpdateRoot.{UpdateRoot}
use Rattle.expr_check.specs.declared.root.CommitRoot.{CommitRoot}
use Rattle.expr_check.specs.declared.root.DaemonRoot.{DaemonRoot}
use Rattle.expr_check.specs.declared.root.Feed.{Feed}
use Rattle.expr_check.specs.declared.root.Feed.TheVariants as feed
use Rattle.expr_check.specs.declared.root.Inner.{Inner}
use Rattle.expr_check.specs.declared.root.Inner.TheVariants as inner
use Rattle.expr_check.specs.declared.root.Action.{Action}
use Rattle.expr_check.specs.declared.root.Action.TheVariants as action
use Rattle.expr_check.specs.declared.root.Root.{Root}
use Rattle.expr_check.specs.declared.root.Root.TheVariants as root

-- the parts of a topic
abbrev pub topic_parts : TopicRoot → TopicParts
topic_parts p = record {
  checkpoints = p.checkpoints.now;
  collection = p.collection.now;
  id = p.id.now;
  q = p.q.now.clauses;
  q_text = p.q_text.now;
  fl = p.fl.now;
  init = p.init;
}

-- an expression is this topic
abbrev pub IsTopicOf : ExprTree → TopicRoot → Type 0
IsTopicOf t p = t ≡ node (topic (topic_parts p)) no_exprs

-- an expression feeds an update of this collection: it only reads, or is a topic of another one
abbrev pub IsFeedOf : ByteList → ExprTree → Feed → Type 0
IsFeedOf dest i feed.Reads = IsPlain i
IsFeedOf dest i (feed.Topic p) = IsTopicOf i p × (p.collection.now ≢ dest)

-- an expression is this update, with batches of at least one tuple
pub record IsUpdateOf (t : ExprTree) (u : UpdateRoot) : Type 0 where
  pub is : t ≡ node (update u.dest.now u.batch_size) (an_expr (tree_of u.input.now) no_exprs)
  pub filled : 0 < u.batch_size
  pub fed : IsFeedOf u.dest.now (tree_of u.input.now) u.feed

-- a commit runs an expression that only reads, or this update
abbrev pub IsInnerOf : ExprTree → Inner → Type 0
IsInnerOf i inner.Reads = IsPlain i
IsInnerOf i (inner.Update u) = IsUpdateOf i u

-- an expression is this commit
abbrev pub IsCommitOf : ExprTree → CommitRoot → Type 0
IsCommitOf t c =
    (t ≡ node (commit c.dest.now c.batch_size) (an_expr (tree_of c.input.now) no_exprs))
    × IsInnerOf (tree_of c.input.now) c.inner

-- a daemon runs this update or commit
abbrev pub IsActionOf : ExprTree → Action → Type 0
IsActionOf i (action.Update u) = IsUpdateOf i u
IsActionOf i (action.Commit c) = IsCommitOf i c

-- an expression is this daemon
abbrev pub IsDaemonOf : ExprTree → DaemonRoot → Type 0
IsDaemonOf t d =
    (t ≡ node (daemon d.id.now d.interval d.terminate) (an_expr (tree_of d.input.now) no_exprs))
    × IsActionOf (tree_of d.input.now) d.action

-- what an expression does
abbrev pub IsRootOf : ExprTree → Root → Type 0
IsRootOf t root.Reads = IsPlain t
IsRootOf t (root.Topic p) = IsTopicOf t p
IsRootOf t (root.Update u) = IsUpdateOf t u
IsRootOf t (root.Commit c) = IsCommitOf t c
IsRootOf t (root.Daemon d) = IsDaemonOf t d

-- what it is as the input of an update
abbrev pub under_update : Root → Option Feed
under_update root.Reads = Some feed.Reads
under_update (root.Topic p) = Some (feed.Topic p)
under_update (root.Update u) = None
under_update (root.Commit c) = None
under_update (root.Daemon d) = None

-- as the input of a commit
abbrev pub under_commit : Root → Option Inner
under_commit root.Reads = Some inner.Reads
under_commit (root.Topic p) = None
under_commit (root.Update u) = Some (inner.Update u)
under_commit (root.Commit c) = None
under_commit (root.Daemon d) = None

-- as the input of a daemon
abbrev pub under_daemon : Root → Option Action
under_daemon root.Reads = None
under_daemon (root.Topic p) = None
under_daemon (root.Update u) = Some (action.Update u)
under_daemon (root.Commit c) = Some (action.Commit c)
under_daemon (root.Daemon d) = None
