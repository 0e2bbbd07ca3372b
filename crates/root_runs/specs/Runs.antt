-- What an expression does at the cells, by its root, as a course (Solr Reference Guide, "Stream
-- Source Reference" and "Stream Decorator Reference"; the order of looks and steps is own).
use Rattle.std.specs.Prelude.{ℕ, Bool, List, codes, length, nat_lt, Option, Some, None, if◌then◌else◌}
use Rattle.std.specs.Prelude.{[]}
use Rattle.tuple_values.specs.Document.{ByteList, Doc}
use Rattle.tuple_values.specs.declared.names.NameShards.{NameShards}
use Rattle.topic_book.specs.Fitness.{shards_of}
use Rattle.exchange_rules.specs.Courses.{Course, ends, and_then}
use Rattle.exchange_rules.specs.Rows.{Layout, cut_course}
use Rattle.exchange_rules.specs.Topics.{read_course, run_course}
use Rattle.exchange_rules.specs.Updates.{tuples_course, commit_round_course}
use Rattle.expr_types.specs.ExprTree.{ExprTree, TopicParts, operator_in}
use Rattle.expr_types.specs.Plain.{is_plain}
use Rattle.expr_check.specs.Parts.{input_of}
use Rattle.expr_check.specs.Walk.{collections_of}
use Rattle.update_sink.specs.Topics.{Sink, asked_of, batches_over, key_of, read_of, run_of}
use Rattle.root_runs.specs.Deeds.{Deed, deed_of, reads, follows, writes, commits, repeats, gives_summaries}
use Rattle.root_runs.specs.Dones.{given, passed, stopped, misplaced, unknown, ran_over, committed, followed, delivered}
use Rattle.root_runs.specs.Lists.{list_over}
use Rattle.root_runs.specs.declared.done.Done.{Done}

-- a cut of the collections of an expression, and what it gives over it
abbrev pub list_course : Layout → ExprTree → Course (List Doc)
list_course l e =
    and_then (cut_course l.names [] (collections_of e)) (λ cut. ends (list_over e cut))

-- the same and then what follows, of an expression that only reads
abbrev pub reads_then : Layout → ExprTree → (List Doc → Course Done) → Course Done
reads_then l e next =
    if is_plain e then and_then (list_course l e) next else ends (misplaced e)

-- an update of these tuples, in batches of so many
abbrev pub put_course : Layout → ByteList → ℕ → List Doc → Course Done
put_course l dest size docs =
    and_then (tuples_course l dest size docs) (λ ran. ends (ran_over (length docs) ran))

-- what is done where the collection has shards
abbrev pub where_there : List NameShards → ByteList → Course Done → Course Done
where_there names collection course =
    if nat_lt 0 (shards_of names collection) then course else ends (unknown collection)

-- the same of two collections
abbrev pub where_both : List NameShards → ByteList → ByteList → Course Done → Course Done
where_both names a b course = where_there names a (where_there names b course)

-- a topic that gives its tuples
abbrev pub follow_course : Layout → TopicParts → Course Done
follow_course l p =
    and_then (read_course l.names (asked_of p None) (read_of p)) (λ r. ends (followed (key_of p) r))

-- a topic that is delivered
abbrev pub deliver_course : Layout → Sink → Course Done
deliver_course l s =
    and_then (run_course l (asked_of s.topic (Some s.dest)) s.dest (batches_over s) run_of)
    (λ r. ends (delivered (key_of s.topic) r))

-- an update of what its input gives, by what that does
abbrev pub update_by : Layout → ByteList → ℕ → ExprTree → Deed → Course Done
update_by l dest size e reads = reads_then l e (put_course l dest size)
update_by l dest size e (follows p) =
    where_both l.names p.checkpoints p.collection
    (deliver_course l (record { topic = p; dest = dest; size = size }))
update_by l dest size e (writes to most) = ends (misplaced e)
update_by l dest size e (commits to most) = ends (misplaced e)
update_by l dest size e repeats = ends (misplaced e)

-- an update with this input
abbrev pub update_with : Layout → ByteList → ℕ → Option ExprTree → Course Done
update_with l dest size None = ends (stopped (codes "WrongInputs update 0"))
update_with l dest size (Some e) = update_by l dest size e (deed_of (operator_in e))

-- the same where the collection has shards
abbrev pub update_over : Layout → ByteList → ℕ → Option ExprTree → Course Done
update_over l dest size input = where_there l.names dest (update_with l dest size input)

-- what a commit has round it, by what that does
abbrev pub inner_by : Layout → ExprTree → Deed → Course Done
inner_by l e reads = reads_then l e (λ docs. ends (passed docs))
inner_by l e (follows p) = ends (misplaced e)
inner_by l e (writes dest size) = update_over l dest size (input_of e)
inner_by l e (commits dest size) = ends (misplaced e)
inner_by l e repeats = ends (misplaced e)

-- the commits round what was done, unless it has a fault
abbrev pub commits_round : Layout → ByteList → Option ℕ → Bool → Done → Option ByteList
    → Course Done
commits_round l dest size summaries done (Some text) = ends done
commits_round l dest size summaries done None =
    and_then (commit_round_course l dest size summaries done.docs)
    (λ r. ends (committed summaries done r))

-- the same, with its fault looked up
abbrev pub then_commits : Layout → ByteList → Option ℕ → Bool → Done → Course Done
then_commits l dest size summaries done =
    commits_round l dest size summaries done done.exception

-- a commit with this input: all that it does, and then the commits
abbrev pub commit_over : Layout → ByteList → Option ℕ → Option ExprTree → Course Done
commit_over l dest size None = ends (stopped (codes "WrongInputs commit 0"))
commit_over l dest size (Some e) =
    and_then (inner_by l e (deed_of (operator_in e)))
    (then_commits l dest size (gives_summaries (deed_of (operator_in e))))

-- an expression, by what its root does; a daemon stands on a board and isn't carried out itself
abbrev pub root_by : Layout → ExprTree → Deed → Course Done
root_by l e reads = reads_then l e (λ docs. ends (given docs))
root_by l e (follows p) = where_both l.names p.checkpoints p.collection (follow_course l p)
root_by l e (writes dest size) = update_over l dest size (input_of e)
root_by l e (commits dest size) = commit_over l dest size (input_of e)
root_by l e repeats = ends (misplaced e)

-- an expression
abbrev pub root_course : Layout → ExprTree → Course Done
root_course l e = root_by l e (deed_of (operator_in e))
