-- What a function does at a site (Solr Reference Guide, "Stream Source Reference" and "Stream
-- Decorator Reference").
use Rattle.std.specs.Prelude.{ℕ, Bool, true, false, Option}
use Rattle.tuple_values.specs.Document.{ByteList}
use Rattle.expr_types.specs.ExprTree.{Operator, search, tuple, select, having, sort, top, unique}
use Rattle.expr_types.specs.ExprTree.{merge, reduce, rollup, inner_join, left_outer_join, intersect}
use Rattle.expr_types.specs.ExprTree.{complement, hash_join, outer_hash_join, in_parallel, topic}
use Rattle.expr_types.specs.ExprTree.{update, commit, daemon, TopicParts}

-- it only reads, it follows this topic, it writes what its input gives to a collection in batches of
-- so many, it commits a collection each time its input has given so many, or it runs its input again
-- and again
pub data Deed : Type 0 where
  reads : Deed
  follows : TopicParts → Deed
  writes : ByteList → ℕ → Deed
  commits : ByteList → Option ℕ → Deed
  repeats : Deed

-- the table
abbrev pub deed_of : Operator → Deed
deed_of (search p) = reads
deed_of (tuple fields) = reads
deed_of (select items) = reads
deed_of (having condition) = reads
deed_of (sort by) = reads
deed_of (top n by) = reads
deed_of (unique over) = reads
deed_of (merge on) = reads
deed_of (reduce by op) = reads
deed_of (rollup over metrics) = reads
deed_of (inner_join on) = reads
deed_of (left_outer_join on) = reads
deed_of (intersect on) = reads
deed_of (complement on) = reads
deed_of (hash_join on) = reads
deed_of (outer_hash_join on) = reads
deed_of (in_parallel collection workers by) = reads
deed_of (topic p) = follows p
deed_of (update dest size) = writes dest size
deed_of (commit dest size) = commits dest size
deed_of (daemon id interval terminate) = repeats

-- whether what it gives are summaries of what it wrote
abbrev pub gives_summaries : Deed → Bool
gives_summaries reads = false
gives_summaries (follows p) = false
gives_summaries (writes dest size) = true
gives_summaries (commits dest size) = false
gives_summaries repeats = false
