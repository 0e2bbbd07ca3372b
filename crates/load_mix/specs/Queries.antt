-- The query of a load's query threads, and what one of them gives (Solr Reference Guide, "Stream
-- Decorator Reference", parallel and rollup; own).
use Rattle.std.specs.Prelude.{◌≡◌, false, List, [], ◌∷◌, Some, None, codes}
use Rattle.tuple_values.specs.Document.{Doc}
use Rattle.tuple_values.specs.declared.names.NameShards.{NameShards}
use Rattle.sort_spec.specs.declared.term.SortTerm.{SortTerm}
use Rattle.query_syntax.specs.Tree.{everything}
use Rattle.query_syntax.specs.declared.query.Role.TheVariants.{Optional}
use Rattle.shard_versions.specs.declared.cut.CutPart.{CutPart}
use Rattle.exchange_rules.specs.Following.{Answers, Writer}
use Rattle.exchange_rules.specs.Rows.{cut_course}
use Rattle.expr_types.specs.ExprTree.{ExprTree, SearchParts, node, no_exprs, an_expr, search, rollup, in_parallel}
use Rattle.expr_types.specs.Lists.{list_of}
use Rattle.expr_types.specs.declared.item.Metric.TheVariants.{Sum, Count}
use Rattle.source_streams.specs.Cuts.{documents_of}
use Rattle.expr_check.specs.Walk.{collections_of}
use Rattle.load_rules.specs.Topic.{src_name}

-- by group
abbrev pub by_group : List SortTerm
by_group = record { field = codes "g_s"; descending = false } ∷ []

-- all documents of the source by group, which tells the workers apart
abbrev pub query_parts : SearchParts
query_parts = record {
  collection = src_name;
  q = record { role = Optional; what = everything } ∷ [];
  fl = codes "g_s" ∷ codes "a_i" ∷ [];
  sort = by_group;
  rows = None;
  partition_keys = Some (codes "g_s" ∷ []);
}

-- per group the sum of the amounts and how many documents there are, on four workers
abbrev pub query_tree : ExprTree
query_tree =
    node (in_parallel src_name 4 by_group)
    (an_expr (node (rollup (codes "g_s" ∷ []) (Sum (codes "a_i") ∷ Count ∷ []))
    (an_expr (node (search query_parts) no_exprs) no_exprs)) no_exprs)

-- the tuples are what the expression gives over a cut of its collections, which the writer took
-- from
-- old to new
pub record IsGiven (names : List NameShards) (t : ExprTree) (old new : Writer) (tuples : List Doc)
    : Type 0 where
  pub cut : List CutPart
  pub taken : Answers old new (cut_course names [] (collections_of t)) cut
  pub list : tuples ≡ list_of (λ c. documents_of c cut) t
