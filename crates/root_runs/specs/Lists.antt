-- The tuples that an expression gives over a cut (Solr Reference Guide, "Streaming Expressions").
use Rattle.std.specs.Prelude.{List}
use Rattle.tuple_values.specs.Document.{Doc}
use Rattle.shard_versions.specs.declared.cut.CutPart.{CutPart}
use Rattle.source_streams.specs.Cuts.{documents_of}
use Rattle.expr_types.specs.ExprTree.{ExprTree}
use Rattle.expr_types.specs.Lists.{list_of}

-- the tuples that an expression gives over a cut of its collections
abbrev pub list_over : ExprTree → List CutPart → List Doc
list_over e cut = list_of (λ collection. documents_of collection cut) e
