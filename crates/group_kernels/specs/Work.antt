-- What is made of the documents of one key (own).
use Rattle.std.specs.Prelude.{List, map}
use Rattle.tuple_values.specs.Document.{ByteList, Doc}
use Rattle.expr_types.specs.Groups.{reduced, rolled}
use Rattle.group_kernels.specs.declared.work.Work.{Work}
use Rattle.group_kernels.specs.declared.work.Work.TheVariants.{Reduce, Rollup}

-- one document of all
abbrev pub worked : List ByteList → Work → List Doc → Doc
worked names (Reduce op) docs = reduced op docs
worked names (Rollup metrics) docs = rolled names (map (λ n. n.metric) metrics.items) docs
