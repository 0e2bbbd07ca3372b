use Rattle.std.proofs.Common.{◌≡◌, ◌++◌, map, drop}
use Rattle.std.specs.List.{AllByRecursion}
use Rattle.expr_check.specs.Views.{part_tree}
use Rattle.source_streams.specs.Cuts.{documents_of}
use Rattle.stream_engine.specs.Fed.{lists_split}
use Rattle.part_laws.specs.Splits.{IsSplit}
use Rattle.parallel_parts.proofs.evaluating.fed_lists.Given as goal

-- the lists so far, and those of the parallels to come, whose work may be split too, are all
abbrev pub invariant-loop-part : goal.invariant-loop-part
invariant-loop-part g l = record {
  split : AllByRecursion IsSplit (map part_tree (drop l.part-index l.parts));
  lists :
      l.feeds.items
      ++ lists_split (λ c. documents_of c l.cut) (map part_tree (drop l.part-index l.parts))
      ≡ lists_split (λ c. documents_of c l.cut) (map part_tree l.parts);
}
