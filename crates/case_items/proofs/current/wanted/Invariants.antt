-- The items that are kept are deliveries, where all are.
use Rattle.std.proofs.Common.{List}
use Rattle.std.specs.List.{AllByRecursion}
use Rattle.tuple_values.specs.Document.{ByteList}
use Rattle.tuple_values.specs.declared.names.NameShards.{NameShards}
use Rattle.exchange_rules.specs.Cells.{Log}
use Rattle.site_laws.specs.Duties.{IsItem}
use Rattle.case_items.proofs.current.wanted.Given as goal

abbrev pub invariant-loop-item : goal.invariant-loop-item
invariant-loop-item l =
    (names : List NameShards) (seen : List Log) (dest src : ByteList)
    → AllByRecursion (IsItem names seen dest src) l.yielded
    → AllByRecursion (IsItem names seen dest src) l.kept
