-- The items so far are those of the first documents, and deliveries where those before them are.
use Rattle.std.proofs.Common.{◌≡◌, ◌++◌, List, map, take}
use Rattle.std.specs.List.{AllByRecursion}
use Rattle.tuple_values.specs.Document.{ByteList}
use Rattle.exchange_rules.specs.Cells.{Log}
use Rattle.site_laws.specs.Duties.{IsItem}
use Rattle.case_items.specs.Items.{made_item, IsShown}
use Rattle.case_items.proofs.items.add_items.Given as goal

abbrev pub invariant-loop-k : goal.invariant-loop-k
invariant-loop-k l =
    (l.batch ≡ l.fn.batch ++ map (made_item l.src) (take l.k l.shown.documents))
    × ((seen : List Log) (dest : ByteList) → IsShown l.names seen l.src l.shard l.shown
    → AllByRecursion (IsItem l.names seen dest l.src) l.fn.batch
    → AllByRecursion (IsItem l.names seen dest l.src) l.batch)
