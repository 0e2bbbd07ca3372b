-- The items so far are those of the parts so far, and deliveries where these show what was seen.
use Rattle.std.proofs.Common.{◌≡◌, List, take}
use Rattle.std.specs.List.{AllByRecursion}
use Rattle.tuple_values.specs.Document.{ByteList}
use Rattle.exchange_rules.specs.Cells.{Log}
use Rattle.site_laws.specs.Duties.{IsItem}
use Rattle.case_items.specs.Items.{made_items, AreShown}
use Rattle.case_items.proofs.items.cut_items.Given as goal

abbrev pub invariant-loop-part : goal.invariant-loop-part
invariant-loop-part l =
    (l.batch ≡ made_items l.src (take l.part-index l.part-items))
    × ((seen : List Log) (dest : ByteList)
    → AreShown l.names seen l.src (take l.part-index l.part-items)
    → AllByRecursion (IsItem l.names seen dest l.src) l.batch)
