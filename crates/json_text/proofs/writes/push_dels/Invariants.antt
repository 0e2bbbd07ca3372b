use Rattle.std.proofs.Common.{◌≡◌, ◌+◌, ◌<◌, ◌^◌, length}
use Rattle.std.specs.Vec.Iter.{into_iter_items}
use Rattle.serde_json.specs.View.{items_view}
use Rattle.json_text.specs.Writes.{behind, each_from, item_list, del_of}
use Rattle.json_text.proofs.writes.push_dels.Given as goal

-- the writes so far and those of the items that are left are the writes of all
abbrev pub invariant-loop-json : goal.invariant-loop-json
invariant-loop-json l = record {
  fits : l.at + length (into_iter_items l.json-iterator) < 2 ^ 64;
  all : behind l.writes
      (each_from del_of l.at (item_list (items_view (into_iter_items l.json-iterator))))
      ≡ behind l.fn.writes (each_from del_of 0 (item_list (items_view l.fn.ids.items)));
}
