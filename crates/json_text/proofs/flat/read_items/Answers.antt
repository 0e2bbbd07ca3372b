use Rattle.std.proofs.Common.{◌≡◌, [], Some, arith, append-nil}
use Rattle.json.specs.Json.{after_end_array}
use Rattle.json_text.proofs.FlatLemmas.{asks_shorter}
use Rattle.json_text.proofs.flat.read_items.Goals as goal

pub items-smaller : goal.items-smaller
items-smaller c =
    let going : c.take_end_array.new.self ≡ c.items.reader = grind arith in
    let found = c.in_ok-read_item.ensures c.if-not-branch.false in
    rw going at (asks_shorter c.take_end_array.new.self c.read_item.new.reader found.0 found.2)

pub returns : goal.returns
returns c = λ _.
    let ends : after_end_array c.items.reader ≡ Some c.take_end_array.new.self = grind arith in
    rw append-nil at (c.items.invariant [] c.take_end_array.new.self ends)
