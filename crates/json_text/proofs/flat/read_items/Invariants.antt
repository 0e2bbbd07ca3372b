use Rattle.std.proofs.Common.{List, ◌++◌, length}
use Rattle.json.specs.Token.{Token}
use Rattle.tuple_values.specs.declared.write.Write.{Write}
use Rattle.json_text.specs.Flat.{AreWrites}
use Rattle.json_text.proofs.flat.read_items.Given as goal

-- the writes so far and those of the items that are left are the writes of all
abbrev pub invariant-items : goal.invariant-items
invariant-items l =
    (more : List Write) (rest : List Token) → AreWrites l.reader more rest
    → AreWrites l.fn.reader (l.writes ++ more) rest

abbrev pub decreases-items : goal.decreases-items
decreases-items l = length l.reader
