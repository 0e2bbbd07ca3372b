use Rattle.std.proofs.Common.{◌≡◌, length}
use Rattle.json_text.specs.Flat.{flat_rest}
use Rattle.json_text.proofs.flat.read_fields.Given as goal

-- the members that are left complete the document
abbrev pub invariant-members : goal.invariant-members
invariant-members l = flat_rest l.doc l.reader ≡ flat_rest l.fn.doc l.fn.reader

abbrev pub decreases-members : goal.decreases-members
decreases-members l = length l.reader
