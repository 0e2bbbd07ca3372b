use Rattle.std.proofs.Common.{◌≡◌, Some, ◌∙◌, arith}
use Rattle.json.specs.Json.{read_key}
use Rattle.json_text.proofs.FlatLemmas.{flat_member}
use Rattle.json_text.proofs.flat.read_fields.Goals as goal

pub members-preserved : goal.members-preserved
members-preserved c =
    let key : read_key c.members.reader ≡ Some (Some c.in-Some.name.now, c.next_key.new.self) =
    grind arith in
    let found = rw c.in-Some-2.is at c.in_ok-value.ensures in
    rw c.in_ok-put_next.ensures.ok
    (flat_member c.members.doc c.members.reader _ _ _ found.0 _ key found.1 found.2
    ∙ c.members.invariant)
