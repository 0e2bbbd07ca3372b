use Rattle.std.proofs.Common.{◌≡◌, [], ◌∷◌, sym, ◌∙◌, arith}
use Rattle.json.specs.Token.{Token}
use Rattle.tuple_values.specs.declared.write.Write.TheVariants.{Put}
use Rattle.json_text.proofs.FlatLemmas.{flat_asks}
use Rattle.json_text.proofs.flat.read_item.Goals as goal

pub returns-in-Ok : goal.returns-in-Ok
returns-in-Ok c = λ _.
    let begins : c.args.reader.now ≡ Token.begin_object ∷ c.next.new.self = grind arith in
    let none : c.make_room.new.self ≡ [] = c.make_room.ensures ∙ c.empty-doc.ensures in
    let is = rw none at (c.in_ok-read_fields.ensures c.if-not-branch.false) in (
      Put c.in-Ok.doc,
      c.in_ok-push-in-Ok.ensures.ok,
      flat_asks c.args.reader.now c.next.new.self c.read_fields.new.reader c.read_fields.new.doc
          c.in-Ok.doc begins is (sym c.in-Ok.ensures),
    )
