use Rattle.std.proofs.Common.{◌<◌, length, arith, ap}
use Rattle.std.proofs.lemmas.List.{length-map}
use Rattle.tuple_values.specs.Views.{pair_of}
use Rattle.tuple_values.proofs.SizeLemmas.{field_smaller}
use Rattle.tuple_values.proofs.value.Tuple.value.Goals as goal

pub returns-clause-smaller : goal.returns-clause-smaller
returns-clause-smaller c =
    let within : c.args.k < length c.self.inside.fields.items =
    omega (arith, c.requires, ap length c.self.view_is, length-map c.self.inside.fields.items pair_of) in
    rw (← c.self.view_is)
    (field_smaller c.self.inside.fields.items c.args.k c.index.result.now within c.index.ensures)
