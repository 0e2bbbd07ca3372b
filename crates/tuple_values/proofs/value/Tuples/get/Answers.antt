use Rattle.std.proofs.Common.{◌<◌, length, arith, ap}
use Rattle.tuple_values.proofs.SizeLemmas.{row_smaller}
use Rattle.tuple_values.proofs.value.Tuples.get.Goals as goal

pub returns-clause-smaller : goal.returns-clause-smaller
returns-clause-smaller c =
    let within : c.args.k < length c.self.inside.items.items =
    omega (arith, c.requires, ap length c.self.view_is) in
    rw (← c.self.view_is)
    (row_smaller c.self.inside.items.items c.args.k c.index.result.now within c.index.ensures)
