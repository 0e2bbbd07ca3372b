use Rattle.std.proofs.Common.{◌<◌, length, arith, ap}
use Rattle.std.proofs.lemmas.List.{length-map}
use Rattle.expr_reader.specs.Views.{arg_tree}
use Rattle.expr_reader.proofs.CallLemmas.{arg_smaller}
use Rattle.expr_reader.proofs.call.Args.get.Goals as goal

pub returns-clause-smaller : goal.returns-clause-smaller
returns-clause-smaller c =
    let within : c.args.k < length c.self.inside.items.items =
    omega (
      arith,
      c.requires,
      ap length c.self.view_is,
      length-map c.self.inside.items.items arg_tree,
    ) in
    rw (← c.self.view_is)
    (arg_smaller c.self.inside.items.items c.args.k c.index.result.now within c.index.ensures)
