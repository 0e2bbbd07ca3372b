use Rattle.std.proofs.Common.{◌<◌, length, arith, ap}
use Rattle.std.proofs.lemmas.List.{length-map}
use Rattle.query_syntax.specs.Views.{clause_tree}
use Rattle.query_syntax.proofs.ClauseLemmas.{clause_smaller}
use Rattle.query_syntax.proofs.query.Clauses.get.Goals as goal

pub returns-clause-smaller : goal.returns-clause-smaller
returns-clause-smaller c =
    let within : c.args.k < length c.self.inside.items.items =
    omega (
      arith,
      c.requires,
      ap length c.self.view_is,
      length-map c.self.inside.items.items clause_tree,
    ) in
    rw (← c.self.view_is)
    (clause_smaller c.self.inside.items.items c.args.k c.index.result.now within c.index.ensures)
