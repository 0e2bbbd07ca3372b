use Rattle.std.proofs.Common.{◌≡◌, false, ◌∙◌, sym}
use Rattle.row_kernels.specs.Choosing.{is_chosen}
use Rattle.row_kernels.proofs.ChoosingLemmas.{chosen_still}
use Rattle.row_kernels.proofs.selecting.take_value.Goals as goal

pub returns-clause-rest : goal.returns-clause-rest
returns-clause-rest c =
    rw c.remove.ensures.rest
    (chosen_still c.args.name.now c.args.rest.now c.args.later.now (sym c.is_chosen.ensures ∙ c.if-is_chosen.false))
