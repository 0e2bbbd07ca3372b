use Rattle.expr_check.proofs.NeedLemmas.{are_first-is}
use Rattle.expr_check.proofs.needs.meets_sort.Goals as goal

pub returns-in-By : goal.returns-in-By
returns-in-By c =
    rw c.in-By.is
    (are_first-is c.is_prefix_of.result c.args.on.now c.in-By.sort c.is_prefix_of.ensures)
