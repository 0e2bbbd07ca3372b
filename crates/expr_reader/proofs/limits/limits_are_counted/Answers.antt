use Rattle.expr_reader.proofs.CountedLemmas.{limits_are_counted}
use Rattle.expr_reader.proofs.limits.limits_are_counted.Goals as goal

pub returns : goal.returns
returns c = limits_are_counted
