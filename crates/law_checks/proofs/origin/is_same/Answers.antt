use Rattle.std.proofs.Common.{option_map}
use Rattle.tuple_values.specs.Views.{datum_of}
use Rattle.once_core.proofs.DispatchLemmas.{same-value}
use Rattle.law_checks.proofs.origin.is_same.Goals as goal

pub returns : goal.returns
returns c =
    same-value (option_map (λ v. datum_of v.now) c.args.found) (datum_of c.args.value.now) c.compare.result c.is_eq.result
    c.compare.ensures c.is_eq.ensures
