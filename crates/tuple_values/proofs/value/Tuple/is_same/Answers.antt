use Rattle.std.proofs.Common.{refl}
use Rattle.tuple_values.proofs.OrderLemmas.{docs_compared}
use Rattle.tuple_values.proofs.value.Tuple.is_same.Goals as goal

pub returns : goal.returns
returns c =
    docs_compared c.args.self.now c.args.other.now c.is_eq.result
    (rw (c.is_eq.ensures, c.compare_fields.ensures, c.fields.ensures, c.fields-2.ensures) refl)
