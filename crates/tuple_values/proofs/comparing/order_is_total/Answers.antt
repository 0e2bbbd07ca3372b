use Rattle.tuple_values.proofs.OrderLemmas.{datum_cmp_total, datum_cmp_same}
use Rattle.tuple_values.proofs.comparing.order_is_total.Goals as goal

pub returns : goal.returns
returns c = record { total = datum_cmp_total; same = datum_cmp_same }
