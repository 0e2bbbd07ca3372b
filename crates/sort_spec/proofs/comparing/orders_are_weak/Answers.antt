use Rattle.sort_spec.proofs.TermLemmas.{sort_cmp_total, less_is_weak}
use Rattle.sort_spec.proofs.comparing.orders_are_weak.Goals as goal

pub returns : goal.returns
returns c = record { total = sort_cmp_total; weak = less_is_weak }
