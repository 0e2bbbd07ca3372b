use Rattle.tuple_values.proofs.MapLemmas.{value_put, value_put_other, value_over, same_doc}
use Rattle.tuple_values.proofs.MapLemmas.{value_without, value_without_other, value_cut, value_cut_other}
use Rattle.tuple_values.proofs.tuple.tuples_are_maps.Goals as goal

pub returns : goal.returns
returns c = record {
  put_here = value_put;
  put_elsewhere = value_put_other;
  without_here = value_without;
  without_elsewhere = λ other name doc. value_without_other other name doc;
  cut_here = value_cut;
  cut_elsewhere = value_cut_other;
  over_either = value_over;
  same = same_doc;
}
