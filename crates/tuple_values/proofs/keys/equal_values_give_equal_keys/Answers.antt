use Rattle.tuple_values.proofs.KeyLemmas.{key_text-equal}
use Rattle.tuple_values.proofs.keys.equal_values_give_equal_keys.Goals as goal

pub returns : goal.returns
returns c = key_text-equal
