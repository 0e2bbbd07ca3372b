use Rattle.std.proofs.Common.{List, ◌∙◌, ap}
use Rattle.tuple_values.specs.Document.{ByteList}
use Rattle.expr_check.specs.Partitions.{paired_keys, is_kept_pair}
use Rattle.expr_check.proofs.pairing.filtered_keys.Goals as goal

pub returns : goal.returns
returns c =
    c.paired_keys.ensures
    ∙ ap (λ (l : List ByteList). paired_keys (is_kept_pair c.args.on.now l) c.args.keys.items)
    c.new-none.ensures
