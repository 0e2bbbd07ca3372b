use Rattle.std.proofs.Common.{◌∙◌, ap}
use Rattle.std.specs.Prelude.{option_map, string_bytes}
use Rattle.tuple_values.specs.Document.{value_at}
use Rattle.row_kernels.proofs.JoinLemmas.{joined_on_place}
use Rattle.row_kernels.proofs.joining.joined.Goals as goal

pub loop-name-preserved : goal.loop-name-preserved
loop-name-preserved c =
    let doc = c.args.tuple.now in
    joined_on_place c.args.delim.now doc c.as_slice-name-items.result.now c.loop-name.name-index
    c.name-item.result (option_map string_bytes c.loop-name.joined)
    (option_map string_bytes c.in_ok-joined.joined) _ c.loop-name-test.true c.name-item.is
    (c.get.ensures ∙ ap (λ n. value_at n doc) c.as_str.ensures)
    c.loop-name.invariant c.in_ok-joined.ensures
