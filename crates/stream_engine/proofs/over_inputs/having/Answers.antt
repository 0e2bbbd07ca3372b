use Rattle.std.proofs.Common.{◌≡◌, subst, List, IfOk}
use Rattle.tuple_values.specs.Document.{Doc}
use Rattle.stream_engine.specs.Kernels.{any_out}
use Rattle.stream_engine.proofs.over_inputs.having.Goals as goal

pub returns-clause-list : goal.returns-clause-list
unfolding any_out
returns-clause-list c =
    subst (λ (w : List Doc). IfOk c.over_one.result (λ stream. stream.0 ≡ w))
    (c.in_ok-kernel.ensures.out c.args.input.0) c.over_one.ensures.list
