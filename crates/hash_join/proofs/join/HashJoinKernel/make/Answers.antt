use Rattle.std.proofs.Common.{if◌then◌else◌, List, ap, ◌∙◌}
use Rattle.sort_spec.specs.declared.pair.OnPair.{OnPair}
use Rattle.expr_types.specs.Joins.{join_list, outer_join_list}
use Rattle.hash_join.proofs.BucketLemmas.{given-made}
use Rattle.hash_join.proofs.join.HashJoinKernel.make.Goals as goal

pub returns-clause-out : goal.returns-clause-out
returns-clause-out c = λ lefts rights.
    given-made c.args.outer c.in_ok-on.on c.empty.result rights lefts c.empty.ensures
    ∙ ap
    (λ (on : List OnPair).
    if c.args.outer then outer_join_list on lefts rights else join_list on lefts rights)
    c.in_ok-on.ensures
