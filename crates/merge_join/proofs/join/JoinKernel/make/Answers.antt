use Rattle.std.proofs.Common.{ap, ◌∙◌}
use Rattle.merge_join.specs.Keys.{terms_of}
use Rattle.merge_join.proofs.RunLemmas.{made_join}
use Rattle.merge_join.proofs.join.JoinKernel.make.Goals as goal

pub returns-clause-out : goal.returns-clause-out
returns-clause-out c = λ lefts rights.
    made_join c.args.outer c.args.on.now c.args.order.now c.in_ok-terms.terms
    c.fresh.result.held c.fresh-2.result.held c.new.result.items lefts rights
    (c.in_ok-terms.ensures ∙ ap (λ on. terms_of on c.as_slice-2.result.now) c.as_slice.ensures
    ∙ ap (terms_of c.args.on.now) c.as_slice-2.ensures)
    (ap (λ s. s.held) c.fresh.ensures) (ap (λ s. s.held) c.fresh-2.ensures) c.new.ensures.items
