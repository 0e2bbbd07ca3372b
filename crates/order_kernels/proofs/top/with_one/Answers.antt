use Rattle.std.proofs.Common.{◌∙◌, ap, ◌++◌, ◌∷◌, [], append_assoc}
use Rattle.expr_types.specs.Orders.{top_list}
use Rattle.order_kernels.proofs.TopLemmas.{top_list-cut}
use Rattle.order_kernels.proofs.top.with_one.Goals as goal

pub returns-clause-first : goal.returns-clause-first
returns-clause-first c = λ rest.
    let first = top_list c.args.n c.args.sort.now in
    ap (λ w. first (w ++ rest)) c.in_ok-first.ensures.first
    ∙ top_list-cut c.args.n c.args.sort.now c.push.new.self.items rest
    ∙ ap (λ w. first (w ++ rest)) c.in_ok-push.ensures.items
    ∙ ap first (append_assoc c.args.taken.items (c.args.tuple ∷ []) rest)
