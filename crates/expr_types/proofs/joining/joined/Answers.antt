use Rattle.std.proofs.Common.{◌≡◌, IfOk, subst}
use Rattle.tuple_values.specs.Document.{Doc}
use Rattle.expr_types.proofs.JoinLemmas.{over-joined}
use Rattle.expr_types.proofs.joining.joined.Goals as goal

pub returns : goal.returns
returns c =
    subst (λ (doc : Doc). IfOk c.laid_over.result (λ tuple. tuple ≡ doc))
    (over-joined c.args.left c.args.right.now c.count.ensures.rises c.count-2.ensures.rises)
    c.laid_over.ensures
