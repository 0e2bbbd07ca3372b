use Rattle.std.proofs.Common.{◌≡◌, IfOk, false, [], ◌∷◌, subst}
use Rattle.stream_handler.specs.Replies.{due}
use Rattle.stream_handler.specs.Responses.{response}
use Rattle.stream_handler.proofs.outcome.Outcome.reply.Goals as goal

pub returns-in_ok-body-in-Refused : goal.returns-in_ok-body-in-Refused
returns-in_ok-body-in-Refused c =
    rw c.in-Refused.is
    (subst (λ body. IfOk c.whole-in-Refused.result
    (λ reply. due reply ≡ (response c.in-Refused.code c.args.framing.closes body ∷ [], false)))
    c.in_ok-body-in-Refused.ensures c.whole-in-Refused.ensures)
