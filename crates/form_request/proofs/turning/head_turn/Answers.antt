use Rattle.std.proofs.Common.{ℕ, List, subst}
use Rattle.std.proofs.lemmas.List.{take_rest}
use Rattle.form_request.specs.Streams.{body_answer}
use Rattle.form_request.specs.Turning.{TurnedIs}
use Rattle.form_request.proofs.TurnLemmas.{turn_refused, turn_taken}
use Rattle.form_request.proofs.turning.head_turn.Goals as goal

pub returns-in-Refused : goal.returns-in-Refused
returns-in-Refused c = turn_refused _ _ _ (rw c.in-Refused.is at c.in_ok-search.ensures.front)

pub returns-in_ok-body-in-Taken : goal.returns-in_ok-body-in-Taken
returns-in_ok-body-in-Taken c =
    let P : List ℕ → Type 0 =
    λ rest. TurnedIs rest (body_answer c.in-Taken.plan rest) c.body_turn-turned.result in
    turn_taken _ _ _ _ c.body_turn-turned.result (rw c.in-Taken.is at c.in_ok-search.ensures.front)
    (subst P (take_rest c.args.bytes.now c.in-Taken.place) c.body_turn-turned.ensures)
