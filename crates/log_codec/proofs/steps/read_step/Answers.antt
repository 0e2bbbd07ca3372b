use Rattle.std.proofs.Common.{◌≡◌, ◌≢◌, [], length, ap, arith}
use Rattle.std.proofs.lemmas.Bool.Decides.{nat_tests}
use Rattle.log_codec.proofs.StepLemmas.{body-longer, body-none}
use Rattle.log_codec.proofs.steps.read_step.Goals as goal

pub returns-else-is_empty-clause-none : goal.returns-else-is_empty-clause-none
returns-else-is_empty-clause-none c =
    let front = rw c.in-Some.is at c.in_ok-step.ensures.some in
    let more : c.in-Some.rest.now ≢ [] = λ (none : c.in-Some.rest.now ≡ []). let long : length c.in-Some.rest.now ≡ 0 = ap length none in grind (arith, nat_tests) in
    body-longer _ _ _ front more

pub returns-in-None-clause-none : goal.returns-in-None-clause-none
returns-in-None-clause-none c =
    let none = rw c.in-None.is at c.in_ok-step.ensures.none in
    body-none _ none
