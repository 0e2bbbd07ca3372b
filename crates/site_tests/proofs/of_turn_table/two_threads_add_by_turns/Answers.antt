use Rattle.std.proofs.Common.{ap, ◌∙◌}
use Rattle.site_tests.proofs.of_turn_table.two_threads_add_by_turns.Goals as goal

pub sum_left-requires-clause-one : goal.sum_left-requires-clause-one
sum_left-requires-clause-one g c =
    c.add_both-first.ensures.numbers.0 ∙ ap (λ k. k.number) c.in_ok-table.ensures.known.0

pub sum_left-requires-clause-two : goal.sum_left-requires-clause-two
sum_left-requires-clause-two g c =
    c.add_both-first.ensures.numbers.1 ∙ ap (λ k. k.number) c.in_ok-table.ensures.known.1
