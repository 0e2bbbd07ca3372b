use Rattle.std.proofs.Common.{[], arith, refl}
use Rattle.stream_handler.proofs.PassLemmas.{turned}
use Rattle.stream_handler.proofs.WaitLemmas.{halted_memory, turned_continue, turned_refused, turned_wants, turned_whole}
use Rattle.stream_handler.proofs.WireLemmas.{came_none}
use Rattle.stream_handler.proofs.waiting.make_turn.Goals as goal

pub returns-in-Ok-Whole : goal.returns-in-Ok-Whole
returns-in-Ok-Whole g c = λ start told w.
    turned_whole _ _ _ _ w _ _
    (turned _ _ _ _ _ _ w.passed.passes.fits c.in-Ok-Whole.ensures.ok c.in-Ok-Whole.field-0-is)

pub returns-in-Ok-Refused : goal.returns-in-Ok-Refused
returns-in-Ok-Refused g c = λ start told w.
    turned_refused _ _ _ _ w _ _
    (turned _ _ _ _ _ _ w.passed.passes.fits c.in-Ok-Refused.ensures.ok c.in-Ok-Refused.field-0-is)
    _ _ _ c.refuse.ensures.writes c.refuse.ensures.counts

pub returns-in-Ok-Continue : goal.returns-in-Ok-Continue
returns-in-Ok-Continue g c = λ start told w.
    rw c.onward.ensures
    (turned_continue _ _ _ _ w _
    (turned _ _ _ _ _ _ w.passed.passes.fits c.in-Ok-Continue.ensures.ok c.in-Ok-Continue.field-0-is)
    _ _ c.say_continue.result c.say_continue.ensures.writes c.say_continue.ensures.counts)

pub returns-in-Ok-Wants : goal.returns-in-Ok-Wants
returns-in-Ok-Wants g c = λ start told w.
    rw c.onward-in-Ok-Wants.ensures
    (turned_wants _ _ _ _ w _ _
    (turned _ _ _ _ _ _ w.passed.passes.fits c.in-Ok-Wants.ensures.ok c.in-Ok-Wants.field-0-is)
    _ _ c.read_more.result c.read_more.ensures.reads c.read_more.ensures.counts)

pub returns-in-Err : goal.returns-in-Err
returns-in-Err g c = λ start told w.
    halted_memory _ _ _ _ w _ [] (record { reads = omega arith; writes = omega arith })
    c.in-Err.ensures.err (came_none (g.S.Source.left c.args.source.now)) refl
