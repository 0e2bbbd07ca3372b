use Rattle.std.proofs.Common.{false, [], arith, refl}
use Rattle.stream_handler.proofs.WaitLemmas.{halted_memory, waits_none}
use Rattle.stream_handler.proofs.WireLemmas.{came_none}
use Rattle.stream_handler.proofs.waiting.next_request.Goals as goal

pub loop-init : goal.loop-init
loop-init g c = λ board. (false, waits_none _ _)

pub returns-in-Whole : goal.returns-in-Whole
returns-in-Whole g c = λ board.
    let i = c.loop.invariant board in c.in-Whole.ensures _ i.0 i.1

pub returns-in-Over : goal.returns-in-Over
returns-in-Over g c = λ board.
    let i = c.loop.invariant board in c.in-Over.ensures _ i.0 i.1

pub loop-preserved : goal.loop-preserved
loop-preserved g c = λ board.
    let i = c.loop.invariant board in c.in-Onward.ensures _ i.0 i.1

pub returns : goal.returns
returns g c = λ board.
    let i = c.loop.invariant board in
    halted_memory _ _ _ i.0 i.1 _ []
    (record { reads = omega arith; writes = omega arith }) refl
    (came_none (g.S.Source.left c.loop.source)) refl
