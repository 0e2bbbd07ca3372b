use Rattle.std.proofs.Common.{◌++◌, take, drop, arith, length-append, length-take, subst, sym}
use Rattle.stream_commands.specs.Inputs.{HasTaken, IsInput}
use Rattle.stream_commands.proofs.TakingLemmas.{taken_more, taken_all, taken_full, taken_within}
use Rattle.stream_commands.proofs.input.read_input.Goals as goal

pub loop-room-preserved : goal.loop-room-preserved
loop-room-preserved g c =
    let gives = c.in-Got.ensures.gives in
    let more = taken_more _ _ _ c.loop-room.bytes.items c.take.new.room (drop c.min-most.result c.loop-room.room) c.in-Got.n c.loop-room.invariant.2 gives.2 gives.1 in
    rw c.in_ok-extend_from_slice-in-Got.ensures.items (omega (arith, length-append c.loop-room.bytes.items (take c.in-Got.n (c.take.new.room ++ drop c.min-most.result c.loop-room.room)), length-take c.in-Got.n (c.take.new.room ++ drop c.min-most.result c.loop-room.room), gives.1, c.take.auto.room, length-take c.min-most.result c.loop-room.room, c.min-most.ensures, c.len-in-loop-room.ensures, c.loop-room.invariant.0), omega (arith, c.loop-room.invariant.1, c.in-Got.ensures.cause.0), more)

pub returns-in-Ended-clause-read : goal.returns-in-Ended-clause-read
returns-in-Ended-clause-read g c =
    let gives = c.in-Ended.ensures.gives in
    subst (λ left. IsInput (g.I.Source.left c.args.input.now) left c.loop-room.bytes.items)
    (sym gives.1) (taken_all _ _ _ c.loop-room.invariant.2 gives.0 c.loop-room.invariant.0)

pub returns-clause-read : goal.returns-clause-read
returns-clause-read g c =
    taken_full _ _ _ c.loop-room.invariant.2
    (omega (arith, c.loop-room.invariant.0, c.len.ensures, c.loop-room-test.false))

pub returns-in_err-extend_from_slice-in-Got-clause-within :
    goal.returns-in_err-extend_from_slice-in-Got-clause-within
returns-in_err-extend_from_slice-in-Got-clause-within g c =
    let gives = c.in-Got.ensures.gives in
    let rest = drop c.min-most.result c.loop-room.room in
    taken_within _ _ (c.loop-room.bytes.items ++ take c.in-Got.n (c.take.new.room ++ rest))
    (taken_more _ _ _ c.loop-room.bytes.items c.take.new.room rest c.in-Got.n
    c.loop-room.invariant.2 gives.2 gives.1)
    (omega (
      arith,
      length-append c.loop-room.bytes.items (take c.in-Got.n (c.take.new.room ++ rest)),
      length-take c.in-Got.n (c.take.new.room ++ rest),
      gives.1,
      c.take.auto.room,
      length-take c.min-most.result c.loop-room.room,
      c.min-most.ensures,
      c.len-in-loop-room.ensures,
      c.loop-room.invariant.0,
    ))

pub returns-in-Ended-clause-within : goal.returns-in-Ended-clause-within
returns-in-Ended-clause-within g c =
    taken_within _ _ c.loop-room.bytes.items
    (subst (λ left. HasTaken (g.I.Source.left c.args.input.now) left c.loop-room.bytes.items)
    (sym c.in-Ended.ensures.gives.1) c.loop-room.invariant.2) c.loop-room.invariant.0

pub returns-in-Failed-clause-within : goal.returns-in-Failed-clause-within
returns-in-Failed-clause-within g c =
    taken_within _ _ c.loop-room.bytes.items
    (subst (λ left. HasTaken (g.I.Source.left c.args.input.now) left c.loop-room.bytes.items)
    (sym c.in-Failed.ensures.gives) c.loop-room.invariant.2) c.loop-room.invariant.0

pub returns-clause-within : goal.returns-clause-within
returns-clause-within g c =
    taken_within _ _ c.loop-room.bytes.items c.loop-room.invariant.2 c.loop-room.invariant.0
