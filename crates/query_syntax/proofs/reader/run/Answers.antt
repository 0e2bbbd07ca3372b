use Rattle.std.proofs.Common.{length, arith}
use Rattle.std.proofs.lemmas.Iterator.{YieldsList-from_chars}
use Rattle.std.proofs.lemmas.Iterator.Consumers.{YieldsList-turn, YieldsList-end}
use Rattle.std.proofs.lemmas.List.{length_push}
use Rattle.std.proofs.lemmas.Str.{encodes-chars}
use Rattle.std.specs.Str.{chars}
use Rattle.query_syntax.specs.Machine.{machine}
use Rattle.query_syntax.proofs.TurnLemmas.{counted_within, counted_more}
use Rattle.query_syntax.proofs.TurnLemmas.{read_more, sticks_here, read_all}
use Rattle.query_syntax.proofs.reader.run.Goals as goal

pub returns-then-not-branch : goal.returns-then-not-branch
returns-then-not-branch c =
    let turn = YieldsList-turn
    (YieldsList-from_chars c.args.text.now c.utf8.text cc) c.loop-c.yielded _
    c.loop-c.yielded_by _ _ c.in-Some.c c.in-Some.is c.next.ensures.steps in
    sticks_here c.args.text.now (chars c.args.text.now) (length c.loop-c.yielded) c.in-Some.c
    c.loop-c.at (machine c.loop-c.reading) (machine c.step.new.self) c.in_ok-step.field-0
    (encodes-chars c.args.text.now c.utf8.text) turn c.loop-c.invariant.counted
    c.loop-c.invariant.read c.in_ok-step.ensures c.if-not-branch.true

pub overflow_add-at : goal.overflow_add-at
overflow_add-at c =
    let turn = YieldsList-turn
    (YieldsList-from_chars c.args.text.now c.utf8.text cc) c.loop-c.yielded _
    c.loop-c.yielded_by _ _ c.in-Some.c c.in-Some.is c.next.ensures.steps in
    omega (
      arith,
      counted_within c.args.text.now (chars c.args.text.now) (length c.loop-c.yielded) c.in-Some.c
          c.loop-c.at (encodes-chars c.args.text.now c.utf8.text) turn c.loop-c.invariant.counted,
      c.len_utf8.ensures.value,
    )

pub loop-c-preserved : goal.loop-c-preserved
loop-c-preserved c =
    let turn = YieldsList-turn
    (YieldsList-from_chars c.args.text.now c.utf8.text cc) c.loop-c.yielded _
    c.loop-c.yielded_by _ _ c.in-Some.c c.in-Some.is c.next.ensures.steps in
    let cs = chars c.args.text.now in
    rw (length_push c.loop-c.yielded c.in-Some.c, c.len_utf8.ensures.value) (record {
      counted =
          counted_more cs (length c.loop-c.yielded) c.in-Some.c c.loop-c.at turn
          c.loop-c.invariant.counted;
      read =
          read_more cs (length c.loop-c.yielded) c.in-Some.c (machine c.loop-c.reading)
          (machine c.step.new.self) c.in_ok-step.field-0 turn c.loop-c.invariant.read
          c.in_ok-step.ensures c.if-not-branch.false;
    })

pub returns : goal.returns
returns c =
    let end = YieldsList-end
    (YieldsList-from_chars c.args.text.now c.utf8.text cc) c.loop-c.yielded _
    c.loop-c.yielded_by _ _ c.in-None.is c.next.ensures.steps in
    read_all c.args.text.now (chars c.args.text.now) (length c.loop-c.yielded)
    (machine c.loop-c.reading) (encodes-chars c.args.text.now c.utf8.text) (omega (arith, end.1))
    c.loop-c.invariant.read
