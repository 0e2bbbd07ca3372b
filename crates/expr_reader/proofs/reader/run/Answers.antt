use Rattle.std.proofs.Common.{length, sym}
use Rattle.std.proofs.Common.{ap, ◌∙◌, arith}
use Rattle.std.proofs.lemmas.Iterator.{YieldsList-from_chars}
use Rattle.std.proofs.lemmas.Iterator.Consumers.{YieldsList-turn, YieldsList-end}
use Rattle.std.proofs.lemmas.List.{length_push}
use Rattle.std.specs.Str.{chars}
use Rattle.expr_reader.specs.Machine.{machine}
use Rattle.expr_reader.specs.Fault.{fault_of}
use Rattle.expr_reader.proofs.RunLemmas.{run_live, run_over, run_stuck, run_end, chars_small}
use Rattle.expr_reader.proofs.reader.run.Goals as goal

pub overflow_add-at : goal.overflow_add-at
overflow_add-at c =
    let t = YieldsList-turn
    (YieldsList-from_chars c.args.text.now c.utf8.text cc) c.loop-c.yielded _
    c.loop-c.yielded_by _ _ c.in-Some.c c.in-Some.is c.next.ensures.steps in
    let s = chars_small c.args.text.now c.utf8.text in
    omega (arith, t.0, s, c.loop-c.invariant.1, c.requires.small, c.len_utf8.ensures.upper_bound)

pub returns-then-not-branch : goal.returns-then-not-branch
returns-then-not-branch c =
    let t = YieldsList-turn
    (YieldsList-from_chars c.args.text.now c.utf8.text cc) c.loop-c.yielded _
    c.loop-c.yielded_by _ _ c.in-Some.c c.in-Some.is c.next.ensures.steps in
    let stuck = run_stuck (chars c.args.text.now) c.loop-c.at (machine c.loop-c.reading)
    (machine c.step.new.self)
    (length c.loop-c.yielded) c.in-Some.c c.in_ok-step.field-0 t c.in_ok-step.ensures
    c.if-not-branch.true in
    ap fault_of (sym c.loop-c.invariant.2) ∙ stuck

pub returns-then-is_over : goal.returns-then-is_over
returns-then-is_over c =
    let t = YieldsList-turn
    (YieldsList-from_chars c.args.text.now c.utf8.text cc) c.loop-c.yielded _
    c.loop-c.yielded_by _ _ c.in-Some.c c.in-Some.is c.next.ensures.steps in
    let passed = run_over (chars c.args.text.now) c.loop-c.at (machine c.loop-c.reading)
    (machine c.step.new.self)
    (length c.loop-c.yielded) c.in-Some.c c.in_ok-step.field-0 t c.in_ok-step.ensures
    c.if-not-branch.false (sym c.is_over.ensures ∙ c.if-is_over.true) in
    ap fault_of (sym c.loop-c.invariant.2 ∙ passed)

pub loop-c-preserved : goal.loop-c-preserved
loop-c-preserved c =
    let t = YieldsList-turn
    (YieldsList-from_chars c.args.text.now c.utf8.text cc) c.loop-c.yielded _
    c.loop-c.yielded_by _ _ c.in-Some.c c.in-Some.is c.next.ensures.steps in
    let pushed = length_push c.loop-c.yielded c.in-Some.c in
    let small = sym c.is_over.ensures ∙ c.if-is_over.false in
    let live = run_live (chars c.args.text.now) c.loop-c.at (machine c.loop-c.reading)
    (machine c.step.new.self)
    (length c.loop-c.yielded) c.in-Some.c c.in_ok-step.field-0 t c.in_ok-step.ensures
    c.if-not-branch.false small in (
      small,
      omega (arith, pushed, c.loop-c.invariant.1, c.len_utf8.ensures.upper_bound),
      rw
          (pushed, c.len_utf8.ensures.value) (sym live ∙ c.loop-c.invariant.2),
    )

pub returns : goal.returns
returns c =
    let t = YieldsList-end
    (YieldsList-from_chars c.args.text.now c.utf8.text cc) c.loop-c.yielded _
    c.loop-c.yielded_by _ _ c.in-None.is c.next.ensures.steps in
    sym c.loop-c.invariant.2
    ∙ run_end (chars c.args.text.now) c.loop-c.at (machine c.loop-c.reading)
    (length c.loop-c.yielded) (omega (arith, t.1))
