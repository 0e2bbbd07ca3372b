use Rattle.std.proofs.Common.{◌+◌, ◌∙◌, sym, ap, arith, drop, cond, length, length-drop}
use Rattle.std.specs.Prelude.{Bool}
use Rattle.std.proofs.lemmas.List.{take_rest}
use Rattle.form_request.specs.Ends.{blank_len, empty_len}
use Rattle.form_request.proofs.HeadLemmas.{front_searched}
use Rattle.form_request.proofs.SearchLemmas.{blank_len-none, blank_len-passed}
use Rattle.form_request.proofs.search.blank_lines.Goals as goal

pub returns-then-at-clause-value : goal.returns-then-at-clause-value
returns-then-at-clause-value c =
    let n = c.args.at.seen + blank_len (drop c.args.at.seen c.args.bytes.now) in
    sym (front_searched c.args.bytes.now c.args.at c.requires ∙ ap (λ (b : Bool). cond b c.args.at.blank n) c.if-at.true)

pub returns-then-empty-eq0-clause-value : goal.returns-then-empty-eq0-clause-value
returns-then-empty-eq0-clause-value c =
    let is = c.empty_line-empty.ensures.value
    ∙ ap empty_len (take_rest c.args.bytes.now c.loop-passed.passed) in
    let none = blank_len-none (drop c.loop-passed.passed c.args.bytes.now) c.empty_line-empty.result is c.if-empty-eq0.true in
    omega (arith, c.loop-passed.invariant.1, none, c.if-empty-eq0.true)

pub loop-passed-preserved : goal.loop-passed-preserved
loop-passed-preserved c =
    let rest = take_rest c.args.bytes.now c.loop-passed.passed in
    let is = c.empty_line-empty.ensures.value ∙ ap empty_len rest in (
      omega (
        arith,
        c.loop-passed.invariant.0,
        c.empty_line-empty.ensures.within,
        ap length rest,
        length-drop c.loop-passed.passed c.args.bytes.now,
      ),
      blank_len-passed c.args.bytes.now c.loop-passed.passed c.empty_line-empty.result
          c.loop-passed.invariant.1 is c.if-empty-eq0.false,
    )
