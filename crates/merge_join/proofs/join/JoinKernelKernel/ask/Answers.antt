use Rattle.std.proofs.Common.{◌≡◌, true, List, Ok, subst, sym, ◌∙◌, rules}
use Rattle.tuple_values.specs.Document.{Doc}
use Rattle.kernel_laws.specs.Rests.{rest_at}
use Rattle.merge_join.specs.Runs.{IsMidway}
use Rattle.merge_join.specs.Sides.{flow}
use Rattle.merge_join.proofs.join.JoinKernelKernel.ask.Goals as goal

pub returns-clause-ready : goal.returns-clause-ready
returns-clause-ready c = λ rests ready.
    let k = c.args.self.now in
    let lefts = rest_at 0 rests in
    let rights = flow c.gather-known.new.right.held (rest_at 1 rests) in
    let known : c.gather-known.result ≡ Ok c.in_ok-whole.whole =
    sym c.keep.ensures.same ∙ c.in_ok-whole.was in
    let given : c.give-given.result ≡ Ok c.in_ok-answer.answer =
    sym c.keep-2.ensures.same ∙ c.in_ok-answer.was in
    let same = rw known at c.gather-known.ensures.midway in
    let whole = rw known at c.gather-known.ensures.whole in
    let next = rw given at c.give-given.ensures.midway in
    let is_whole : c.in_ok-whole.whole ≡ true = search rules in
    record {
      two = ready.two;
      left_over = λ e. ready.left_over (sym c.give-given.ensures.ended ∙ e);
      right_over = λ e. ready.right_over (sym c.gather-known.ensures.ended ∙ e);
      midway =
          subst
          (λ (run : List Doc).
          IsMidway k.terms c.give-given.new.left.held c.give-given.new.place run lefts rights)
          c.deref.ensures.value
          (next k.terms lefts rights
          (subst (λ (run : List Doc). IsMidway k.terms k.left.held k.place run lefts rights)
          (sym c.deref.ensures.value) (same lefts (rest_at 1 rests) ready.midway))
          (whole is_whole lefts (rest_at 1 rests) ready.right_over ready.midway));
    }
