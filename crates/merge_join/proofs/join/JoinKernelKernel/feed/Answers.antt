use Rattle.std.proofs.Common.{◌≡◌, ◌∷◌, ℕ, List, length, subst, sym, ◌∙◌, arith}
use Rattle.tuple_values.specs.Document.{Doc}
use Rattle.kernel_laws.specs.Rests.{rest_at, put_front}
use Rattle.kernel_laws.proofs.RestLemmas.{rest_at-put_front, rest_at-put_front_other}
use Rattle.kernel_laws.proofs.RestLemmas.{length-put_front}
use Rattle.merge_join.specs.JoinState.{IsReady}
use Rattle.merge_join.specs.Runs.{IsMidway}
use Rattle.merge_join.specs.Sides.{flow}
use Rattle.merge_join.proofs.RunLemmas.{fed_left}
use Rattle.merge_join.proofs.join.JoinKernelKernel.feed.Goals as goal

pub returns-in-Some-clause-ready : goal.returns-in-Some-clause-ready
returns-in-Some-clause-ready c =
    rw c.in-Some.is (λ rests fed.
    let k = c.args.self.now in
    let left = c.in-Some.left in
    let ready =
    subst (λ (i : ℕ). IsReady k (put_front i left rests)) c.if-input-ne0.false fed in
    let all = put_front 0 left rests in
    let two : length rests ≡ 2 = sym (length-put_front 0 left rests) ∙ ready.two in
    let front : rest_at 0 all ≡ left ∷ rest_at 0 rests =
    rest_at-put_front 0 left rests (omega arith) in
    let other : rest_at 1 all ≡ rest_at 1 rests =
    rest_at-put_front_other 0 1 left rests (omega arith) in
    record {
      two = two;
      left_over = λ e. let none = sym front ∙ ready.left_over e in absurd (cc);
      right_over = λ e. sym other ∙ ready.right_over e;
      midway =
          fed_left k.terms k.left.held k.place k.run.items c.let_go.new.run.items left
          (rest_at 0 rests) (flow k.right.held (rest_at 1 rests))
          (c.requires.waits.0 c.if-input-ne0.false) (c.let_go.ensures.equal (rest_at 0 rests))
          (subst
          (λ (rs : List Doc).
          IsMidway k.terms k.left.held k.place k.run.items (left ∷ rest_at 0 rests)
          (flow k.right.held rs))
          other
          (subst
          (λ (ls : List Doc).
          IsMidway k.terms k.left.held k.place k.run.items ls
          (flow k.right.held (rest_at 1 all)))
          front ready.midway));
    })
