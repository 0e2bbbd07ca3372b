use Rattle.std.proofs.Common.{◌≡◌, ◌≢◌, ℕ, zero, suc, [], ◌∷◌, length, Bool, true, false, Ok}
use Rattle.std.proofs.Common.{slice_index_or, refl, subst, sym, ◌∙◌, arith}
use Rattle.kernel_laws.specs.Rests.{rest_at, put_front}
use Rattle.kernel_laws.proofs.RestLemmas.{rest_at-put_front, rest_at-put_front_other}
use Rattle.kernel_laws.proofs.RestLemmas.{length-put_front}
use Rattle.hash_join.specs.HashState.{IsReady}
use Rattle.hash_join.proofs.BucketLemmas.{left_fed, right_fed}
use Rattle.hash_join.proofs.join.HashJoinKernelKernel.feed.Goals as goal

-- of two inputs one that isn't the first is the second
second : (left right : Bool) (i : ℕ) → slice_index_or (left ∷ right ∷ []) i true ≡ false → i ≢ 0
    → i ≡ 1
second left right zero e h = absurd (h refl)
second left right (suc zero) e h = refl
second left right (suc (suc i)) e h = absurd (cc)

pub returns-in_ok-self-in-Some-clause-out : goal.returns-in_ok-self-in-Some-clause-out
returns-in_ok-self-in-Some-clause-out c =
    rw c.in-Some.is (λ rests fed.
    let k = c.args.self.now in
    let left = c.in-Some.left in
    let ready =
    subst (λ (i : ℕ). IsReady k (put_front i left rests)) c.if-input-eq0.true fed in
    let two : length rests ≡ 2 = sym (length-put_front 0 left rests) ∙ ready.two in
    let whole = c.requires.waits.1 c.if-input-eq0.true in
    let given : c.hold-held.result ≡ Ok c.in_ok-self-in-Some.field-0 =
    sym c.keep.ensures.same ∙ c.in_ok-self-in-Some.was in
    let made = rw given at c.hold-held.ensures in
    rw c.if-input-eq0.true
    (left_fed k.outer k.on left k.table k.held c.in_ok-self-in-Some.field-0 (rest_at 1 rests)
    (rest_at 0 rests) (rest_at 1 (put_front 0 left rests)) (rest_at 0 (put_front 0 left rests))
    c.requires.waits.0 made (ready.right_over whole)
    (rest_at-put_front_other 0 1 left rests (omega arith))
    (rest_at-put_front 0 left rests (omega arith))))

pub returns-in_ok-keep-in-Some-tuple-clause-out : goal.returns-in_ok-keep-in-Some-tuple-clause-out
returns-in_ok-keep-in-Some-tuple-clause-out c =
    rw c.in-Some-tuple.is (λ rests fed.
    let k = c.args.self.now in
    let right = c.in-Some-tuple.right in
    let one = second k.left.ended k.whole c.args.input c.requires.open c.if-input-eq0.false in
    let ready = subst (λ (i : ℕ). IsReady k (put_front i right rests)) one fed in
    let two : length rests ≡ 2 = sym (length-put_front 1 right rests) ∙ ready.two in
    let given : c.add-added.result ≡ Ok c.in_ok-keep-in-Some-tuple.field-0 =
    sym c.keep-in-Some-tuple.ensures.same ∙ c.in_ok-keep-in-Some-tuple.was in
    let adds = rw given at c.add-added.ensures in
    rw one
    (right_fed k.outer k.on right k.table c.add-added.new.table k.held (rest_at 1 rests)
    (rest_at 0 rests) (rest_at 1 (put_front 1 right rests)) (rest_at 0 (put_front 1 right rests))
    c.requires.waits.0 adds (rest_at-put_front 1 right rests (omega arith))
    (rest_at-put_front_other 1 0 right rests (omega arith))))
