use Rattle.std.proofs.Common.{◌≡◌, Option, Some, subst, sym}
use Rattle.tuple_values.specs.Document.{Doc}
use Rattle.sort_spec.specs.Sorting.{IsAscending}
use Rattle.sort_spec.specs.Terms.{less}
use Rattle.kernel_laws.specs.Rests.{rest_at}
use Rattle.merge_join.specs.Keys.{left_order}
use Rattle.merge_join.specs.Sides.{flow}
use Rattle.merge_join.proofs.ExistLemmas.{still_open, is_given, is_left_out}
use Rattle.merge_join.proofs.exist.ExistKernelKernel.ask.Goals as goal

pub returns-in-None-clause-out : goal.returns-in-None-clause-out
returns-in-None-clause-out c = λ rests ready.
    let k = c.args.self.now in
    let h : k.left.held ≡ Some c.in-Some.left = sym c.in-Some.ensures.value in
    still_open k.keep k.terms k.left.held c.in-Some.left (rest_at 0 rests)
    (flow k.right.held (rest_at 1 rests)) (flow c.find.new.right.held (rest_at 1 rests)) h
    (c.find.ensures.same k.keep (rest_at 0 rests) (rest_at 1 rests)
    (subst (λ (w : Option Doc). IsAscending (less (left_order k.terms)) (flow w (rest_at 0 rests)))
    h ready.lefts))

pub returns-then-found-self-clause-out : goal.returns-then-found-self-clause-out
returns-then-found-self-clause-out c = λ rests ready.
    let k = c.args.self.now in
    let h : k.left.held ≡ Some c.in-Some.left = sym c.in-Some.ensures.value in
    is_given k.keep k.terms k.left.held c.in-Some.left (rest_at 0 rests)
    (flow k.right.held (rest_at 1 rests)) (flow c.find.new.right.held (rest_at 1 rests)) h
    (c.find.ensures.same k.keep (rest_at 0 rests) (rest_at 1 rests)
    (subst (λ (w : Option Doc). IsAscending (less (left_order k.terms)) (flow w (rest_at 0 rests)))
    h ready.lefts))
    c.in-Some-find.found c.take.new.self
    (c.in-Some-find.ensures.found (rest_at 1 rests) ready.right_over ready.rights)
    c.if-found-self.true c.take.ensures.after

pub returns-else-found-self-clause-out : goal.returns-else-found-self-clause-out
returns-else-found-self-clause-out c = λ rests ready.
    let k = c.args.self.now in
    let h : k.left.held ≡ Some c.in-Some.left = sym c.in-Some.ensures.value in
    is_left_out k.keep k.terms k.left.held c.in-Some.left (rest_at 0 rests)
    (flow k.right.held (rest_at 1 rests)) (flow c.find.new.right.held (rest_at 1 rests)) h
    (c.find.ensures.same k.keep (rest_at 0 rests) (rest_at 1 rests)
    (subst (λ (w : Option Doc). IsAscending (less (left_order k.terms)) (flow w (rest_at 0 rests)))
    h ready.lefts))
    c.in-Some-find.found c.take.new.self k.left.ended c.next_left-else-found-self.result
    (c.in-Some-find.ensures.found (rest_at 1 rests) ready.right_over ready.rights)
    c.if-found-self.false c.take.ensures.after c.next_left-else-found-self.ensures
