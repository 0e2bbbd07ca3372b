use Rattle.std.proofs.Common.{◌≡◌, ℕ, length, take, drop, subst, arith}
use Rattle.law_checks.specs.Walks.{IsWalked}
use Rattle.law_checks.proofs.WalkLemmas.{walk-begins, walk-ends}
use Rattle.law_checks.proofs.walk.shown_in.Goals as goal

pub loop-at-init : goal.loop-at-init
loop-at-init c =
    let es = c.settled-entries.result.now in
    walk-begins (record { version = c.top_of.result; ids = c.new.result; shown = c.new-2.result }) c.args.history.now es (length es)
    c.settled-entries.ensures (omega arith) c.top_of.ensures c.new.ensures c.new-2.ensures.items

pub returns : goal.returns
returns c =
    let es = c.settled-entries.result.now in
    let w = c.loop-at.walk in
    let zero : c.loop-at.at ≡ 0 = omega arith in
    walk-ends w c.args.history.now es c.settled-entries.ensures
    (subst (λ (k : ℕ). IsWalked w (take k es) (drop k es)) zero c.loop-at.invariant)
