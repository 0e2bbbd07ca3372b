use Rattle.std.proofs.Common.{◌≡◌, ◌<◌, ◌^◌, sym, ◌∙◌, Some, arith}
use native.Mathlib.Bridge.{le_prop}
use mathlib.Core.HLevel.{⊥_prop}
use Rattle.std.proofs.Math.Logic.{∥∥₁_elim}
use Rattle.std.proofs.lemmas.Option.{none-some, same_Some}
use Rattle.log_codec.specs.Steps.{body_of}
use Rattle.commit_log.specs.Steps.{bodies_of}
use Rattle.commit_log.specs.Stops.{Halfway}
use Rattle.commit_log.proofs.LogLemmas.{told-long-prop, in-flight-all, in-flight-long, reopened-with, reopened-without}
use Rattle.commit_log.proofs.StopLemmas.{leaves-only}
use Rattle.commit_log.proofs.log.Log.reopen.Goals as goal

pub unreachable-requires : goal.unreachable-requires
unreachable-requires g c = ∥∥₁_elim c.requires ⊥_prop
    (λ x. none-some _ (sym (sym c.take.ensures.value ∙ c.in_default.is) ∙ x.2.flight))

pub settle-requires-clause-within : goal.settle-requires-clause-within
settle-requires-clause-within g c = ∥∥₁_elim c.requires (told-long-prop _ _)
    (λ x. in-flight-long g.D.Disk.seen g.D.Disk.may_leave x.0 x.1 c.args.self.now x.2)

pub settle-requires-clause-fits : goal.settle-requires-clause-fits
settle-requires-clause-fits g c = ∥∥₁_elim c.requires le_prop
    (λ x. let near = x.2.near in omega (arith, near))

pub overflow_add-self : goal.overflow_add-self
overflow_add-self g c =
    let low : c.in-Some.size < 2 ^ 62 = ∥∥₁_elim c.requires le_prop (λ x.
    let low = x.2.low in
    let one = same_Some c.in-Some.size _ (sym (sym c.take.ensures.value ∙ c.in-Some.is) ∙ x.2.flight) in
    omega (arith, low, one)) in
    omega (arith, low)

pub overflow_add-self-in-Ok-true : goal.overflow_add-self-in-Ok-true
overflow_add-self-in-Ok-true g c =
    let near : c.args.self.now.end < 2 ^ 62 = ∥∥₁_elim c.requires le_prop (λ x. x.2.near) in
    let low : c.in-Some.size < 2 ^ 62 = ∥∥₁_elim c.requires le_prop (λ x.
    let low = x.2.low in
    let one = same_Some c.in-Some.size _ (sym (sym c.take.ensures.value ∙ c.in-Some.is) ∙ x.2.flight) in
    omega (arith, low, one)) in
    omega (arith, near, low)

pub returns-in-Ok-true-clause-settled : goal.returns-in-Ok-true-clause-settled
returns-in-Ok-true-clause-settled g c = λ steps step f.
    let old = c.args.self.now in
    let was : old.flight ≡ Some c.in-Some.size = sym c.take.ensures.value ∙ c.in-Some.is in
    reopened-with g.D.Disk.seen g.D.Disk.may_leave steps step old c.settle.new.disk c.in-Some.size _ f was c.take.ensures.after c.settle.ensures.untold
    (λ all. (c.in-Ok-true.ensures.settles (bodies_of steps) (body_of step) f.place all).0 c.in-Ok-true.field-0-test)

pub returns-in-Ok-true-clause-any_moment : goal.returns-in-Ok-true-clause-any_moment
returns-in-Ok-true-clause-any_moment g c = λ steps step file f is.
    let old = c.args.self.now in
    let all = in-flight-all g.D.Disk.seen g.D.Disk.may_leave steps step old file f is in
    let law = g.met.D.Disk.only_now old.disk in
    leaves-only g.D.Disk.moment g.D.Disk.left_since old.disk c.settle.new.disk (Halfway steps step) (c.settle.ensures.any_moment (bodies_of steps) (body_of step) f.place all) (λ d left. all.leaves d (law d left))

pub returns-in-Ok-false-clause-settled : goal.returns-in-Ok-false-clause-settled
returns-in-Ok-false-clause-settled g c = λ steps step f.
    let old = c.args.self.now in
    reopened-without g.D.Disk.seen g.D.Disk.may_leave steps step old c.settle.new.disk _ f c.take.ensures.after c.settle.ensures.untold
    (λ all. (c.in-Ok-false.ensures.settles (bodies_of steps) (body_of step) f.place all).1 c.in-Ok-false.field-0-test)

pub returns-in-Ok-false-clause-any_moment : goal.returns-in-Ok-false-clause-any_moment
returns-in-Ok-false-clause-any_moment g c = λ steps step file f is.
    let old = c.args.self.now in
    let all = in-flight-all g.D.Disk.seen g.D.Disk.may_leave steps step old file f is in
    let law = g.met.D.Disk.only_now old.disk in
    leaves-only g.D.Disk.moment g.D.Disk.left_since old.disk c.settle.new.disk (Halfway steps step) (c.settle.ensures.any_moment (bodies_of steps) (body_of step) f.place all) (λ d left. all.leaves d (law d left))

pub returns-in-Err-clause-any_moment : goal.returns-in-Err-clause-any_moment
returns-in-Err-clause-any_moment g c = λ steps step file f is.
    let old = c.args.self.now in
    let all = in-flight-all g.D.Disk.seen g.D.Disk.may_leave steps step old file f is in
    let law = g.met.D.Disk.only_now old.disk in
    leaves-only g.D.Disk.moment g.D.Disk.left_since old.disk c.settle.new.disk (Halfway steps step) (c.settle.ensures.any_moment (bodies_of steps) (body_of step) f.place all) (λ d left. all.leaves d (law d left))
