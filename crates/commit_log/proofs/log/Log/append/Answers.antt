use Rattle.std.proofs.Common.{◌≡◌, ◌<◌, ◌-◌, ◌^◌, [], ◌∷◌, ◌++◌, length, inl, ◌∙◌, arith}
use Rattle.std.proofs.Math.Logic.{∥∥₁_elim}
use Rattle.log_codec.specs.Steps.{body_of}
use Rattle.commit_log.specs.Frames.{sized}
use Rattle.commit_log.specs.Steps.{bodies_of}
use Rattle.commit_log.specs.Stops.{Halfway}
use Rattle.commit_log.proofs.LogLemmas.{appended, in-flight, settled-has, settled-long, told-long-prop}
use Rattle.commit_log.proofs.SpellingLemmas.{length-piece, step-fits}
use Rattle.commit_log.proofs.StopLemmas.{leaves-only}
use Rattle.commit_log.proofs.log.Log.append.Goals as goal

pub commit-requires-clause-within : goal.commit-requires-clause-within
commit-requires-clause-within g c = ∥∥₁_elim c.requires.settled (told-long-prop _ _)
    (λ x. settled-long g.D.Disk.seen g.D.Disk.may_leave x.0 c.args.self.now x.1)

pub returns-in-Ok-clause-settled : goal.returns-in-Ok-clause-settled
returns-in-Ok-clause-settled g c = λ steps entries is s.
    let old = c.args.self.now in
    let spelled = c.args.step.now in
    let fits = step-fits old entries spelled c.requires.place is in
    let one : c.len.result - 9 ≡ length (body_of entries) = omega (arith, c.len.ensures, length-piece entries spelled is) in
    let piece : c.as_slice.result.now ≡ sized (body_of entries) ++ (0 ∷ []) = c.as_slice.ensures ∙ is.piece in
    appended g.D.Disk.seen g.D.Disk.may_leave steps entries old c.commit.new.disk (c.len.result - 9) s fits one c.commit.ensures.untold (c.in-Ok.ensures.stands (bodies_of steps) (body_of entries) s.place piece)

pub returns-in-Ok-clause-any_moment : goal.returns-in-Ok-clause-any_moment
returns-in-Ok-clause-any_moment g c = λ steps entries file is s told.
    let old = c.args.self.now in
    let piece : c.as_slice.result.now ≡ sized (body_of entries) ++ (0 ∷ []) = c.as_slice.ensures ∙ is.piece in
    let at = settled-has g.D.Disk.seen g.D.Disk.may_leave steps old file s told in
    let law = g.met.D.Disk.only_now old.disk in
    leaves-only g.D.Disk.moment g.D.Disk.left_since old.disk c.commit.new.disk (Halfway steps entries) (c.commit.ensures.any_moment (bodies_of steps) (body_of entries) s.place piece at) (λ d left. inl ([], at.durable d (law d left)))

pub returns-in-Err-clause-in_flight : goal.returns-in-Err-clause-in_flight
returns-in-Err-clause-in_flight g c = λ steps entries is s.
    let old = c.args.self.now in
    let spelled = c.args.step.now in
    let fits = step-fits old entries spelled c.requires.place is in
    let one : c.len.result - 9 ≡ length (body_of entries) = omega (arith, c.len.ensures, length-piece entries spelled is) in
    let low : c.len.result - 9 < 2 ^ 62 = omega (arith, c.len.ensures, c.requires.place.low) in
    let piece : c.as_slice.result.now ≡ sized (body_of entries) ++ (0 ∷ []) = c.as_slice.ensures ∙ is.piece in
    in-flight g.D.Disk.seen g.D.Disk.may_leave steps entries old c.commit.new.disk (c.len.result - 9) s fits c.requires.place.near low one c.commit.ensures.untold (c.in-Err.ensures.failed (bodies_of steps) (body_of entries) s.place piece)

pub returns-in-Err-clause-any_moment : goal.returns-in-Err-clause-any_moment
returns-in-Err-clause-any_moment g c = λ steps entries file is s told.
    let old = c.args.self.now in
    let piece : c.as_slice.result.now ≡ sized (body_of entries) ++ (0 ∷ []) = c.as_slice.ensures ∙ is.piece in
    let at = settled-has g.D.Disk.seen g.D.Disk.may_leave steps old file s told in
    let law = g.met.D.Disk.only_now old.disk in
    leaves-only g.D.Disk.moment g.D.Disk.left_since old.disk c.commit.new.disk (Halfway steps entries) (c.commit.ensures.any_moment (bodies_of steps) (body_of entries) s.place piece at) (λ d left. inl ([], at.durable d (law d left)))
