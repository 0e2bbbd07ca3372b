use Rattle.std.proofs.Common.{[], ◌∷◌, ◌++◌}
use Rattle.log_cases.proofs.runs.append_one.Goals as goal

-- the step is behind those that there were
pub returns-in-Ok : goal.returns-in-Ok
returns-in-Ok g c = λ more.
    let spelled = c.in_ok-spelled.ensures.spelled in
    (c.requires.0 ++ _ ∷ [], c.in-Ok.ensures.settled c.requires.0 _ spelled c.requires.1)

pub reopen-requires : goal.reopen-requires
reopen-requires g c =
    let spelled = c.in_ok-spelled.ensures.spelled in
    (c.requires.0, _, c.in-Err.ensures.in_flight c.requires.0 _ spelled c.requires.1)
