use Rattle.std.proofs.Common.{[], ◌∷◌, ◌++◌}
use Rattle.log_cases.proofs.files.append.Goals as goal

-- the step is behind those that there were
pub returns-in_ok-append : goal.returns-in_ok-append
returns-in_ok-append g c =
    let spelled = c.in_ok-spelled.ensures.spelled in
    (c.requires.0 ++ _ ∷ [], c.in_ok-append.ensures.settled c.requires.0 _ spelled c.requires.1)
