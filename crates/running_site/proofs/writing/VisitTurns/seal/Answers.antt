use Rattle.std.proofs.Common.{inl}
use Rattle.running_site.proofs.writing.VisitTurns.seal.Goals as goal

pub append_step-requires-clause-allowed : goal.append_step-requires-clause-allowed
append_step-requires-clause-allowed g c =
    (c.requires.in_range.in_range, inl c.requires.allowed)
