use Rattle.std.proofs.Common.{inl, subst}
use Rattle.std.proofs.Math.Logic.{∥∥₁_map}
use Rattle.commit_log.specs.Logs.{settled, IsSettled}
use Rattle.logged_cells.proofs.writing.written.Goals as goal

pub reopen-requires : goal.reopen-requires
reopen-requires g c = ∥∥₁_map c.requires.settled (λ s. (
  s.0,
  c.requires.spelled.0,
  c.in-Err.ensures.in_flight s.0 c.requires.spelled.0 c.requires.spelled.1 s.1,
))

pub returns-in-Ok-true-clause-stands : goal.returns-in-Ok-true-clause-stands
returns-in-Ok-true-clause-stands g c = λ steps entries spelled old.
    subst (λ b. IsSettled g.D.Disk.seen g.D.Disk.may_leave (settled steps entries b) c.reopen.new.self)
    c.in-Ok-true.field-0-test
    (c.in-Ok-true.ensures.settled steps entries (c.in-Err.ensures.in_flight steps entries spelled old))

pub returns-in-Ok-false-clause-absent : goal.returns-in-Ok-false-clause-absent
returns-in-Ok-false-clause-absent g c = inl (λ steps old.
    subst (λ b. IsSettled g.D.Disk.seen g.D.Disk.may_leave (settled steps c.requires.spelled.0 b)
    c.reopen.new.self) c.in-Ok-false.field-0-test
    (c.in-Ok-false.ensures.settled steps c.requires.spelled.0
    (c.in-Err.ensures.in_flight steps c.requires.spelled.0 c.requires.spelled.1 old)))
