use Rattle.std.proofs.Common.{◌≡◌}
use Rattle.running_site.specs.Passes.{numbers_to}
use Rattle.running_site.proofs.numbers.numbers_to.Given as goal

-- the numbers so far
abbrev pub invariant-loop-before : goal.invariant-loop-before
invariant-loop-before l = l.numbers ≡ numbers_to l.before
