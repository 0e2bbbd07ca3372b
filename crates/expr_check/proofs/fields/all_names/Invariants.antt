use Rattle.std.proofs.Common.{◌≡◌}
use Rattle.std.specs.Prelude.{flat_map}
use Rattle.expr_check.proofs.fields.all_names.Given as goal

-- the names of the lists so far
abbrev pub invariant-loop-names : goal.invariant-loop-names
invariant-loop-names l = l.all ≡ flat_map (λ names. names) l.yielded
