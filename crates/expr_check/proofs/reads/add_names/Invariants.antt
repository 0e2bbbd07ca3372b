use Rattle.std.proofs.Common.{◌≡◌, fold}
use Rattle.expr_check.specs.Reads.{with_name}
use Rattle.expr_check.proofs.reads.add_names.Given as goal

-- the names so far are added
abbrev pub invariant-loop-name : goal.invariant-loop-name
invariant-loop-name l = l.list ≡ fold with_name l.fn.list l.yielded
