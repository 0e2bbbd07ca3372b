use Rattle.std.proofs.Common.{◌≡◌, ◌++◌}
use Rattle.expr_check.proofs.fields.append.Given as goal

-- the names so far stand at the end
abbrev pub invariant-loop-name : goal.invariant-loop-name
invariant-loop-name l = l.list ≡ l.fn.list ++ l.yielded
