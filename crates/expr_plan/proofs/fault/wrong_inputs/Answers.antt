use Rattle.std.proofs.Common.{append_assoc}
use Rattle.expr_plan.proofs.fault.wrong_inputs.Goals as goal

pub returns : goal.returns
returns c =
    rw (c.from_string.ensures, c.in_ok-format.ensures.ok, c.as_str-function.ensures)
    (simp append_assoc)
