use Rattle.std.proofs.Common.{append_assoc}
use Rattle.expr_plan.proofs.fault.two_words.Goals as goal

pub returns : goal.returns
returns c =
    rw (
      c.from_string.ensures,
      c.in_ok-format.ensures.ok,
      c.as_str-function.ensures,
      c.as_str-name.ensures,
    ) (simp append_assoc)
