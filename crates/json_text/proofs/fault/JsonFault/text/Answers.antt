use Rattle.std.proofs.Common.{append_assoc}
use Rattle.json_text.proofs.fault.JsonFault.text.Goals as goal

pub returns-in_ok-text-in-NotWhole : goal.returns-in_ok-text-in-NotWhole
returns-in_ok-text-in-NotWhole c =
    rw (
      c.from_string.ensures,
      c.in-NotWhole.is,
      c.in_ok-text-in-NotWhole.ensures.ok,
      c.as_str-field.ensures,
    ) (simp append_assoc)
