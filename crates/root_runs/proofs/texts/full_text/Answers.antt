use Rattle.std.proofs.Common.{append_assoc, ◌∙◌}
use Rattle.root_runs.proofs.texts.full_text.Goals as goal

pub returns : goal.returns
returns c =
    rw (c.from_string.ensures)
    (c.in_ok-text.ensures.ok ∙ rw (c.as_str-collection.ensures) (simp append_assoc))
