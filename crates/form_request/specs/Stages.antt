-- Where a stream stands (own).
use Rattle.std.specs.Prelude.{Bool, true, false}
use Rattle.form_request.specs.declared.plan.Stage.{Stage}
use Rattle.form_request.specs.declared.plan.Stage.TheVariants.{Head, Body, Stopped, Closed}

-- nothing that follows is read
abbrev pub is_end : Stage → Bool
is_end Head = false
is_end (Body plan) = false
is_end (Stopped status) = true
is_end Closed = true
