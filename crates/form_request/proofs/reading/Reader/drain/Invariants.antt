use Rattle.std.proofs.Common.{[]}
use Rattle.form_request.specs.Readers.{Leads, turns_left}
use Rattle.form_request.proofs.reading.Reader.drain.Given as goal

-- what was read and will be read is what was to be read
abbrev pub invariant-loop-after : goal.invariant-loop-after
invariant-loop-after l = Leads l.names [] l.fn.self l.self

abbrev pub decreases-loop-after : goal.decreases-loop-after
decreases-loop-after l = turns_left l.self.requests
