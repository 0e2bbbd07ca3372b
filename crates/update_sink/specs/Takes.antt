-- What was taken of a topic's source (own).
use Rattle.std.specs.Prelude.{List, Result, Ok, Err}
use Rattle.shard_versions.specs.declared.cut.CutPart.{CutPart}
use Rattle.exchange_rules.specs.declared.fault.SiteFault.{SiteFault}
use Rattle.update_sink.specs.declared.taking.Taken.{Taken}

-- the cut of what was taken
abbrev pub cut_in : Result Taken SiteFault → Result (List CutPart) SiteFault
cut_in (Ok taken) = Ok taken.cut
cut_in (Err fault) = Err fault
