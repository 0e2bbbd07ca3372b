use Rattle.commit_log.proofs.StepLemmas.{stops-are-harmless}
use Rattle.commit_log.proofs.laws.stops_are_harmless.Goals as goal

pub returns : goal.returns
returns c = stops-are-harmless
