use Rattle.law_checks.proofs.TopicLemmas.{checkpoints-begin}
use Rattle.law_checks.proofs.topics.checkpoints_of.Goals as goal

pub loop-entry-init : goal.loop-entry-init
loop-entry-init c = checkpoints-begin c.none-stored.result c.none-stored.ensures
