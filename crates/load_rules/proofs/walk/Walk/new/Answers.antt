use Rattle.load_rules.proofs.WalkLemmas.{walked-none}
use Rattle.load_rules.proofs.walk.Walk.new.Goals as goal

pub returns-clause-walked : goal.returns-clause-walked
returns-clause-walked c = walked-none c.none.result c.new.result c.none.ensures c.new.ensures.empty
