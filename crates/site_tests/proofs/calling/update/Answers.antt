use Rattle.exchange_rules.proofs.GrowthLemmas.{grows_same}
use Rattle.running_site.specs.Passes.{writer_of}
use Rattle.site_tests.proofs.calling.update.Goals as goal

pub returns-then-shards_of-eq0-clause-grown : goal.returns-then-shards_of-eq0-clause-grown
returns-then-shards_of-eq0-clause-grown g c = grows_same (writer_of c.args.pass.now).seen
