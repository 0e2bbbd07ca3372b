use Rattle.exchange_rules.proofs.GrowthLemmas.{grows_same}
use Rattle.running_site.specs.Passes.{writer_of}
use Rattle.site_tests.proofs.of_site_calls.puts.Goals as goal

pub returns-in_err-writes-clause-grown : goal.returns-in_err-writes-clause-grown
returns-in_err-writes-clause-grown g c = grows_same (writer_of c.args.pass.now).seen
