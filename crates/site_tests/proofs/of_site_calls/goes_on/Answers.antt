use Rattle.running_site.specs.Passes.{writer_of}
use Rattle.site_tests.proofs.SightLemmas.{topic-later}
use Rattle.site_tests.proofs.of_site_calls.goes_on.Goals as goal

pub overtakes-requires-clause-topic : goal.overtakes-requires-clause-topic
overtakes-requires-clause-topic g c =
    topic-later c.args.site.now.names (writer_of c.begins.new.first).seen
    (writer_of c.puts.new.pass).seen c.args.route.now.key c.args.route.now.src
    c.args.route.now.dest c.puts.ensures.grown
    (c.in_ok-begins.ensures.topic c.if-not-branch.false)
