use Rattle.running_site.specs.Passes.{writer_of}
use Rattle.site_tests.proofs.SightLemmas.{topic-later}
use Rattle.site_tests.proofs.of_site_calls.overtakes.Goals as goal

pub delivers-requires-clause-topic : goal.delivers-requires-clause-topic
delivers-requires-clause-topic g c =
    let names = c.args.site.now.names in
    let old = (writer_of c.args.first.now).seen in
    let mid = (writer_of c.puts.new.pass).seen in
    let new = (writer_of c.cut.new.pass).seen in
    let key = c.args.route.now.key in
    let src = c.args.route.now.src in
    let dest = c.args.route.now.dest in
    topic-later names mid new key src dest c.cut.ensures.grown
    (topic-later names old mid key src dest c.puts.ensures.grown c.requires.topic)
