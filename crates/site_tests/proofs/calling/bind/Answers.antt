use Rattle.running_site.specs.Passes.{writer_of}
use Rattle.site_tests.proofs.SightLemmas.{topic-bound}
use Rattle.site_tests.proofs.calling.bind.Goals as goal

pub returns-clause-topic : goal.returns-clause-topic
returns-clause-topic g c =
    topic-bound (writer_of c.args.pass.now) (writer_of c.bind_topic.new.pass)
    c.args.site.now.names c.args.route.now.key c.in_ok-binding.binding _ c.args.route.now.src
    c.args.route.now.dest c.in_ok-bind_topic.ensures.course c.in_ok-binding.ensures.0
    c.in_ok-binding.ensures.1
