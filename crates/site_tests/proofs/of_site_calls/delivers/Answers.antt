use Rattle.running_site.specs.Passes.{writer_of}
use Rattle.site_tests.proofs.SightLemmas.{cut-since, topic-later, where-some}
use Rattle.site_tests.proofs.StoreLemmas.{may-store}
use Rattle.site_tests.proofs.of_site_calls.delivers.Goals as goal

pub store-requires-clause-delivered : goal.store-requires-clause-delivered
store-requires-clause-delivered g c =
    let names = c.args.site.now.names in
    let old = (writer_of c.args.first.now).seen in
    let seen = (writer_of c.send.new.pass).seen in
    let key = c.args.route.now.key in
    let src = c.args.route.now.src in
    let dest = c.args.route.now.dest in
    let cut = c.args.new.now in
    let grown = c.send.ensures.grown in
    may-store names seen key src dest cut
    (topic-later names old seen key src dest grown c.requires.topic)
    (cut-since names old seen src cut grown c.requires.taken)
    (where-some _ _ c.in_ok-send.ensures.there (c.is_sent.ensures c.if-not-is_sent.false))
