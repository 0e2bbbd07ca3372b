use Rattle.std.proofs.Common.{◌≡◌, [], ◌∷◌, rules}
use Rattle.exchange_rules.proofs.GrowthLemmas.{grows_same}
use Rattle.running_site.specs.Passes.{writer_of}
use Rattle.case_items.proofs.CutLemmas.{cut-shown}
use Rattle.site_tests.proofs.SightLemmas.{cut-taken}
use Rattle.site_tests.proofs.calling.cut.Goals as goal

pub returns-clause-shown : goal.returns-clause-shown
returns-clause-shown g c =
    let one : c.push.new.self ≡ c.args.collection.now ∷ [] = search rules in
    cut-shown (writer_of c.args.pass.now) (writer_of c.take_cut.new.pass) c.args.site.now.names
    c.args.collection.now c.push.new.self _ one c.in_ok-take_cut.ensures.course

pub returns-in_err-copy-clause-grown : goal.returns-in_err-copy-clause-grown
returns-in_err-copy-clause-grown g c = grows_same (writer_of c.args.pass.now).seen

pub returns-in_err-push-clause-grown : goal.returns-in_err-push-clause-grown
returns-in_err-push-clause-grown g c = grows_same (writer_of c.args.pass.now).seen

pub returns-clause-taken : goal.returns-clause-taken
returns-clause-taken g c =
    let one : c.push.new.self ≡ c.args.collection.now ∷ [] = search rules in
    cut-taken (writer_of c.args.pass.now) (writer_of c.take_cut.new.pass) c.args.site.now.names
    c.args.collection.now c.push.new.self _ one c.in_ok-take_cut.ensures.course
