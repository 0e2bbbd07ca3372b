use Rattle.std.proofs.Common.{[]}
use Rattle.exchange_rules.specs.Rows.{cut_course}
use Rattle.running_site.specs.Passes.{writer_of}
use Rattle.load_mix.proofs.ReadLemmas.{looking_cut, read_completed}
use Rattle.load_mix.proofs.querying.query.Goals as goal

pub returns-in_err-cut-clause-read : goal.returns-in_err-cut-clause-read
returns-in_err-cut-clause-read g c =
    let names = c.args.site.now.names in
    let collections = c.collections.result.now in
    read_completed (writer_of c.args.pass.now) (writer_of c.take_cut.new.pass)
    (cut_course names [] collections) c.take_cut.result (looking_cut names [] collections)
    c.take_cut.ensures.course

pub returns-in_err-eval-clause-read : goal.returns-in_err-eval-clause-read
returns-in_err-eval-clause-read g c =
    let names = c.args.site.now.names in
    let collections = c.collections.result.now in
    read_completed (writer_of c.args.pass.now) (writer_of c.take_cut.new.pass)
    (cut_course names [] collections) c.take_cut.result (looking_cut names [] collections)
    c.take_cut.ensures.course

pub returns-clause-read : goal.returns-clause-read
returns-clause-read g c =
    let names = c.args.site.now.names in
    let collections = c.collections.result.now in
    read_completed (writer_of c.args.pass.now) (writer_of c.take_cut.new.pass)
    (cut_course names [] collections) c.take_cut.result (looking_cut names [] collections)
    c.take_cut.ensures.course
