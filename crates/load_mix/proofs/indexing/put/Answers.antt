use Rattle.std.proofs.Common.{◌<◌, true, sym, subst, arith}
use Rattle.std.specs.Prelude.{Ok}
use Rattle.tuple_values.specs.Document.{ByteList}
use Rattle.topic_book.specs.Fitness.{shards_of}
use Rattle.exchange_rules.specs.Following.{Answers}
use Rattle.exchange_rules.specs.Rows.{index_course}
use Rattle.load_rules.specs.Topic.{load_names, src_name}
use Rattle.running_site.specs.Passes.{layout_in, writer_of}
use Rattle.load_rules.proofs.CellLemmas.{src-shards}
use Rattle.load_mix.proofs.PutLemmas.{put_answered}
use Rattle.load_mix.proofs.indexing.put.Goals as goal

pub index-requires-clause-known : goal.index-requires-clause-known
index-requires-clause-known g c =
    subst (λ names. 0 < shards_of names c.args.src.now) (sym c.requires.names)
    (subst (λ (name : ByteList). 0 < shards_of load_names name) (sym c.requires.source)
    (omega (arith, src-shards)))

pub returns-clause-done : goal.returns-clause-done
returns-clause-done g c =
    let old = writer_of c.args.pass.now in
    let new = writer_of c.index.new.pass in
    let site = c.args.site.now in
    let writes = c.args.writes in
    let n = c.in_ok-_written._written in
    put_answered old new site.limit writes n
    (subst (λ names. Answers old new (index_course
    (layout_in names site.limit) src_name writes true)
    (Ok n)) c.requires.names
    (subst (λ (name : ByteList). Answers old new
    (index_course (layout_in site.names site.limit) name writes true) (Ok n)) c.requires.source
    c.in_ok-_written.ensures.course))
