use Rattle.std.proofs.Common.{sym, subst, arith}
use Rattle.std.proofs.lemmas.Result.{on_ok_weaker}
use Rattle.exchange_rules.specs.Steps.{AreStorableWrites}
use Rattle.running_site.specs.Passes.{writer_of}
use Rattle.load_mix.specs.Puts.{HasPut}
use Rattle.load_mix.proofs.IndexLemmas.{indexed_put, indexed_storable}
use Rattle.load_mix.proofs.indexing.index_documents.Goals as goal

pub put_all-requires-clause-storable : goal.put_all-requires-clause-storable
put_all-requires-clause-storable g c =
    subst AreStorableWrites (sym c.in_ok-writes.ensures)
    (indexed_storable c.args.n c.args.indexer (omega arith))

pub returns-clause-done : goal.returns-clause-done
returns-clause-done g c =
    let old = writer_of c.args.pass.now in
    let new = writer_of c.put_all.new.pass in
    on_ok_weaker c.put_all.result
    (λ p. indexed_put c.args.n c.args.indexer old new
    (subst (λ ws. HasPut ws old new) c.in_ok-writes.ensures p))
    c.put_all.ensures.done
