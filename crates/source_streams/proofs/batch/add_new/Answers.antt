use Rattle.std.proofs.Common.{ℕ, ◌<◌, ◌++◌, List, length, map, ap, sym, ◌∙◌, arith}
use Rattle.std.proofs.lemmas.List.{map-append}
use Rattle.tuple_values.specs.Document.{Doc}
use Rattle.source_streams.specs.Batches.{is_new, item_of}
use Rattle.source_streams.specs.Founds.{item_found}
use Rattle.source_streams.specs.declared.batch.TopicItem.{TopicItem}
use Rattle.source_streams.proofs.BatchLemmas.{made_more, made_less, new_from, pair_is}
use Rattle.source_streams.proofs.batch.add_new.Goals as goal
use Rattle.source_streams.proofs.batch.add_new.Goals.{then-is_new+in_ok-push, else-is_new}

pub loop-k-init : goal.loop-k-init
loop-k-init c =
    ap (λ (r : List TopicItem). map item_found c.args.found.now.items ++ r)
    (new_from c.args.q.now.clauses c.args.low c.args.shard c.first_above-k.result
    c.args.snapshot.now.documents c.first_above-k.ensures.above)

pub loop-k-preserved : goal.loop-k-preserved
loop-k-preserved c =
    let test = is_new c.args.q.now.clauses c.args.low in
    let docs = c.args.snapshot.now.documents in
    let before = map item_found c.loop-k.found.items in
    let d : ℕ × Doc = (c.version-version.result, c.document-document.result.now) in
    let lt : c.loop-k.k < length docs = omega arith in
    let is = pair_is docs c.loop-k.k c.version-version.result c.document-document.result.now
    c.version-version.ensures c.document-document.ensures in
    elim c.if-is_new.branch [
      | then-is_new+in_ok-push w ↦
          rw (w.found-is, w.in_ok-push.ensures.items, map-append item_found)
          (sym (made_more test (item_of c.args.shard) before docs c.loop-k.k d lt is
          (sym w.if-is_new.ensures))
          ∙ c.loop-k.invariant)
      | else-is_new w ↦
          rw w.found-is
          (sym (made_less test (item_of c.args.shard) before docs c.loop-k.k d lt is
          (sym w.if-is_new.ensures))
          ∙ c.loop-k.invariant)
    ]
