use Rattle.std.proofs.Common.{◌≡◌, ◌<◌, length, map, ap, sym, ◌∙◌, arith}
use Rattle.std.proofs.lemmas.List.{map-append}
use Rattle.source_streams.specs.Wants.{is_wanted}
use Rattle.source_streams.proofs.FoundLemmas.{found_more, found_less}
use Rattle.source_streams.proofs.scanned.add_each.Goals as goal
use Rattle.source_streams.proofs.scanned.add_each.Goals.{then-takes+in_ok-of+in_ok-push, else-takes}

pub loop-k-preserved : goal.loop-k-preserved
loop-k-preserved g c =
    let wanted = c.args.wanted.now in
    let test = is_wanted wanted.q.now.clauses wanted.fl.now wanted.keys.now wanted.part in
    let docs = c.args.snapshot.now.documents in
    let before = map g.K.Lends.doc c.loop-k.found.items in
    let d = c.document_at-document.result.now in
    let lt : c.loop-k.k < length docs = omega arith in
    let is : test d ≡ test c.tuple.result.now = ap test (sym c.tuple.ensures) in
    elim c.if-takes.branch [
      | then-takes+in_ok-of+in_ok-push w ↦
          rw (w.found-is, w.in_ok-push.ensures.items, map-append g.K.Lends.doc, w.in_ok-of.ensures)
          (sym (found_more test before docs c.loop-k.k d lt c.document_at-document.ensures
          (is ∙ sym w.if-takes.ensures))
          ∙ c.loop-k.invariant)
      | else-takes w ↦
          rw w.found-is
          (sym (found_less test before docs c.loop-k.k d lt c.document_at-document.ensures
          (is ∙ sym w.if-takes.ensures))
          ∙ c.loop-k.invariant)
    ]
