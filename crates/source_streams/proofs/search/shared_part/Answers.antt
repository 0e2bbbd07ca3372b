use Rattle.std.proofs.Common.{◌≡◌, ◌<◌, length, map, ap, sym, ◌∙◌, arith}
use Rattle.std.proofs.lemmas.List.{map-append}
use Rattle.expr_types.specs.Sources.{cut_to}
use Rattle.source_streams.specs.Keeps.{doc_of, given_doc}
use Rattle.source_streams.specs.Parts.{is_of_part}
use Rattle.source_streams.proofs.FoundLemmas.{kept_more, kept_less}
use Rattle.source_streams.proofs.search.shared_part.Goals as goal
use Rattle.source_streams.proofs.search.shared_part.Goals.{then-holds+in_ok-of+in_ok-push}
use Rattle.source_streams.proofs.search.shared_part.Goals.{else-holds}

pub loop-kept-preserved : goal.loop-kept-preserved
loop-kept-preserved c =
    let test = is_of_part c.args.part.index c.args.part.of c.args.wanted.now.keys.now in
    let cut = cut_to c.args.wanted.now.fl.now in
    let found = c.args.found.now in
    let k = c.loop-kept.kept-index in
    let d = c.kept-item.result in
    let before = map cut (map given_doc c.loop-kept.given.items) in
    let lt : k < length found = omega arith in
    let is : test (cut (doc_of d)) ≡ test (cut c.tuple.result.now) =
    ap (λ doc. test (cut doc)) (sym c.tuple.ensures) in
    elim c.if-holds.branch [
      | then-holds+in_ok-of+in_ok-push w ↦
          rw (w.given-is, w.in_ok-push.ensures.items, map-append given_doc, map-append cut, w.in_ok-of.ensures)
          (sym (kept_more test cut doc_of before found k d lt c.kept-item.is
          (is ∙ sym w.if-holds.ensures))
          ∙ c.loop-kept.invariant)
      | else-holds w ↦
          rw w.given-is
          (sym (kept_less test cut doc_of before found k d lt c.kept-item.is
          (is ∙ sym w.if-holds.ensures))
          ∙ c.loop-kept.invariant)
    ]
