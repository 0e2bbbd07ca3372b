use Rattle.std.proofs.Common.{◌+◌, ◌++◌, length, arith, rules, sym, ◌∙◌, ap}
use Rattle.std.proofs.lemmas.Result.{err_from_is_err_and}
use Rattle.sort_spec.specs.Reading.{behind, mapped, listed, said}
use Rattle.sort_spec.proofs.ListLemmas.{listed_more, listed_last, length_more}
use Rattle.sort_spec.proofs.ListLemmas.{list_refused, list_more, list_end}
use Rattle.sort_spec.proofs.reader.read_list.Goals as goal

pub returns-in_err-item : goal.returns-in_err-item
returns-in_err-item g c =
    let p = err_from_is_err_and c.from_residual.result c.from_residual.ensures.1 in
    let reading = g.I.Item.reading in
    let at = c.loop-piece.at in
    let items = c.loop-piece.items in
    let first =
    listed_more reading c.loop-piece.rest.now c.split_once.result c.split_once.ensures.cases _
    c.in-Some.is in
    let whole =
    c.loop-piece.invariant.2 ∙ ap (λ r. behind at (mapped (λ values. items ++ values) r)) first in
    rw (p.1, p.2)
    (list_refused _ items at _ (reading c.in-Some.piece.now) _ c.in_err-item.field-0.0 whole
    c.in_err-item.ensures)

pub loop-piece-preserved : goal.loop-piece-preserved
loop-piece-preserved g c =
    let reading = g.I.Item.reading in
    let at = c.loop-piece.at in
    let items = c.loop-piece.items in
    let rest = c.loop-piece.rest.now in
    let parts = c.split_once.result in
    let first = listed_more reading rest parts c.split_once.ensures.cases _ c.in-Some.is in
    let long = length_more reading rest parts c.split_once.ensures.cases _ c.in-Some.is in
    let n = length c.in-Some.piece.now + 1 in
    let more = listed reading c.in-Some.more.now in (
      search rules,
      omega (arith, long, c.loop-piece.invariant.1),
      c.loop-piece.invariant.2
          ∙ ap (λ r. behind at (mapped (λ values. items ++ values) r)) first
          ∙ list_more items at n (reading c.in-Some.piece.now) more c.in_ok-item.item
          c.in_ok-item.ensures
          ∙ ap (λ l. behind (at + n) (mapped (λ values. l ++ values) more))
          (sym c.in_ok-push.ensures.ok),
    )

pub returns-in_err-item-2 : goal.returns-in_err-item-2
returns-in_err-item-2 g c =
    let p =
    err_from_is_err_and c.from_residual-in_err-item-2.result
    c.from_residual-in_err-item-2.ensures.1 in
    let reading = g.I.Item.reading in
    let rest = c.loop-piece.rest.now in
    let at = c.loop-piece.at in
    let items = c.loop-piece.items in
    let last =
    listed_last reading rest c.split_once.result c.split_once.ensures.cases c.in_default.is in
    let whole =
    c.loop-piece.invariant.2 ∙ ap (λ r. behind at (mapped (λ values. items ++ values) r)) last in
    rw (p.1, p.2)
    (list_refused _ items at _ (reading rest) _ c.in_err-item-2.field-0.0 whole
    c.in_err-item-2.ensures)

pub returns : goal.returns
returns g c =
    let reading = g.I.Item.reading in
    let rest = c.loop-piece.rest.now in
    let at = c.loop-piece.at in
    let items = c.loop-piece.items in
    let last =
    listed_last reading rest c.split_once.result c.split_once.ensures.cases c.in_default.is in
    c.loop-piece.invariant.2
    ∙ ap (λ r. behind at (mapped (λ values. items ++ values) r)) last
    ∙ list_end items at (length rest + 1) (reading rest) c.in_ok-item-2.item
    c.in_ok-item-2.ensures
    ∙ ap said (sym c.in_ok-push-2.ensures.ok)
