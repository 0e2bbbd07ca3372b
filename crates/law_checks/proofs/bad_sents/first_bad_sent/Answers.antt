use Rattle.std.proofs.Common.{◌≡◌, ◌∙◌, Some, None, List, length, below_more, ap, arith}
use Rattle.shard_versions.specs.Histories.{History}
use Rattle.once_core.specs.Cells.{history_at}
use Rattle.law_checks.specs.Judged.{IsFirstIn}
use Rattle.law_checks.proofs.FirstLemmas.{cell-history, found-moved, first-cell, cells-end}
use Rattle.law_checks.proofs.RightLemmas.{none-right}
use Rattle.law_checks.proofs.bad_sents.first_bad_sent.Goals as goal

pub returns-in-Some : goal.returns-in-Some
returns-in-Some c =
    let hs = c.args.histories.now in
    let cell = c.loop-cell.cell in
    let at : c.as_slice.result.now ≡ history_at hs cell =
    cell-history hs c.as_slice-shards.result.now cell c.index-shards-cell.result c.as_slice.result.now c.as_slice-shards.ensures c.loop-cell-test.true
    c.index-shards-cell.is c.as_slice.ensures in
    first-cell c.args.names.now hs cell c.in-Some.entry
    (found-moved c.as_slice-names.result.now c.args.names.now hs cell c.as_slice.result.now (Some c.in-Some.entry) c.as_slice-names.ensures at
    (rw c.in-Some.is at (c.in_ok-found.ensures hs cell (c.deref.ensures.value ∙ (c.in_ok-written.ensures ∙ c.as_slice-shards.ensures)))))
    c.loop-cell.invariant

pub loop-cell-preserved : goal.loop-cell-preserved
loop-cell-preserved c =
    let hs = c.args.histories.now in
    let cell = c.loop-cell.cell in
    let at : c.as_slice.result.now ≡ history_at hs cell =
    cell-history hs c.as_slice-shards.result.now cell c.index-shards-cell.result c.as_slice.result.now c.as_slice-shards.ensures c.loop-cell-test.true
    c.index-shards-cell.is c.as_slice.ensures in
    below_more (λ n. IsFirstIn c.args.names.now hs n (history_at hs n) None) cell c.loop-cell.invariant
    (found-moved c.as_slice-names.result.now c.args.names.now hs cell c.as_slice.result.now None c.as_slice-names.ensures at
    (rw c.in-None.is at (c.in_ok-found.ensures hs cell (c.deref.ensures.value ∙ (c.in_ok-written.ensures ∙ c.as_slice-shards.ensures)))))

pub returns : goal.returns
returns c =
    let hs = c.args.histories.now in
    none-right c.args.names.now hs
    (cells-end c.args.names.now hs c.loop-cell.cell (omega (arith, ap (λ (s : List History). length s) c.as_slice-shards.ensures)) c.loop-cell.invariant)
