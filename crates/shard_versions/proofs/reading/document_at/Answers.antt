use Rattle.std.proofs.Common.{arith, ◌∙◌, ◌&&◌, ◌==◌, not, ap, sym, refl}
use Rattle.shard_versions.specs.Histories.{is_mark, slots}
use Rattle.shard_versions.proofs.SnapshotLemmas.{version_after-next}
use Rattle.shard_versions.proofs.ReadingLemmas.{document-here, document-goes, document-none}
use Rattle.shard_versions.proofs.reading.document_at.Goals as goal

pub loop-entry-init : goal.loop-entry-init
unfolding slots
loop-entry-init c = record { found = refl; few = omega arith }

pub returns-then-is_write_at : goal.returns-then-is_write_at
returns-then-is_write_at c =
    let x = c.entry-item.result in
    let here = ap (λ n. (n == c.args.version) && not (is_mark x.kind)) (sym c.version_after-last.ensures) ∙ sym c.is_write_at.ensures ∙ c.if-is_write_at.true in
    c.left_under.ensures
    ∙ sym (c.loop-entry.invariant.found
    ∙ document-here c.args.history.now c.loop-entry.entry-index x c.loop-entry-test.true c.entry-item.is
    c.args.id.now c.args.version c.loop-entry.last here)

pub loop-entry-preserved : goal.loop-entry-preserved
loop-entry-preserved c =
    let x = c.entry-item.result in
    let past = ap (λ n. (n == c.args.version) && not (is_mark x.kind)) (sym c.version_after-last.ensures) ∙ sym c.is_write_at.ensures ∙ c.if-is_write_at.false in
    record {
      found = rw c.version_after-last.ensures
          (c.loop-entry.invariant.found
          ∙ document-goes c.args.history.now c.loop-entry.entry-index x c.loop-entry-test.true c.entry-item.is
          c.args.id.now c.args.version c.loop-entry.last past);
      few = omega (arith, version_after-next c.loop-entry.last x.kind);
    }

pub returns : goal.returns
returns c =
    sym (c.loop-entry.invariant.found
    ∙ document-none c.args.id.now c.args.version c.loop-entry.last c.loop-entry.entry-index c.args.history.now c.loop-entry-test.false)
