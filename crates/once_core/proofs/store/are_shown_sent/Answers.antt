use Rattle.std.proofs.Common.{ℕ, ◌<◌, length, arith}
use Rattle.tuple_values.specs.Document.{Doc}
use Rattle.once_core.specs.Law.{IsSentIfTaken}
use Rattle.once_core.specs.Worlds.{seen_by}
use Rattle.once_core.proofs.StepLemmas.{each-fails, each-goes}
use Rattle.once_core.proofs.DispatchLemmas.{pair-at}
use Rattle.once_core.proofs.store.are_shown_sent.Goals as goal

pub returns-then-not-fine : goal.returns-then-not-fine
returns-then-not-fine c =
    let s = c.args.seen.now in
    let docs = c.args.shown.now.documents in
    let version : ℕ = c.version-version.result in
    let doc : Doc = c.document-document.result.now in
    let inside : c.loop-k.k < length docs = omega (arith, c.count-k-end.ensures) in
    each-fails
    (IsSentIfTaken s.names.now (seen_by s.actor s.world.now) c.args.binding.now c.args.dest.now c.args.span.low c.args.span.high)
    docs c.loop-k.k (version, doc) c.in_ok-fine.fine inside
    (pair-at docs c.loop-k.k version doc c.version-version.ensures c.document-document.ensures)
    c.in_ok-fine.ensures c.if-not-fine.true

pub loop-k-preserved : goal.loop-k-preserved
loop-k-preserved c =
    let s = c.args.seen.now in
    let docs = c.args.shown.now.documents in
    let version : ℕ = c.version-version.result in
    let doc : Doc = c.document-document.result.now in
    let inside : c.loop-k.k < length docs = omega (arith, c.count-k-end.ensures) in
    each-goes
    (IsSentIfTaken s.names.now (seen_by s.actor s.world.now) c.args.binding.now c.args.dest.now c.args.span.low c.args.span.high)
    docs c.loop-k.k (version, doc) c.in_ok-fine.fine inside
    (pair-at docs c.loop-k.k version doc c.version-version.ensures c.document-document.ensures)
    c.in_ok-fine.ensures c.if-not-fine.false c.loop-k.invariant
