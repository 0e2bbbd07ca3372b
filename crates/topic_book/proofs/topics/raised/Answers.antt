use Rattle.std.proofs.Common.{◌≡◌, ◌<◌, length, arith, ◌∙◌, ap, List, ℕ}
use Rattle.topic_book.specs.Raises.{raised}
use Rattle.topic_book.proofs.RaiseLemmas.{raise-goes, raised_upto-end}
use Rattle.topic_book.proofs.topics.raised.Goals as goal

pub loop-place-preserved : goal.loop-place-preserved
loop-place-preserved c =
    let ns : List ℕ = c.into_vec-all.result.items in
    let short : c.loop-place.place < length ns = omega (arith, c.into_vec-all.result.ok.0) in
    raise-goes c.loop-place.place ns c.args.upto.now c.loop-place.all.items c.index.result.now c.raised_to.result
    short (omega arith) c.loop-place.invariant c.index.ensures c.raised_to.ensures

pub returns : goal.returns
returns c =
    let ns : List ℕ = c.into_vec-all.result.items in
    c.from_vec.ensures
    ∙ (c.loop-place.invariant
    ∙ (raised_upto-end c.loop-place.place ns c.args.upto.now (omega (arith, c.into_vec-all.result.ok.0))
    ∙ ap (λ n. raised n c.args.upto.now) c.into_vec-all.ensures))
