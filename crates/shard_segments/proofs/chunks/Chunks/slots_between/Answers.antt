use Rattle.std.proofs.Common.{◌≡◌, ◌<◌, ◌++◌, ◌∷◌, [], length, get_or, sym, ap, ◌∙◌, arith}
use Rattle.std.specs.List.{slice_range}
use Rattle.shard_segments.proofs.ListLemmas.{slice_range-more}
use Rattle.shard_segments.proofs.chunks.Chunks.slots_between.Goals as goal

pub loop-k-preserved : goal.loop-k-preserved
loop-k-preserved c =
    let slots = c.args.self.now.slots in
    let x = c.in_ok-share.field-0 in
    let at : x ≡ get_or slots c.loop-k.k x = c.in_ok-share.ensures ∙ c.get.ensures x in
    let lt : c.loop-k.k < length slots = omega (arith, c.requires.in_range) in
    c.in_ok-push.ensures.items
    ∙ (ap (λ s. s ++ x ∷ []) c.loop-k.invariant
    ∙ (ap (λ y. slice_range slots c.args.from c.loop-k.k ++ y ∷ []) at
    ∙ sym (slice_range-more c.args.from c.loop-k.k slots x (omega arith) lt)))
