use Rattle.std.proofs.Common.{◌≡◌, ◌+◌, ◌-◌, ◌*◌, ◌∷◌, [], ℕ, length, drop, ap, ◌∙◌, arith}
use Rattle.shard_segments.specs.Lists.{joined}
use Rattle.std.specs.List.{slice_range}
use Rattle.std.proofs.lemmas.List.{length-take-le, length-drop}
use Rattle.shard_segments.proofs.ListLemmas.{joined-part, AreWhole-append}
use Rattle.shard_segments.proofs.chunks.closed.Goals as goal

pub loop-k-preserved : goal.loop-k-preserved
loop-k-preserved c =
    let slots = c.args.slots.now in
    let from : ℕ = c.loop-k.k * 1024 in
    let upto : ℕ = (c.loop-k.k + 1) * 1024 in
    let long : length (slice_range slots from upto) ≡ 1024 =
    omega (arith, length-take-le (upto - from) (drop from slots) (omega (arith, length-drop from slots))) in
    record {
      joined = ap joined c.in_ok-push.ensures.items
          ∙ joined-part c.loop-k.chunks.items c.in_ok-of.field-0 slots from upto c.loop-k.invariant.joined
          c.in_ok-of.ensures (omega arith);
      whole = rw c.in_ok-push.ensures.items
          (AreWhole-append c.loop-k.chunks.items (c.in_ok-of.field-0 ∷ []) c.loop-k.invariant.whole
          (ap length c.in_ok-of.ensures ∙ long, tt));
    }
