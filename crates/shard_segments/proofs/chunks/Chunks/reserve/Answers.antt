use Rattle.std.proofs.Common.{length, sym, ap, ◌∙◌, arith}
use Rattle.shard_segments.proofs.chunks.Chunks.reserve.Goals as goal

pub invariant_of-self : goal.invariant_of-self
invariant_of-self c = record {
  whole = c.in_err-close.ensures.whole;
  count = c.self.invariant.count ∙ ap length (sym c.in_err-close.ensures.slots);
  room = c.in_err-close.ensures.kept c.self.inside.room (omega (arith, c.max-room.ensures)) c.self.invariant.room;
  small = c.self.invariant.small;
}
