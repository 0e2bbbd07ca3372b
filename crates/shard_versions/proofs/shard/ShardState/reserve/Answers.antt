use Rattle.std.proofs.Common.{◌≡◌, ◌-◌, ◌^◌, true, false, [], length, min, sym, ap, subst, ◌∙◌, arith}
use Rattle.shard_versions.specs.Histories.{settled, slots}
use Rattle.shard_versions.specs.Sizes.{entries_bytes}
use Rattle.shard_versions.specs.Logs.{AreMade}
use Rattle.shard_versions.specs.Indexes.{nexts_of, greatests_after}
use Rattle.shard_versions.specs.Trees.{Finds}
use Rattle.shard_versions.specs.Stored.{AreLatest}
use Rattle.shard_versions.proofs.FindLemmas.{finds-same}
use Rattle.shard_versions.proofs.LogLemmas.{last-few}
use Rattle.shard_versions.proofs.shard.ShardState.reserve.Goals as goal

pub made_all-requires-clause-few : goal.made_all-requires-clause-few
made_all-requires-clause-few c =
    omega (
      arith,
      c.last.ensures,
      last-few c.reserve.new.self.entries,
      c.len-count.ensures.count,
      c.len-count.ensures.room,
      c.in_ok-reserve.ensures.ok,
      c.len-more.ensures,
      ap length c.as_slice.ensures,
    )

pub invariant_of-self-2 : goal.invariant_of-self-2
invariant_of-self-2 c =
    let same : c.reserve.new.self.entries ≡ c.self.inside.log.entries = c.in_ok-reserve.ensures.entries in
    record {
      nexts = c.in_ok-reserve-2.ensures.items ∙ (c.self.invariant.nexts ∙ ap (nexts_of 0) (sym same));
      greatests = c.in_ok-reserve-3.ensures.items ∙ (c.self.invariant.greatests ∙ ap (greatests_after []) (sym same));
      ids = subst (Finds false c.reserve-4.new.self) (sym same)
          (finds-same false c.self.inside.ids c.reserve-4.new.self c.self.inside.log.entries c.self.invariant.ids
          c.in_ok-reserve-4.ensures.nodes c.in_ok-reserve-4.ensures.roots);
      sends = subst (Finds true c.reserve-5.new.self) (sym same)
          (finds-same true c.self.inside.sends c.reserve-5.new.self c.self.inside.log.entries c.self.invariant.sends
          c.in_ok-reserve-5.ensures.nodes c.in_ok-reserve-5.ensures.roots);
      current = λ all. subst (λ h. AreLatest (slots h)) (sym same) (c.self.invariant.current all);
      closed = c.self.invariant.closed ∙ ap (λ h. length (settled h)) (sym same);
      bytes = c.self.invariant.bytes ∙ ap (λ h. min (entries_bytes h) (2 ^ 64 - 1)) (sym same);
      ready = subst (λ n. AreMade n c.in_ok-self-inside.field-0.items) c.last.ensures c.in_ok-self-inside.ensures.made;
      limited = c.self.invariant.limited;
      small = omega (arith, c.len-count.ensures.count, c.len-count.ensures.room, c.in_ok-reserve.ensures.ok);
      room_log = c.in_ok-reserve.ensures.ok;
      room_nexts = c.in_ok-reserve-2.ensures.ok;
      room_greatests = c.in_ok-reserve-3.ensures.ok;
      room_ids = c.in_ok-reserve-4.ensures.ok;
      room_sends = c.in_ok-reserve-5.ensures.ok;
    }
