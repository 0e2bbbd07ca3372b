use Rattle.std.proofs.Common.{◌≡◌, ◌+◌, ◌<◌, ◌++◌, ◌∷◌, [], List, true, false, length, min, ◌-◌, ◌^◌, arith, refl, sym, ap, subst, ◌∙◌, length-append}
use Rattle.shard_versions.specs.declared.entry.Entry.{Entry}
use Rattle.shard_versions.specs.Histories.{settled, slots, last_version}
use Rattle.shard_versions.specs.Shards.{Shard}
use Rattle.shard_versions.proofs.LogLemmas.{AreMade-none}
use Rattle.shard_versions.specs.Sizes.{entries_bytes}
use Rattle.shard_versions.specs.Indexes.{written_id, before_of, so_far, nexts_of, greatests_after}
use Rattle.shard_versions.specs.Trees.{Finds}
use Rattle.shard_versions.specs.Stored.{AreLatest}
use Rattle.shard_versions.proofs.CurrentLemmas.{current-push}
use Rattle.shard_versions.proofs.StateLemmas.{before_of-bound, nexts_with, greatests_with, closed_with, bytes_with}
use Rattle.shard_versions.proofs.shard.ShardState.push.Goals as goal

pub relink-requires : goal.relink-requires
relink-requires c =
    let b = before_of-bound (written_id c.args.entry.now.kind) c.self.inside.log.entries c.self.inside.nexts.items c.self.invariant.nexts in
    omega (arith, b, c.note_write-before.ensures.before)

pub invariant_of-self : goal.invariant_of-self
invariant_of-self c =
    let h : List Entry = c.self.inside.log.entries in
    let e : Entry = c.args.entry.now in
    let items : c.push.new.self.entries ≡ h ++ e ∷ [] =
    c.push.ensures.entries ∙ ap (λ x. h ++ x ∷ []) c.requires.is in
    let some : 0 < c.self.inside.room = subst (λ (s : Shard). 0 < s.room) (sym c.self.view_is) c.requires.room in
    let length_is : c.len-place.result ≡ length h = c.len-place.ensures.count in
    let place : c.len-place.result + 1 ≡ length h + 1 = ap (λ n. n + 1) length_is in
    let longer : length c.push.new.self.entries ≡ length h + 1 = ap length items ∙ length-append h (e ∷ []) in
    let before : c.note_write-before.result ≡ before_of (written_id e.kind) h =
    c.note_write-before.ensures.before in
    let greatest : c.note_delivery-greatest.result ≡ so_far h e.kind =
    c.note_delivery-greatest.ensures.greatest in
    record {
      nexts = c.push_reserved.ensures.items
          ∙ (ap (λ ns. ns ++ 0 ∷ []) c.relink.ensures.items
          ∙ (nexts_with h e c.self.inside.nexts.items c.note_write-before.result (c.len-place.result + 1) c.self.invariant.nexts before place
          ∙ ap (nexts_of 0) (sym items)));
      greatests = c.push_reserved-2.ensures.items
          ∙ (greatests_with h e c.self.inside.greatests.items c.note_delivery-greatest.result c.self.invariant.greatests greatest
          ∙ ap (greatests_after []) (sym items));
      ids = subst (Finds false c.note_write-before.new.ids) (sym items) (c.note_write-before.ensures.finds e refl);
      sends = subst (Finds true c.note_delivery-greatest.new.sends) (sym items) (c.note_delivery-greatest.ensures.finds e refl);
      current = λ stays. subst (λ xs. AreLatest (slots xs)) (sym items)
          (current-push h e c.self.inside.all_current c.note_write-before.result c.self.invariant.current before
          (sym c.stays_current-self-inside.ensures ∙ stays));
      closed = closed_with h e c.self.inside.closed (c.len-place.result + 1) c.closed_with-self-inside.result c.self.invariant.closed place c.closed_with-self-inside.ensures
          ∙ ap (λ xs. length (settled xs)) (sym items);
      bytes = bytes_with h e c.self.inside.bytes c.kind_bytes.result c.saturating_add-self-inside.result c.self.invariant.bytes c.kind_bytes.ensures c.saturating_add-self-inside.ensures
          ∙ ap (λ xs. min (entries_bytes xs) (2 ^ 64 - 1)) (sym items);
      ready = AreMade-none (last_version 0 (slots c.push.new.self.entries)) c.self.inside.ready.items
          (ap (λ (s : Shard). s.ready) c.self.view_is ∙ c.requires.ready);
      limited = c.self.invariant.limited;
      small = omega (arith, longer, c.self.invariant.small);
      room_log = omega (arith, c.self.invariant.room_log, c.push.ensures.room);
      room_nexts = omega (arith, c.self.invariant.room_nexts);
      room_greatests = omega (arith, c.self.invariant.room_greatests);
      room_ids = omega (arith, c.self.invariant.room_ids, c.note_write-before.ensures.room);
      room_sends = omega (arith, c.self.invariant.room_sends, c.note_delivery-greatest.ensures.room);
    }
