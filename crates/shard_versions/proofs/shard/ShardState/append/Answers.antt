use Rattle.std.proofs.Common.{◌≡◌, ◌++◌, ◌∷◌, [], ℕ, List, length, map, take, sym, ap, subst, ◌∙◌, arith, append_assoc}
use Rattle.std.proofs.lemmas.List.{append-nil, take_more, take_all}
use Rattle.shard_versions.specs.Histories.{slots, last_version, version_after}
use Rattle.shard_versions.specs.Shards.{Shard, HasRoom}
use Rattle.shard_versions.specs.Logs.{made_entry, AreMade}
use Rattle.shard_versions.specs.declared.entry.Entry.{Entry}
use Rattle.shard_versions.proofs.LogLemmas.{made-first, made-some, last-push}
use Rattle.shard_versions.proofs.shard.ShardState.append.Goals as goal

pub loop-entry-init : goal.loop-entry-init
unfolding HasRoom
loop-entry-init c = record {
  entries = ap (λ (s : Shard). s.entries) c.self.view_is ∙ sym (append-nil c.args.self.now.entries);
  rest = rw c.replace-ready.ensures.value
      (ap (λ (s : Shard). s.ready) c.self.view_is ∙ (c.requires.room.1 ∙ sym c.as_slice-entry-items.ensures));
  made = rw c.replace-ready.ensures.value c.self.invariant.ready;
  limit = ap (λ (s : Shard). s.limit) c.self.view_is;
  room = omega (arith, ap (λ (s : Shard). s.room) c.self.view_is);
  none = rw c.replace-ready.ensures.after (ap (map made_entry) c.new.ensures.items);
}

pub unreachable-requires : goal.unreachable-requires
unreachable-requires c =
    made-some c.loop-entry.entry-index c.loop-entry.ready.items c.as_slice-entry-items.result.now
    (omega (arith, c.in_default.ensures.cases, c.loop-entry.ready.ok.0)) c.loop-entry.invariant.rest c.loop-entry-test.true

pub push-requires-clause-room : goal.push-requires-clause-room
unfolding HasRoom
push-requires-clause-room c =
    omega (arith, c.loop-entry.invariant.room, c.requires.room.0, ap length c.as_slice-entry-items.ensures)

pub push-requires-clause-is : goal.push-requires-clause-is
push-requires-clause-is c =
    (made-first (last_version 0 (slots c.loop-entry.self.entries)) c.loop-entry.entry-index c.loop-entry.ready.items
    c.pop_front.new.self.items c.in-Some.made c.as_slice-entry-items.result.now c.entry-item.result c.in-Some.ensures.items
    c.loop-entry.invariant.rest c.loop-entry-test.true c.entry-item.is c.loop-entry.invariant.made).entry

pub push-requires-clause-made : goal.push-requires-clause-made
push-requires-clause-made c =
    (made-first (last_version 0 (slots c.loop-entry.self.entries)) c.loop-entry.entry-index c.loop-entry.ready.items
    c.pop_front.new.self.items c.in-Some.made c.as_slice-entry-items.result.now c.entry-item.result c.in-Some.ensures.items
    c.loop-entry.invariant.rest c.loop-entry-test.true c.entry-item.is c.loop-entry.invariant.made).made

pub push-requires-clause-ready : goal.push-requires-clause-ready
push-requires-clause-ready c = c.loop-entry.invariant.none

pub loop-entry-preserved : goal.loop-entry-preserved
loop-entry-preserved c =
    let xs : List Entry = c.as_slice-entry-items.result.now in
    let x : Entry = c.entry-item.result in
    let i : ℕ = c.loop-entry.entry-index in
    let h : List Entry = c.loop-entry.self.entries in
    let v : ℕ = last_version 0 (slots h) in
    let first = made-first v i c.loop-entry.ready.items c.pop_front.new.self.items c.in-Some.made xs x
    c.in-Some.ensures.items c.loop-entry.invariant.rest c.loop-entry-test.true c.entry-item.is c.loop-entry.invariant.made in
    let last : version_after v (made_entry c.in-Some.made).kind ≡ last_version 0 (slots c.push.new.self.entries) =
    ap (λ (y : Entry). version_after v y.kind) first.entry
    ∙ (sym (last-push h x) ∙ ap (λ g. last_version 0 (slots g)) (sym c.push.ensures.entries)) in
    record {
      entries = c.push.ensures.entries
          ∙ (ap (λ g. g ++ x ∷ []) c.loop-entry.invariant.entries
          ∙ (append_assoc c.args.self.now.entries (take i xs) (x ∷ [])
          ∙ ap (λ r. c.args.self.now.entries ++ r)
          (ap (λ y. take i xs ++ y ∷ []) c.entry-item.is ∙ sym (take_more xs i x c.loop-entry-test.true))));
      rest = first.entries;
      made = subst (λ n. AreMade n c.pop_front.new.self.items) last first.others;
      limit = c.push.ensures.limit ∙ c.loop-entry.invariant.limit;
      room = omega (arith, c.push.ensures.room, c.loop-entry.invariant.room);
      none = c.push.ensures.ready;
    }

pub returns-clause-entries : goal.returns-clause-entries
returns-clause-entries c =
    c.loop-entry.invariant.entries
    ∙ ap (λ r. c.args.self.now.entries ++ r)
    (take_all c.loop-entry.entry-index c.as_slice-entry-items.result.now (omega (arith, c.loop-entry-test.false))
    ∙ c.as_slice-entry-items.ensures)

pub returns-clause-limit : goal.returns-clause-limit
returns-clause-limit c = c.loop-entry.invariant.limit
