use Rattle.std.proofs.Common.{◌≡◌, ◌++◌, ◌∷◌, [], true, ap, sym, ◌∙◌, map, take, arith}
use Rattle.std.proofs.lemmas.List.{map-append, take_more}
use Rattle.shard_versions.specs.Fitness.{is_storable_kind, AreStorable}
use Rattle.shard_versions.specs.Logs.{made_entry}
use Rattle.shard_versions.specs.Histories.{version_after}
use Rattle.shard_versions.specs.declared.entry.Entry.{Entry}
use Rattle.shard_versions.proofs.ListLemmas.{each_at}
use Rattle.shard_versions.proofs.LogLemmas.{made-follows, AreMade-push, reached-push, reached}
use Rattle.shard_versions.proofs.SnapshotLemmas.{version_after-next}
use Rattle.shard_versions.proofs.log.made_all.Goals as goal

pub made_of-requires-clause-storable : goal.made_of-requires-clause-storable
unfolding AreStorable
made_of-requires-clause-storable c =
    ap (λ (e : Entry). is_storable_kind e.kind) c.entry-item.is
    ∙ each_at (λ (e : Entry). is_storable_kind e.kind ≡ true) c.args.step.now c.loop-entry.entry-index c.entry-item.result
    c.loop-entry-test.true c.requires.storable

pub loop-entry-preserved : goal.loop-entry-preserved
loop-entry-preserved c =
    let m = c.in_ok-made.made in
    let x = c.entry-item.result in
    let all = c.loop-entry.all.items in
    let made = made-follows c.args.last all m x c.loop-entry.version c.version_after-version.result
    c.in_ok-made.ensures.entry c.in_ok-made.ensures.slot c.version_after-version.ensures c.loop-entry.invariant.version in
    record {
      entries = ap (map made_entry) c.in_ok-push_back.ensures.items
          ∙ (map-append made_entry all (m ∷ [])
          ∙ (ap (λ r. r ++ made_entry m ∷ []) c.loop-entry.invariant.entries
          ∙ (ap (λ y. take c.loop-entry.entry-index c.args.step.now ++ y ∷ []) (c.in_ok-made.ensures.entry ∙ c.entry-item.is)
          ∙ sym (take_more c.args.step.now c.loop-entry.entry-index x c.loop-entry-test.true))));
      made = rw c.in_ok-push_back.ensures.items (AreMade-push c.args.last all m c.loop-entry.invariant.made made);
      version = c.version_after-version.ensures
          ∙ (ap (λ w. version_after w x.kind) c.loop-entry.invariant.version
          ∙ (ap (λ (e : Entry). version_after (reached c.args.last all) e.kind) (sym c.in_ok-made.ensures.entry)
          ∙ (sym (reached-push c.args.last all m) ∙ ap (reached c.args.last) (sym c.in_ok-push_back.ensures.items))));
      few = omega (arith, c.version_after-version.ensures, version_after-next c.loop-entry.version x.kind, c.loop-entry.invariant.few);
    }
