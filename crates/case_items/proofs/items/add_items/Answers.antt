use Rattle.std.proofs.Common.{◌≡◌, ℕ, [], ◌∷◌, get_or, IfSome, arith, subst, sym}
use Rattle.std.specs.List.{AllByRecursion}
use Rattle.tuple_values.specs.Document.{Doc}
use Rattle.shard_versions.proofs.ListLemmas.{each_append}
use Rattle.exchange_rules.specs.declared.batch.BatchItem.{BatchItem}
use Rattle.site_laws.specs.Duties.{IsItem}
use Rattle.case_items.specs.Items.{made_item}
use Rattle.case_items.proofs.PartLemmas.{next-made}
use Rattle.case_items.proofs.items.add_items.Goals as goal

pub loop-k-preserved : goal.loop-k-preserved
loop-k-preserved c =
    let documents = c.args.shown.now.documents in
    let src = c.args.src.now in (
      next-made src documents c.loop-k.k c.args.batch.now c.loop-k.batch c.push.new.self
          c.in-Some.item (omega (arith, c.loop-k-test.true, c.count-k-end.ensures))
          c.loop-k.invariant.0
          (λ (d : ℕ × Doc). subst (λ o. IfSome o (λ (i : BatchItem).
          i ≡ made_item src (get_or documents c.loop-k.k d))) c.in-Some.is
          (c.in_ok-item.ensures.made d))
          c.in_ok-push.ensures.ok,
      λ seen dest there before.
          let P = IsItem c.args.names.now seen dest src in
          subst (AllByRecursion P) (sym c.in_ok-push.ensures.ok)
          (each_append P c.loop-k.batch (c.in-Some.item ∷ [])
          (c.loop-k.invariant.1 seen dest there before)
          (subst (λ o. IfSome o P) c.in-Some.is (c.in_ok-item.ensures.item seen dest there), tt)),
    )
