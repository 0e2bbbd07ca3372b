use Rattle.std.proofs.Common.{◌≡◌, [], ◌∷◌, ◌∙◌, subst, sym}
use Rattle.std.proofs.lemmas.Iterator.Adapters.{YieldsList-from_vec}
use Rattle.std.proofs.lemmas.Iterator.Consumers.{YieldsList-end}
use Rattle.std.proofs.lemmas.List.{map-id}
use Rattle.std.specs.List.{AllByRecursion}
use Rattle.shard_versions.proofs.ListLemmas.{each_append, each_left, each_right}
use Rattle.site_laws.specs.Duties.{IsItem}
use Rattle.case_items.proofs.current.wanted.Goals as goal

pub loop-item-preserved-in-Continue-1 : goal.loop-item-preserved-in-Continue-1
loop-item-preserved-in-Continue-1 c names seen dest src a =
    let P = IsItem names seen dest src in
    let front = c.loop-item.yielded in
    let last = c.in-Some.item ∷ [] in
    subst (AllByRecursion P) (sym c.in_ok-push.ensures.ok)
    (each_append P c.loop-item.kept last
    (c.loop-item.invariant names seen dest src (each_left P front last a))
    (each_right P front last a))

pub loop-item-preserved : goal.loop-item-preserved
loop-item-preserved c names seen dest src a =
    c.loop-item.invariant names seen dest src
    (each_left (IsItem names seen dest src) c.loop-item.yielded (c.in-Some.item ∷ []) a)

pub returns : goal.returns
returns c names seen dest src a =
    let items = c.into_vec-item-items.result in
    let given = c.into_iter-item-iterator.ensures.into_iter_gives in
    let t = YieldsList-end (YieldsList-from_vec items.items given.0 (given.1 ∙ items.ok.0))
    c.loop-item.yielded c.loop-item.item-iterator c.loop-item.yielded_by c.next.result
    c.next.new.self c.in-None.is c.next.ensures.steps in
    let all : c.loop-item.yielded ≡ items.items = sym (map-id c.loop-item.yielded) ∙ t.0 in
    c.loop-item.invariant names seen dest src
    (subst (AllByRecursion (IsItem names seen dest src))
    (sym (all ∙ c.into_vec-item-items.ensures)) a)
