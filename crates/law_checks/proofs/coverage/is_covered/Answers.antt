use Rattle.std.proofs.Common.{◌≡◌, ◌∙◌, [], Bool, Decides, ap, subst, slice_index}
use Rattle.shard_versions.specs.Histories.{History}
use Rattle.once_core.specs.Cells.{shard_history}
use Rattle.once_core.specs.Law.{IsCovered}
use Rattle.once_core.specs.declared.world.Histories.{Histories}
use Rattle.law_checks.proofs.CoverageLemmas.{at-shard, covered-nowhere, if_ok}
use Rattle.law_checks.proofs.coverage.is_covered.Goals as goal

pub returns-in-Some : goal.returns-in-Some
returns-in-Some c =
    let names = c.args.against.names.now in
    let b = c.args.bound.binding.now in
    if_ok
    (λ (fine : Bool). (hs : Histories) → c.args.against.sights.now ≡ hs.shards
    → Decides fine (IsCovered names hs b c.args.shard c.in-Some.source.now c.args.upto))
    (λ (fine : Bool). (hs : Histories) → c.args.against.sights.now ≡ hs.shards
    → Decides fine (IsCovered names hs b c.args.shard (shard_history names hs b.src c.args.shard) c.args.upto))
    (λ fine f hs same. subst (λ (h : History). Decides fine (IsCovered names hs b c.args.shard h c.args.upto))
    (at-shard names hs c.args.against.sights.now b.src c.as_str-src.result.now c.args.shard c.from.result c.in-Some.source.now same c.as_str-src.ensures
    c.from.ensures c.in-Some.ensures)
    (f hs same))
    c.is_covered_by.result c.is_covered_by.ensures

pub returns-in-None : goal.returns-in-None
returns-in-None c = λ hs same.
    let names = c.args.against.names.now in
    let b = c.args.bound.binding.now in
    covered-nowhere names hs b c.args.shard c.args.upto c.number_at-low.result (shard_history names hs b.src c.args.shard)
    (at-shard names hs c.args.against.sights.now b.src c.as_str-src.result.now c.args.shard c.from.result [] same c.as_str-src.ensures
    c.from.ensures c.in-None.ensures)
    (c.number_at-low.ensures ∙ (ap (λ xs. slice_index xs c.from-in-None.result) c.as_slice.ensures ∙ ap (slice_index b.init) c.from-in-None.ensures))
