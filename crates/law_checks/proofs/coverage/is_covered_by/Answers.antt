use Rattle.std.proofs.Common.{◌≡◌, ◌∙◌, Bool, Decides, ap, slice_index}
use Rattle.std.specs.List.{AllByRecursion}
use Rattle.once_core.specs.Law.{IsSentIfTaken, IsCovered}
use Rattle.once_core.specs.declared.world.Histories.{Histories}
use Rattle.law_checks.specs.Walks.{read_of}
use Rattle.law_checks.proofs.CoverageLemmas.{covered-some, if_ok}
use Rattle.law_checks.proofs.coverage.is_covered_by.Goals as goal

pub returns-in-Some : goal.returns-in-Some
returns-in-Some c =
    let names = c.args.against.names.now in
    let b = c.args.bound.binding.now in
    if_ok
    (λ (fine : Bool). (hs : Histories) → c.args.against.sights.now ≡ hs.shards
    → Decides fine (AllByRecursion (λ s. IsSentIfTaken names hs b c.as_str.result.now c.number_at-low.result c.args.upto (read_of s)) c.shown.result.now))
    (λ (fine : Bool). (hs : Histories) → c.args.against.sights.now ≡ hs.shards
    → Decides fine (IsCovered names hs b c.args.shard c.args.source.now c.args.upto))
    (λ fine f hs same. covered-some names hs b c.args.shard c.args.source.now c.args.upto c.top.result c.number_at-low.result c.max.result
    c.in-Some.dest c.as_str.result.now c.shown.result.now fine c.top.ensures
    (c.number_at-low.ensures ∙ (ap (λ xs. slice_index xs c.from.result) c.as_slice.ensures ∙ ap (slice_index b.init) c.from.ensures)) c.max.ensures c.if-upto-max.false c.in-Some.is c.as_str.ensures
    c.shown.ensures (f hs same))
    c.are_sent.result c.are_sent.ensures
