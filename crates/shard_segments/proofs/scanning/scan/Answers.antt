use Rattle.std.proofs.Common.{◌≡◌, ◌-◌, ◌<◌, length, ap, sym, ◌∙◌, arith, subst}
use Rattle.std.specs.List.{range_with_len}
use Rattle.rayon.proofs.ToStd.{nat_range-All}
use Rattle.shard_segments.proofs.ScanLemmas.{found_in}
use Rattle.shard_segments.proofs.scanning.scan.Goals as goal

-- each place of the range is that of a slot
pub collect-requires-clause-ready : goal.collect-requires-clause-ready
collect-requires-clause-ready g c κs within =
    let slots = c.args.chunks.now.slots in
    let inside = nat_range-All (λ i. i < length slots) 0 (length slots) (λ i low high. high) in
    rw (
      c.filter.ensures.f,
      c.filter.ensures.base,
      c.with_min_len.ensures.base,
      c.into_par_iter.ensures.0,
      c.into_par_iter.ensures.1,
      c.len.ensures.count,
    ) (λ k d lt. (λ r e. subst (λ i. i < length slots) (sym e) (inside k d lt), λ y. tt))

pub returns : goal.returns
returns g c =
    let slots = c.args.chunks.now.slots in
    let count : length slots - 0 ≡ length slots = omega arith in
    let found = rw (
      c.filter.ensures.f,
      c.filter.ensures.base,
      c.with_min_len.ensures.base,
      c.into_par_iter.ensures.0,
      c.into_par_iter.ensures.1,
      c.len.ensures.count,
    ) at c.in_ok-places.ensures in
    let chain = found.1 in
    c.from_vec.ensures ∙ found.2 ∙ chain.4
    ∙ found_in (g.T.DocTest.meets c.args.test.now) slots chain.0 chain.1
    (chain.2 ∙ ap (range_with_len 0) count) chain.3
