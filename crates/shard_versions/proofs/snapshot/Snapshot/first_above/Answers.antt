use Rattle.std.proofs.Common.{ℕ, ◌+◌, ◌-◌, ◌/◌, ◌<◌, ◌≤◌, List, [], length, get_or, subst, arith}
use Rattle.tuple_values.specs.Document.{Doc}
use Rattle.shard_versions.specs.Shards.{Shown}
use Rattle.shard_versions.specs.Snapshots.{VersionsRise}
use Rattle.shard_versions.proofs.RisingLemmas.{rises-order, above-from}
use Rattle.shard_versions.proofs.snapshot.Snapshot.first_above.Goals as goal

pub loop-from-init : goal.loop-from-init
loop-from-init c = record {
  order = omega arith;
  within = omega (arith, c.count-end.ensures);
  below = λ k lt. absurd (omega (arith, lt));
  above = λ k le lt. absurd (omega (arith, le, lt, c.count-end.ensures));
}

pub loop-from-preserved-then-version-low : goal.loop-from-preserved-then-version-low
loop-from-preserved-then-version-low c =
    let docs : List (ℕ × Doc) = c.args.self.now.documents in
    let middle : ℕ = c.loop-from.from + (c.loop-from.end - c.loop-from.from) / 2 in
    let within : middle < length docs =
    omega (arith, c.loop-from-test.true, c.loop-from.invariant.within) in
    record {
      order = omega arith;
      within = omega (arith, within);
      below = c.loop-from.invariant.below;
      above = λ k le lt.
          omega (
            arith,
            c.if-version-low.true,
            c.version.ensures (0, []),
            rises-order 0 docs middle k (0, []) (subst (λ (s : Shown). VersionsRise 0 s.documents)
                c.self.view_is c.self.invariant.rises) le lt,
          );
    }

pub loop-from-preserved : goal.loop-from-preserved
loop-from-preserved c =
    let docs : List (ℕ × Doc) = c.args.self.now.documents in
    let middle : ℕ = c.loop-from.from + (c.loop-from.end - c.loop-from.from) / 2 in
    let within : middle < length docs =
    omega (arith, c.loop-from-test.true, c.loop-from.invariant.within) in
    record {
      order = omega (arith, c.loop-from-test.true);
      within = c.loop-from.invariant.within;
      below = λ k lt.
          omega (
            arith,
            c.if-version-low.false,
            c.version.ensures (0, []),
            rises-order 0 docs k middle (0, []) (subst (λ (s : Shown). VersionsRise 0 s.documents)
                c.self.view_is c.self.invariant.rises) (omega (arith, lt)) within,
          );
      above = c.loop-from.invariant.above;
    }

pub returns : goal.returns
returns c = record {
  bound = omega (arith, c.loop-from.invariant.order, c.loop-from.invariant.within);
  above = above-from c.args.low c.loop-from.from c.args.self.now.documents (0, [])
      (omega (arith, c.loop-from.invariant.order, c.loop-from.invariant.within))
      c.loop-from.invariant.below
      (λ k le lt. c.loop-from.invariant.above k (omega (arith, le, c.loop-from-test.false)) lt);
}
