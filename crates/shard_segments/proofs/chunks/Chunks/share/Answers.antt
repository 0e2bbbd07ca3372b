use Rattle.std.proofs.Common.{◌≡◌, ◌*◌, ◌++◌, length, take, sym, ap, ◌∙◌, arith}
use Rattle.shard_segments.specs.Held.{Held}
use Rattle.shard_segments.specs.Lists.{joined}
use Rattle.shard_segments.proofs.ListLemmas.{AreWhole-take, joined-share}
use Rattle.shard_segments.proofs.chunks.Chunks.share.Goals as goal
use Rattle.std.proofs.lemmas.List.{length-take-le}
use Rattle.std.specs.List.{slice_range}

shared : (c : goal.In_ok-open) → joined c.in_ok-whole.whole.items ++ c.in_ok-open.open.items ≡ take c.args.upto c.args.self.now.slots
shared c =
    let whole = c.self.inside.whole.items in
    let all : c.args.self.now.slots ≡ joined whole ++ c.self.inside.open.items =
    ap (λ (h : Held). h.slots) (sym c.self.view_is) in
    let first : c.in_ok-whole.whole.items ≡ take c.min-count.result whole =
    c.in_ok-whole.ensures ∙ ap (take c.min-count.result) c.deref.ensures.value in
    ap (λ w. joined w ++ c.in_ok-open.open.items) first
    ∙ (ap (λ o. joined (take c.min-count.result whole) ++ o) c.in_ok-open.ensures
    ∙ (ap (λ s. joined (take c.min-count.result whole) ++ slice_range s (c.min-count.result * 1024) c.args.upto) all
    ∙ (joined-share whole c.self.inside.open.items c.min-count.result c.args.upto c.self.invariant.whole
    (omega (arith, c.min-count.ensures, c.self.inside.whole.ok.0)) (omega (arith, c.min-count.ensures))
    ∙ ap (take c.args.upto) (sym all))))

pub invariant_of-result : goal.invariant_of-result
invariant_of-result c =
    let whole = c.self.inside.whole.items in
    let first : c.in_ok-whole.whole.items ≡ take c.min-count.result whole =
    c.in_ok-whole.ensures ∙ ap (take c.min-count.result) c.deref.ensures.value in
    record {
      whole = rw first (AreWhole-take c.min-count.result whole c.self.invariant.whole);
      count = sym (length-take-le c.args.upto c.args.self.now.slots c.requires) ∙ ap length (sym (shared c));
      room = omega (arith, c.in_ok-open.open.ok.0);
      small = omega (
        arith,
        c.self.invariant.small,
        c.self.invariant.count,
        ap (λ (h : Held). length h.slots) (sym c.self.view_is),
        c.requires,
      );
    }

pub returns : goal.returns
returns c = shared c
