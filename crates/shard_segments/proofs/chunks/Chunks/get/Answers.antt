use Rattle.std.proofs.Common.{◌≡◌, ◌+◌, ◌-◌, ◌*◌, ◌/◌, ◌%◌, ◌<◌, ◌++◌, length, get_or, sym, ap, ◌∙◌, arith, length-append}
use Rattle.shard_segments.specs.Held.{Held}
use Rattle.shard_segments.specs.Lists.{joined}
use Rattle.shard_segments.proofs.ListLemmas.{joined-length, joined-at, joined-behind}
use Rattle.shard_segments.proofs.chunks.Chunks.get.Goals as goal

pub index-requires-else-at-len : goal.index-requires-else-at-len
index-requires-else-at-len c =
    let all : length c.args.self.now.slots ≡ length (joined c.self.inside.whole.items ++ c.self.inside.open.items) =
    ap (λ (h : Held). length h.slots) (sym c.self.view_is) in
    omega (
      arith,
      all,
      length-append (joined c.self.inside.whole.items) c.self.inside.open.items,
      joined-length c.self.inside.whole.items c.self.invariant.whole,
      c.self.inside.whole.ok.0,
      c.self.inside.open.ok.0,
    )

pub returns-then-at-len : goal.returns-then-at-len
returns-then-at-len c d =
    let split : c.args.k ≡ c.args.k / 1024 * 1024 + c.args.k % 1024 = omega arith in
    let lt : c.args.k / 1024 < length c.self.inside.whole.items = omega (arith, c.self.inside.whole.ok.0) in
    c.get.ensures d
    ∙ (ap (λ x. get_or x (c.args.k % 1024) d) c.index.ensures
    ∙ (sym (joined-at c.self.inside.whole.items c.self.inside.open.items c.args.k (c.args.k / 1024) (c.args.k % 1024) d
    c.index.result.now split c.self.invariant.whole lt (omega arith))
    ∙ ap (λ (h : Held). get_or h.slots c.args.k d) c.self.view_is))

pub returns-else-at-len : goal.returns-else-at-len
returns-else-at-len c d =
    let all : length c.args.self.now.slots ≡ length (joined c.self.inside.whole.items ++ c.self.inside.open.items) =
    ap (λ (h : Held). length h.slots) (sym c.self.view_is) in
    let chunks = joined-length c.self.inside.whole.items c.self.invariant.whole in
    let within : c.args.k - c.len-else-at-len.result * 1024 < length c.self.inside.open.items =
    omega (arith, all, length-append (joined c.self.inside.whole.items) c.self.inside.open.items, chunks, c.self.inside.whole.ok.0) in
    c.index-else-at-len.ensures
    ∙ (joined-behind c.self.inside.whole.items c.self.inside.open.items c.args.k (c.args.k - c.len-else-at-len.result * 1024)
    c.index-else-at-len.result.now d (omega (arith, chunks, c.self.inside.whole.ok.0)) within
    ∙ ap (λ (h : Held). get_or h.slots c.args.k d) c.self.view_is)
