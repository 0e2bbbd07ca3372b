use Rattle.std.proofs.Common.{rules, ◌-◌, ◌*◌, ◌/◌, ◌++◌, ℕ, length, drop, ap, ◌∙◌, arith}
use Rattle.shard_segments.proofs.ListLemmas.{joined-close}
use Rattle.std.proofs.lemmas.List.{take_all, length-drop}
use Rattle.shard_segments.specs.Lists.{joined}
use Rattle.shard_segments.proofs.chunks.close.Goals as goal

pub returns-clause-slots : goal.returns-clause-slots
returns-clause-slots c =
    let end : ℕ = c.len-2.result / 1024 * 1024 in
    ap (λ w. joined w ++ c.in_ok-rest.rest.items) c.in_ok-append.ensures.items
    ∙ joined-close c.args.whole.now.items c.in_ok-more.more.items c.args.loose.now.items c.in_ok-rest.rest.items end
    (search rules) (c.in_ok-rest.ensures.items
    ∙ (take_all (length c.deref-2.result.now - end) (drop end c.deref-2.result.now)
    (omega (arith, length-drop end c.deref-2.result.now)) ∙ ap (drop end) c.deref-2.ensures.value))
