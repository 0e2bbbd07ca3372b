use Rattle.std.proofs.Common.{◌≡◌, refl, arith, rules}
use Rattle.std.specs.declared.cmp.Ordering.TheVariants.{Less, Equal, Greater}
use Rattle.log_codec.proofs.RiseLemmas.{below-by_last}
use Rattle.log_codec.proofs.documents.is_next.Goals as goal

pub returns-in-Less : goal.returns-in-Less
returns-in-Less c =
    let both = below-by_last c.args.document.now c.args.name.now c.name.result.now c.count-count.result Less
    c.count-count.ensures.rises c.count-count.ensures.count (omega arith) c.name.ensures (search rules) in
    (λ _. both.0 refl, λ _. refl)

pub returns-in-Equal : goal.returns-in-Equal
returns-in-Equal c =
    let both = below-by_last c.args.document.now c.args.name.now c.name.result.now c.count-count.result Equal
    c.count-count.ensures.rises c.count-count.ensures.count (omega arith) c.name.ensures (search rules) in
    (λ no. cc, λ all. let same : Equal ≡ Less = both.1 all in cc)

pub returns-in-Greater : goal.returns-in-Greater
returns-in-Greater c =
    let both = below-by_last c.args.document.now c.args.name.now c.name.result.now c.count-count.result Greater
    c.count-count.ensures.rises c.count-count.ensures.count (omega arith) c.name.ensures (search rules) in
    (λ no. cc, λ all. let same : Greater ≡ Less = both.1 all in cc)
